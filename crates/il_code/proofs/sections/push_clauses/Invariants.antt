use Rattle.std.proofs.Common.{◌≡◌, ◌++◌}
use Rattle.cil_model.specs.BodyLayout.{clauses}
use Rattle.il_code.proofs.sections.push_clauses.Given as goal

abbrev pub invariant-loop-k : goal.invariant-loop-k
invariant-loop-k l = l.out ≡ l.initial.out ++ clauses l.section.fat l.bytes l.section.from l.k
