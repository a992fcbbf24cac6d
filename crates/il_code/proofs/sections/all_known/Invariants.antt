use Rattle.std.proofs.Common.{◌≡◌, true}
use Rattle.std.specs.List.{list_all}
use Rattle.cil_model.specs.BodyLayout.{clauses, is_kind}
use Rattle.il_code.proofs.sections.all_known.Given as goal

abbrev pub invariant-loop-k : goal.invariant-loop-k
invariant-loop-k l = list_all is_kind (clauses l.section.fat l.bytes l.section.from l.k) ≡ true
