use Rattle.std.proofs.Common.{◌≡◌, ◌++◌, drop}
use Rattle.std.specs.Prelude.{map}
use Rattle.clause_types.specs.ClauseTypes.{instr_under}
use Rattle.clause_types.proofs.clause.instrs_under.Given as goal

abbrev pub invariant-loop-instr : goal.invariant-loop-instr
invariant-loop-instr l = l.out ++ map (instr_under l.under) (drop l.instr-index l.instrs) ≡ map (instr_under l.under) l.instrs
