use Rattle.std.proofs.Common.{◌≡◌, ◌++◌, drop}
use Rattle.std.specs.Prelude.{map}
use Rattle.clause_expansion.specs.Expansion.{copied}
use Rattle.clause_expansion.proofs.instrs.push_copies.Given as goal

abbrev pub invariant-loop-instr : goal.invariant-loop-instr
invariant-loop-instr l =
    l.out ++ map (copied l.at l.locals) (drop l.instr-index l.instrs) ≡ l.initial.out ++ map (copied l.at l.locals) l.instrs
