use Rattle.std.proofs.Common.{◌≡◌, ◌++◌, drop}
use Rattle.clause_expansion.specs.Expansion.{starts_from, starts}
use Rattle.clause_expansion.proofs.places.starts.Given as goal

abbrev pub invariant-loop-instr : goal.invariant-loop-instr
invariant-loop-instr l =
    l.out.items ++ starts_from l.at l.args (drop l.instr-index l.instrs) ≡ starts l.site l.instrs
