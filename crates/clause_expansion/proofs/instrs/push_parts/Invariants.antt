use Rattle.std.proofs.Common.{◌≡◌, ◌++◌, drop}
use Rattle.std.specs.List.{enumerate_from, flat_map}
use Rattle.clause_expansion.specs.Expansion.{part}
use Rattle.clause_expansion.proofs.instrs.push_parts.Given as goal

abbrev pub invariant-loop-instr : goal.invariant-loop-instr
invariant-loop-instr l =
    (l.at ≡ l.instr-index)
    × (l.out ++ flat_map (part l.site l.starts l.locals) (enumerate_from l.instr-index (drop l.instr-index l.instrs))
    ≡ l.initial.out ++ flat_map (part l.site l.starts l.locals) (enumerate_from 0 l.instrs))
