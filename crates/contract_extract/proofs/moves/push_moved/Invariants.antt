use Rattle.std.proofs.Common.{◌≡◌, ◌++◌, drop}
use Rattle.std.specs.Prelude.{map}
use Rattle.contract_extract.specs.Clauses.{moved_instr}
use Rattle.contract_extract.proofs.moves.push_moved.Given as goal

abbrev pub invariant-loop-instr : goal.invariant-loop-instr
invariant-loop-instr l = l.out ++ map (moved_instr l.setup l.segment) (drop l.instr-index l.instrs) ≡ l.initial.out ++ map (moved_instr l.setup l.segment) l.instrs
