use Rattle.std.proofs.Common.{◌≡◌, ◌++◌, drop}
use Rattle.contract_parts.proofs.setup.copy_all.Given as goal

abbrev pub invariant-loop-instr : goal.invariant-loop-instr
invariant-loop-instr l = l.out ++ drop l.instr-index l.instrs ≡ l.initial.out ++ l.instrs
