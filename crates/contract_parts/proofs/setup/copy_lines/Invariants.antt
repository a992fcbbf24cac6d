use Rattle.std.proofs.Common.{◌≡◌, ◌++◌, drop}
use Rattle.contract_parts.specs.Parts.{no_nops}
use Rattle.contract_parts.proofs.setup.copy_lines.Given as goal

abbrev pub invariant-loop-instr : goal.invariant-loop-instr
invariant-loop-instr l = l.out ++ no_nops (drop l.instr-index l.instrs) ≡ l.initial.out ++ no_nops l.instrs
