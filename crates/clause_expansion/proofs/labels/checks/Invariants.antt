use Rattle.std.proofs.Common.{◌≡◌, ◌++◌, drop}
use Rattle.clause_expansion.specs.Labels.{checks}
use Rattle.clause_expansion.proofs.labels.checks.Given as goal

abbrev pub invariant-loop-instr : goal.invariant-loop-instr
invariant-loop-instr l =
    l.kinds.items ++ checks l.program (drop l.instr-index l.instrs) ≡ checks l.program l.instrs
