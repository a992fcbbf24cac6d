use Rattle.std.proofs.Common.{ap, drop, ◌∙◌, List, ℕ}
use Rattle.il_opcodes.specs.declared.opcode.Opcode.{Opcode}
use Rattle.il_opcodes.specs.Opcodes.{the_opcodes}
use Rattle.il_opcodes.proofs.find.spellings_from.Goals as goal

pub returns : goal.returns
returns c =
    c.rows_from.ensures ∙ ap (λ (l : List Opcode). drop c.find_first.result l) c.opcodes.ensures.table ∙ ap (λ (n : ℕ). drop n the_opcodes) c.find_first.ensures
