use Rattle.std.proofs.Common.{ap, ◌∙◌, List}
use Rattle.std.specs.Prelude.{slice_get}
use Rattle.il_opcodes.specs.declared.opcode.Opcode.{Opcode}
use Rattle.il_opcodes.specs.Opcodes.{the_opcodes}
use Rattle.il_opcodes.proofs.OpcodeLaws.{found}
use Rattle.il_opcodes.proofs.find.find_opcode.Goals as goal

pub returns : goal.returns
returns c =
    c.copy_at.ensures ∙ ap (λ (l : List Opcode). slice_get l c.find_index.result) c.opcodes.ensures.table ∙ ap (slice_get the_opcodes) c.find_index.ensures ∙ found c.args.code
