use Rattle.std.proofs.Common.{Bool, ◌&&◌, refl, ap, ◌∙◌}
use Rattle.std.specs.Prelude.{find, ◌==◌}
use Rattle.il_opcodes.specs.declared.opcode.Opcode.{Opcode}
use Rattle.il_opcodes.proofs.OpcodeLaws.{found_from}
use Rattle.cil_model.specs.ValidBody.{takes}
use Rattle.il_body.proofs.spelling.spelling.Goals as goal

pub returns : goal.returns
returns c =
    let p : Opcode → Bool = λ o. (o.long == c.args.op) && takes o.operand c.args.operand.now in
    c.spelling_in.ensures ∙ ap (find p) c.spellings_from.ensures ∙ found_from p c.args.op (λ o e. rw e refl)
