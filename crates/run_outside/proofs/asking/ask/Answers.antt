use Rattle.std.proofs.Common.{List, ap, ◌∷◌, ◌∙◌, sym}
use Rattle.cil_model.specs.declared.ty.Ty.{Ty}
use Rattle.cil_semantics.specs.Frames.{stored_args}
use Rattle.run_outside.specs.Asking.{as_member}
use Rattle.run_outside.proofs.AnswerLaws.{ask_is}
use Rattle.run_outside.proofs.asking.ask.Goals as goal

pub returns : goal.returns
returns c =
    rw (← ask_is c.args.program.now (as_member c.args.member.now) c.args.values.now (c.args.top.now ∷ c.args.below.now) c.args.world.now c.next_reply.new.world c.in-Some.cells c.in_ok-args.args c.in_ok-reply.reply
    (sym c.in-Some.is ∙ c.in_ok-cells.ensures ∙ ap (λ (ts : List Ty). stored_args c.args.program.now ts c.args.values.now) c.as_slice.ensures) c.in_ok-args.ensures c.in_ok-reply.ensures.next c.in_ok-reply.ensures.kept)
    c.answer.ensures
