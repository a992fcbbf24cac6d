use Rattle.std.proofs.lemmas.Result.{IfOk-weaker}
use Rattle.cil_model.specs.declared.run.ReplyResult.TheVariants as variant
use Rattle.cil_semantics.specs.Outside as outside
use Rattle.run_outside.specs.Asking.{as_member}
use Rattle.run_outside.proofs.AnswerLaws.{as_given}
use Rattle.run_outside.proofs.constructing.conclude_new.Goals as goal

pub returns-in-Default : goal.returns-in-Default
returns-in-Default c =
    IfOk-weaker c.give_new.result _ _
    (λ a h fs first s. as_given a c.args.program.now c.args.ty.now (as_member c.args.member.now) c.args.args c.args.reply.result variant.Default c.args.reply.by_ref fs c.args.world.now c.give_new.new.world (outside.unfit (as_member c.args.member.now) c.args.args c.args.reply first) c.in-Default.is (h fs (outside.unfit (as_member c.args.member.now) c.args.args c.args.reply first)))
    c.give_new.ensures

pub returns-in-Void : goal.returns-in-Void
returns-in-Void c =
    IfOk-weaker c.give_new-in-Void.result _ _
    (λ a h fs first s. as_given a c.args.program.now c.args.ty.now (as_member c.args.member.now) c.args.args c.args.reply.result variant.Void c.args.reply.by_ref fs c.args.world.now c.give_new-in-Void.new.world (outside.unfit (as_member c.args.member.now) c.args.args c.args.reply first) c.in-Void.is (h fs (outside.unfit (as_member c.args.member.now) c.args.args c.args.reply first)))
    c.give_new-in-Void.ensures
