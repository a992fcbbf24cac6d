use Rattle.std.proofs.Common.{refl}
use Rattle.std.proofs.lemmas.Result.{IfOk-weaker}
use Rattle.cil_model.specs.declared.run.ReplyResult.TheVariants as variant
use Rattle.run_outside.specs.Asking.{as_member}
use Rattle.run_outside.proofs.AnswerLaws.{conclusion}
use Rattle.run_outside.proofs.constructing.throw_new.Goals as goal

pub returns : goal.returns
returns c =
    IfOk-weaker c.finish.result _ _
    (λ a h ty fs first s. conclusion c.args.program.now (as_member c.args.member.now) c.args.args (record { result = variant.Throw c.args.name; by_ref = c.args.by_ref }) fs c.args.world.now first c.record.new.world c.in_ok-judged.judged (variant.Throw c.args.name) a c.finish.new.world c.in_ok-judged.ensures refl c.in_ok-record.ensures s h)
    c.finish.ensures
