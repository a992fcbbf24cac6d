use Rattle.std.proofs.Common.{◌≡◌, List}
use Rattle.std.proofs.lemmas.Result.{IfOk-weaker}
use Rattle.cil_semantics.specs.Outside as outside
use Rattle.cil_semantics.specs.Outside.{Answer}
use Rattle.cil_semantics.specs.declared.Frame.{Frame}
use Rattle.cil_semantics.specs.declared.World.{World}
use Rattle.run_outside.specs.Asking as asking
use Rattle.run_outside.specs.Asking.{Answers, IsUnfit, TellsSame, as_member}
use Rattle.run_outside.specs.declared.asked.Asked.{Asked}
use Rattle.run_outside.specs.declared.judging.Judged.TheVariants as verdict
use Rattle.run_outside.proofs.AnswerLaws.{conclusion}
use Rattle.run_outside.proofs.asking.conclude.Goals as goal

pub returns : goal.returns
returns c =
    IfOk-weaker c.finish.result
    (λ (a : Asked). (fs : List Frame) (other : Answer) → (c.in_ok-judged.judged ≡ verdict.FitsNot → IsUnfit c.record.new.world other) → Answers a fs c.finish.new.world (asking.concluded c.args.program.now c.in_ok-judged.judged fs c.record.new.world other))
    (λ (a : Asked). (fs : List Frame) (first : World) → TellsSame c.args.world.now first → Answers a fs c.finish.new.world (outside.result_of c.args.program.now (as_member c.args.member.now) c.args.args c.args.reply.result c.args.reply.by_ref fs c.args.world.now (outside.unfit (as_member c.args.member.now) c.args.args c.args.reply first)))
    (λ a h fs first s. conclusion c.args.program.now (as_member c.args.member.now) c.args.args c.args.reply fs c.args.world.now first c.record.new.world c.in_ok-judged.judged c.in_ok-told.told a c.finish.new.world c.in_ok-judged.ensures c.in_ok-told.ensures c.in_ok-record.ensures s h)
    c.finish.ensures
