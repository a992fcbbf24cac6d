use Rattle.run_texts.proofs.PrintLaws.{on_err, so_many}
use Rattle.run_texts.proofs.print.put.Goals as goal

pub returns-in_err-push-clause-err : goal.returns-in_err-push-clause-err
returns-in_err-push-clause-err c =
    on_err c.from_residual.result (so_many c.args.out.now c.args.text.now c.loop-byte.out c.push.new.self c.loop-byte.byte-index c.loop-byte.invariant c.in_err-push.ensures.err)
