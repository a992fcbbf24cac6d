use Rattle.run_texts.specs.Printed.{more_text}
use Rattle.run_texts.proofs.PrintLaws.{next_begun_at, on_err}
use Rattle.run_texts.proofs.print.print_others.Goals as goal

pub returns-in_err-print_more-clause-err : goal.returns-in_err-print_more-clause-err
returns-in_err-print_more-clause-err c =
    on_err c.from_residual.result
    (next_begun_at more_text c.args.out.now c.args.vs.now c.loop-v.v-index c.v-item.result c.v-item.is c.loop-v-test.true c.loop-v.invariant c.in_err-print_more.ensures.err)
