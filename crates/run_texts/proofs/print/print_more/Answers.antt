use Rattle.std.proofs.Common.{codes}
use Rattle.run_texts.specs.Printed.{value_text}
use Rattle.run_texts.proofs.PrintLaws.{on_err, sooner}
use Rattle.run_texts.proofs.print.print_more.Goals as goal

pub returns-in_err-put-clause-err : goal.returns-in_err-put-clause-err
returns-in_err-put-clause-err c =
    on_err c.from_residual.result
    (sooner (codes ", ") (value_text c.args.v.now) c.in_err-put.ensures.err)
