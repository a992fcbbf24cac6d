use Rattle.std.proofs.Common.{codes}
use Rattle.run_texts.specs.Printed.{name_text}
use Rattle.run_texts.proofs.PrintLaws.{on_err, sooner}
use Rattle.run_texts.proofs.print.print_throw.Goals as goal

pub returns-in_err-put-clause-err : goal.returns-in_err-put-clause-err
returns-in_err-put-clause-err c =
    on_err c.from_residual.result
    (sooner (codes "throw ") (name_text c.args.name.now) c.in_err-put.ensures.err)
