use Rattle.std.proofs.Common.{codes}
use Rattle.run_texts.specs.Printed.{throw_text}
use Rattle.run_texts.proofs.PrintLaws.{on_err, sooner}
use Rattle.run_texts.proofs.print.print_thrown.Goals as goal

pub returns-in_err-print_throw-clause-err : goal.returns-in_err-print_throw-clause-err
returns-in_err-print_throw-clause-err c =
    on_err c.from_residual.result
    (sooner (throw_text c.args.name.now) (codes "\n") c.in_err-print_throw.ensures.err)
