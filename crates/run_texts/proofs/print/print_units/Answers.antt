use Rattle.run_texts.specs.Printed.{unit_text}
use Rattle.run_texts.proofs.PrintLaws.{on_err, next_begun}
use Rattle.run_texts.proofs.print.print_units.Goals as goal

pub returns-in_err-print_unit-clause-err : goal.returns-in_err-print_unit-clause-err
returns-in_err-print_unit-clause-err c =
    on_err c.from_residual.result (next_begun unit_text c.args.out.now c.args.units.now c.loop-unit.unit-index 0 c.loop-unit-test.true c.loop-unit.invariant c.in_err-print_unit.ensures.err)
