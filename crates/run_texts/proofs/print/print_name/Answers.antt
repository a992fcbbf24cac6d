use Rattle.run_texts.specs.Printed.{name_byte_text}
use Rattle.run_texts.proofs.PrintLaws.{on_err, next_begun}
use Rattle.run_texts.proofs.print.print_name.Goals as goal

pub returns-in_err-print_name_byte-clause-err : goal.returns-in_err-print_name_byte-clause-err
returns-in_err-print_name_byte-clause-err c =
    on_err c.from_residual.result (next_begun name_byte_text c.args.out.now c.args.name.now c.loop-byte.byte-index 0 c.loop-byte-test.true c.loop-byte.invariant c.in_err-print_name_byte.ensures.err)
