use Rattle.std.proofs.Common.{◌++◌, codes}
use Rattle.run_texts.specs.Printed.{value_text}
use Rattle.run_texts.proofs.PrintLaws.{later, on_err, sooner}
use Rattle.run_texts.proofs.print.print_return.Goals as goal

pub returns-in_err-put-clause-err : goal.returns-in_err-put-clause-err
returns-in_err-put-clause-err c =
    on_err c.from_residual.result
    (sooner (codes "return ") (value_text c.args.v.now ++ codes "\n") c.in_err-put.ensures.err)

pub returns-in_err-print_value-clause-err : goal.returns-in_err-print_value-clause-err
returns-in_err-print_value-clause-err c =
    on_err c.from_residual-in_err-print_value.result
    (later c.args.out.now (codes "return ") (value_text c.args.v.now ++ codes "\n") c.in_ok-put.ensures.ok (sooner (value_text c.args.v.now) (codes "\n") c.in_err-print_value.ensures.err))

pub returns-in_err-put-2-clause-err : goal.returns-in_err-put-2-clause-err
returns-in_err-put-2-clause-err c =
    on_err c.from_residual-in_err-put-2.result
    (later c.args.out.now (codes "return ") (value_text c.args.v.now ++ codes "\n") c.in_ok-put.ensures.ok (later c.put.new.out (value_text c.args.v.now) (codes "\n") c.in_ok-print_value.ensures.ok c.in_err-put-2.ensures.err))
