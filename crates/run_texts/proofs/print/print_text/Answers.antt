use Rattle.std.proofs.Common.{◌++◌, codes}
use Rattle.std.specs.List.{flat_map}
use Rattle.run_texts.specs.Printed.{unit_text}
use Rattle.run_texts.proofs.PrintLaws.{on_err, sooner, later}
use Rattle.run_texts.proofs.print.print_text.Goals as goal

pub returns-in_err-put-clause-err : goal.returns-in_err-put-clause-err
returns-in_err-put-clause-err c =
    on_err c.from_residual.result (sooner (codes "\"") (flat_map unit_text c.args.units.now ++ codes "\"") c.in_err-put.ensures.err)

pub returns-in_err-print_units-clause-err : goal.returns-in_err-print_units-clause-err
returns-in_err-print_units-clause-err c =
    on_err c.from_residual-in_err-print_units.result
    (later c.args.out.now (codes "\"") (flat_map unit_text c.args.units.now ++ codes "\"") c.in_ok-put.ensures.ok
    (sooner (flat_map unit_text c.args.units.now) (codes "\"") c.in_err-print_units.ensures.err))

pub returns-in_err-put-2-clause-err : goal.returns-in_err-put-2-clause-err
returns-in_err-put-2-clause-err c =
    on_err c.from_residual-in_err-put-2.result
    (later c.args.out.now (codes "\"") (flat_map unit_text c.args.units.now ++ codes "\"") c.in_ok-put.ensures.ok
    (later c.put.new.out (flat_map unit_text c.args.units.now) (codes "\"") c.in_ok-print_units.ensures.ok c.in_err-put-2.ensures.err))
