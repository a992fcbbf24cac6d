use Rattle.std.proofs.Common.{length, refl}
use Rattle.cil_base.proofs.Small.{on_ok}
use Rattle.cli_sigs.specs.Numbers.{Shortest, IsNumber}
use Rattle.cli_sigs.proofs.PrintLaws.{counted_adds}
use Rattle.cli_sigs.proofs.printing.push_numbers.Goals as goal

pub returns : goal.returns
returns c =
    on_ok c.push_each_number.result
    (counted_adds (IsNumber Shortest) c.args.numbers.now (length c.args.numbers.now) c.args.out.now.items c.push_number.new.out.items c.push_each_number.new.out.items refl c.in_ok-push_number.ensures)
    c.push_each_number.ensures
