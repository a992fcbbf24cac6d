use Rattle.std.proofs.Common.{length, refl}
use Rattle.cil_base.proofs.Small.{on_ok}
use Rattle.cli_sigs.specs.Numbers.{Shortest, IsSignedNumber}
use Rattle.cli_sigs.proofs.PrintLaws.{counted_adds}
use Rattle.cli_sigs.proofs.printing.push_bounds.Goals as goal

pub returns : goal.returns
returns c =
    on_ok c.push_each_bound.result
    (counted_adds (IsSignedNumber Shortest) c.args.bounds.now (length c.args.bounds.now) c.args.out.now.items c.push_number.new.out.items c.push_each_bound.new.out.items refl c.in_ok-push_number.ensures)
    c.push_each_bound.ensures
