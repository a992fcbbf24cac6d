use Rattle.std.proofs.Common.{get_or, refl}
use Rattle.cli_sigs.specs.Numbers.{Shortest, IsNumber}
use Rattle.cli_sigs.proofs.PrintLaws.{each_adds}
use Rattle.cli_sigs.proofs.printing.push_each_number.Goals as goal

pub loop-n-preserved : goal.loop-n-preserved
loop-n-preserved c = each_adds (IsNumber Shortest) c.args.numbers.now c.loop-n.n-index 0 (get_or c.args.numbers.now c.loop-n.n-index 0) c.args.out.now.items c.loop-n.out.items c.push_number.new.out.items c.loop-n-test.true refl c.loop-n.invariant c.in_ok-push_number.ensures
