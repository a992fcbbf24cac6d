use Rattle.std.proofs.Common.{get_or, refl, arith, w32}
use Rattle.std.specs.Prelude.{ℤ, pos}
use Rattle.std.proofs.lemmas.Int.{to_z-of_z, ints}
use mir.Val.{SFits}
use Rattle.cli_sigs.specs.Numbers.{Shortest, IsSignedNumber}
use Rattle.cli_sigs.specs.Valid.{IsShortSigned}
use Rattle.cli_sigs.proofs.PrintLaws.{each_adds}
use Rattle.cli_sigs.proofs.printing.push_each_bound.Goals as goal

short_fits : (z : ℤ) → IsShortSigned z → SFits w32 z
short_fits z h = search (arith, ints, h)

pub loop-bound-preserved : goal.loop-bound-preserved
loop-bound-preserved c =
    let bound = get_or c.args.bounds.now c.loop-bound.bound-index (pos 0) in
    let fits : SFits w32 bound = short_fits bound (c.requires c.loop-bound.bound-index (pos 0) c.loop-bound-test.true) in
    each_adds (IsSignedNumber Shortest) c.args.bounds.now c.loop-bound.bound-index (pos 0) bound c.args.out.now.items c.loop-bound.out.items c.push_signed.new.out.items c.loop-bound-test.true refl c.loop-bound.invariant (rw (to_z-of_z w32 bound fits) at c.in_ok-push_signed.ensures)
