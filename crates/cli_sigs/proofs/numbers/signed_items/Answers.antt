use Rattle.std.proofs.Common.{w32, arith}
use mir.Val.{SFits}
use Rattle.std.proofs.lemmas.Int.{to_z-of_z, ints}
use Rattle.cli_sigs.specs.Read.{many}
use Rattle.cli_sigs.specs.Reading.{signed}
use Rattle.cli_sigs.proofs.Loops.{goes_on, ends}
use Rattle.cli_sigs.proofs.numbers.signed_items.Goals as goal

pub loop-preserved : goal.loop-preserved
loop-preserved c =
    let fits : SFits w32 c.in_ok-one.one = search (arith, ints) in
    rw (c.in_ok-push.ensures.ok, to_z-of_z w32 c.in_ok-one.one fits) (goes_on signed c.loop.items c.args.count c.loop.counter c.loop.rest.now (many c.args.count signed c.args.bytes.now) c.in_ok-one.one c.in_ok-one.after.now c.loop-test.true c.in_ok-one.ensures c.loop.invariant)

pub returns : goal.returns
returns c = ends signed c.loop.items c.args.count c.loop.counter c.loop.rest.now (many c.args.count signed c.args.bytes.now) c.loop-test.false c.loop.invariant
