use Rattle.cli_sigs.specs.Read.{many}
use Rattle.cli_sigs.specs.Reading.{packed}
use Rattle.cli_sigs.proofs.Loops.{goes_on, ends}
use Rattle.cli_sigs.proofs.numbers.packed_items.Goals as goal

pub loop-preserved : goal.loop-preserved
loop-preserved c =
    rw c.in_ok-push.ensures.ok (goes_on packed c.loop.items c.args.count c.loop.counter c.loop.rest.now (many c.args.count packed c.args.bytes.now) c.in_ok-one.one c.in_ok-one.after.now c.loop-test.true c.in_ok-one.ensures c.loop.invariant)

pub returns : goal.returns
returns c = ends packed c.loop.items c.args.count c.loop.counter c.loop.rest.now (many c.args.count packed c.args.bytes.now) c.loop-test.false c.loop.invariant
