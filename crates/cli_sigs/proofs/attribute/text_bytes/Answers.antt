use Rattle.cli_sigs.specs.Read.{many, byte_where}
use Rattle.cli_sigs.specs.Reading.{is_byte}
use Rattle.cli_sigs.proofs.Loops.{goes_on, ends}
use Rattle.cli_sigs.proofs.attribute.text_bytes.Goals as goal

pub loop-preserved : goal.loop-preserved
loop-preserved c =
    rw c.in_ok-push.ensures.ok (goes_on (byte_where is_byte) c.loop.items c.args.count c.loop.counter c.loop.rest.now (many c.args.count (byte_where is_byte) c.args.bytes.now) c.in_ok-one.one c.in_ok-one.after.now c.loop-test.true c.in_ok-one.ensures c.loop.invariant)

pub returns : goal.returns
returns c = ends (byte_where is_byte) c.loop.items c.args.count c.loop.counter c.loop.rest.now (many c.args.count (byte_where is_byte) c.args.bytes.now) c.loop-test.false c.loop.invariant
