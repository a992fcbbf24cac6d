use Rattle.std.proofs.Common.{◌∙◌, sym, arith, ◌-◌}
use Rattle.cli_heaps.specs.Root.{is_named, streams_from}
use Rattle.cli_heaps.proofs.StreamLaws.{Begins, begins, find_passes}
use Rattle.cli_heaps.proofs.streams.find_stream.Goals as goal

pub loop-left-preserved : goal.loop-left-preserved
loop-left-preserved c =
    let step : Begins c.args.meta.now c.loop-left.at c.loop-left.left c.in-Some.end c.in-Some.stream = begins c.args.meta.now c.loop-left.at c.loop-left.left c.in-Some.end c.in-Some.stream (omega arith) (sym c.in-Some.ensures) in
    record {
      within = step.within;
      rest = find_passes (is_named c.args.name.now) c.in-Some.stream (streams_from c.args.meta.now c.loop-left.at c.loop-left.left) (streams_from c.args.meta.now c.in-Some.end (c.loop-left.left - 1)) step.are (sym c.is_named.ensures ∙ c.if-is_named.false) ∙ c.loop-left.invariant.rest;
    }
