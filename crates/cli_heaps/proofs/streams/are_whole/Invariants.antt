use Rattle.std.proofs.Common.{◌≡◌, ◌≤◌, ◌+◌, length}
use Rattle.cli_heaps.specs.Root.{streams, streams_from, stream_count}
use Rattle.cli_heaps.proofs.streams.are_whole.Given as goal

abbrev pub invariant-loop-left : goal.invariant-loop-left
invariant-loop-left l = record {
  within : l.at ≤ length l.meta;
  rest : length (streams_from l.meta l.at l.left) + stream_count l.meta ≡ length (streams l.meta) + l.left;
}

abbrev pub decreases-loop-left : goal.decreases-loop-left
decreases-loop-left l = l.left
