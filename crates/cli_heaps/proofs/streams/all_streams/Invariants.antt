use Rattle.std.proofs.Common.{◌≡◌, ◌≤◌, ◌++◌, length}
use Rattle.cli_heaps.specs.Root.{streams, streams_from}
use Rattle.cli_heaps.proofs.streams.all_streams.Given as goal

abbrev pub invariant-loop-left : goal.invariant-loop-left
invariant-loop-left l = record {
  within : l.at ≤ length l.meta;
  rest : l.found.items ++ streams_from l.meta l.at l.left ≡ streams l.meta;
}

abbrev pub decreases-loop-left : goal.decreases-loop-left
decreases-loop-left l = l.left
