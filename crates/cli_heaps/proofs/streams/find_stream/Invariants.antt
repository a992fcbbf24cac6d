use Rattle.std.proofs.Common.{◌≡◌, ◌≤◌, length}
use Rattle.std.specs.Prelude.{find}
use Rattle.cli_heaps.specs.Root.{is_named, streams_from, first_named}
use Rattle.cli_heaps.proofs.streams.find_stream.Given as goal

abbrev pub invariant-loop-left : goal.invariant-loop-left
invariant-loop-left l = record {
  within : l.at ≤ length l.meta;
  rest : find (is_named l.name) (streams_from l.meta l.at l.left) ≡ first_named l.meta l.name;
}

abbrev pub decreases-loop-left : goal.decreases-loop-left
decreases-loop-left l = l.left
