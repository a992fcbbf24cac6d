use Rattle.std.proofs.Common.{◌≡◌, ℕ, ◌+◌, ◌-◌, ◌^◌, ◌≤◌, min, List, length, map}
use Rattle.cli_heaps.specs.Root.{streams, streams_from}
use Rattle.heap_writer.specs.Written.{old_part, grown_known, streams_size}
use Rattle.heap_writer.proofs.limits.old_size.Given as goal

abbrev pub invariant-loop-left : goal.invariant-loop-left
invariant-loop-left l = record {
  within : l.at ≤ length l.meta;
  small : l.size ≤ 2 ^ 64 - 1;
  sum : (tables : List ℕ) → length tables ≡ l.tables_size → min (l.size + streams_size (map (old_part l.heaps.bytes (grown_known l.heaps.bytes l.grown tables)) (streams_from l.heaps.bytes l.at l.left))) (2 ^ 64 - 1) ≡ min (streams_size (map (old_part l.heaps.bytes (grown_known l.heaps.bytes l.grown tables)) (streams l.heaps.bytes))) (2 ^ 64 - 1);
}

abbrev pub decreases-loop-left : goal.decreases-loop-left
decreases-loop-left l = l.left
