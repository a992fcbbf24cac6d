use Rattle.std.proofs.Common.{◌≡◌, take}
use Rattle.std.specs.Prelude.{map}
use Rattle.heap_writer.specs.Written.{old_part, grown_known}
use Rattle.heap_writer.proofs.parts.old_parts.Given as goal

abbrev pub invariant-loop-stream : goal.invariant-loop-stream
invariant-loop-stream l = l.parts.items ≡ map (old_part l.heaps.bytes (grown_known l.heaps.bytes l.grown l.tables)) (take l.stream-index l.stream-items)
