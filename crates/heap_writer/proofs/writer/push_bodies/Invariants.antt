use Rattle.std.proofs.Common.{◌≡◌, ◌%◌, ◌++◌, take, length}
use Rattle.heap_writer.specs.Written.{bodies}
use Rattle.heap_writer.proofs.writer.push_bodies.Given as goal

abbrev pub invariant-loop-part : goal.invariant-loop-part
invariant-loop-part l = record {
  bytes : l.out.items ≡ l.initial.out.items ++ bodies (take l.part-index l.parts);
  word : length l.out.items % 4 ≡ 0;
}
