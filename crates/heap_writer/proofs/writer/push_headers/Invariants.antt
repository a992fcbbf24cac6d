use Rattle.std.proofs.Common.{◌≡◌, ◌+◌, ◌++◌, drop, length}
use Rattle.heap_writer.specs.Written.{headers, bodies}
use Rattle.heap_writer.proofs.writer.push_headers.Given as goal

abbrev pub invariant-loop-part : goal.invariant-loop-part
invariant-loop-part l = record {
  sum : l.at + length (bodies (drop l.part-index l.parts)) ≡ l.fn.start + length (bodies l.parts);
  bytes : l.out.items ++ headers l.at (drop l.part-index l.parts) ≡ l.initial.out.items ++ headers l.fn.start l.parts;
}
