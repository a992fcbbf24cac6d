use Rattle.std.proofs.Common.{◌≡◌, ◌+◌, drop}
use Rattle.heap_writer.specs.Written.{headers_size}
use Rattle.heap_writer.proofs.writer.headers_end.Given as goal

abbrev pub invariant-loop-part : goal.invariant-loop-part
invariant-loop-part l = l.end + headers_size (drop l.part-index l.parts) ≡ l.fn.first + headers_size l.parts
