use Rattle.std.proofs.Common.{arith}
use Rattle.cli_heaps.proofs.EntryLaws.{strings_before}
use Rattle.cli_heaps.proofs.entries.strings_end.Goals as goal

pub returns-else-heap-end-ne0 : goal.returns-else-heap-end-ne0
returns-else-heap-end-ne0 c = λ at. strings_before c.args.heap.now c.loop-end.end at c.loop-end.invariant.within c.loop-end.invariant.none (λ pos. c.if-heap-end-ne0.false)

pub returns-after-loop-end : goal.returns-after-loop-end
returns-after-loop-end c = λ at. strings_before c.args.heap.now c.loop-end.end at c.loop-end.invariant.within c.loop-end.invariant.none (λ pos. absurd (omega arith))
