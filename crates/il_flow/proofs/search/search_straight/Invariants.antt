use Rattle.std.proofs.Common.{◌≡◌, ◌≤◌, ◌-◌, ℕ, List, Result, length}
use Rattle.std.specs.BinaryHeap.{heap_items}
use Rattle.il_flow.specs.declared.mark.Mark.{Mark}
use Rattle.il_flow.specs.Effects.{effect_of}
use Rattle.il_flow.specs.Heights.{Finds}
use Rattle.il_flow.specs.Queue.{IsNext, count_left}
use Rattle.il_flow.proofs.search.search_straight.Given as goal

abbrev pub invariant-loop-height : goal.invariant-loop-height
invariant-loop-height l = record {
  size : length l.marks ≡ length l.body.instrs;
  next : IsNext l.at l.marks (heap_items l.queue);
  left : count_left l.marks (heap_items l.queue) ≤ count_left l.fn.marks (heap_items l.fn.queue);
  more : (r : Result (List Mark) ℕ) → Finds (effect_of l.program l.own) l.body l.marks r → Finds (effect_of l.program l.own) l.body l.fn.marks r;
}

abbrev pub decreases-loop-height : goal.decreases-loop-height
decreases-loop-height l = length l.body.instrs - l.at
