use Rattle.std.proofs.Common.{◌≡◌, ◌∙◌, ◌+◌, Some, None, arith, sym}
use Rattle.std.specs.BinaryHeap.{heap_items}
use Rattle.std.proofs.lemmas.Option.{slice_get_within}
use Rattle.il_flow.specs.declared.mark.Mark.TheVariants.{Waits}
use Rattle.il_flow.specs.Effects.{effect_of}
use Rattle.il_flow.proofs.StraightLaws.{goes_more, left_on, left_same_passed, next_on, next_passed, next_waits, passed_straight}
use Rattle.il_flow.proofs.search.search_straight.Goals as goal

pub go_on-requires-clause-queued : goal.go_on-requires-clause-queued
go_on-requires-clause-queued c =
    next_passed c.loop-height.marks (heap_items c.loop-height.queue) c.loop-height.at c.in-Some.height c.loop-height.invariant.next c.in-Some.ensures

pub returns-then-not-goes_straight-clause-left : goal.returns-then-not-goes_straight-clause-left
returns-then-not-goes_straight-clause-left c =
    let same = left_same_passed c.loop-height.marks (heap_items c.loop-height.queue) c.loop-height.at c.in-Some.height c.in-Some.ensures in
    let before = c.loop-height.invariant.left in
    λ none. let now = c.in_ok-fault.ensures.left none in omega arith

pub returns-then-not-goes_straight-clause-found : goal.returns-then-not-goes_straight-clause-found
returns-then-not-goes_straight-clause-found c =
    let first = next_waits c.loop-height.marks (heap_items c.loop-height.queue) c.loop-height.at c.in-Some.height c.loop-height.invariant.next c.in-Some.ensures in
    goes_more (effect_of c.args.program.now c.args.own.now) c.args.body.now c.args.marks.now c.loop-height.marks c.go_on.new.marks c.loop-height.at c.in-Some.height c.instr_at-i.result.now c.found_effect-effect.result c.in_ok-fault.fault first c.in-Some.ensures c.instr_at-i.ensures c.found_effect-effect.ensures c.in_ok-fault.ensures.fault c.in_ok-fault.ensures.passed c.loop-height.invariant.more

pub go_next-requires-clause-small : goal.go_next-requires-clause-small
go_next-requires-clause-small c =
    let w = slice_get_within c.loop-height.marks c.loop-height.at (Waits c.in-Some.height) c.in-Some.ensures in
    let size = c.loop-height.invariant.size in
    let few = c.requires.few in
    omega arith

pub go_next-requires-clause-within : goal.go_next-requires-clause-within
go_next-requires-clause-within c = slice_get_within c.loop-height.marks c.loop-height.at (Waits c.in-Some.height) c.in-Some.ensures

pub returns-in-Some-go_next-clause-found : goal.returns-in-Some-go_next-clause-found
returns-in-Some-go_next-clause-found c =
    let first = next_waits c.loop-height.marks (heap_items c.loop-height.queue) c.loop-height.at c.in-Some.height c.loop-height.invariant.next c.in-Some.ensures in
    goes_more (effect_of c.args.program.now c.args.own.now) c.args.body.now c.args.marks.now c.loop-height.marks c.go_next.new.marks c.loop-height.at c.in-Some.height c.instr_at-i.result.now c.found_effect-effect.result (Some c.in-Some-go_next.place) first c.in-Some.ensures c.instr_at-i.ensures c.found_effect-effect.ensures (sym c.in-Some-go_next.is ∙ c.go_next.ensures.fault) (λ e. absurd cc) c.loop-height.invariant.more

pub overflow_add-at : goal.overflow_add-at
overflow_add-at c =
    let w = slice_get_within c.loop-height.marks c.loop-height.at (Waits c.in-Some.height) c.in-Some.ensures in
    let size = c.loop-height.invariant.size in
    let few = c.requires.few in
    omega arith

pub loop-height-smaller : goal.loop-height-smaller
loop-height-smaller c =
    let w = slice_get_within c.loop-height.marks c.loop-height.at (Waits c.in-Some.height) c.in-Some.ensures in
    let size = c.loop-height.invariant.size in
    omega arith

pub loop-height-preserved : goal.loop-height-preserved
loop-height-preserved c =
    let inv = c.loop-height.invariant in
    let ms = c.loop-height.marks in
    let queue = heap_items c.loop-height.queue in
    let at = c.loop-height.at in
    let h = c.in-Some.height in
    let i = c.instr_at-i.result.now in
    let e = c.found_effect-effect.result in
    let there = c.in-Some.ensures in
    let none : c.go_next.result ≡ None = c.in_default-go_next.is in
    let passed = c.go_next.ensures.passed none in
    let first = next_waits ms queue at h inv.next there in
    record {
      size = c.go_next.ensures.size none ∙ inv.size;
      next = rw passed (next_on ms queue at h _ inv.next there);
      left = rw passed (left_on ms queue at h _ (at + 1) _ there inv.left);
      more = goes_more (effect_of c.args.program.now c.args.own.now) c.args.body.now c.args.marks.now ms c.go_next.new.marks at h i e None first there c.instr_at-i.ensures c.found_effect-effect.ensures (sym none ∙ c.go_next.ensures.fault) (λ z. passed ∙ passed_straight e ms at h i (c.goes_straight.ensures c.if-not-goes_straight.false)) inv.more;
    }
