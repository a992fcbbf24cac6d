use Rattle.std.proofs.Common.{◌≡◌, ◌∙◌, ap, refl, ◌++◌, ◌-◌, suc, ℕ, List, length, get_or, arith}
use Rattle.cil_semantics.specs.Dispatch.{Seen}
use Rattle.look_ups.specs.Sources.{by_name, by_row, once, sources_within}
use Rattle.look_ups.proofs.SourceLaws.{once_on, once_end}
use Rattle.look_ups.proofs.sources.+sources_within.Goals as goal

pub loop-slot-preserved : goal.loop-slot-preserved
loop-slot-preserved t c =
    let over : c.as_slice-slot-items.result.now ≡ by_row c.args.program.now (c.args.ty.now, c.args.method) ++ by_name c.args.program.now (c.args.ty.now, c.args.method) =
    c.as_slice-slot-items.ensures ∙ c.in_ok-overridden.ensures in
    once_on (sources_within (c.args.steps - 1) c.args.program.now) (by_row c.args.program.now (c.args.ty.now, c.args.method) ++ by_name c.args.program.now (c.args.ty.now, c.args.method))
    c.loop-slot.found c.add_once.new.found c.loop-slot.slot-index c.slot-item.result
    (omega (arith, c.loop-slot-test.true, ap length over))
    (c.slot-item.is ∙ ap (λ (ss : List Seen). get_or ss c.loop-slot.slot-index c.slot-item.result) over)
    c.loop-slot.invariant
    (c.in_ok-add_once.ensures ∙ ap (once c.loop-slot.found) (c.as_slice-in-loop-slot.ensures ∙ c.in_ok-more.ensures))

pub returns : goal.returns
returns t c =
    let over : c.as_slice-slot-items.result.now ≡ by_row c.args.program.now (c.args.ty.now, c.args.method) ++ by_name c.args.program.now (c.args.ty.now, c.args.method) =
    c.as_slice-slot-items.ensures ∙ c.in_ok-overridden.ensures in
    let steps : suc (c.args.steps - 1) ≡ c.args.steps = omega (arith, c.if-steps-eq0.false) in
    once_end (c.args.steps - 1) c.args.program.now (c.args.ty.now, c.args.method) (by_row c.args.program.now (c.args.ty.now, c.args.method) ++ by_name c.args.program.now (c.args.ty.now, c.args.method))
    c.loop-slot.found c.add_once-2.new.found c.as_slice-3.result.now c.loop-slot.slot-index refl
    (omega (arith, c.loop-slot-test.false, ap length over))
    c.loop-slot.invariant
    (c.as_slice-3.ensures ∙ c.in_ok-more-2.ensures)
    c.in_ok-add_once-2.ensures
    ∙ ap (λ (n : ℕ). sources_within n c.args.program.now (c.args.ty.now, c.args.method)) steps
