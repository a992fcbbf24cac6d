use Rattle.std.proofs.Common.{◌∙◌, sym, ap, ◌++◌, ◌∷◌, [], ℕ}
use Rattle.std.specs.Prelude.{◌==◌, filter}
use Rattle.cil_model.specs.declared.ty.Ty.{Ty}
use Rattle.cil_semantics.specs.Words.{any}
use Rattle.cil_semantics.specs.Dispatch.{Seen}
use Rattle.look_ups.proofs.OverrideLaws.{kept_one, passed_one}
use Rattle.look_ups.proofs.dispatch.named_among.Goals.{then-has_number+in_ok-copied+in_ok-push, else-has_number}
use Rattle.look_ups.proofs.dispatch.named_among.Goals as goal

pub loop-one-preserved : goal.loop-one-preserved
loop-one-preserved c =
    elim c.if-has_number.branch [
      | then-has_number+in_ok-copied+in_ok-push w ↦
          kept_one (λ (z : Seen). any (λ (m : ℕ). m == z.1) c.args.numbers.now) c.args.seen.now c.loop-one.found c.if-has_number.found
          (filter (λ (z : Seen). any (λ (m : ℕ). m == z.1) c.args.numbers.now) c.args.seen.now) c.loop-one.one-index c.one-item.result c.loop-one-test.true c.one-item.is c.loop-one.invariant
          (sym c.has_number.ensures ∙ w.if-has_number.true)
          (w.found-is ∙ w.in_ok-push.ensures.ok ∙ ap (λ (t : Ty). c.loop-one.found ++ (t, c.one-item.result.1) ∷ []) w.in_ok-copied.ensures)
      | else-has_number w ↦
          passed_one (λ (z : Seen). any (λ (m : ℕ). m == z.1) c.args.numbers.now) c.args.seen.now c.loop-one.found c.if-has_number.found
          (filter (λ (z : Seen). any (λ (m : ℕ). m == z.1) c.args.numbers.now) c.args.seen.now) c.loop-one.one-index c.one-item.result c.loop-one-test.true c.one-item.is c.loop-one.invariant
          (sym c.has_number.ensures ∙ w.if-has_number.false) w.found-is
    ]
