use Rattle.std.proofs.Common.{◌∙◌, sym, ap, length, ◌-◌, ◌++◌, ◌∷◌, [], List, arith}
use Rattle.cil_model.specs.declared.ty.Ty.{Ty}
use Rattle.cil_semantics.specs.Lookups.{is_sub, most_bases}
use Rattle.cil_semantics.specs.Types.{same_ty}
use Rattle.cil_semantics.specs.Words.{any}
use Rattle.look_ups.specs.Supers.{supers_of}
use Rattle.look_ups.proofs.AnyLaws.{sub_on, sub_here, sub_first, sub_last}
use Rattle.look_ups.proofs.subtype.is_subtype.Goals as goal

pub loop-k-init : goal.loop-k-init
loop-k-init c =
    sub_first c.args.program.now c.args.a.now c.args.b.now c.push.new.self
    (c.in_ok-push.ensures.ok ∙ ap (λ (ts : List Ty). ts ++ c.in_ok-copied.field-0 ∷ []) c.new-level.ensures ∙ ap (λ (t : Ty). t ∷ []) c.in_ok-copied.ensures)

pub returns-then-has_same : goal.returns-then-has_same
returns-then-has_same c =
    sub_here c.args.program.now c.args.b.now c.loop-k.level (most_bases c.args.program.now - c.loop-k.k) (is_sub c.args.program.now c.args.a.now c.args.b.now)
    (sym (ap (any (λ (t : Ty). same_ty t c.args.b.now)) c.as_slice-in-loop-k.ensures) ∙ sym c.has_same.ensures ∙ c.if-has_same.true)
    c.loop-k.invariant

pub loop-k-preserved : goal.loop-k-preserved
loop-k-preserved c =
    sub_on c.args.program.now c.args.b.now c.loop-k.level c.in_ok-level.level (most_bases c.args.program.now) c.loop-k.k (is_sub c.args.program.now c.args.a.now c.args.b.now)
    (omega (arith, c.loop-k-test.true, ap length c.as_slice.ensures))
    (sym (ap (any (λ (t : Ty). same_ty t c.args.b.now)) c.as_slice-in-loop-k.ensures) ∙ sym c.has_same.ensures ∙ c.if-has_same.false)
    (λ f. c.in_ok-level.ensures f ∙ ap (any (λ (t : Ty). any f (supers_of c.args.program.now t))) c.as_slice-in-loop-k-2.ensures)
    c.loop-k.invariant

pub returns : goal.returns
returns c =
    c.has_same-2.ensures
    ∙ ap (any (λ (t : Ty). same_ty t c.args.b.now)) c.as_slice-2.ensures
    ∙ sub_last c.args.program.now c.args.b.now c.loop-k.level (most_bases c.args.program.now) c.loop-k.k (is_sub c.args.program.now c.args.a.now c.args.b.now)
    (omega (arith, c.loop-k-test.false, ap length c.as_slice.ensures)) c.loop-k.invariant
