-- leave, endfinally and rethrow.
use Rattle.std.proofs.Common.{◌≡◌, ℕ, zero, suc, ◌+◌, Bool, true, false, List, [], ◌∷◌, Option, Some, None, refl, sym, subst}
use Rattle.std.specs.Prelude.{◌&&◌, not, if◌then◌else◌}
use Rattle.cil_model.specs.declared.body.Region.{Region}
use Rattle.cil_model.specs.declared.body.RegionKind.{RegionKind}
use Rattle.cil_model.specs.declared.body.RegionKind.TheVariants as region
use Rattle.cil_model.specs.declared.contract.Contracts.{Contracts}
use Rattle.cil_model.specs.declared.program.Program.{Program}
use Rattle.cil_model.specs.declared.program.MethodDesc.{MethodDesc}
use Rattle.cil_semantics.specs.declared.state.World.{World}
use Rattle.cil_semantics.specs.declared.state.Cause.{Cause}
use Rattle.cil_semantics.specs.declared.state.Cause.TheVariants.{Caught, Unwinding, Leaving}
use Rattle.cil_semantics.specs.declared.state.Handling.{Handling}
use Rattle.cil_semantics.specs.declared.state.Frame.{Frame}
use Rattle.cil_semantics.specs.State.{Next, with_stack}
use Rattle.cil_semantics.specs.Frames.{if_there}
use Rattle.cil_semantics.specs.Unwind.{body_of, plan_at, moved_to, is_finally, in_try, left_from, leave_through, leave, resume_cause, unwind}
use Rattle.cil_semantics.specs.Checks.{AddedNumbers}
use Rattle.splice_facts.specs.Input.{is_group, handler_height}
use Rattle.splice_facts.specs.Layout.{IsHere}
use Rattle.splice_facts.specs.Related.{Rewritten}
use Rattle.simulation_valid.specs.Keeping.{StaysValid}
use Rattle.simulation_valid.proofs.FrameLaws as Standing
use Rattle.simulation_valid.proofs.GroupLaws.{HandlerAt, first_here, behind_here}
use Rattle.simulation_valid.proofs.UnwindValidLaws.{Throwing, GoesDown, handler_begins, throws_valid, unwinds, unwinds_top, tail_of, restacked, places_of}
use Rattle.simulation_valid.proofs.PushValidLaws.{moves}
use Rattle.simulation_valid.specs.Steps.{RunsHere, IsEmptyAt, MayResume}
use Rattle.simulation_valid.proofs.FitsLaws.{both}

finally_height : (kd : RegionKind) → is_finally kd ≡ true → handler_height kd ≡ 0
finally_height region.Finally e = refl
finally_height (region.Catch token) e = absurd (cc e)
finally_height (region.Filter place) e = absurd (cc e)
finally_height region.Fault e = absurd (cc e)

-- a finally begins with nothing on the stack
left_heights : (skip i q t : ℕ) (rs : List Region) (x : ℕ × Region) → left_from skip i q t rs ≡ Some x → HandlerAt rs x.1.handler_from 0
left_heights skip i q t [] x e = absurd (cc e)
left_heights (suc n) i q t (y ∷ ys) x e = let h = left_heights n (i + 1) q t ys x e in record { row = h.row; there = behind_here y h.row ys h.there; begins = h.begins; height = h.height }
left_heights zero i q t (y ∷ ys) x e = by_test (λ s. left_heights zero (i + 1) q t ys x s) (is_finally y.kind && (in_try y q && not (in_try y t))) refl e
  where
    by_test : (left_from zero (i + 1) q t ys ≡ Some x → HandlerAt ys x.1.handler_from 0) → (c : Bool) → (is_finally y.kind && (in_try y q && not (in_try y t))) ≡ c → (if c then Some (i, y) else left_from zero (i + 1) q t ys) ≡ Some x → HandlerAt (y ∷ ys) x.1.handler_from 0
    by_test more true s z =
        let here : (i, y) ≡ x = cc z in
        subst (λ (v : ℕ × Region). HandlerAt (y ∷ ys) v.1.handler_from 0) here (record { row = y; there = first_here y ys; begins = refl; height = finally_height y.kind (both (is_finally y.kind) (in_try y q && not (in_try y t)) s).0 })
    by_test more false s z = let h = more z in record { row = h.row; there = behind_here y h.row ys h.there; begins = h.begins; height = h.height }

module _ (p : Program) (k : Contracts) (ms : List MethodDesc) (g : AddedNumbers) (r : Rewritten p k ms g) where
  abbrev Stays : Next → Type 0
  Stays x = StaysValid p k ms g r x

  down_of : (f : Frame) (fs : List Frame) (w : World) → RunsHere p k ms g r f fs w → GoesDown p k ms g r f.continuation fs
  down_of f fs w a = unwinds p k ms g r f.continuation fs (tail_of p k ms g r f fs a.placed a.top.below.others a.top.below.returning a.top.below.heights)

  throwing : (f : Frame) (hs : List Handling) (q : ℕ) (fs : List Frame) (w : World) → RunsHere p k ms g r f fs w → (is_group f.at ≡ false → IsHere (plan_at k p f.method) (moved_to q f.at)) → (is_group f.at ≡ false → Standing.pending p k ms g r f.method f.at hs) → Throwing p k ms g r f f.at hs q fs w
  throwing f hs q fs w a there low =
      record { places = places_of p k ms g r f fs a.top.frame a.top.as_named; below = a.top.below; fits = a.top.frame.stands.fits; here = a.here; thrower = there; low = low; count = a.top.count; deep = a.top.deep; down = down_of f fs w a }

  pub leaves_valid : (skip q t : ℕ) (f : Frame) (hs : List Handling) (fs : List Frame) (w : World) → RunsHere p k ms g r f fs w → is_group f.at ≡ false → IsHere (plan_at k p f.method) (moved_to q f.at) → Standing.pending p k ms g r f.method f.at hs → IsEmptyAt p k ms g r f t → Stays (leave p k skip q t f hs fs w)
  leaves_valid skip q t f hs fs w a outer there low empty = by_finally (left_from skip 0 q t (body_of p f.method).regions) refl
    where
      by_finally : (o : Option (ℕ × Region)) → left_from skip 0 q t (body_of p f.method).regions ≡ o → Stays (leave_through p k o f hs q t fs w)
      by_finally None e = moves p k ms g r f t (with_stack f.local []) hs fs w a.top (restacked p k ms g r f [] fs (places_of p k ms g r f fs a.top.frame a.top.as_named) tt) refl (λ z. low) (λ plan old s z. sym (empty plan old s))
      by_finally (Some x) e =
          let lands = (r.input f.method a.top.frame.stands.old).left_lands f.at q skip t x a.here outer there e in
          handler_begins p k ms g r f f.at [] (record { handler = x.0; cause = Leaving t; place = q; next = x.0 + 1 }) hs q x.1.handler_from fs w outer (throwing f hs q fs w a (λ z. there) (λ z. low)) lands.0 lands.1 (there, empty) tt (left_heights skip 0 q t (body_of p f.method).regions x e)

  pub resumes_valid : (h : Handling) (hs : List Handling) (c : Cause) (f : Frame) (fs : List Frame) (w : World) → RunsHere p k ms g r f fs w → is_group f.at ≡ false → IsHere (plan_at k p f.method) (moved_to h.place f.at) → Standing.pending p k ms g r f.method f.at hs → MayResume p k ms g r f c → Stays (resume_cause p k h c hs f fs w)
  resumes_valid h hs (Caught x) f fs w a outer there low may = tt
  resumes_valid h hs (Unwinding x) f fs w a outer there low may = throws_valid p k ms g r f f.at hs h.next h.place fs w x (throwing f hs h.place fs w a (λ z. there) (λ z. low))
  resumes_valid h hs (Leaving t) f fs w a outer there low may = leaves_valid h.next h.place t f hs fs w a outer there low may

  -- an exception is thrown, or thrown again, in the topmost frame
  pub throws_top : (f : Frame) (fs : List Frame) (w : World) (x : ℕ) → RunsHere p k ms g r f fs w → Stays (unwind p k false (f ∷ fs) w x)
  throws_top f fs w x a = unwinds_top p k ms g r f fs w x a.here a.top.frame a.top.as_named a.top.below.others a.top.below.returning a.top.below.heights a.top.below.world a.top.count a.top.deep (down_of f fs w a)

  pub rethrows_valid : (o : Option ℕ) (f : Frame) (fs : List Frame) (w : World) → RunsHere p k ms g r f fs w → Stays (if_there o w (λ x. unwind p k false (f ∷ fs) w x))
  rethrows_valid None f fs w a = tt
  rethrows_valid (Some x) f fs w a = throws_top f fs w x a
