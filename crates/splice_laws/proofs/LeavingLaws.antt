-- Regions of the plain machine's bodies: searches, leave, endfinally, and exceptions.
use Rattle.std.proofs.Common.{◌≡◌, ℕ, suc, ◌+◌, Bool, true, false, List, [], ◌∷◌, ◌++◌, length, Option, Some, None, refl, sym, ap, ◌∙◌, arith}
use Rattle.std.specs.Prelude.{slice_get, if◌then◌else◌, filter, ◌&&◌, not}
use Rattle.cil_base.specs.declared.token.Token.{Token}
use Rattle.cil_model.specs.declared.ty.Ty.{Ty}
use Rattle.cil_model.specs.declared.body.Region.{Region}
use Rattle.cil_model.specs.declared.program.Program.{Program}
use Rattle.cil_model.specs.NoContracts.{no_contracts}
use Rattle.cil_semantics.specs.Words.{maybe}
use Rattle.cil_semantics.specs.State as state
use Rattle.cil_semantics.specs.declared.state.Local.{Local as LocalState}
use Rattle.cil_semantics.specs.declared.state.World.{World}
use Rattle.cil_semantics.specs.declared.state.Item.{Item}
use Rattle.cil_semantics.specs.declared.state.ProgramPoint.TheVariants.{Rest}
use Rattle.cil_semantics.specs.declared.state.Cause.TheVariants.{Unwinding, Leaving}
use Rattle.cil_semantics.specs.declared.state.Handling.{Handling}
use Rattle.cil_semantics.specs.declared.state.Frame.{Frame}
use Rattle.cil_semantics.specs.State.{State, Next, Running, Ended, unrecorded, recorded_after, goes_after, with_stack}
use Rattle.cil_semantics.specs.Acts.{Leave, EndHandler}
use Rattle.cil_semantics.specs.Unwind.{body_of, here_of, in_try, in_handler, is_finally, goes_at, arrive_in, plan_at, Found, NoHandler, CatchHandler, CleanupHandler, search_from, found_in, searched, left_from, leave_through, resume_cause, throws_in, land, no_handler_left, ends_frame, unwind, Below, hasnt_begun, fits_type, caught_type, thrown_name}
use Rattle.machine_laws.specs.Same.{plain_step}
use Rattle.splice_laws.specs.Straight.{leave, endfinally, frame_at, at_place, Misses, LeavesFreely}
use Rattle.splice_facts.proofs.ComesLaws.{no_plan}
use Rattle.splice_laws.proofs.StraightLaws.{steps_by, arrives_at, arrives_with, rows, world_back, acts_leave, acts_endfinally}
use Rattle.splice_laws.specs.Straight.{Stay}

-- ---- searches

pick : {X : Type 0} (b : Bool) (x y : X) → b ≡ false → (if b then x else y) ≡ y
pick b x y e = ap (λ c. if c then x else y) e

pub picks : {X : Type 0} (b : Bool) (x y : X) → b ≡ true → (if b then x else y) ≡ x
picks b x y e = ap (λ c. if c then x else y) e

onto : (i : ℕ) (rs : List Region) → (i + 1) + length rs ≡ i + suc (length rs)
onto i rs = omega arith

stays : (i : ℕ) → i ≡ i + 0
stays i = omega arith

module _ (fits : Token → Bool) (q : ℕ) where
  pub search_past : (i : ℕ) (rs more : List Region) → Misses q rs → search_from fits 0 i q (rs ++ more) ≡ search_from fits 0 (i + length rs) q more
  search_past i [] more h = ap (λ j. search_from fits 0 j q more) (stays i)
  search_past i (r ∷ rs) more h =
      pick (in_try r q) (maybe (search_from fits 0 (i + 1) q (rs ++ more)) (λ x. x) (found_in fits r i r.kind)) (search_from fits 0 (i + 1) q (rs ++ more)) h.0
      ∙ search_past (i + 1) rs more h.1 ∙ ap (λ j. search_from fits 0 j q more) (onto i rs)

  pub search_behind : (i : ℕ) (rs : List Region) (r : Region) (more : List Region) → search_from fits (suc (length rs)) i q (rs ++ r ∷ more) ≡ search_from fits 0 (i + length rs + 1) q more
  search_behind i [] r more = ap (λ j. search_from fits 0 (j + 1) q more) (stays i)
  search_behind i (x ∷ rs) r more = search_behind (i + 1) rs r more ∙ ap (λ j. search_from fits 0 (j + 1) q more) (onto i rs)

  pub search_none : (i : ℕ) (rs : List Region) → Misses q rs → search_from fits 0 i q rs ≡ NoHandler
  search_none i [] h = refl
  search_none i (r ∷ rs) h = pick (in_try r q) (maybe (search_from fits 0 (i + 1) q rs) (λ x. x) (found_in fits r i r.kind)) (search_from fits 0 (i + 1) q rs) h.0 ∙ search_none (i + 1) rs h.1

and_not : (a b c : Bool) → b ≡ false → (a && (b && c)) ≡ false
and_not true b c e = ap (λ z. z && c) e
and_not false b c e = refl

and_first : (a b c : Bool) → (a && b) ≡ false → (a && (b && c)) ≡ false
and_first true b c e = ap (λ z. z && c) e
and_first false b c e = refl

module _ (q t : ℕ) where
  pub left_past : (i : ℕ) (rs more : List Region) → LeavesFreely q rs → left_from 0 i q t (rs ++ more) ≡ left_from 0 (i + length rs) q t more
  left_past i [] more h = ap (λ j. left_from 0 j q t more) (stays i)
  left_past i (r ∷ rs) more h =
      pick (is_finally r.kind && (in_try r q && not (in_try r t))) (Some (i, r)) (left_from 0 (i + 1) q t (rs ++ more)) (and_first (is_finally r.kind) (in_try r q) (not (in_try r t)) h.0)
      ∙ left_past (i + 1) rs more h.1 ∙ ap (λ j. left_from 0 j q t more) (onto i rs)

  pub left_behind : (i : ℕ) (rs : List Region) (r : Region) (more : List Region) → left_from (suc (length rs)) i q t (rs ++ r ∷ more) ≡ left_from 0 (i + length rs + 1) q t more
  left_behind i [] r more = ap (λ j. left_from 0 (j + 1) q t more) (stays i)
  left_behind i (x ∷ rs) r more = left_behind (i + 1) rs r more ∙ ap (λ j. left_from 0 (j + 1) q t more) (onto i rs)

  pub left_none : (i : ℕ) (rs : List Region) → Misses q rs → left_from 0 i q t rs ≡ None
  left_none i [] h = refl
  left_none i (r ∷ rs) h = pick (is_finally r.kind && (in_try r q && not (in_try r t))) (Some (i, r)) (left_from 0 (i + 1) q t rs) (and_not (is_finally r.kind) (in_try r q) (not (in_try r t)) h.0) ∙ left_none (i + 1) rs h.1

pub found_own : (rs : List Region) (r : Region) (more : List Region) → slice_get (rs ++ r ∷ more) (length rs) ≡ Some r
found_own [] r more = refl
found_own (x ∷ rs) r more = found_own rs r more

-- ---- what an exception meets isn't told

module _ (p : Program) where
  land_told : (t : List Item) (o : Found) (f : Frame) (hs : List Handling) (q : ℕ) (fs : List Frame) (w : World) (x : ℕ) → ((s : Bool) (v : World) (y : ℕ) → goes_after t (unwind p no_contracts s fs v y) ≡ unwind p no_contracts s fs (recorded_after t v) y)
      → goes_after t (land p no_contracts o f hs q fs w x (λ s v y. unwind p no_contracts s fs v y)) ≡ land p no_contracts o f hs q fs (recorded_after t w) x (λ s v y. unwind p no_contracts s fs v y)
  land_told t (CatchHandler i u) f hs q fs w x ih = refl
  land_told t (CleanupHandler i u) f hs q fs w x ih = refl
  land_told t NoHandler f hs q fs w x ih =
      ap (λ o. goes_after t (no_handler_left p o f f.at fs w x (λ s v y. unwind p no_contracts s fs v y))) (no_plan p f.method)
      ∙ ends_told f.initializes
      ∙ sym (ap (λ o. no_handler_left p o f f.at fs (recorded_after t w) x (λ s v y. unwind p no_contracts s fs v y)) (no_plan p f.method))
    where
      ends_told : (i : Option Ty) → goes_after t (ends_frame p i f.continuation w x (λ s v y. unwind p no_contracts s fs v y)) ≡ ends_frame p i f.continuation (recorded_after t w) x (λ s v y. unwind p no_contracts s fs v y)
      ends_told None = ih (hasnt_begun f.continuation) w x
      ends_told (Some u) = ih (hasnt_begun f.continuation) (Rattle.cil_semantics.specs.Unwind.with_failed u (state.next_object w) (state.with_object p Rattle.cil_semantics.specs.Unwind.initialization_failed w)) (state.next_object w)

  pub unwind_told : (t : List Item) (s : Bool) (fs : List Frame) (w : World) (x : ℕ) → goes_after t (unwind p no_contracts s fs w x) ≡ unwind p no_contracts s fs (recorded_after t w) x
  unfolding unwind
  unwind_told t true [] w x = refl
  unwind_told t false [] w x = refl
  unwind_told t true (f ∷ fs) w x = unwind_told t false fs w x
  unwind_told t false (f ∷ fs) w x = land_told t (searched p f w x 0 (Rattle.cil_semantics.specs.Unwind.place_in f.at) f.at) f f.handling (Rattle.cil_semantics.specs.Unwind.place_in f.at) fs w x (λ z v y. unwind_told t z fs v y)

  -- ---- one step at each

  -- leave, where no finally lies between
  pub leaves_plainly : (f : Frame) (l : LocalState) (q t : ℕ) (hs : List Handling) (fs : List Frame) (w : World) → slice_get (body_of p f.method).instrs q ≡ Some (leave t) → left_from 0 0 q t (rows p f) ≡ None → Stay p f t hs
      → plain_step p (record { frames = frame_at f l q hs ∷ fs; world = w }) ≡ at_place f (with_stack l []) t hs fs w
  leaves_plainly f l q t hs fs w there none st =
      steps_by p f l q hs fs w (leave t) (λ v. Leave t) there (acts_leave p (here_of f fs) t l)
      ∙ ap (λ o. goes_after w.trace (leave_through p no_contracts o (frame_at f l q hs) hs q t fs (unrecorded w))) none
      ∙ arrives_at p (frame_at f l q hs) (with_stack l []) t hs fs w st

  -- leave, out of handlers
  pub leaves_out : (f : Frame) (l : LocalState) (q t : ℕ) (hs hs2 : List Handling) (fs : List Frame) (w : World) → slice_get (body_of p f.method).instrs q ≡ Some (leave t) → left_from 0 0 q t (rows p f) ≡ None → filter (in_handler (rows p f) t) hs ≡ hs2
      → plain_step p (record { frames = frame_at f l q hs ∷ fs; world = w }) ≡ at_place f (with_stack l []) t hs2 fs w
  leaves_out f l q t hs hs2 fs w there none st =
      steps_by p f l q hs fs w (leave t) (λ z. Leave t) there (acts_leave p (here_of f fs) t l)
      ∙ ap (λ o. goes_after w.trace (leave_through p no_contracts o (frame_at f l q hs) hs q t fs (unrecorded w))) none
      ∙ arrives_with p (frame_at f l q hs) (with_stack l []) t hs fs w
      ∙ ap (λ z. at_place f (with_stack l []) t z fs w) st

  -- leave through a finally
  pub leaves_into : (f : Frame) (l : LocalState) (q t v : ℕ) (r : Region) (hs : List Handling) (fs : List Frame) (w : World) → slice_get (body_of p f.method).instrs q ≡ Some (leave t) → left_from 0 0 q t (rows p f) ≡ Some (v, r)
      → Stay p f r.handler_from (record { handler = v; cause = Leaving t; place = q; next = v + 1 } ∷ hs)
      → plain_step p (record { frames = frame_at f l q hs ∷ fs; world = w }) ≡ at_place f (with_stack l []) r.handler_from (record { handler = v; cause = Leaving t; place = q; next = v + 1 } ∷ hs) fs w
  leaves_into f l q t v r hs fs w there some st =
      steps_by p f l q hs fs w (leave t) (λ z. Leave t) there (acts_leave p (here_of f fs) t l)
      ∙ ap (λ o. goes_after w.trace (leave_through p no_contracts o (frame_at f l q hs) hs q t fs (unrecorded w))) some
      ∙ ap (λ z. Running (record { frames = frame_at f (with_stack l []) r.handler_from z ∷ fs; world = recorded_after w.trace (unrecorded w) })) st
      ∙ ap (λ u. at_place f (with_stack l []) r.handler_from (record { handler = v; cause = Leaving t; place = q; next = v + 1 } ∷ hs) fs u) (world_back w)

  -- the end of a finally through which something was left
  pub ends_leaving : (f : Frame) (l : LocalState) (q q0 t v n : ℕ) (hs : List Handling) (fs : List Frame) (w : World) → slice_get (body_of p f.method).instrs q ≡ Some endfinally → left_from n 0 q0 t (rows p f) ≡ None → Stay p f t hs
      → plain_step p (record { frames = frame_at f l q (record { handler = v; cause = Leaving t; place = q0; next = n } ∷ hs) ∷ fs; world = w }) ≡ at_place f (with_stack l []) t hs fs w
  ends_leaving f l q q0 t v n hs fs w there none st =
      let h : Handling = record { handler = v; cause = Leaving t; place = q0; next = n } in
      steps_by p f l q (h ∷ hs) fs w endfinally (λ z. EndHandler) there (acts_endfinally p (here_of f fs) l)
      ∙ ap (λ o. goes_after w.trace (leave_through p no_contracts o (frame_at f l q (h ∷ hs)) hs q0 t fs (unrecorded w))) none
      ∙ arrives_at p (frame_at f l q (h ∷ hs)) (with_stack l []) t hs fs w st

  -- the end of a finally that an exception runs, where no other region takes it: it leaves the frame
  pub ends_throwing : (f : Frame) (l : LocalState) (q q0 x v n : ℕ) (hs : List Handling) (fs : List Frame) (w : World) → slice_get (body_of p f.method).instrs q ≡ Some endfinally
      → ((fits : Token → Bool) → search_from fits n 0 q0 (rows p f) ≡ NoHandler)
      → plain_step p (record { frames = frame_at f l q (record { handler = v; cause = Unwinding x; place = q0; next = n } ∷ hs) ∷ fs; world = w }) ≡ ends_frame p f.initializes f.continuation w x (λ s u y. unwind p no_contracts s fs u y)
  ends_throwing f l q q0 x v n hs fs w there none =
      let h : Handling = record { handler = v; cause = Unwinding x; place = q0; next = n } in
      let F : Frame = frame_at f l q (h ∷ hs) in
      steps_by p f l q (h ∷ hs) fs w endfinally (λ z. EndHandler) there (acts_endfinally p (here_of f fs) l)
      ∙ ap (λ o. goes_after w.trace (land p no_contracts o F hs q0 fs (unrecorded w) x (λ s u y. unwind p no_contracts s fs u y))) (none (λ token. fits_type p (unrecorded w) x (caught_type p F token)))
      ∙ land_told w.trace NoHandler F hs q0 fs (unrecorded w) x (λ s u y. unwind_told w.trace s fs u y)
      ∙ ap (λ o. no_handler_left p o F (Rest q) fs (recorded_after w.trace (unrecorded w)) x (λ s u y. unwind p no_contracts s fs u y)) (no_plan p f.method)
      ∙ ap (λ u. ends_frame p f.initializes f.continuation u x (λ s z y. unwind p no_contracts s fs z y)) (world_back w)

  -- an exception that a finally takes first
  pub throws_into : (f : Frame) (l : LocalState) (q x v t : ℕ) (fs : List Frame) (w : World) → ((fits : Token → Bool) → search_from fits 0 0 q (rows p f) ≡ CleanupHandler v t) → Stay p f t (record { handler = v; cause = Unwinding x; place = q; next = v + 1 } ∷ [])
      → unwind p no_contracts false (frame_at f l q [] ∷ fs) w x ≡ at_place f (with_stack l []) t (record { handler = v; cause = Unwinding x; place = q; next = v + 1 } ∷ []) fs w
  unfolding unwind
  throws_into f l q x v t fs w found st =
      ap (λ o. land p no_contracts o (frame_at f l q []) [] q fs w x (λ s u y. unwind p no_contracts s fs u y)) (found (λ token. fits_type p w x (caught_type p (frame_at f l q []) token)))
      ∙ ap (λ z. Running (record { frames = frame_at f (with_stack l []) t z ∷ fs; world = w })) st
