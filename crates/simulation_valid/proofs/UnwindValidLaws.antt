-- An exception goes down the frames, and what it comes to is valid.
use Rattle.std.proofs.Common.{◌≡◌, ℕ, suc, ◌+◌, ◌<◌, ◌≤◌, Bool, true, false, List, [], ◌∷◌, length, Option, Some, None, refl, sym, ap, ◌∙◌, subst, arith}
use Rattle.std.specs.Prelude.{if◌then◌else◌, IsTrue, codes}
use Rattle.cil_model.specs.declared.ty.Ty.{Ty}
use Rattle.cil_model.specs.declared.value.Value.{Value, Obj}
use Rattle.cil_model.specs.declared.contract.Contracts.{Contracts}
use Rattle.cil_model.specs.declared.contract.Group.{Group}
use Rattle.cil_model.specs.declared.contract.Group.TheVariants as group
use Rattle.cil_model.specs.declared.program.Program.{Program}
use Rattle.cil_model.specs.declared.program.MethodDesc.{MethodDesc}
use Rattle.cil_semantics.specs.declared.state.World.{World}
use Rattle.cil_semantics.specs.declared.state.ProgramPoint.{ProgramPoint}
use Rattle.cil_semantics.specs.declared.state.ProgramPoint.TheVariants.{LeadIn, InGroup, Rest}
use Rattle.cil_semantics.specs.declared.state.Cause.TheVariants.{Caught, Unwinding}
use Rattle.cil_semantics.specs.declared.state.Handling.{Handling}
use Rattle.cil_semantics.specs.declared.state.Frame.{Frame}
use Rattle.cil_semantics.specs.State.{Next, with_stack, lowered, next_object, with_object}
use Rattle.cil_semantics.specs.declared.state.Continuation.{Continuation}
use Rattle.cil_semantics.specs.declared.state.Continuation.TheVariants.{Push, PushObject, PushStruct, ThrowObject, BeginCallee, UseField, TryNext}
use Rattle.cil_semantics.specs.Contracted.{Piece, Plan}
use Rattle.cil_semantics.specs.Frames.{first_place}
use Rattle.cil_semantics.specs.Unwind.{body_of, plan_at, piece_at, place_in, moved_to, next_piece, begin_piece, begin_rest, initialization_failed, Found, NoHandler, CatchHandler, CleanupHandler, search_from, fits_type, caught_type, with_failed, hasnt_begun, ends_frame, drops, no_handler_left, after_entry_piece, land, throws_in, unwind}
use Rattle.cil_semantics.specs.Checks.{AddedNumbers}
use Rattle.machine_laws.specs.Answers.{is_below}
use Rattle.splice_facts.specs.WellFormed.{WellFormedValues, WellFormedWorld}
use Rattle.splice_facts.specs.Input.{is_group, LandsAt}
use Rattle.splice_facts.specs.Layout.{IsHere}
use Rattle.splice_facts.specs.Related.{CauseLeads, Rewritten, ValidFrame, ValidFrames, HeightsBelow, FitsAt, bounds, in_group, count_groups}
use Rattle.simulation.proofs.PushLaws.{fits_moved}
use Rattle.simulation_valid.proofs.HeightLaws.{and_none}
use Rattle.simulation_valid.specs.Keeping.{ReturnsFully, KeepsReturned, AllReturn, StaysValid, ValidPlaces, ValidBelow, Placed, PlacedAt, ValidTail}
use Rattle.simulation_valid.proofs.FrameLaws as Standing
use Rattle.simulation_valid.proofs.FrameLaws.{stands_valid}
use Rattle.simulation_valid.proofs.ArriveValidLaws.{below_same, piece_begins, rest_begins, group_begins}
use Rattle.simulation_valid.proofs.GroupLaws.{clauses_alone, drops_at_entry, FoundHeight, HandlerAt, search_heights}
use Rattle.simulation_valid.proofs.WorldLaws.{object_added, failed_kept, class_typed}

out_of_groups : (at : ProgramPoint) (t : ℕ) → is_group at ≡ false → in_group (moved_to t at) ≡ 0
out_of_groups (LeadIn q) t e = refl
out_of_groups (Rest q) t e = refl
out_of_groups (InGroup gr j q) t e = absurd (cc e)

pub not_in_group : (at : ProgramPoint) → is_group at ≡ false → in_group at ≡ 0
not_in_group (LeadIn q) e = refl
not_in_group (Rest q) e = refl
not_in_group (InGroup gr j q) e = absurd (cc e)

pub no_result_outside : (p : Program) (f : Frame) (at : ProgramPoint) (t : ℕ) → is_group at ≡ false → KeepsReturned p f (moved_to t at)
no_result_outside p f (LeadIn q) t e = tt
no_result_outside p f (Rest q) t e = tt
no_result_outside p f (InGroup gr j q) t e = absurd (cc e)

pub first_outside : (o : Option Plan) → in_group (first_place o) ≡ 0
first_outside None = refl
first_outside (Some c) = refl

module _ (p : Program) (k : Contracts) (ms : List MethodDesc) (g : AddedNumbers) (r : Rewritten p k ms g) where
  abbrev Stays : Next → Type 0
  Stays x = StaysValid p k ms g r x

  abbrev Fits : Group → Option ℕ → Type 0
  Fits gr o = Standing.Fits p k ms g r gr o

  abbrev WellWorld : World → Type 0
  WellWorld w = WellFormedWorld (bounds p k ms g r) w

  -- a frame has the same in its places at another place
  pub places_at : (h : Frame) (at : ProgramPoint) (hs : List Handling) (o : Option ℕ) (fs : List Frame) → ValidPlaces p k ms g r h fs → ValidPlaces p k ms g r (record h { at = at; handling = hs; thrown = o }) fs
  places_at h at hs o fs v = record { old = v.old; wide = v.wide; initializes = v.initializes; captured = v.captured; fine = v.fine; fine_back = v.fine_back; as_named = v.as_named }

  -- and with another stack
  pub restacked : (h : Frame) (s : List Value) (fs : List Frame) → ValidPlaces p k ms g r h fs → WellFormedValues (bounds p k ms g r) s → ValidPlaces p k ms g r (record h { local = with_stack h.local s }) fs
  restacked h s fs v ok =
      record { old = v.old; wide = v.wide; initializes = v.initializes; captured = v.captured; fine = record { args = v.fine.args; locals = v.fine.locals; captured = v.fine.captured; result = v.fine.result; stack = ok }; fine_back = v.fine_back; as_named = v.as_named }

  abbrev pub GoesDown : Continuation → List Frame → Type 0
  GoesDown b fs = (w : World) (x : ℕ) → WellWorld w → w.depth ≡ count_groups fs → w.depth ≤ suc k.settings.guard → Stays (unwind p k (hasnt_begun b) fs w x)

  -- the frame ends with it, and an initializer's exception is kept
  pub ends : (h : Frame) (fs : List Frame) (w : World) (x : ℕ) → GoesDown h.continuation fs → ((t : Ty) → h.initializes ≡ Some t → IsTrue (is_below r.types t)) → WellWorld w → w.depth ≡ count_groups fs → w.depth ≤ suc k.settings.guard
      → Stays (ends_frame p h.initializes h.continuation w x (λ s v y. unwind p k s fs v y))
  ends h fs w x down own ok count deep = by_type h.initializes own
    where
      by_type : (o : Option Ty) → ((t : Ty) → o ≡ Some t → IsTrue (is_below r.types t)) → Stays (ends_frame p o h.continuation w x (λ s v y. unwind p k s fs v y))
      by_type None h1 = down w x ok count deep
      by_type (Some t) h1 = down (with_failed t (next_object w) (with_object p initialization_failed w)) (next_object w) (failed_kept (bounds p k ms g r) t (next_object w) (with_object p initialization_failed w) (h1 t refl) (object_added (bounds p k ms g r) p initialization_failed w (class_typed (bounds p k ms g r) (codes "System.TypeInitializationException"), tt) ok)) count deep

  -- what is known of a frame in which an exception is thrown
  pub record Throwing (h : Frame) (at : ProgramPoint) (hs : List Handling) (q : ℕ) (fs : List Frame) (w : World) : Type 0 where
    pub places : ValidPlaces p k ms g r h fs
    pub below : ValidBelow p k ms g r h fs w
    pub fits : FitsAt Fits at h.thrown
    pub here : IsHere (plan_at k p h.method) at
    pub thrower : is_group at ≡ false → IsHere (plan_at k p h.method) (moved_to q at)
    pub low : is_group at ≡ false → Standing.pending p k ms g r h.method at hs
    pub count : w.depth ≡ in_group at + count_groups fs
    pub deep : w.depth ≤ suc k.settings.guard
    pub down : GoesDown h.continuation fs

  abbrev Below : List Frame → Bool → World → ℕ → Next
  Below fs s v y = unwind p k s fs v y

  -- the height at which a handler begins
  height_there : (h : Frame) (at : ProgramPoint) (t n : ℕ) → is_group at ≡ false → IsHere (plan_at k p h.method) (moved_to t at) → HandlerAt (body_of p h.method).regions t n
      → (plan : Plan) (old : h.method < r.methods) (e : plan_at k p h.method ≡ Some plan) → Some n ≡ (r.heights h.method plan old e).height (moved_to t at)
  height_there h at t n outer there at_row plan old e =
      let hts = r.heights h.method plan old e in
      let here : IsHere (Some plan) (moved_to at_row.row.handler_from at) = subst (λ z. IsHere (Some plan) (moved_to z at)) (sym at_row.begins) (subst (λ o. IsHere o (moved_to t at)) e there) in
      ap (λ (m : ℕ). Some m) (sym at_row.height) ∙ sym (hts.handlers at at_row.row at_row.there outer here) ∙ ap (λ z. hts.height (moved_to z at)) at_row.begins

  pub handler_begins : (h : Frame) (at : ProgramPoint) (s : List Value) (new : Handling) (hs : List Handling) (q t : ℕ) (fs : List Frame) (w : World) → is_group at ≡ false → Throwing h at hs q fs w → IsHere (plan_at k p h.method) (moved_to t at) → new.handler < length (body_of p h.method).regions → IsHere (plan_at k p h.method) (moved_to new.place at) × CauseLeads p k ms g r h.method at new.cause → WellFormedValues (bounds p k ms g r) s → HandlerAt (body_of p h.method).regions t (length s)
      → Stays (Rattle.cil_semantics.specs.Unwind.goes_at p (record h { at = at }) (moved_to t at) (with_stack h.local s) (new ∷ hs) fs w)
  handler_begins h at s new hs q t fs w outer z there lower leads ok row =
      stands_valid p k ms g r (record h { at = at }) (moved_to t at) (with_stack h.local s) (new ∷ hs) fs w
      (record {
        places = restacked (record h { at = at }) s fs (places_at h at h.handling h.thrown fs z.places) ok;
        below = below_same p k ms g r h (record h { at = at }) fs w refl refl z.below;
        fits = fits_moved Fits at t h.thrown z.fits;
        counted = no_result_outside p (record h { at = at; local = with_stack h.local s }) at t outer;
        low = λ e. ((lower, (z.low outer).0), Standing.leads_moved p k ms g r h.method at t (new ∷ hs) outer (leads, (z.low outer).1));
        height = λ plan old e q1. and_none (length s) _ (height_there h at t (length s) outer there row plan old e);
        count = z.count ∙ ap (λ n. n + count_groups fs) (not_in_group at outer ∙ sym (out_of_groups at t outer));
        deep = z.deep;
      })

  lands : (o : Found) (h : Frame) (at : ProgramPoint) (hs : List Handling) (q : ℕ) (fs : List Frame) (w : World) (x : ℕ) → is_group at ≡ false → Throwing h at hs q fs w → LandsAt (plan_at k p h.method) at (length (body_of p h.method).regions) o → FoundHeight (body_of p h.method).regions o
      → Stays (no_handler_left p (plan_at k p h.method) (record h { at = at }) at fs w x (Below fs)) → Stays (land p k o (record h { at = at }) hs q fs w x (Below fs))
  lands NoHandler h at hs q fs w x outer z there height left = left
  lands (CatchHandler i t) h at hs q fs w x outer z there height left = handler_begins h at (Obj x ∷ []) (record { handler = i; cause = Caught x; place = q; next = i + 1 }) hs q t fs w outer z there.0 there.1 (z.thrower outer, tt) (tt, tt) height
  lands (CleanupHandler i t) h at hs q fs w x outer z there height left = handler_begins h at [] (record { handler = i; cause = Unwinding x; place = q; next = i + 1 }) hs q t fs w outer z there.0 there.1 (z.thrower outer, tt) tt height

  pub lowered_below : (h f : Frame) (fs : List Frame) (w : World) → f.method ≡ h.method → f.continuation ≡ h.continuation → ValidBelow p k ms g r h fs w → ValidBelow p k ms g r f fs (lowered w)
  lowered_below h f fs w e q b = let c = below_same p k ms g r h f fs w e q b in record { others = c.others; returning = c.returning; heights = c.heights; world = record { heap = c.world.heap; statics = c.world.statics } }

  -- behind a piece of the entry group
  pub entry_goes_on : (c : Plan) (h : Frame) (j : ℕ) (fs : List Frame) (w : World) → plan_at k p h.method ≡ Some c → ValidPlaces p k ms g r h fs → ValidBelow p k ms g r h fs w → Fits group.Entry h.thrown → w.depth ≡ 1 + count_groups fs → w.depth ≤ suc k.settings.guard → Stays (after_entry_piece p c j h fs w)
  entry_goes_on c h j fs w e places below fits count deep = by_next (next_piece p c group.Entry (j + 1) h fs w)
    where
      by_next : (o : Option (ℕ × Piece)) → Stays (begin_piece p group.Entry o h fs w (begin_rest p c h fs (lowered w)))
      by_next (Some x) = piece_begins p k ms g r h group.Entry x.0 x.1.from (with_stack h.local []) fs w (restacked h [] fs places tt) below fits tt count deep
      by_next None =
          rest_begins p k ms g r c (record h { local = with_stack h.local [] }) fs (lowered w) e
          (record { places = restacked h [] fs places tt; below = lowered_below h (record h { local = with_stack h.local [] }) fs w refl refl below; count = omega (arith, count); deep = omega (arith, deep) }) fits refl

  -- no handler is left
  given_up : (o : Option Plan) (h : Frame) (at : ProgramPoint) (hs : List Handling) (q : ℕ) (fs : List Frame) (w : World) (x : ℕ) → plan_at k p h.method ≡ o → Throwing h at hs q fs w → Stays (no_handler_left p o (record h { at = at }) at fs w x (Below fs))
  given_up None h (LeadIn a) hs q fs w x e z = ends h fs w x z.down z.places.initializes z.below.world (omega (arith, z.count)) z.deep
  given_up None h (Rest a) hs q fs w x e z = ends h fs w x z.down z.places.initializes z.below.world (omega (arith, z.count)) z.deep
  given_up None h (InGroup gr j a) hs q fs w x e z = absurd (subst (λ o. IsHere o (InGroup gr j a)) e z.here)
  given_up (Some c) h (LeadIn a) hs q fs w x e z = ends h fs w x z.down z.places.initializes z.below.world (omega (arith, z.count)) z.deep
  given_up (Some c) h (Rest a) hs q fs w x e z =
      group_begins p k ms g r c group.Throw (record h { at = Rest a; thrown = Some x }) fs w (ends_frame p h.initializes h.continuation w x (Below fs)) e
      (record {
        places = restacked (record h { at = Rest a; thrown = Some x }) [] fs (places_at h (Rest a) h.handling (Some x) fs z.places) tt;
        below = below_same p k ms g r h (record h { at = Rest a; thrown = Some x; local = with_stack h.local [] }) fs w refl refl z.below;
        count = omega (arith, z.count);
        deep = z.deep;
      }) tt (λ j a1. tt)
      (ends h fs w x z.down z.places.initializes z.below.world (omega (arith, z.count)) z.deep)
  given_up (Some c) h (InGroup gr j a) hs q fs w x e z = by_drop (drops (piece_at (Some c) gr j)) refl
    where
      f : Frame
      f = record h { at = InGroup gr j a }

      by_drop : (d : Bool) → drops (piece_at (Some c) gr j) ≡ d → Stays (if d then after_entry_piece p c j f fs w else ends_frame p h.initializes h.continuation (lowered w) x (Below fs))
      by_drop true d =
          entry_goes_on c f j fs w e (places_at h (InGroup gr j a) h.handling h.thrown fs z.places) (below_same p k ms g r h f fs w refl refl z.below) (subst (λ y. Fits y h.thrown) (drops_at_entry c gr j (clauses_alone k p h.method c e) d) z.fits) z.count z.deep
      by_drop false d = ends h fs (lowered w) x z.down z.places.initializes (record { heap = z.below.world.heap; statics = z.below.world.statics }) (omega (arith, z.count)) (omega (arith, z.deep))

  abbrev found_at : Frame → World → ℕ → (skip q : ℕ) → Found
  found_at h w x skip q = search_from (λ token. fits_type p w x (caught_type p h token)) skip 0 q (body_of p h.method).regions

  -- the search in one frame
  pub throws_valid : (h : Frame) (at : ProgramPoint) (hs : List Handling) (skip q : ℕ) (fs : List Frame) (w : World) (x : ℕ) → Throwing h at hs q fs w → Stays (throws_in p k (record h { at = at }) hs skip q fs w x (Below fs))
  throws_valid h (LeadIn a) hs skip q fs w x z =
      lands (found_at h w x skip q) h (LeadIn a) hs q fs w x refl z ((r.input h.method z.places.old).lands (LeadIn a) q skip (λ token. fits_type p w x (caught_type p h token)) z.here (z.thrower refl)) (search_heights (λ token. fits_type p w x (caught_type p h token)) skip 0 q (body_of p h.method).regions)
      (given_up (plan_at k p h.method) h (LeadIn a) hs q fs w x refl z)
  throws_valid h (Rest a) hs skip q fs w x z =
      lands (found_at h w x skip q) h (Rest a) hs q fs w x refl z ((r.input h.method z.places.old).lands (Rest a) q skip (λ token. fits_type p w x (caught_type p h token)) z.here (z.thrower refl)) (search_heights (λ token. fits_type p w x (caught_type p h token)) skip 0 q (body_of p h.method).regions)
      (given_up (plan_at k p h.method) h (Rest a) hs q fs w x refl z)
  throws_valid h (InGroup gr j a) hs skip q fs w x z = given_up (plan_at k p h.method) h (InGroup gr j a) hs q fs w x refl z

  -- ---- all frames

  pub places_of : (h : Frame) (fs : List Frame) → ValidFrame p k ms g r h fs → ReturnsFully p h → ValidPlaces p k ms g r h fs
  places_of h fs v as_named = record { old = v.stands.old; wide = v.stands.wide; initializes = v.stands.initializes; captured = v.captured; fine = v.fine; fine_back = v.fine_back; as_named = as_named }

  pub same_place : (at : ProgramPoint) → moved_to (place_in at) at ≡ at
  same_place (LeadIn q) = refl
  same_place (InGroup gr j q) = refl
  same_place (Rest q) = refl

  -- an exception is thrown in the topmost frame
  pub unwinds_top : (h : Frame) (fs : List Frame) (w : World) (x : ℕ) → IsHere (plan_at k p h.method) h.at → ValidFrame p k ms g r h fs → ReturnsFully p h → ValidFrames p k ms g r fs → AllReturn p fs → HeightsBelow p k ms g r h fs → WellWorld w → w.depth ≡ in_group h.at + count_groups fs → w.depth ≤ suc k.settings.guard → GoesDown h.continuation fs → Stays (unwind p k false (h ∷ fs) w x)
  unfolding unwind
  unwinds_top h fs w x here v as_named others returning heights ok count deep down =
      throws_valid h h.at h.handling 0 (place_in h.at) fs w x
      (record {
        places = places_of h fs v as_named;
        below = record { others = others; returning = returning; heights = heights; world = ok };
        fits = v.stands.fits;
        here = here;
        thrower = λ outer. subst (IsHere (plan_at k p h.method)) (sym (same_place h.at)) here;
        low = λ outer. ((v.current outer).0, v.leads outer);
        count = count;
        deep = deep;
        down = down;
      })

  pub tail_of : (h : Frame) (fs : List Frame) → Placed p k ms g r h.continuation fs → ValidFrames p k ms g r fs → AllReturn p fs → HeightsBelow p k ms g r h fs → ValidTail p k ms g r h.continuation fs
  tail_of h [] a b d c = record { placed = tt; others = tt; returning = tt; heights = tt }
  tail_of h (y ∷ ys) a b d c = record { placed = a; others = b; returning = d; heights = c.1 }

  pub unwinds : (b : Continuation) (fs : List Frame) → ValidTail p k ms g r b fs → GoesDown b fs
  unfolding unwind
  unwinds b [] t w x ok count deep = tt
  unwinds b (h ∷ fs) t w x ok count deep =
      let down : GoesDown h.continuation fs = unwinds h.continuation fs (tail_of h fs t.placed.1 t.others.1 t.returning.2 t.heights) in
      by_back down (λ here. unwinds_top h fs w x here t.others.0 t.returning.0 t.others.1 t.returning.2 t.heights ok count deep down) b t.placed.0
    where
      by_back : GoesDown h.continuation fs → (IsHere (plan_at k p h.method) h.at → Stays (unwind p k false (h ∷ fs) w x)) → (c : Continuation) → PlacedAt p k ms g r c h → Stays (unwind p k (hasnt_begun c) (h ∷ fs) w x)
      by_back down top Push here = top here
      by_back down top (PushObject v) here = top here
      by_back down top PushStruct here = top here
      by_back down top (ThrowObject y) here = top here
      by_back down top (UseField a) here = top here
      by_back down top (TryNext e f l) here = top here
      by_back down top BeginCallee first =
          let out : in_group h.at ≡ 0 = ap in_group first.0 ∙ first_outside (plan_at k p h.method) in
          subst (λ z. Stays (unwind p k z fs w x)) first.1 (down w x ok (omega (arith, count, out)) deep)
