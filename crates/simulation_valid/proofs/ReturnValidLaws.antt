-- What a frame returns goes down, and groups and their pieces end.
use Rattle.std.proofs.Common.{◌≡◌, ℕ, suc, ◌+◌, ◌≤◌, Bool, true, false, List, [], ◌∷◌, ◌++◌, length, Option, Some, None, refl, sym, ap, ◌∙◌, subst, arith}
use Rattle.std.specs.Prelude.{not, if◌then◌else◌, option_map, option_and_then, reverse}
use Rattle.cil_model.specs.declared.ty.Ty.{Ty}
use Rattle.cil_model.specs.declared.value.Value.{Value, out-Value}
use Rattle.cil_model.specs.declared.contract.Contracts.{Contracts}
use Rattle.cil_model.specs.declared.contract.Group.{Group}
use Rattle.cil_model.specs.declared.contract.Group.TheVariants as group
use Rattle.cil_model.specs.declared.program.Program.{Program}
use Rattle.cil_model.specs.declared.program.MethodDesc.{MethodDesc}
use Rattle.il_opcodes.specs.declared.class.Storage.{Storage}
use Rattle.il_opcodes.specs.declared.class.Storage.TheVariants.{Truncated, Long, NativeInt, Reference, Address, Fields, Opaque, Anything, Void}
use Rattle.cil_semantics.proofs.FrameLaws.{reverse_cons}
use Rattle.cil_semantics.specs.Words.{maybe, same_bool}
use Rattle.cil_semantics.specs.Places.{storage, is_void, stored_in}
use Rattle.cil_semantics.specs.Acts.{flag, truth}
use Rattle.cil_semantics.specs.declared.state.Cell.{Cell}
use Rattle.cil_semantics.specs.declared.state.World.{World}
use Rattle.cil_semantics.specs.declared.state.ProgramPoint.{ProgramPoint}
use Rattle.cil_semantics.specs.declared.state.ProgramPoint.TheVariants.{LeadIn, InGroup, Rest}
use Rattle.cil_semantics.specs.declared.state.Frame.{Frame}
use Rattle.cil_semantics.specs.declared.state.Remaining.{Remaining}
use Rattle.cil_semantics.specs.declared.state.Continuation.{Continuation}
use Rattle.cil_semantics.specs.declared.state.Continuation.TheVariants.{Push, PushObject, PushStruct, ThrowObject, BeginCallee, UseField, TryNext}
use Rattle.cil_semantics.specs.State.{Next, with_stack, with_local, lowered}
use Rattle.cil_semantics.specs.Contracted.{Piece, Plan}
use Rattle.cil_semantics.specs.Unwind.{plan_at, next_piece, begin_piece, ends_frame, unwind}
use Rattle.cil_semantics.specs.Frames.{if_there, next_try}
use Rattle.cil_semantics.specs.Returns.{push_below, last_cell, try_next, tried, return_with, return_to, begin_invariants, group_over, piece_over, kept_as, result_type, returned, return_from}
use Rattle.cil_semantics.specs.Checks.{AddedNumbers}
use Rattle.splice_facts.specs.WellFormed.{Bounds, WellFormedValue, WellFormedValues, WellFormedCells, WellFormedIf}
use Rattle.splice_facts.specs.Input.{top_of, result_count}
use Rattle.splice_facts.specs.Related.{Rewritten, ValidFrames, HeightsBelow, HasHeight, FitsAt, bounds, in_group, count_groups}
use Rattle.splice_facts.specs.Related as Pairs
use Rattle.splice_facts.specs.Layout.{IsHere}
use Rattle.splice_facts.proofs.StoreLaws.{returned_stays}
use Rattle.simulation_valid.specs.Keeping.{StructThere, KeepsReturned, StaysValid, ValidPlaces, ValidBelow, Placed, Returnable}
use Rattle.simulation_valid.proofs.FrameLaws as Standing
use Rattle.simulation_valid.proofs.FrameLaws.{same_below}
use Rattle.simulation_valid.proofs.ArriveValidLaws.{MayBegin, below_same, piece_begins, rest_begins, group_begins}
use Rattle.simulation_valid.proofs.UnwindValidLaws.{unwinds, ends, tail_of, restacked, places_of, lowered_below}
use Rattle.simulation_valid.proofs.PushValidLaws.{pushes_valid, top_of_given}
use Rattle.simulation_valid.proofs.ChangeLaws.{kept_fine}
use Rattle.simulation_valid.proofs.EnterValidLaws.{begins_valid, one_more_cell}
use Rattle.simulation_valid.proofs.MoveValidLaws.{uses_static_valid}
use Rattle.simulation_valid.proofs.DelegateValidLaws.{delegate_enters, tried_fine}
use Rattle.simulation_valid.specs.Steps.{NextHeight, MayPush, MayEnter, MayReturn}

-- ---- the struct behind the arguments

reversed_fine : (b : Bounds) (cs : List Cell) → WellFormedCells b cs → WellFormedCells b (reverse cs)
reversed_fine b [] h = tt
reversed_fine b (c ∷ cs) h = subst (WellFormedCells b) (sym (reverse_cons c cs)) (one_more_cell b (reverse cs) c (reversed_fine b cs h.1) h.0)

abbrev IsThere : Bounds → Option Value → Type 0
IsThere b None = ⊥
IsThere b (Some v) = WellFormedValue b v

not_empty : {X : Type 0} (xs : List X) (x : X) → xs ++ x ∷ [] ≡ [] → ⊥
not_empty [] x e = cc e
not_empty (y ∷ ys) x e = cc e

last_there : (b : Bounds) (cs : List Cell) → WellFormedCells b cs → StructThere PushStruct cs → IsThere b (last_cell cs)
last_there b [] h s = absurd s
last_there b (c ∷ cs) h s = by_list (reverse (c ∷ cs)) refl (reversed_fine b (c ∷ cs) h)
  where
    by_list : (ys : List Cell) → reverse (c ∷ cs) ≡ ys → WellFormedCells b ys → IsThere b (last_cell (c ∷ cs))
    by_list [] e fine = absurd (not_empty (reverse cs) c (sym (reverse_cons c cs) ∙ e))
    by_list (y ∷ rest) e fine = rw e fine.0

-- ---- what is returned

record Kept (b : Bounds) (v : Option Value) (n : ℕ) : Type 0 where
  pub many : length (top_of v) ≡ n
  pub fine : WellFormedIf b v

from_stored : (b : Bounds) (p : Program) (t : Ty) (x : Value) (v : Option Value) → WellFormedValue b x → option_map Some (stored_in p t x) ≡ Some v → Kept b v 1
from_stored b p t x v fine e = by_stored (stored_in p t x) refl e
  where
    by_stored : (o : Option Value) → stored_in p t x ≡ o → option_map Some o ≡ Some v → Kept b v 1
    by_stored None q y = absurd (cc y)
    by_stored (Some a) q y = let z : Some a ≡ v = cc y in subst (λ o. Kept b o 1) z (record { many = refl; fine = kept_fine b p t x a fine q })

kept_count : (b : Bounds) (p : Program) (t : Ty) (h : Storage) (s : List Value) (v : Option Value) → WellFormedValues b s → kept_as p t h s ≡ Some v → Kept b v (if is_void h then 0 else 1)
kept_count b p t Void s v fine e = let q : None ≡ v = cc e in subst (λ o. Kept b o 0) q (record { many = refl; fine = tt })
kept_count b p t (Truncated n z) [] v fine e = absurd (cc e)
kept_count b p t (Truncated n z) (x ∷ xs) v fine e = from_stored b p t x v fine.0 e
kept_count b p t Long [] v fine e = absurd (cc e)
kept_count b p t Long (x ∷ xs) v fine e = from_stored b p t x v fine.0 e
kept_count b p t NativeInt [] v fine e = absurd (cc e)
kept_count b p t NativeInt (x ∷ xs) v fine e = from_stored b p t x v fine.0 e
kept_count b p t Reference [] v fine e = absurd (cc e)
kept_count b p t Reference (x ∷ xs) v fine e = from_stored b p t x v fine.0 e
kept_count b p t Address [] v fine e = absurd (cc e)
kept_count b p t Address (x ∷ xs) v fine e = from_stored b p t x v fine.0 e
kept_count b p t (Fields n) [] v fine e = absurd (cc e)
kept_count b p t (Fields n) (x ∷ xs) v fine e = from_stored b p t x v fine.0 e
kept_count b p t Opaque [] v fine e = absurd (cc e)
kept_count b p t Opaque (x ∷ xs) v fine e = from_stored b p t x v fine.0 e
kept_count b p t Anything [] v fine e = absurd (cc e)
kept_count b p t Anything (x ∷ xs) v fine e = from_stored b p t x v fine.0 e

counted_group : (p : Program) (gr : Group) (f : Frame) (j q j2 q2 : ℕ) → KeepsReturned p f (InGroup gr j q) → KeepsReturned p (record f { local = with_stack f.local [] }) (InGroup gr j2 q2)
counted_group p group.Entry f j q j2 q2 h = tt
counted_group p group.Exit f j q j2 q2 h = h
counted_group p group.Throw f j q j2 q2 h = tt
counted_group p group.Invariant f j q j2 q2 h = h
counted_group p group.Inline f j q j2 q2 h = tt

module _ (p : Program) (k : Contracts) (ms : List MethodDesc) (g : AddedNumbers) (r : Rewritten p k ms g) where
  abbrev Stays : Next → Type 0
  Stays x = StaysValid p k ms g r x

  abbrev Fits : Group → Option ℕ → Type 0
  Fits gr o = Standing.Fits p k ms g r gr o

  abbrev Bs : Bounds
  Bs = bounds p k ms g r

  pub given_of : (m : ℕ) (b : Continuation) (fs : List Frame) (w : World) → MayReturn p k ms g r m b fs w → MayPush p k ms g r fs w
  given_of m b fs w a = record { others = a.tail.others; returning = a.tail.returning; heights = a.tail.heights; world = a.world; count = a.count; deep = a.deep }

  height_of : (m : ℕ) (b : Continuation) (f : Frame) (fs : List Frame) (w : World) → MayReturn p k ms g r m b (f ∷ fs) w → HasHeight p k ms g r f (Pairs.goes_on_at p k ms g r b f.at) (Pairs.pushes p k ms g r m b)
  height_of m b f fs w a = (a.waiting (record f { method = m; continuation = b }) refl refl).0

  next_push : (m : ℕ) (fs : List Frame) (w : World) → MayReturn p k ms g r m Push fs w → NextHeight p k ms g r (result_count p m) fs
  next_push m [] w a = tt
  next_push m (f ∷ fs) w a = height_of m Push f fs w a

  next_object : (m x : ℕ) (v : Value) (fs : List Frame) (w : World) → MayReturn p k ms g r m (PushObject v) fs w → NextHeight p k ms g r 1 fs
  next_object m x v [] w a = tt
  next_object m x v (f ∷ fs) w a = height_of m (PushObject v) f fs w a

  next_struct : (m : ℕ) (fs : List Frame) (w : World) → MayReturn p k ms g r m PushStruct fs w → NextHeight p k ms g r 1 fs
  next_struct m [] w a = tt
  next_struct m (f ∷ fs) w a = height_of m PushStruct f fs w a

  next_tried : (m : ℕ) (e : Bool) (t : Value) (l : Remaining) (fs : List Frame) (w : World) → MayReturn p k ms g r m (TryNext e t l) fs w → NextHeight p k ms g r 1 fs
  next_tried m e t l [] w a = tt
  next_tried m e t l (f ∷ fs) w a = height_of m (TryNext e t l) f fs w a

  flag_fine : (b : Bool) → WellFormedValue Bs (flag b)
  flag_fine true = tt
  flag_fine false = tt

  struct_goes : (m : ℕ) (o : Option Value) (fs : List Frame) (w : World) → IsThere Bs o → MayReturn p k ms g r m PushStruct fs w → Stays (push_below p k o fs w)
  struct_goes m None fs w h a = absurd h
  struct_goes m (Some v) fs w h a = pushes_valid p k ms g r (Some v) fs w (given_of m PushStruct fs w a) h (next_struct m fs w a)

  -- the frames that wait for ForAll or Exists wait on
  waits_on : (e : Bool) (t : Value) (l l2 : Remaining) (m n : ℕ) (fs : List Frame) (w : World) → MayReturn p k ms g r m (TryNext e t l) fs w → WellFormedValue Bs t → MayEnter p k ms g r (TryNext e t l2) n fs w
  waits_on e t l l2 m n [] w a ft = record { tail = record { placed = tt; others = tt; returning = tt; heights = tt }; begun = refl; waiting = λ f c d. tt; world = a.world; fine_back = ft; count = a.count; deep = a.deep }
  waits_on e t l l2 m n (f ∷ fs) w a ft =
      record {
        tail = record { placed = a.tail.placed; others = a.tail.others; returning = a.tail.returning; heights = a.tail.heights };
        begun = refl;
        waiting = λ h c d. (subst (λ b. HasHeight p k ms g r f (Pairs.goes_on_at p k ms g r b f.at) (Pairs.pushes p k ms g r h.method b)) (sym c) (height_of m (TryNext e t l) f fs w a), a.tail.heights);
        world = a.world;
        fine_back = ft;
        count = a.count;
        deep = a.deep;
      }

  -- ForAll and Exists try what is left, or tell their answer
  pub tries_valid : (e : Bool) (t : Value) (o : Option (Value × Remaining)) (l : Remaining) (m : ℕ) (fs : List Frame) (w : World) → ((x : Value × Remaining) → o ≡ Some x → WellFormedValue Bs x.0) → WellFormedValue Bs t → MayReturn p k ms g r m (TryNext e t l) fs w → Stays (try_next p k e t o fs w)
  tries_valid e t None l m fs w fx ft a = pushes_valid p k ms g r (Some (flag (not e))) fs w (given_of m (TryNext e t l) fs w a) (flag_fine (not e)) (next_tried m e t l fs w a)
  tries_valid e t (Some x) l m fs w fx ft a = delegate_enters p k ms g r true (out-Value t) (x.0 ∷ []) (TryNext e t x.1) fs w a.world (fx x refl, tt) (λ cells. tt) (λ n q. waits_on e t l x.1 m n fs w a ft)

  answers : (e : Bool) (t : Value) (l : Remaining) (o : Option Bool) (m : ℕ) (fs : List Frame) (w : World) → MayReturn p k ms g r m (TryNext e t l) fs w → Stays (tried p k e t l o fs w)
  answers e t l None m fs w a = tt
  answers e t l (Some c) m fs w a = by_test (same_bool e c)
    where
      by_test : (d : Bool) → Stays (if d then push_below p k (Some (flag e)) fs w else try_next p k e t (next_try w l) fs w)
      by_test true = pushes_valid p k ms g r (Some (flag e)) fs w (given_of m (TryNext e t l) fs w a) (flag_fine e) (next_tried m e t l fs w a)
      by_test false = tries_valid e t (next_try w l) l m fs w (λ x q. tried_fine p k ms g r w l x a.world q) a.fine_back a

  -- a value goes down
  pub returns_valid : (b : Continuation) (m : ℕ) (args : List Cell) (v : Option Value) (fs : List Frame) (w : World) → MayReturn p k ms g r m b fs w → WellFormedIf Bs v → WellFormedCells Bs args → StructThere b args → length (top_of v) ≡ result_count p m → Stays (return_with p k b args v fs w)
  returns_valid Push m args v fs w a fv fa there many = pushes_valid p k ms g r v fs w (given_of m Push fs w a) fv (subst (λ n. NextHeight p k ms g r n fs) (sym many) (next_push m fs w a))
  returns_valid (PushObject x) m args v fs w a fv fa there many = pushes_valid p k ms g r (Some x) fs w (given_of m (PushObject x) fs w a) a.fine_back (next_object m 0 x fs w a)
  returns_valid PushStruct m args v fs w a fv fa there many = struct_goes m (last_cell args) fs w (last_there Bs args fa there) a
  returns_valid (ThrowObject x) m args v fs w a fv fa there many = unwinds p k ms g r (ThrowObject x) fs a.tail w x a.world a.count a.deep
  returns_valid BeginCallee m args v [] w a fv fa there many = tt
  returns_valid BeginCallee m args v (f ∷ fs) w a fv fa there many = begins_valid p k ms g r f fs w (top_of_given p k ms g r f fs w (given_of m BeginCallee (f ∷ fs) w a)) (height_of m BeginCallee f fs w a)
  returns_valid (UseField c) m args v [] w a fv fa there many = tt
  returns_valid (UseField c) m args v (f ∷ fs) w a fv fa there many =
      let top = top_of_given p k ms g r f fs w (given_of m (UseField c) (f ∷ fs) w a) in
      uses_static_valid p k ms g r c f f.local fs w top (record { places = places_of p k ms g r f fs top.frame top.as_named; same = refl; height = height_of m (UseField c) f fs w a }) a.fine_back
  returns_valid (TryNext e t l) m args v fs w a fv fa there many = answers e t l (option_and_then truth v) m fs w a

  -- ---- groups end

  -- a frame whose group is over, with the depth as it is then
  pub record AtEnd (h : Frame) (fs : List Frame) (w : World) : Type 0 where
    pub places : ValidPlaces p k ms g r h fs
    pub below : ValidBelow p k ms g r h fs w
    pub placed : Placed p k ms g r h.continuation fs
    pub count : w.depth ≡ count_groups fs
    pub deep : w.depth ≤ suc k.settings.guard

  pub awaited_by : (h : Frame) (fs : List Frame) (w : World) → AtEnd h fs w → MayReturn p k ms g r h.method h.continuation fs w
  awaited_by h fs w a =
      record {
        tail = tail_of p k ms g r h fs a.placed a.below.others a.below.returning a.below.heights;
        waiting = λ f c d. same_below p k ms g r h f fs d c a.below.heights;
        world = a.below.world;
        fine_back = a.places.fine_back;
        count = a.count;
        deep = a.deep;
      }

  pub frame_returns : (h : Frame) (fs : List Frame) (w : World) → AtEnd h fs w → length (top_of h.local.result) ≡ result_count p h.method → Stays (return_to p k h fs w)
  unfolding return_to
  frame_returns h fs w a many = returns_valid h.continuation h.method h.local.args h.local.result fs w (awaited_by h fs w a) a.places.fine.result a.places.fine.args a.places.as_named.1 many

  none_thrown : (gr : Group) (o : Option ℕ) → Fits group.Exit o → (gr ≡ group.Throw → ⊥) → Fits gr o
  none_thrown group.Entry None f n = tt
  none_thrown group.Exit None f n = tt
  none_thrown group.Throw o f n = absurd (n refl)
  none_thrown group.Invariant None f n = tt
  none_thrown group.Inline None f n = tt
  none_thrown gr (Some x) f n = absurd f

  emptied : (h : Frame) (fs : List Frame) (w : World) → AtEnd h fs w → MayBegin p k ms g r (record h { local = with_stack h.local [] }) fs w
  emptied h fs w a = record { places = restacked p k ms g r h [] fs a.places tt; below = below_same p k ms g r h (record h { local = with_stack h.local [] }) fs w refl refl a.below; count = a.count; deep = a.deep }

  invariants_begin : (c : Plan) (h : Frame) (fs : List Frame) (w : World) → plan_at k p h.method ≡ Some c → AtEnd h fs w → Fits group.Invariant h.thrown → Returnable p h → Stays (begin_invariants p k c h fs w)
  invariants_begin c h fs w e a fits many = group_begins p k ms g r c group.Invariant h fs w (return_to p k h fs w) e (emptied h fs w a) fits (λ j q. many) (frame_returns h fs w a many.0)

  pub groups_end : (c : Plan) (gr : Group) (h : Frame) (fs : List Frame) (w : World) (j q : ℕ) → plan_at k p h.method ≡ Some c → AtEnd h fs w → Fits gr h.thrown → KeepsReturned p h (InGroup gr j q) → Stays (group_over p k c gr h fs w)
  groups_end c group.Entry h fs w j q e a fits many = rest_begins p k ms g r c (record h { local = with_stack h.local [] }) fs w e (emptied h fs w a) fits refl
  groups_end c group.Exit h fs w j q e a fits many = invariants_begin c h fs w e a (none_thrown group.Invariant h.thrown fits (λ z. cc z)) many
  groups_end c group.Invariant h fs w j q e a fits many = frame_returns h fs w a many.0
  groups_end c group.Throw h fs w j q e a fits many = by_thrown h.thrown
    where
      by_thrown : (o : Option ℕ) → Stays (maybe (Rattle.cil_semantics.specs.Frames.stuck w) (λ x. ends_frame p h.initializes h.continuation w x (λ s v y. unwind p k s fs v y)) o)
      by_thrown None = tt
      by_thrown (Some x) = ends p k ms g r h fs w x (unwinds p k ms g r h.continuation fs (awaited_by h fs w a).tail) a.places.initializes a.below.world a.count a.deep
  groups_end c group.Inline h fs w j q e a fits many = tt

  lowered_end : (h : Frame) (fs : List Frame) (w : World) → ValidPlaces p k ms g r h fs → ValidBelow p k ms g r h fs w → Placed p k ms g r h.continuation fs → w.depth ≡ 1 + count_groups fs → w.depth ≤ suc k.settings.guard → AtEnd h fs (lowered w)
  lowered_end h fs w places below placed count deep =
      record { places = places; below = lowered_below p k ms g r h h fs w refl refl below; placed = placed; count = omega (arith, count); deep = omega (arith, deep) }

  -- behind a piece the next one begins, or the group is over
  pub pieces_end : (c : Plan) (gr : Group) (j q : ℕ) (h : Frame) (fs : List Frame) (w : World) → plan_at k p h.method ≡ Some c → ValidPlaces p k ms g r h fs → ValidBelow p k ms g r h fs w → Placed p k ms g r h.continuation fs → w.depth ≡ 1 + count_groups fs → w.depth ≤ suc k.settings.guard → Fits gr h.thrown → KeepsReturned p h (InGroup gr j q) → Stays (piece_over p k c gr j h fs w)
  pieces_end c gr j q h fs w e places below placed count deep fits many = by_next (next_piece p c gr (j + 1) h fs w)
    where
      by_next : (o : Option (ℕ × Piece)) → Stays (begin_piece p gr o h fs w (group_over p k c gr h fs (lowered w)))
      by_next None = groups_end c gr h fs (lowered w) j q e (lowered_end h fs w places below placed count deep) fits many
      by_next (Some x) = piece_begins p k ms g r h gr x.0 x.1.from (with_stack h.local []) fs w (restacked p k ms g r h [] fs places tt) below fits (counted_group p gr h j q x.0 x.1.from many) count deep

  -- ---- ret

  with_result : (h : Frame) (v : Option Value) (fs : List Frame) (w : World) → AtEnd h fs w → WellFormedIf Bs v → AtEnd (with_local (record h.local { result = v }) h) fs w
  with_result h v fs w a fv =
      record {
        places = record { old = a.places.old; wide = a.places.wide; initializes = a.places.initializes; captured = a.places.captured; fine = record { args = a.places.fine.args; locals = a.places.fine.locals; captured = a.places.fine.captured; result = fv; stack = a.places.fine.stack }; fine_back = a.places.fine_back; as_named = a.places.as_named };
        below = below_same p k ms g r h (with_local (record h.local { result = v }) h) fs w refl refl a.below;
        placed = a.placed;
        count = a.count;
        deep = a.deep;
      }

  pub rets_valid : (h : Frame) (at : ProgramPoint) (fs : List Frame) (w : World) → ValidPlaces p k ms g r h fs → ValidBelow p k ms g r h fs w → Placed p k ms g r h.continuation fs → w.depth ≡ in_group at + count_groups fs → w.depth ≤ suc k.settings.guard → FitsAt Fits at h.thrown → IsHere (plan_at k p h.method) at
      → Stays (if_there (returned p h h.local.stack) w (λ v. return_from p k (plan_at k p h.method) at (with_local (record h.local { result = v }) h) fs w))
  rets_valid h at fs w places below placed count deep fits here = by_value (returned p h h.local.stack) refl
    where
      ended : in_group at ≡ 0 → AtEnd h fs w
      ended z = record { places = places; below = below; placed = placed; count = omega (arith, count, z); deep = deep }

      from : (o : Option Plan) (to : ProgramPoint) (v : Option Value) → plan_at k p h.method ≡ o → IsHere o to → (in_group to ≡ 0 → AtEnd (with_local (record h.local { result = v }) h) fs w) → FitsAt Fits to h.thrown → Returnable p (with_local (record h.local { result = v }) h) → w.depth ≡ in_group to + count_groups fs → Stays (return_from p k o to (with_local (record h.local { result = v }) h) fs w)
      from None (LeadIn q) v e hr a ft many ct = frame_returns (with_local (record h.local { result = v }) h) fs w (a refl) many.0
      from None (Rest q) v e hr a ft many ct = frame_returns (with_local (record h.local { result = v }) h) fs w (a refl) many.0
      from None (InGroup gr j q) v e hr a ft many ct = absurd hr
      from (Some c) (LeadIn q) v e hr a ft many ct = frame_returns (with_local (record h.local { result = v }) h) fs w (a refl) many.0
      from (Some c) (InGroup gr j q) v e hr a ft many ct = tt
      from (Some c) (Rest q) v e hr a ft many ct =
          group_begins p k ms g r c group.Exit (with_local (record h.local { result = v }) h) fs w (begin_invariants p k c (with_local (record h.local { result = v }) h) fs w) e (emptied (with_local (record h.local { result = v }) h) fs w (a refl)) (none_thrown group.Exit h.thrown ft (λ z. cc z)) (λ j q1. many)
          (invariants_begin c (with_local (record h.local { result = v }) h) fs w e (a refl) (none_thrown group.Invariant h.thrown ft (λ z. cc z)) many)

      by_value : (o : Option (Option Value)) → returned p h h.local.stack ≡ o → Stays (if_there o w (λ v. return_from p k (plan_at k p h.method) at (with_local (record h.local { result = v }) h) fs w))
      by_value None e = tt
      by_value (Some v) e =
          let kept = kept_count Bs p (result_type p h) (storage p (result_type p h)) h.local.stack v places.fine.stack e in
          let many : length (top_of v) ≡ result_count p h.method = kept.many ∙ ap (λ (c : Bool). if c then 0 else 1) places.as_named.0 in
          from (plan_at k p h.method) at v refl here (λ z. with_result h v fs w (ended z) kept.fine) fits (many, returned_stays p h h.local.stack v e) count
