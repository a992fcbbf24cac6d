-- Arriving at places, groups, and exceptions that go down the frames.
use Rattle.std.proofs.Common.{◌≡◌, ℕ, zero, suc, ◌+◌, ◌<◌, List, [], ◌∷◌, ◌++◌, length, Option, Some, None, refl, sym, ap, ◌∙◌, subst, inl}
use Rattle.std.specs.Prelude.{Bool, true, false, ◌==◌, if◌then◌else◌, slice_get, option_map, option_and_then}
use Rattle.cil_base.specs.declared.token.Token.{Token}
use Rattle.cil_model.specs.declared.ty.Ty.{Ty, Known}
use Rattle.cil_model.specs.declared.ty.Ty as types
use Rattle.cil_model.specs.declared.value.Value.{Obj}
use Rattle.cil_model.specs.declared.body.Body.{Body}
use Rattle.cil_model.specs.declared.body.Region.{Region}
use Rattle.cil_model.specs.declared.body.RegionKind.{RegionKind}
use Rattle.cil_model.specs.declared.body.RegionKind.TheVariants as region
use Rattle.cil_model.specs.declared.contract.Contracts.{Contracts}
use Rattle.cil_model.specs.declared.contract.Group.{Group}
use Rattle.cil_model.specs.declared.contract.Group.TheVariants as group
use Rattle.cil_model.specs.declared.contract.TyRef.{TyRef}
use Rattle.cil_model.specs.declared.program.Meaning.{Meaning}
use Rattle.cil_model.specs.declared.program.Program.{Program}
use Rattle.cil_model.specs.declared.run.Outcome.TheVariants as outcome
use Rattle.cil_semantics.specs.Words.{maybe}
use Rattle.cil_semantics.specs.Types.{under}
use Rattle.cil_semantics.specs.Core.{Name, class_named}
use Rattle.cil_semantics.specs.Lookups.{method_of, is_sub}
use Rattle.cil_semantics.specs.declared.state.Object.{Object}
use Rattle.cil_semantics.specs.declared.state.World.{World}
use Rattle.cil_semantics.specs.declared.state.Local.{Local}
use Rattle.cil_semantics.specs.declared.state.Handling.{Handling}
use Rattle.cil_semantics.specs.declared.state.Cause.{Cause}
use Rattle.cil_semantics.specs.declared.state.Cause.TheVariants.{Caught, Unwinding, Leaving}
use Rattle.cil_semantics.specs.declared.state.Frame.{Frame}
use Rattle.cil_semantics.specs.declared.state.Statics.{Statics}
use Rattle.cil_semantics.specs.declared.state.ProgramPoint.{ProgramPoint}
use Rattle.cil_semantics.specs.declared.state.ProgramPoint.TheVariants.{LeadIn, InGroup, Rest}
use Rattle.cil_semantics.specs.declared.state.Continuation.{Continuation}
use Rattle.cil_semantics.specs.State.{Next, Running, Ended, with_local, with_stack, raised, lowered, object_at, next_object, counted, with_object}
use Rattle.cil_semantics.specs.Places.{Storage}
use Rattle.cil_semantics.specs.Tokens.{Here, meaning_of, as_type, ref_type}
use Rattle.cil_semantics.specs.Contracted.{Piece, Plan, pieces, runs_at}
use Rattle.cil_semantics.specs.Acts.{ty_name}
use Rattle.cil_semantics.specs.Unwind.{Found, NoHandler, CatchHandler, CleanupHandler, Below, body_of, plan_at, piece_at, here_of, moved_to, place_in, handled_at, in_try, goes_at, object_type, fits_type, caught_type, takes_part, first_from, next_piece, begin_piece, begin_group, go_to_rest, begin_rest, begin_first, begin_entry, arrive_in, arrive, after_entry_piece, with_failed, initialization_failed, found_in, search_from, searched, hasnt_begun, ends_frame, drops, no_handler_left, land, throws_in, thrown_name, unwind, raise, left_from, leave_through, leave, resume_cause, resume}
use Rattle.machine_laws.specs.Answers.{Each, is_below}
use Rattle.machine_laws.proofs.AnswerLaws.{each_on}
use Rattle.machine_laws.proofs.FindLaws.{each_append}
use Rattle.grown_runs.specs.Grown.{GrowsAround, StaysUnmeant, CaughtUnmeant, KeepsRefIf, IsHeld}
use Rattle.grown_runs.specs.Looks.{LooksAlike, HeldHeap}
use Rattle.grown_runs.proofs.AlikeLaws.{maybe_on, HeldWorld, HeldNext, held_at, Pair, Alike, there, perhaps, choose, given}
use Rattle.grown_runs.proofs.PlanLaws.{KeepsPiece, KeepsPlan, KeepsPlanIf, group_kept, body_same, plan_same, plan_kept}

-- each frame runs a method of the input
abbrev pub OwnFrames : Program → List Frame → Type 0
OwnFrames p0 fs = Each (λ (f : Frame). f.method < length p0.methods) fs

-- a class outside is of a type that a run may hold
pub class_held : (p0 : Program) (e : ℕ) (name : Name) → IsHeld p0 e (class_named name)
unfolding types.out-Ty denote.Hole.Carrier.out
class_held p0 e name = inl refl

pub object_held : (p0 : Program) (e : ℕ) (q : Program) (o : Object) (w : World) → IsHeld p0 e o.ty → HeldWorld p0 e w → HeldWorld p0 e (with_object q o w)
object_held p0 e q o w t h = each_append (λ (x : Object). IsHeld p0 e x.ty) w.heap (o ∷ []) h (t, tt)

module _ (catches other : Token → Bool) where
  abbrev AgreeOn : RegionKind → Type 0
  AgreeOn (region.Catch token) = catches token ≡ other token
  AgreeOn _ = Unit {0}

  found_same : (r : Region) (i : ℕ) (c : RegionKind) → AgreeOn c → found_in catches r i c ≡ found_in other r i c
  found_same r i (region.Catch token) h = ap (λ (b : Bool). if b then Some (CatchHandler i r.handler_from) else None) h
  found_same r i (region.Filter place) h = refl
  found_same r i region.Finally h = refl
  found_same r i region.Fault h = refl

  search_same : (skip i q : ℕ) (rs : List Region) → Each (λ (r : Region). AgreeOn r.kind) rs → search_from catches skip i q rs ≡ search_from other skip i q rs
  search_same skip i q [] h = refl
  search_same zero i q (r ∷ rs) h =
      ap (λ (f : Found). if in_try r q then maybe f (λ x. x) (found_in catches r i r.kind) else f) (search_same zero (i + 1) q rs h.1)
      ∙ ap (λ (o : Option Found). if in_try r q then maybe (search_from other zero (i + 1) q rs) (λ x. x) o else search_from other zero (i + 1) q rs) (found_same r i r.kind h.0)
  search_same (suc n) i q (r ∷ rs) h = search_same n (i + 1) q rs h.1

first_same : (test other : Piece → Bool) (skip n : ℕ) (xs : List Piece) → Each (λ x. test x ≡ other x) xs → first_from test skip n xs ≡ first_from other skip n xs
first_same test other skip n [] h = refl
first_same test other zero n (x ∷ xs) h =
    ap (λ (b : Bool). if b then Some (n, x) else first_from test zero (n + 1) xs) h.0
    ∙ ap (λ (o : Option (ℕ × Piece)). if other x then Some (n, x) else o) (first_same test other zero (n + 1) xs h.1)
first_same test other (suc skip) n (x ∷ xs) h = first_same test other skip (n + 1) xs h.1

module _ (p0 p : Program) (k : Contracts) (e : ℕ) (h : GrowsAround p0 p k e) (l : LooksAlike p0 p e) where
  abbrev A : (Program → Next) → Type 0
  A F = Alike p0 p e F

  abbrev Held : World → Type 0
  Held w = HeldWorld p0 e w

  abbrev IsOwn : ℕ → Type 0
  IsOwn m = m < length p0.methods

  -- ---- exceptions' types

  pub fits_same : (w : World) (x : ℕ) (o : Option Ty) → Held w → fits_type p w x o ≡ fits_type p0 w x o
  fits_same w x None held = refl
  fits_same w x (Some t) held = by_object (object_at w x) refl
    where
      by_object : (o : Option Object) → object_at w x ≡ o → maybe false (λ u. is_sub p u t) (option_map (λ (o : Object). o.ty) o) ≡ maybe false (λ u. is_sub p0 u t) (option_map (λ (o : Object). o.ty) o)
      by_object None q = refl
      by_object (Some o) q = l.subs o.ty t (held_at p0 e w x o held q)

  exception_same : (here : Here) (o : Option TyRef) → KeepsRefIf p0 p o → option_and_then (ref_type p here) o ≡ option_and_then (ref_type p0 here) o
  exception_same here None q = refl
  exception_same here (Some r) q = l.refs here r q

  pub piece_exception_same : (here : Here) (x : Piece) → KeepsPiece p0 p x → option_and_then (ref_type p here) x.clause.exception ≡ option_and_then (ref_type p0 here) x.clause.exception
  piece_exception_same here x q = exception_same here x.clause.exception q.exception

  takes_same : (f : Frame) (fs : List Frame) (w : World) (x : Piece) → Held w → KeepsPiece p0 p x → takes_part p f fs w x ≡ takes_part p0 f fs w x
  takes_same f fs w x held q =
      maybe_on true (λ y. fits_type p w y (option_and_then (ref_type p (here_of f fs)) x.clause.exception)) (λ y. fits_type p0 w y (option_and_then (ref_type p0 (here_of f fs)) x.clause.exception)) f.thrown
      (λ y r. fits_same w y (option_and_then (ref_type p (here_of f fs)) x.clause.exception) held ∙ ap (fits_type p0 w y) (piece_exception_same (here_of f fs) x q))

  pub next_same : (plan : Plan) (gr : Group) (i : ℕ) (f : Frame) (fs : List Frame) (w : World) → KeepsPlan p0 p plan → Held w → next_piece p plan gr i f fs w ≡ next_piece p0 plan gr i f fs w
  next_same plan gr i f fs w kept held =
      first_same (takes_part p f fs w) (takes_part p0 f fs w) i 0 (pieces plan gr)
      (each_on (KeepsPiece p0 p) (λ x. takes_part p f fs w x ≡ takes_part p0 f fs w x) (pieces plan gr) (λ x q. takes_same f fs w x held q) (group_kept p0 p plan gr kept))

  -- ---- places

  pub goes_same : (f : Frame) (at : ProgramPoint) (v : Local) (hs : List Handling) (fs : List Frame) (w : World) → IsOwn f.method → Held w → A (λ q. goes_at q f at v hs fs w)
  goes_same f at v hs fs w own held =
      (ap (λ (b : Body). Running (record { frames = record f { local = v; at = at; handling = handled_at b.regions at hs } ∷ fs; world = w })) (body_same p0 p k e h l f.method own), held)

  pub begins_piece : (gr : Group) (o : Option (ℕ × Piece)) (f : Frame) (fs : List Frame) (w : World) (over : Program → Next) → IsOwn f.method → Held w → A over → A (λ q. begin_piece q gr o f fs w (over q))
  begins_piece gr None f fs w over own held a = a
  begins_piece gr (Some x) f fs w over own held a = goes_same f (InGroup gr x.0 x.1.from) (with_stack f.local []) [] fs w own held

  pub begins_group : (plan : Plan) (gr : Group) (f : Frame) (fs : List Frame) (w : World) (over : Program → Next) → IsOwn f.method → KeepsPlan p0 p plan → Held w → A over → A (λ q. begin_group q plan gr f fs w (over q))
  begins_group plan gr f fs w over own kept held a =
      choose p0 p e (λ q. runs_at plan gr w.depth) (λ q. begin_piece q gr (next_piece q plan gr 0 f fs w) f fs (raised w) (over q)) over refl
      (λ t. given p0 p e (λ q. next_piece q plan gr 0 f fs w) (λ q o. begin_piece q gr o f fs (raised w) (over q)) (next_same plan gr 0 f fs w kept held) (begins_piece gr (next_piece p plan gr 0 f fs w) f fs (raised w) over own held a)) (λ t. a)

  pub rests : (plan : Plan) (f : Frame) (fs : List Frame) (w : World) → IsOwn f.method → Held w → A (λ q. go_to_rest q plan f fs w)
  rests plan f fs w own held = goes_same f (Rest plan.effective.rest_from) f.local [] fs w own held

  pub begins_rest : (plan : Plan) (f : Frame) (fs : List Frame) (w : World) → IsOwn f.method → Held w → A (λ q. begin_rest q plan f fs w)
  begins_rest plan f fs w own held = rests plan (with_local (with_stack f.local []) f) fs w own held

  begins_first : (plan : Plan) (o : Option (ℕ × Piece)) (f : Frame) (fs : List Frame) (w : World) → IsOwn f.method → Held w → A (λ q. begin_first q plan o f fs w)
  begins_first plan None f fs w own held = rests plan f fs w own held
  begins_first plan (Some x) f fs w own held = goes_same f (InGroup group.Entry x.0 x.1.from) f.local [] fs (raised w) own held

  begins_entry : (plan : Plan) (f : Frame) (fs : List Frame) (w : World) → IsOwn f.method → KeepsPlan p0 p plan → Held w → A (λ q. begin_entry q plan f fs w)
  begins_entry plan f fs w own kept held =
      choose p0 p e (λ q. runs_at plan group.Entry w.depth) (λ q. begin_first q plan (next_piece q plan group.Entry 0 f fs w) f fs w) (λ q. go_to_rest q plan f fs w) refl
      (λ t. given p0 p e (λ q. next_piece q plan group.Entry 0 f fs w) (λ q o. begin_first q plan o f fs w) (next_same plan group.Entry 0 f fs w kept held) (begins_first plan (next_piece p plan group.Entry 0 f fs w) f fs w own held))
      (λ t. rests plan f fs w own held)

  pub arrives_in : (plan : Option Plan) (f : Frame) (at : ProgramPoint) (v : Local) (hs : List Handling) (fs : List Frame) (w : World) → IsOwn f.method → KeepsPlanIf p0 p plan → Held w → A (λ q. arrive_in q plan f at v hs fs w)
  arrives_in None f at v hs fs w own kept held = goes_same f at v hs fs w own held
  arrives_in (Some plan) f (LeadIn n) v hs fs w own kept held =
      choose p0 p e (λ q. n == plan.effective.lead_end) (λ q. begin_entry q plan (with_local v f) fs w) (λ q. goes_at q f (LeadIn n) v hs fs w) refl
      (λ t. begins_entry plan (with_local v f) fs w own kept held) (λ t. goes_same f (LeadIn n) v hs fs w own held)
  arrives_in (Some plan) f (InGroup gr i n) v hs fs w own kept held = goes_same f (InGroup gr i n) v [] fs w own held
  arrives_in (Some plan) f (Rest n) v hs fs w own kept held = goes_same f (Rest n) v hs fs w own held

  -- where the plan of a method of the input stands
  pub with_plan : (m : ℕ) (F : Program → Option Plan → Next) → IsOwn m → (KeepsPlanIf p0 p (plan_at k p m) → A (λ q. F q (plan_at k p m))) → A (λ q. F q (plan_at k q m))
  with_plan m F own a = given p0 p e (λ q. plan_at k q m) F (plan_same p0 p k e h l m own) (a (plan_kept p0 p k e h l m own))

  pub arrives : (f : Frame) (at : ProgramPoint) (v : Local) (fs : List Frame) (w : World) → IsOwn f.method → Held w → A (λ q. arrive q k f at v fs w)
  arrives f at v fs w own held = with_plan f.method (λ q o. arrive_in q o f at v f.handling fs w) own (λ kept. arrives_in (plan_at k p f.method) f at v f.handling fs w own kept held)

  pub after_piece : (plan : Plan) (i : ℕ) (f : Frame) (fs : List Frame) (w : World) → IsOwn f.method → KeepsPlan p0 p plan → Held w → A (λ q. after_entry_piece q plan i f fs w)
  after_piece plan i f fs w own kept held =
      given p0 p e (λ q. next_piece q plan group.Entry (i + 1) f fs w) (λ q o. begin_piece q group.Entry o f fs w (begin_rest q plan f fs (lowered w))) (next_same plan group.Entry (i + 1) f fs w kept held)
      (begins_piece group.Entry (next_piece p plan group.Entry (i + 1) f fs w) f fs w (λ q. begin_rest q plan f fs (lowered w)) own held (begins_rest plan f fs (lowered w) own held))

  -- ---- exceptions

  caught_same : (f : Frame) (w : World) (x : ℕ) (token : Token) → IsOwn f.method → Held w → StaysUnmeant p0 p (method_of p0 f.method).assembly token → fits_type p w x (caught_type p f token) ≡ fits_type p0 w x (caught_type p0 f token)
  caught_same f w x token own held q =
      fits_same w x (caught_type p f token) held
      ∙ ap (λ a. fits_type p0 w x (option_map (under f.type_args f.method_args) (as_type (meaning_of p a token)))) (h.tables.extends.methods f.method own).assembly
      ∙ ap (λ (o : Option Meaning). fits_type p0 w x (option_map (under f.type_args f.method_args) (as_type o))) (l.meanings (method_of p0 f.method).assembly token q)

  catch_agrees : (f : Frame) (w : World) (x : ℕ) (c : RegionKind) → IsOwn f.method → Held w → CaughtUnmeant p0 p (method_of p0 f.method).assembly c → AgreeOn (λ t. fits_type p w x (caught_type p f t)) (λ t. fits_type p0 w x (caught_type p0 f t)) c
  catch_agrees f w x (region.Catch token) own held q = caught_same f w x token own held q
  catch_agrees f w x (region.Filter place) own held q = tt
  catch_agrees f w x region.Finally own held q = tt
  catch_agrees f w x region.Fault own held q = tt

  found_alike : (f : Frame) (w : World) (x skip n : ℕ) → IsOwn f.method → Held w → search_from (λ t. fits_type p w x (caught_type p f t)) skip 0 n (body_of p f.method).regions ≡ search_from (λ t. fits_type p0 w x (caught_type p0 f t)) skip 0 n (body_of p0 f.method).regions
  found_alike f w x skip n own held =
      ap (λ (b : Body). search_from (λ t. fits_type p w x (caught_type p f t)) skip 0 n b.regions) (body_same p0 p k e h l f.method own)
      ∙ search_same (λ t. fits_type p w x (caught_type p f t)) (λ t. fits_type p0 w x (caught_type p0 f t)) skip 0 n (body_of p0 f.method).regions
      (each_on (λ (r : Region). CaughtUnmeant p0 p (method_of p0 f.method).assembly r.kind) (λ (r : Region). AgreeOn (λ t. fits_type p w x (caught_type p f t)) (λ t. fits_type p0 w x (caught_type p0 f t)) r.kind) (body_of p0 f.method).regions (λ r c. catch_agrees f w x r.kind own held c) (h.code.bodies f.method own).regions)

  searched_same : (f : Frame) (w : World) (x skip n : ℕ) (at : ProgramPoint) → IsOwn f.method → Held w → searched p f w x skip n at ≡ searched p0 f w x skip n at
  searched_same f w x skip n (LeadIn i) own held = found_alike f w x skip n own held
  searched_same f w x skip n (InGroup gr j i) own held = refl
  searched_same f w x skip n (Rest i) own held = found_alike f w x skip n own held

  -- what goes on below
  abbrev pub BelowAlike : (Program → Below) → Type 0
  BelowAlike below = (skip : Bool) (v : World) (y : ℕ) → Held v → A (λ q. below q skip v y)

  failed_held : (q : Program) (t : Ty) (y : ℕ) (w : World) → Held w → Held (with_failed t y (with_object q initialization_failed w))
  failed_held q t y w held = object_held p0 e q initialization_failed w (class_held p0 e _) held

  pub size_same : (o : Object) (w : World) → with_object p o w ≡ with_object p0 o w
  size_same o w = ap (λ (s : Storage). record w { heap = w.heap ++ o ∷ []; cells = w.cells + (1 + counted s o.cells) }) (l.storages o.ty)

  -- a world with one more object
  pub with_new : (o : Object) (w : World) (F : Program → World → Next) → IsHeld p0 e o.ty → Held w → ((v : World) → v ≡ with_object p o w → Held v → A (λ q. F q v)) → A (λ q. F q (with_object q o w))
  with_new o w F t held a = given p0 p e (λ q. with_object q o w) F (size_same o w) (a (with_object p o w) refl (object_held p0 e p o w t held))

  pub frame_ends : (o : Option Ty) (back : Continuation) (w : World) (x : ℕ) (below : Program → Below) → Held w → BelowAlike below → A (λ q. ends_frame q o back w x (below q))
  frame_ends None back w x below held a = a (hasnt_begun back) w x held
  frame_ends (Some t) back w x below held a =
      with_new initialization_failed w (λ q v. below q (hasnt_begun back) (with_failed t (next_object w) v) (next_object w)) (class_held p0 e _) held
      (λ v same okay. a (hasnt_begun back) (with_failed t (next_object w) v) (next_object w) okay)

  none_left : (plan : Option Plan) (f : Frame) (at : ProgramPoint) (fs : List Frame) (w : World) (x : ℕ) (below : Program → Below) → IsOwn f.method → KeepsPlanIf p0 p plan → Held w → BelowAlike below → A (λ q. no_handler_left q plan f at fs w x (below q))
  none_left None f at fs w x below own kept held a = frame_ends f.initializes f.continuation w x below held a
  none_left (Some plan) f (LeadIn n) fs w x below own kept held a = frame_ends f.initializes f.continuation w x below held a
  none_left (Some plan) f (InGroup gr i n) fs w x below own kept held a =
      choose p0 p e (λ q. drops (piece_at (Some plan) gr i)) (λ q. after_entry_piece q plan i f fs w) (λ q. ends_frame q f.initializes f.continuation (lowered w) x (below q)) refl
      (λ t. after_piece plan i f fs w own kept held) (λ t. frame_ends f.initializes f.continuation (lowered w) x below held a)
  none_left (Some plan) f (Rest n) fs w x below own kept held a =
      begins_group plan group.Throw (record f { thrown = Some x }) fs w (λ q. ends_frame q f.initializes f.continuation w x (below q)) own kept held (frame_ends f.initializes f.continuation w x below held a)

  lands : (o : Found) (f : Frame) (hs : List Handling) (n : ℕ) (fs : List Frame) (w : World) (x : ℕ) (below : Program → Below) → IsOwn f.method → Held w → BelowAlike below → A (λ q. land q k o f hs n fs w x (below q))
  lands NoHandler f hs n fs w x below own held a = with_plan f.method (λ q o. no_handler_left q o f f.at fs w x (below q)) own (λ kept. none_left (plan_at k p f.method) f f.at fs w x below own kept held a)
  lands (CatchHandler i t) f hs n fs w x below own held a = goes_same f (moved_to t f.at) (with_stack f.local (Obj x ∷ [])) (record { handler = i; cause = Caught x; place = n; next = i + 1 } ∷ hs) fs w own held
  lands (CleanupHandler i t) f hs n fs w x below own held a = goes_same f (moved_to t f.at) (with_stack f.local []) (record { handler = i; cause = Unwinding x; place = n; next = i + 1 } ∷ hs) fs w own held

  throws : (f : Frame) (hs : List Handling) (skip n : ℕ) (fs : List Frame) (w : World) (x : ℕ) (below : Program → Below) → IsOwn f.method → Held w → BelowAlike below → A (λ q. throws_in q k f hs skip n fs w x (below q))
  throws f hs skip n fs w x below own held a =
      given p0 p e (λ q. searched q f w x skip n f.at) (λ q o. land q k o f hs n fs w x (below q)) (searched_same f w x skip n f.at own held) (lands (searched p f w x skip n f.at) f hs n fs w x below own held a)

  name_same : (w : World) (x : ℕ) → Held w → thrown_name p w x ≡ thrown_name p0 w x
  name_same w x held = by_object (object_at w x) refl
    where
      by_object : (o : Option Object) → object_at w x ≡ o → maybe [] (ty_name p) (option_map (λ (o : Object). o.ty) o) ≡ maybe [] (ty_name p0) (option_map (λ (o : Object). o.ty) o)
      by_object None q = refl
      by_object (Some o) q = l.names o.ty (held_at p0 e w x o held q)

  pub unwinds : (skip : Bool) (fs : List Frame) (w : World) (x : ℕ) → OwnFrames p0 fs → Held w → A (λ q. unwind q k skip fs w x)
  unfolding unwind
  unwinds skip [] w x own held = (ap (λ n. Ended (outcome.Thrown x n) w) (name_same w x held), tt)
  unwinds true (f ∷ fs) w x own held = unwinds false fs w x own.1 held
  unwinds false (f ∷ fs) w x own held = throws f f.handling 0 (place_in f.at) fs w x (λ q skip v y. unwind q k skip fs v y) own.0 held (λ skip v y okay. unwinds skip fs v y own.1 okay)

  pub raises : (name : Name) (fs : List Frame) (w : World) → OwnFrames p0 fs → Held w → A (λ q. raise q k name fs w)
  raises name fs w own held =
      with_new (record { ty = class_named name; cells = [] }) w (λ q v. unwind q k false fs v (next_object w)) (class_held p0 e name) held (λ v same okay. unwinds false fs v (next_object w) own okay)

  -- ---- leave, endfinally

  left_through : (o : Option (ℕ × Region)) (f : Frame) (hs : List Handling) (n t : ℕ) (fs : List Frame) (w : World) → IsOwn f.method → Held w → A (λ q. leave_through q k o f hs n t fs w)
  left_through None f hs n t fs w own held =
      with_plan f.method (λ q o. arrive_in q o f (moved_to t f.at) (with_stack f.local []) hs fs w) own (λ kept. arrives_in (plan_at k p f.method) f (moved_to t f.at) (with_stack f.local []) hs fs w own kept held)
  left_through (Some x) f hs n t fs w own held = goes_same f (moved_to x.1.handler_from f.at) (with_stack f.local []) (record { handler = x.0; cause = Leaving t; place = n; next = x.0 + 1 } ∷ hs) fs w own held

  pub leaves : (skip n t : ℕ) (f : Frame) (hs : List Handling) (fs : List Frame) (w : World) → IsOwn f.method → Held w → A (λ q. leave q k skip n t f hs fs w)
  leaves skip n t f hs fs w own held =
      given p0 p e (λ q. left_from skip 0 n t (body_of q f.method).regions) (λ q o. leave_through q k o f hs n t fs w) (ap (λ (b : Body). left_from skip 0 n t b.regions) (body_same p0 p k e h l f.method own))
      (left_through (left_from skip 0 n t (body_of p f.method).regions) f hs n t fs w own held)

  resumes_cause : (x : Handling) (c : Cause) (hs : List Handling) (f : Frame) (fs : List Frame) (w : World) → IsOwn f.method → OwnFrames p0 fs → Held w → A (λ q. resume_cause q k x c hs f fs w)
  resumes_cause x (Caught y) hs f fs w own others held = (refl, tt)
  resumes_cause x (Unwinding y) hs f fs w own others held = throws f hs x.next x.place fs w y (λ q skip v z. unwind q k skip fs v z) own held (λ skip v z okay. unwinds skip fs v z others okay)
  resumes_cause x (Leaving t) hs f fs w own others held = leaves x.next x.place t f hs fs w own held

  pub resumes : (hs : List Handling) (f : Frame) (fs : List Frame) (w : World) → IsOwn f.method → OwnFrames p0 fs → Held w → A (λ q. resume q k hs f fs w)
  resumes [] f fs w own others held = (refl, tt)
  resumes (x ∷ hs) f fs w own others held = resumes_cause x x.cause hs f fs w own others held
