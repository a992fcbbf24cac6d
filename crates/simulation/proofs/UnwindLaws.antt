-- An exception goes down the frames of both runs.
use Rattle.std.proofs.Common.{◌≡◌, ℕ, suc, ◌+◌, ◌-◌, ◌*◌, ◌<◌, ◌≤◌, Bool, true, false, List, [], ◌∷◌, length, Option, Some, None, refl, sym, ap, ◌∙◌, subst, arith}
use Rattle.std.specs.Prelude.{option_map, if◌then◌else◌, IsTrue}
use Rattle.cil_base.specs.declared.token.Token.{Token}
use Rattle.cil_model.specs.declared.ty.Ty.{Ty}
use Rattle.cil_model.specs.declared.value.Value.{Obj}
use Rattle.cil_model.specs.declared.contract.Contracts.{Contracts}
use Rattle.cil_model.specs.declared.contract.Group.{Group}
use Rattle.cil_model.specs.declared.contract.Group.TheVariants as group
use Rattle.cil_model.specs.declared.program.Program.{Program}
use Rattle.cil_model.specs.declared.program.MethodDesc.{MethodDesc}
use Rattle.cil_model.specs.NoContracts.{no_contracts}
use Rattle.cil_semantics.specs.Words.{maybe}
use Rattle.cil_semantics.specs.Types.{same_ty}
use Rattle.cil_semantics.specs.Places.{storage}
use Rattle.cil_semantics.specs.Tokens.{as_type, meaning_of}
use Rattle.cil_semantics.specs.declared.state.Cell.{Cell}
use Rattle.cil_semantics.specs.declared.state.Init.TheVariants.{Failed}
use Rattle.cil_semantics.specs.declared.state.World.{World}
use Rattle.cil_semantics.specs.declared.state.Statics.{Statics}
use Rattle.cil_semantics.specs.declared.state.Local.{Local}
use Rattle.cil_semantics.specs.declared.state.ProgramPoint.{ProgramPoint}
use Rattle.cil_semantics.specs.declared.state.ProgramPoint.TheVariants.{LeadIn, InGroup, Rest}
use Rattle.cil_semantics.specs.declared.state.Cause.{Cause}
use Rattle.cil_semantics.specs.declared.state.Cause.TheVariants.{Caught, Unwinding}
use Rattle.cil_semantics.specs.declared.state.Handling.{Handling}
use Rattle.cil_semantics.specs.declared.state.Frame.{Frame}
use Rattle.cil_semantics.specs.State.{Next, with_stack, with_local, raised, lowered, with_object, next_object}
use Rattle.cil_semantics.specs.declared.state.Continuation.{Continuation}
use Rattle.cil_semantics.specs.declared.state.Continuation.TheVariants.{BeginCallee, PushObject, ThrowObject}
use Rattle.cil_semantics.specs.Contracted.{Piece, Plan, runs_at, pieces}
use Rattle.cil_semantics.specs.Unwind.{body_of, plan_at, piece_at, here_of, place_in, moved_to, goes_at, next_piece, begin_piece, begin_group, begin_rest, set_statics, find_statics, with_failed, initialization_failed, Found, NoHandler, CatchHandler, CleanupHandler, search_from, searched, fits_type, caught_type, hasnt_begun, ends_frame, drops, no_handler_left, after_entry_piece, land, throws_in, thrown_name, unwind}
use Rattle.cil_semantics.specs.Checks.{AddedNumbers}
use Rattle.machine_laws.specs.Same.{most_clauses}
use Rattle.splice_facts.specs.Bodies.{with_methods}
use Rattle.splice_facts.specs.Grown.{beside}
use Rattle.splice_facts.specs.Comes.{Comes, Goes, Answers}
use Rattle.machine_laws.specs.Answers.{is_below}
use Rattle.splice_facts.specs.Layout.{Marks, Keeps, IsHere, CanArrive}
use Rattle.splice_facts.specs.Spliced.{Beside, twin, stands, Arrives, OpensAt, ContinuesAt, Paired, Spliced, Groups, FitsGroup, leaves_with, moved_found, is_guarded, cost, opening_cost, wrapper_cost}
use Rattle.splice_facts.specs.Exceptions.{IsObject, FailureThere}
use Rattle.splice_facts.proofs.ExceptionLaws.{more_failures, set_failures, new_object, longer, is_exception}
use Rattle.splice_facts.specs.Input.{is_group, LandsAt}
use Rattle.splice_facts.specs.Related.{Rewritten, HandlingPair, HandlingPairs, Waits, FramePair, Under, Frames, Related, laid_by, ValidFrame, ValidFrames, count_groups, in_group}
use Rattle.splice_facts.specs.Related as Pairs
use Rattle.simulation.proofs.ProgramLaws.{fun_ext, sub_same}
use Rattle.splice_facts.proofs.StaticLaws.{find_other, input, find_input, set_input, same_below}
use Rattle.splice_facts.proofs.ComesLaws.{no_plan, reaches_by, reaches_within, reaches_at_once, found_piece, answers_by, answers_within}
use Rattle.simulation.proofs.ArriveLaws as Arriving
use Rattle.simulation.proofs.ArriveLaws.{pick_true, pick_false, group_begins, groups_of, arrives_here, goes_here, rest_here}

pub found_owner : (t : Ty) (ss : List Statics) (s : Statics) → find_statics t ss ≡ Some s → same_ty s.owner t ≡ true
found_owner t [] s e = absurd (cc e)
found_owner t (x ∷ xs) s e = by_test (same_ty x.owner t) refl e (found_owner t xs s)
  where
    by_test : (c : Bool) → same_ty x.owner t ≡ c → (if c then Some x else find_statics t xs) ≡ Some s → (find_statics t xs ≡ Some s → same_ty s.owner t ≡ true) → same_ty s.owner t ≡ true
    by_test true q h ih = let z : x ≡ s = cc h in ap (λ (y : Statics). same_ty y.owner t) (sym z) ∙ q
    by_test false q h ih = ih h

-- pairs of handlers serve each place of the same part
abbrev pub is_no_group : ProgramPoint → Type 0
is_no_group (LeadIn q) = Unit {0}
is_no_group (InGroup gr j q) = ⊥
is_no_group (Rest q) = Unit {0}

pub moved_pairs : (plan : Option Plan) (m : Marks) (rows : ℕ) (at : ProgramPoint) (t : ℕ) (hs hs' : List Handling) → is_no_group at → HandlingPairs plan m rows at hs hs' → HandlingPairs plan m rows (moved_to t at) hs hs'
moved_pairs plan m rows at t [] [] ok x = tt
moved_pairs plan m rows at t [] (h' ∷ hs') ok x = absurd x
moved_pairs plan m rows at t (h ∷ hs) [] ok x = absurd x
moved_pairs plan m rows (LeadIn q) t (h ∷ hs) (h' ∷ hs') ok x =
    (record { handler = x.0.handler; next = x.0.next; cause = x.0.cause; here = x.0.here; belongs = x.0.belongs; leads = leads_so h.cause x.0.leads; low = x.0.low; behind = x.0.behind }, moved_pairs plan m rows (LeadIn q) t hs hs' ok x.1)
  where
    leads_so : (c : Cause) → Pairs.LeadsTo plan (LeadIn q) c → Pairs.LeadsTo plan (LeadIn t) c
    leads_so (Caught y) l = tt
    leads_so (Unwinding y) l = tt
    leads_so (Rattle.cil_semantics.specs.declared.state.Cause.TheVariants.Leaving y) l = l
moved_pairs plan m rows (Rest q) t (h ∷ hs) (h' ∷ hs') ok x =
    (record { handler = x.0.handler; next = x.0.next; cause = x.0.cause; here = x.0.here; belongs = x.0.belongs; leads = leads_so h.cause x.0.leads; low = x.0.low; behind = x.0.behind }, moved_pairs plan m rows (Rest q) t hs hs' ok x.1)
  where
    leads_so : (c : Cause) → Pairs.LeadsTo plan (Rest q) c → Pairs.LeadsTo plan (Rest t) c
    leads_so (Caught y) l = tt
    leads_so (Unwinding y) l = tt
    leads_so (Rattle.cil_semantics.specs.declared.state.Cause.TheVariants.Leaving y) l = l
moved_pairs plan m rows (InGroup gr j q) t (h ∷ hs) (h' ∷ hs') ok x = absurd ok

module _ (p : Program) (k : Contracts) (ms : List MethodDesc) (g : AddedNumbers) (r : Rewritten p k ms g) where
  abbrev pub p' : Program
  p' = with_methods p ms

  abbrev pub To : ℕ → Next → Next → Type 0
  To n x y = Arriving.To p k ms g r n x y

  abbrev pub lay : ℕ → ℕ
  lay n = 18 * (1 + most_clauses k p 0 p.methods) * n

  abbrev pub cst : ℕ
  cst = cost k p

  abbrev pub plan : ℕ → Option Plan
  plan m = plan_at k p m

  abbrev pub mk : ℕ → Marks
  mk m = r.marks m

  abbrev pub rows : ℕ → ℕ
  rows m = length (body_of p m).regions

  abbrev pub IsBeside : World → List Statics → Type 0
  IsBeside w ss = Beside p k p' g r.types r.depths w ss

  abbrev pub tw : Frame → Local → List Cell → ℕ → List Handling → Continuation → Frame
  tw h l ex q hs b = twin p k p' g r.types r.depths h l ex q hs b

  abbrev pub below : Continuation → Continuation → List Frame → List Frame → Type 0
  below b b' fs fs' = Under p k ms g r b b' fs fs'

  abbrev pub Fits : Group → Option ℕ → Type 0
  Fits gr o = FitsGroup p k p' g r.types r.depths gr o

  abbrev pub out_of : Frame → Continuation → List Frame → World → List Statics → ℕ → Next
  out_of h b fs' w ss x = leaves_with p k p' g r.types r.depths h b fs' w ss x

  abbrev pub valid : List Frame → Type 0
  valid fs = Pairs.AllStand p k ms g r fs

  -- ---- statics

  pub set_beside : (t : Ty) (s s' : Statics) (w : World) (ss : List Statics) → s' ≡ s → is_below r.types t ≡ true → is_below r.types s.owner ≡ true → FailureThere (length w.heap) s.init → IsBeside w ss → IsBeside (record w { statics = set_statics (same_ty t) s w.statics }) (set_statics (same_ty t) s' ss)
  set_beside t s s' w ss e a b kept bes =
      record {
        statics = ap (λ z. input r.types (set_statics (same_ty t) z ss)) e ∙ set_input r.types t s ss a b ∙ ap (set_statics (same_ty t) s) bes.statics ∙ sym (set_input r.types t s w.statics a b);
        depth = subst (Rattle.splice_facts.specs.Layout.HasDepth w.depth) (sym (find_other r.types r.depths.owner r.depths.appended t s' ss a (ap (λ (z : Statics). is_below r.types z.owner) e ∙ b))) bes.depth;
        bare = find_other r.types g.exception r.depths.exception t s' ss a (ap (λ (z : Statics). is_below r.types z.owner) e ∙ b) ∙ bes.bare;
        failures = set_failures (length w.heap) (same_ty t) s w.statics kept bes.failures;
      }

  pub find_beside : (t : Ty) (w : World) (ss : List Statics) → is_below r.types t ≡ true → IsBeside w ss → find_statics t ss ≡ find_statics t w.statics
  find_beside t w ss a bes = find_input r.types t ss a ∙ ap (find_statics t) bes.statics ∙ sym (find_input r.types t w.statics a)

  abbrev failed_of : Ty → ℕ → Option Statics → Statics
  failed_of t y o = maybe (record { owner = t; init = Some (Failed y); cells = [] }) (λ (s : Statics). record s { init = Some (Failed y) }) o

  failed_owner : (t : Ty) (y : ℕ) (o : Option Statics) → ((s : Statics) → o ≡ Some s → same_ty s.owner t ≡ true) → is_below r.types t ≡ true → is_below r.types (failed_of t y o).owner ≡ true
  failed_owner t y None h a = a
  failed_owner t y (Some s) h a = same_below r.types s.owner t (h s refl) ∙ a

  failed_kept : (t : Ty) (n y : ℕ) (o : Option Statics) → IsObject n y → FailureThere n (failed_of t y o).init
  failed_kept t n y None there = there
  failed_kept t n y (Some s) there = there

  failed_beside : (t : Ty) (y : ℕ) (w : World) (ss : List Statics) → is_below r.types t ≡ true → IsObject (length w.heap) y → IsBeside w ss → IsBeside (with_failed t y w) (set_statics (same_ty t) (failed_of t y (find_statics t ss)) ss)
  failed_beside t y w ss a there bes =
      set_beside t (failed_of t y (find_statics t w.statics)) (failed_of t y (find_statics t ss)) w ss (ap (failed_of t y) (find_beside t w ss a bes)) a (failed_owner t y (find_statics t w.statics) (found_owner t w.statics) a) (failed_kept t (length w.heap) y (find_statics t w.statics) there) bes

  -- ---- down the frames

  -- an exception goes down from here in both runs
  abbrev pub Goes_down : Continuation → Continuation → List Frame → List Frame → Type 0
  Goes_down b b' fs fs' =
      (w : World) (ss : List Statics) (x : ℕ) → IsBeside w ss → IsObject (length w.heap) x → w.depth ≡ count_groups fs → w.depth ≤ suc k.settings.guard → To (2 * cst + lay (length fs)) (unwind p k (hasnt_begun b) fs w x) (unwind p' no_contracts (hasnt_begun b') fs' (beside ss w) x)

  -- the frame ends with it, and an initializer's exception is kept
  pub ends_so : (h : Frame) (b : Continuation) (fs fs' : List Frame) (w : World) (ss : List Statics) (x : ℕ) → Goes_down h.continuation b fs fs' → ((t : Ty) → h.initializes ≡ Some t → IsTrue (is_below r.types t)) → IsBeside w ss → IsObject (length w.heap) x → w.depth ≡ count_groups fs → w.depth ≤ suc k.settings.guard
      → To (2 * cst + lay (length fs)) (ends_frame p h.initializes h.continuation w x (λ s v y. unwind p k s fs v y)) (out_of h b fs' w ss x)
  unfolding storage
  ends_so h b fs fs' w ss x down own bes there count deep = by_type h.initializes own
    where
      by_type : (o : Option Ty) → ((t : Ty) → o ≡ Some t → IsTrue (is_below r.types t)) → To (2 * cst + lay (length fs)) (ends_frame p o h.continuation w x (λ s v y. unwind p k s fs v y)) (ends_frame p' o b (beside ss w) x (λ s v y. unwind p' no_contracts s fs' v y))
      by_type None h1 = down w ss x bes there count deep
      by_type (Some t) h1 =
          down (with_failed t (next_object w) (with_object p initialization_failed w)) (set_statics (same_ty t) (failed_of t (next_object w) (find_statics t ss)) ss) (next_object w)
          (failed_beside t (next_object w) (with_object p initialization_failed w) ss (h1 t refl) (new_object w.heap initialization_failed)
          (record { statics = bes.statics; depth = bes.depth; bare = bes.bare; failures = more_failures (length w.heap) (length (with_object p initialization_failed w).heap) w.statics (longer w.heap initialization_failed) bes.failures }))
          (new_object w.heap initialization_failed) count deep

  -- what fits is the same in both programs
  fits_same : (h : Frame) (w : World) (ss : List Statics) (x : ℕ) (l : Local) (ex : List Cell) (q : ℕ) (hs : List Handling) (b : Continuation) (token : Token) → fits_type p' (beside ss w) x (caught_type p' (tw h l ex q hs b) token) ≡ fits_type p w x (caught_type p h token)
  unfolding meaning_of
  fits_same h w ss x l ex q hs b token = ap (fits_type p' (beside ss w) x) same_caught ∙ by_type (caught_type p h token)
    where
      same_caught : caught_type p' (tw h l ex q hs b) token ≡ caught_type p h token
      same_caught = ap (λ a. option_map (Rattle.cil_semantics.specs.Types.under h.type_args h.method_args) (as_type (meaning_of p a token))) ((r.same_methods h.method).assembly)

      by_type : (o : Option Ty) → fits_type p' (beside ss w) x o ≡ fits_type p w x o
      by_type None = refl
      by_type (Some t) = ap (λ go. maybe false go (Rattle.cil_semantics.specs.Unwind.object_type w x)) (fun_ext (λ u. sub_same p ms u t))

  -- ---- the search of one frame

  no_pieces : (xs : List Piece) → Rattle.splice_facts.specs.Spliced.has_any p k p' g r.types r.depths xs ≡ false → xs ≡ []
  no_pieces [] e = refl
  no_pieces (x ∷ xs) e = absurd (cc e)

  -- where the old table has nothing, and no clause on exceptions is kept, the frame ends
  nowhere_plain : (h : Frame) (l : Local) (ex : List Cell) (q0 : ℕ) (hs0 hs' : List Handling) (q' : ℕ) (b : Continuation) (fs' : List Frame) (w : World) (ss : List Statics) (x : ℕ) → land p' no_contracts NoHandler (tw h l ex q0 hs0 b) hs' q' fs' (beside ss w) x (λ s v y. unwind p' no_contracts s fs' v y) ≡ out_of h b fs' w ss x
  nowhere_plain h l ex q0 hs0 hs' q' b fs' w ss x = ap (λ o. no_handler_left p' o (tw h l ex q0 hs0 b) (Rest q0) fs' (beside ss w) x (λ s v y. unwind p' no_contracts s fs' v y)) (no_plan p' h.method)

  pub lows : (m : ℕ) (at : ProgramPoint) (hs hs' : List Handling) → HandlingPairs (plan m) (mk m) (rows m) at hs hs' → Rattle.splice_facts.specs.Spliced.AreLow p k p' g r.types r.depths m hs'
  lows m at [] [] x = tt
  lows m at [] (h' ∷ hs') x = absurd x
  lows m at (h ∷ hs) [] x = absurd x
  lows m at (h ∷ hs) (h' ∷ hs') x = (subst (λ j. j < rows m) (sym (x.0).handler) (x.0).low, lows m at hs hs' x.1)

  -- the group of EnsuresOnThrow begins, or the exception goes on
  throw_group : (c : Plan) (h : Frame) (l : Local) (ex : List Cell) (b : Continuation) (fs fs' : List Frame) (w : World) (ss : List Statics) (x : ℕ) → l.stack ≡ [] → Rattle.splice_facts.specs.Spliced.has_any p k p' g r.types r.depths (pieces c group.Throw) ≡ true → plan h.method ≡ Some c → h.method < r.methods → Keeps (mk h.method) (here_of h fs) (Some x) l ex → IsBeside w ss → IsObject (length w.heap) x → length fs' ≡ length fs → w.depth ≤ suc k.settings.guard → w.depth ≡ count_groups fs → below h.continuation b fs fs' → Goes_down h.continuation b fs fs' → ((t : Ty) → h.initializes ≡ Some t → IsTrue (is_below r.types t))
      → To (opening_cost k p group.Throw + lay (suc (length fs))) (begin_group p c group.Throw (with_local l (record h { thrown = Some x })) fs w (ends_frame p h.initializes h.continuation w x (λ s v y. unwind p k s fs v y))) (stands p k p' g r.types r.depths h l ex ((mk h.method).door group.Throw) b fs' w ss)
  throw_group c h l ex b fs fs' w ss x empty kept e old keeps bes there numbers deep count under down own =
      let h1 : Frame = record h { thrown = Some x } in
      let over = ends_frame p h.initializes h.continuation w x (λ s v y. unwind p k s fs v y) in
      let door = stands p k p' g r.types r.depths h l ex ((mk h.method).door group.Throw) b fs' w ss in
      group_begins p k ms g r c group.Throw h1 l ex b fs fs' w ss over e old (λ d. cc d) empty tt (is_exception p w x r.rooted there) keeps bes numbers deep under (opening_cost k p group.Throw + lay (suc (length fs))) (omega arith)
      (λ a.
      let h2 : Frame = record h { thrown = Some x; local = with_stack l [] } in
      let scene : Paired p k p' g r.types r.depths (mk h.method) h2 fs fs' w a.extra a.statics = record { keeps = a.keeps; beside = a.beside; numbers = numbers; deep = deep } in
      let t = (groups_of p k ms g r h.method c e old).throws h2 fs fs' w a.extra a.statics b x refl refl kept scene in
      reaches_within p' (Arriving.E p k ms g r) (Arriving.R p k ms g r) (Arriving.f p k ms g r) (opening_cost k p group.Throw + (cst + (2 * cst + lay (length fs)))) _ over door (omega arith)
      (reaches_by p' (Arriving.E p k ms g r) (Arriving.R p k ms g r) (Arriving.f p k ms g r) (opening_cost k p group.Throw) (cst + (2 * cst + lay (length fs))) over door _ a.comes
      (reaches_by p' (Arriving.E p k ms g r) (Arriving.R p k ms g r) (Arriving.f p k ms g r) cst (2 * cst + lay (length fs)) over _ _ t (ends_so h b fs fs' w a.statics x down own a.beside there count deep))))

  abbrev pub reach_by : (m n : ℕ) (x y z : Next) → Comes p' m y z → To n x z → To (m + n) x y
  reach_by m n x y z c h = reaches_by p' (Arriving.E p k ms g r) (Arriving.R p k ms g r) (Arriving.f p k ms g r) m n x y z c h

  abbrev pub An : ℕ → Next → Next → Type 0
  An n x y = Answers p' (Arriving.E p k ms g r) (Arriving.R p k ms g r) (Arriving.f p k ms g r) n x y

  abbrev pub answer_by : (m n : ℕ) (x y z : Next) → Goes p' m y z → To n x z → An (m + n) x y
  answer_by m n x y z c h = answers_by p' (Arriving.E p k ms g r) (Arriving.R p k ms g r) (Arriving.f p k ms g r) m n x y z c h

  abbrev pub answer_within : (m n : ℕ) (x y : Next) → m ≤ n → An m x y → An n x y
  answer_within m n x y le h = answers_within p' (Arriving.E p k ms g r) (Arriving.R p k ms g r) (Arriving.f p k ms g r) m n x y le h

  abbrev pub reach_within : (m n : ℕ) (x y : Next) → m ≤ n → To m x y → To n x y
  reach_within m n x y le h = reaches_within p' (Arriving.E p k ms g r) (Arriving.R p k ms g r) (Arriving.f p k ms g r) m n x y le h

  abbrev pub reach_now : (n : ℕ) (x y : Next) → Rattle.machine_laws.specs.Simulation.weight (Arriving.f p k ms g r) x ≤ n → Rattle.machine_laws.specs.Simulation.Match (Arriving.E p k ms g r) (Arriving.R p k ms g r) x y → To n x y
  reach_now n x y le h = reaches_at_once p' (Arriving.E p k ms g r) (Arriving.R p k ms g r) (Arriving.f p k ms g r) n x y le h

  -- what is known of a frame that stands outside of groups, and of its twin
  pub record Outside (h : Frame) (at : ProgramPoint) (l : Local) (ex : List Cell) (hs hs' : List Handling) (q q' : ℕ) (b : Continuation) (fs fs' : List Frame) (w : World) (ss : List Statics) (x : ℕ) : Type 0 where
    pub old : h.method < r.methods
    pub here : IsHere (plan h.method) at
    pub thrown_there : IsObject (length w.heap) x
    pub thrower : IsHere (plan h.method) (moved_to q at)
    pub belongs : IsTrue ((mk h.method).belongs (moved_to q at) q')
    pub keeps : Keeps (mk h.method) (here_of h fs) h.thrown l ex
    pub pairs : HandlingPairs (plan h.method) (mk h.method) (rows h.method) at hs hs'
    pub under : below h.continuation b fs fs'
    pub alike : IsBeside w ss
    pub numbers : length fs' ≡ length fs
    pub deep : w.depth ≤ suc k.settings.guard
    pub count : w.depth ≡ count_groups fs
    pub down : Goes_down h.continuation b fs fs'
    pub own : (t : Ty) → h.initializes ≡ Some t → IsTrue (is_below r.types t)

  lands_lead : (o : Found) (h : Frame) (a : ℕ) (hs hs' hs0 : List Handling) (q q' skip q0 : ℕ) (ex : List Cell) (b : Continuation) (fs fs' : List Frame) (w : World) (ss : List Statics) (x : ℕ) → Outside h (LeadIn a) h.local ex hs hs' q q' b fs fs' w ss x
      → LandsAt (plan h.method) (LeadIn a) (rows h.method) o → (o ≡ NoHandler → ⊥)
      → To (lay (suc (length fs))) (land p k o (record h { at = LeadIn a }) hs q fs w x (λ s v y. unwind p k s fs v y)) (land p' no_contracts (moved_found p k p' g r.types r.depths (λ t. (mk h.method).places (moved_to t (LeadIn a))) o) (tw h h.local ex q0 hs0 b) hs' q' fs' (beside ss w) x (λ s v y. unwind p' no_contracts s fs' v y))
  lands_lead NoHandler h a hs hs' hs0 q q' skip q0 ex b fs fs' w ss x z lands found = absurd (found refl)
  lands_lead (CatchHandler i t) h a hs hs' hs0 q q' skip q0 ex b fs fs' w ss x z lands found =
      let new : Handling = record { handler = i; cause = Caught x; place = q; next = i + 1 } in
      let new' : Handling = record { handler = i; cause = Caught x; place = q'; next = i + 1 } in
      goes_here p k ms g r (record h { at = LeadIn a }) (LeadIn t) (with_stack h.local (Obj x ∷ [])) h.local (new ∷ hs) (new' ∷ hs') hs0 q0 ex b fs fs' w ss z.old lands.0 (record { typed = z.keeps.typed; result = z.keeps.result; thrown = z.keeps.thrown; wide = z.keeps.wide; caps = z.keeps.caps })
      (record { handler = refl; next = refl; cause = refl; here = z.thrower; belongs = z.belongs; leads = tt; low = lands.1; behind = omega (arith, lands.1) }, moved_pairs (plan h.method) (mk h.method) (rows h.method) (LeadIn a) t hs hs' tt z.pairs) z.under z.alike
  lands_lead (CleanupHandler i t) h a hs hs' hs0 q q' skip q0 ex b fs fs' w ss x z lands found =
      let new : Handling = record { handler = i; cause = Unwinding x; place = q; next = i + 1 } in
      let new' : Handling = record { handler = i; cause = Unwinding x; place = q'; next = i + 1 } in
      goes_here p k ms g r (record h { at = LeadIn a }) (LeadIn t) (with_stack h.local []) h.local (new ∷ hs) (new' ∷ hs') hs0 q0 ex b fs fs' w ss z.old lands.0 (record { typed = z.keeps.typed; result = z.keeps.result; thrown = z.keeps.thrown; wide = z.keeps.wide; caps = z.keeps.caps })
      (record { handler = refl; next = refl; cause = refl; here = z.thrower; belongs = z.belongs; leads = tt; low = lands.1; behind = omega (arith, lands.1) }, moved_pairs (plan h.method) (mk h.method) (rows h.method) (LeadIn a) t hs hs' tt z.pairs) z.under z.alike

  lands_rest : (o : Found) (h : Frame) (a : ℕ) (hs hs' hs0 : List Handling) (q q' skip q0 : ℕ) (ex : List Cell) (b : Continuation) (fs fs' : List Frame) (w : World) (ss : List Statics) (x : ℕ) → Outside h (Rest a) h.local ex hs hs' q q' b fs fs' w ss x
      → LandsAt (plan h.method) (Rest a) (rows h.method) o → (o ≡ NoHandler → ⊥)
      → To (lay (suc (length fs))) (land p k o (record h { at = Rest a }) hs q fs w x (λ s v y. unwind p k s fs v y)) (land p' no_contracts (moved_found p k p' g r.types r.depths (λ t. (mk h.method).places (moved_to t (Rest a))) o) (tw h h.local ex q0 hs0 b) hs' q' fs' (beside ss w) x (λ s v y. unwind p' no_contracts s fs' v y))
  lands_rest NoHandler h a hs hs' hs0 q q' skip q0 ex b fs fs' w ss x z lands found = absurd (found refl)
  lands_rest (CatchHandler i t) h a hs hs' hs0 q q' skip q0 ex b fs fs' w ss x z lands found =
      let new : Handling = record { handler = i; cause = Caught x; place = q; next = i + 1 } in
      let new' : Handling = record { handler = i; cause = Caught x; place = q'; next = i + 1 } in
      goes_here p k ms g r (record h { at = Rest a }) (Rest t) (with_stack h.local (Obj x ∷ [])) h.local (new ∷ hs) (new' ∷ hs') hs0 q0 ex b fs fs' w ss z.old lands.0 (record { typed = z.keeps.typed; result = z.keeps.result; thrown = z.keeps.thrown; wide = z.keeps.wide; caps = z.keeps.caps })
      (record { handler = refl; next = refl; cause = refl; here = z.thrower; belongs = z.belongs; leads = tt; low = lands.1; behind = omega (arith, lands.1) }, moved_pairs (plan h.method) (mk h.method) (rows h.method) (Rest a) t hs hs' tt z.pairs) z.under z.alike
  lands_rest (CleanupHandler i t) h a hs hs' hs0 q q' skip q0 ex b fs fs' w ss x z lands found =
      let new : Handling = record { handler = i; cause = Unwinding x; place = q; next = i + 1 } in
      let new' : Handling = record { handler = i; cause = Unwinding x; place = q'; next = i + 1 } in
      goes_here p k ms g r (record h { at = Rest a }) (Rest t) (with_stack h.local []) h.local (new ∷ hs) (new' ∷ hs') hs0 q0 ex b fs fs' w ss z.old lands.0 (record { typed = z.keeps.typed; result = z.keeps.result; thrown = z.keeps.thrown; wide = z.keeps.wide; caps = z.keeps.caps })
      (record { handler = refl; next = refl; cause = refl; here = z.thrower; belongs = z.belongs; leads = tt; low = lands.1; behind = omega (arith, lands.1) }, moved_pairs (plan h.method) (mk h.method) (rows h.method) (Rest a) t hs hs' tt z.pairs) z.under z.alike

  abbrev spliced : (m : ℕ) → m < r.methods → Spliced p k p' g r.types r.depths m (plan m) (mk m)
  spliced m old = r.bodies m old

  abbrev old_search : Frame → World → ℕ → (skip q : ℕ) → Found
  old_search h w x skip q = search_from (λ token. fits_type p w x (caught_type p h token)) skip 0 q (body_of p h.method).regions

  abbrev new_search : Frame → World → List Statics → ℕ → (skip q' : ℕ) → Found
  new_search h w ss x skip q' = search_from (λ token. fits_type p w x (caught_type p h token)) skip 0 q' (body_of p' h.method).regions

  -- the twin searches with the same types
  searched_so : (h : Frame) (l : Local) (ex : List Cell) (q0 : ℕ) (hs0 : List Handling) (b : Continuation) (w : World) (ss : List Statics) (x skip q' a : ℕ) → searched p' (tw h l ex q0 hs0 b) (beside ss w) x skip q' (Rest a) ≡ new_search h w ss x skip q'
  searched_so h l ex q0 hs0 b w ss x skip q' a = ap (λ fits. search_from fits skip 0 q' (body_of p' h.method).regions) (fun_ext (λ token. fits_same h w ss x l ex q0 hs0 b token))

  abbrev pub new_throws : Frame → Local → List Cell → ℕ → List Handling → Continuation → List Handling → (skip q' : ℕ) → List Frame → World → List Statics → ℕ → Next
  new_throws h l ex q0 hs0 b hs' skip q' fs' w ss x = throws_in p' no_contracts (tw h l ex q0 hs0 b) hs' skip q' fs' (beside ss w) x (λ s v y. unwind p' no_contracts s fs' v y)

  new_lands : (h : Frame) (l : Local) (ex : List Cell) (q0 : ℕ) (hs0 : List Handling) (b : Continuation) (hs' : List Handling) (skip q' : ℕ) (fs' : List Frame) (w : World) (ss : List Statics) (x : ℕ) (o : Found) → new_search h w ss x skip q' ≡ o
      → new_throws h l ex q0 hs0 b hs' skip q' fs' w ss x ≡ land p' no_contracts o (tw h l ex q0 hs0 b) hs' q' fs' (beside ss w) x (λ s v y. unwind p' no_contracts s fs' v y)
  new_lands h l ex q0 hs0 b hs' skip q' fs' w ss x o e =
      ap (λ z. land p' no_contracts z (tw h l ex q0 hs0 b) hs' q' fs' (beside ss w) x (λ s v y. unwind p' no_contracts s fs' v y)) (searched_so h l ex q0 hs0 b w ss x skip q' q0 ∙ e)

  -- the lead-in
  pub throws_lead : (h : Frame) (a : ℕ) (hs hs' hs0 : List Handling) (q q' skip q0 : ℕ) (ex : List Cell) (b : Continuation) (fs fs' : List Frame) (w : World) (ss : List Statics) (x : ℕ) → Outside h (LeadIn a) h.local ex hs hs' q q' b fs fs' w ss x
      → To (2 * cst + lay (suc (length fs))) (throws_in p k (record h { at = LeadIn a }) hs skip q fs w x (λ s v y. unwind p k s fs v y)) (new_throws h h.local ex q0 hs0 b hs' skip q' fs' w ss x)
  throws_lead h a hs hs' hs0 q q' skip q0 ex b fs fs' w ss x z = by_found (old_search h w x skip q) refl
    where
      from : Found → Next
      from o = land p k o (record h { at = LeadIn a }) hs q fs w x (λ s v y. unwind p k s fs v y)

      given_up : (o : Option Plan) → no_handler_left p o (record h { at = LeadIn a }) (LeadIn a) fs w x (λ s v y. unwind p k s fs v y) ≡ ends_frame p h.initializes h.continuation w x (λ s v y. unwind p k s fs v y)
      given_up None = refl
      given_up (Some c) = refl

      unguarded : (o : Option Plan) → is_guarded p k p' g r.types r.depths o (LeadIn a) ≡ false
      unguarded None = refl
      unguarded (Some c) = refl

      hit : (o : Found) → old_search h w x skip q ≡ o → Rattle.splice_facts.specs.Input.IsFound o → (o ≡ NoHandler → ⊥) → To (2 * cst + lay (suc (length fs))) (from o) (new_throws h h.local ex q0 hs0 b hs' skip q' fs' w ss x)
      hit o e is not =
          let found = (spliced h.method z.old).finds (LeadIn a) q skip q' (λ token. fits_type p w x (caught_type p h token)) z.here refl z.thrower z.belongs (subst (Rattle.splice_facts.specs.Input.IsFound) (sym e) is) in
          let moved = found ∙ ap (moved_found p k p' g r.types r.depths (λ t. (mk h.method).places (moved_to t (LeadIn a)))) e in
          let lands = subst (LandsAt (plan h.method) (LeadIn a) (rows h.method)) e ((r.input h.method z.old).lands (LeadIn a) q skip (λ token. fits_type p w x (caught_type p h token)) z.here z.thrower) in
          reach_within (lay (suc (length fs))) _ (from o) _ (omega arith)
          (subst (λ y. To (lay (suc (length fs))) (from o) y) (sym (new_lands h h.local ex q0 hs0 b hs' skip q' fs' w ss x _ moved))
          (lands_lead o h a hs hs' hs0 q q' skip q0 ex b fs fs' w ss x z lands not))

      by_found : (o : Found) → old_search h w x skip q ≡ o → To (2 * cst + lay (suc (length fs))) (from o) (new_throws h h.local ex q0 hs0 b hs' skip q' fs' w ss x)
      by_found (CatchHandler i t) e = hit (CatchHandler i t) e tt (λ y. cc y)
      by_found (CleanupHandler i t) e = hit (CleanupHandler i t) e tt (λ y. cc y)
      by_found NoHandler e =
          let nothing = (spliced h.method z.old).unguarded (LeadIn a) q skip q' (λ token. fits_type p w x (caught_type p h token)) z.here refl (unguarded (plan h.method)) z.thrower z.belongs e in
          subst (λ y. To (2 * cst + lay (suc (length fs))) y (new_throws h h.local ex q0 hs0 b hs' skip q' fs' w ss x)) (sym (given_up (plan h.method)))
          (subst (λ y. To (2 * cst + lay (suc (length fs))) (ends_frame p h.initializes h.continuation w x (λ s v y1. unwind p k s fs v y1)) y) (sym (new_lands h h.local ex q0 hs0 b hs' skip q' fs' w ss x NoHandler nothing ∙ nowhere_plain h h.local ex q0 hs0 hs' q' b fs' w ss x))
          (reach_within (2 * cst + lay (length fs)) _ _ _ (omega arith) (ends_so h b fs fs' w ss x z.down z.own z.alike z.thrown_there z.count z.deep)))

  -- the rest
  pub throws_rest : (h : Frame) (a : ℕ) (hs hs' hs0 : List Handling) (q q' skip q0 : ℕ) (ex : List Cell) (b : Continuation) (fs fs' : List Frame) (w : World) (ss : List Statics) (x : ℕ) → h.thrown ≡ None → skip ≤ rows h.method → Outside h (Rest a) h.local ex hs hs' q q' b fs fs' w ss x
      → To (2 * cst + lay (suc (length fs))) (throws_in p k (record h { at = Rest a }) hs skip q fs w x (λ s v y. unwind p k s fs v y)) (new_throws h h.local ex q0 hs0 b hs' skip q' fs' w ss x)
  throws_rest h a hs hs' hs0 q q' skip q0 ex b fs fs' w ss x bare most z = by_found (old_search h w x skip q) refl
    where
      from : Found → Next
      from o = land p k o (record h { at = Rest a }) hs q fs w x (λ s v y. unwind p k s fs v y)

      ended : Next
      ended = ends_frame p h.initializes h.continuation w x (λ s v y. unwind p k s fs v y)

      hit : (o : Found) → old_search h w x skip q ≡ o → Rattle.splice_facts.specs.Input.IsFound o → (o ≡ NoHandler → ⊥) → To (2 * cst + lay (suc (length fs))) (from o) (new_throws h h.local ex q0 hs0 b hs' skip q' fs' w ss x)
      hit o e is not =
          let found = (spliced h.method z.old).finds (Rest a) q skip q' (λ token. fits_type p w x (caught_type p h token)) z.here refl z.thrower z.belongs (subst (Rattle.splice_facts.specs.Input.IsFound) (sym e) is) in
          let moved = found ∙ ap (moved_found p k p' g r.types r.depths (λ t. (mk h.method).places (moved_to t (Rest a)))) e in
          let lands = subst (LandsAt (plan h.method) (Rest a) (rows h.method)) e ((r.input h.method z.old).lands (Rest a) q skip (λ token. fits_type p w x (caught_type p h token)) z.here z.thrower) in
          reach_within (lay (suc (length fs))) _ (from o) _ (omega arith)
          (subst (λ y. To (lay (suc (length fs))) (from o) y) (sym (new_lands h h.local ex q0 hs0 b hs' skip q' fs' w ss x _ moved))
          (lands_rest o h a hs hs' hs0 q q' skip q0 ex b fs fs' w ss x z lands not))

      -- without clauses on exceptions
      plainly : is_guarded p k p' g r.types r.depths (plan h.method) (Rest a) ≡ false → old_search h w x skip q ≡ NoHandler → To (2 * cst + lay (suc (length fs))) ended (new_throws h h.local ex q0 hs0 b hs' skip q' fs' w ss x)
      plainly u e =
          let nothing = (spliced h.method z.old).unguarded (Rest a) q skip q' (λ token. fits_type p w x (caught_type p h token)) z.here refl u z.thrower z.belongs e in
          subst (λ y. To (2 * cst + lay (suc (length fs))) ended y) (sym (new_lands h h.local ex q0 hs0 b hs' skip q' fs' w ss x NoHandler nothing ∙ nowhere_plain h h.local ex q0 hs0 hs' q' b fs' w ss x))
          (reach_within (2 * cst + lay (length fs)) _ _ _ (omega arith) (ends_so h b fs fs' w ss x z.down z.own z.alike z.thrown_there z.count z.deep))

      scene : Paired p k p' g r.types r.depths (mk h.method) (record h { at = Rest a }) fs fs' w ex ss
      scene = record { keeps = z.keeps; beside = z.alike; numbers = z.numbers; deep = z.deep }

      guarded : (c : Plan) → plan h.method ≡ Some c → is_guarded p k p' g r.types r.depths (plan h.method) (Rest a) ≡ true → old_search h w x skip q ≡ NoHandler
          → To (2 * cst + lay (suc (length fs))) (begin_group p c group.Throw (record h { at = Rest a; thrown = Some x }) fs w ended) (new_throws h h.local ex q0 hs0 b hs' skip q' fs' w ss x)
      guarded c e u s =
          let a1 = (spliced h.method z.old).wrapper (record h { at = Rest a }) fs fs' w ex ss b q skip q' q0 x hs0 hs' refl scene (lows h.method (Rest a) hs hs' z.pairs) z.here u z.thrower z.belongs most s (is_exception p w x r.rooted z.thrown_there) in
          let t = throw_group c h (with_stack h.local []) a1.extra b fs fs' w a1.statics x refl (subst (λ o. is_guarded p k p' g r.types r.depths o (Rest a) ≡ true) e u) e z.old a1.keeps a1.beside z.thrown_there z.numbers z.deep z.count z.under z.down z.own in
          reach_within (wrapper_cost k p + (opening_cost k p group.Throw + lay (suc (length fs)))) _ _ _ (omega arith)
          (reach_by (wrapper_cost k p) (opening_cost k p group.Throw + lay (suc (length fs))) _ _ _ a1.comes
          (subst (λ y. To (opening_cost k p group.Throw + lay (suc (length fs))) (if runs_at c group.Throw w.depth then y else ended) (stands p k p' g r.types r.depths h (with_stack h.local []) a1.extra ((mk h.method).door group.Throw) b fs' w a1.statics)) (stale (next_piece p c group.Throw 0 (record h { thrown = Some x }) fs w)) t))
        where
          stale : (o : Option (ℕ × Piece)) → begin_piece p group.Throw o (with_local (with_stack h.local []) (record h { thrown = Some x })) fs (raised w) ended ≡ begin_piece p group.Throw o (record h { at = Rest a; thrown = Some x }) fs (raised w) ended
          stale None = refl
          stale (Some y) = refl

      -- a group without pieces is passed over
      empty : (c : Plan) → pieces c group.Throw ≡ [] → begin_group p c group.Throw (record h { at = Rest a; thrown = Some x }) fs w ended ≡ ended
      empty c e = ap (λ o. if runs_at c group.Throw w.depth then begin_piece p group.Throw o (record h { at = Rest a; thrown = Some x }) fs (raised w) ended else ended) (ap (Rattle.cil_semantics.specs.Unwind.first_from (Rattle.cil_semantics.specs.Unwind.takes_part p (record h { at = Rest a; thrown = Some x }) fs w) 0 0) e) ∙ both (runs_at c group.Throw w.depth)
        where
          both : (b1 : Bool) → (if b1 then ended else ended) ≡ ended
          both true = refl
          both false = refl

      by_guard : (c : Plan) → plan h.method ≡ Some c → (u : Bool) → Rattle.splice_facts.specs.Spliced.has_any p k p' g r.types r.depths (pieces c group.Throw) ≡ u → old_search h w x skip q ≡ NoHandler
          → To (2 * cst + lay (suc (length fs))) (begin_group p c group.Throw (record h { at = Rest a; thrown = Some x }) fs w ended) (new_throws h h.local ex q0 hs0 b hs' skip q' fs' w ss x)
      by_guard c e true u s = guarded c e (subst (λ o. is_guarded p k p' g r.types r.depths o (Rest a) ≡ true) (sym e) u) s
      by_guard c e false u s =
          subst (λ y. To (2 * cst + lay (suc (length fs))) y (new_throws h h.local ex q0 hs0 b hs' skip q' fs' w ss x)) (sym (empty c (no_pieces (pieces c group.Throw) u)))
          (plainly (subst (λ o. is_guarded p k p' g r.types r.depths o (Rest a) ≡ false) (sym e) u) s)

      by_plan : (o : Option Plan) → plan h.method ≡ o → old_search h w x skip q ≡ NoHandler → To (2 * cst + lay (suc (length fs))) (no_handler_left p o (record h { at = Rest a }) (Rest a) fs w x (λ s v y. unwind p k s fs v y)) (new_throws h h.local ex q0 hs0 b hs' skip q' fs' w ss x)
      by_plan None e s = plainly (subst (λ o. is_guarded p k p' g r.types r.depths o (Rest a) ≡ false) (sym e) refl) s
      by_plan (Some c) e s = by_guard c e (Rattle.splice_facts.specs.Spliced.has_any p k p' g r.types r.depths (pieces c group.Throw)) refl s

      by_found : (o : Found) → old_search h w x skip q ≡ o → To (2 * cst + lay (suc (length fs))) (from o) (new_throws h h.local ex q0 hs0 b hs' skip q' fs' w ss x)
      by_found (CatchHandler i t) e = hit (CatchHandler i t) e tt (λ y. cc y)
      by_found (CleanupHandler i t) e = hit (CleanupHandler i t) e tt (λ y. cc y)
      by_found NoHandler e = by_plan (plan h.method) refl e

  -- ---- pieces of groups

  abbrev pub Comes_to : Frame → List Frame → Local → ℕ → Continuation → List Frame → World → Next → Type 0
  Comes_to h fs l q b fs' w from = Arrives p k p' g r.types r.depths (mk h.method) cst from h fs l q b fs' w

  -- the next piece begins, or the group is over
  pub continued : (c : Plan) (gr : Group) (h : Frame) (l : Local) (b : Continuation) (fs fs' : List Frame) (w : World) (from over : Next) (o : Option (ℕ × Piece)) → plan h.method ≡ Some c → h.method < r.methods → below h.continuation b fs fs' → ((x : ℕ × Piece) → o ≡ Some x → piece_at (Some c) gr x.0 ≡ Some x.1)
      → ContinuesAt p k p' g r.types r.depths (mk h.method) c gr cst from h fs l b fs' w o → (n : ℕ) → cst + lay (suc (length fs)) ≤ n → (Comes_to h fs (with_stack l []) ((mk h.method).out gr) b fs' (lowered w) from → To n over from)
      → To n (begin_piece p gr o (with_local l h) fs w over) from
  continued c gr h l b fs fs' w from over None e old under there a n le other = other a
  continued c gr h l b fs fs' w from over (Some x) e old under there a n le other =
      reach_within (cst + lay (suc (length fs))) n _ from le
      (arrives_here p k ms g r cst from h (InGroup gr x.0 x.1.from) (with_stack l []) b fs fs' w old (Arriving.piece_here p k ms g r c h gr x e old (there x refl)) a under)

  -- what is known of the topmost frame of some, and of its twin
  pub record Known_top (h : Frame) (at : ProgramPoint) (ex : List Cell) (hs' : List Handling) (q' : ℕ) (b : Continuation) (fs fs' : List Frame) (w : World) (ss : List Statics) (x : ℕ) : Type 0 where
    pub old : h.method < r.methods
    pub here : IsHere (plan h.method) at
    pub thrown_there : IsObject (length w.heap) x
    pub belongs : IsTrue ((mk h.method).belongs at q')
    pub keeps : Keeps (mk h.method) (here_of h fs) h.thrown h.local ex
    pub fits : Pairs.FitsAt Fits at h.thrown
    pub waits : Waits (plan h.method) (mk h.method) (rows h.method) at h.handling hs'
    pub under : below h.continuation b fs fs'
    pub alike : IsBeside w ss
    pub numbers : length fs' ≡ length fs
    pub deep : w.depth ≤ suc k.settings.guard
    pub count : w.depth ≡ in_group at + count_groups fs
    pub down : Goes_down h.continuation b fs fs'
    pub own : (t : Ty) → h.initializes ≡ Some t → IsTrue (is_below r.types t)

  pub none_thrown : (o : Option ℕ) → Fits group.Entry o → o ≡ None
  none_thrown None f1 = refl
  none_thrown (Some x) f1 = absurd f1

  -- a piece of a group
  unwinds_piece : (c : Plan) (h : Frame) (gr : Group) (j q : ℕ) (ex : List Cell) (q' : ℕ) (b : Continuation) (fs fs' : List Frame) (w : World) (ss : List Statics) (x : ℕ) → plan h.method ≡ Some c → Known_top h (InGroup gr j q) ex [] q' b fs fs' w ss x
      → To (2 * cst + lay (suc (length fs))) (no_handler_left p (Some c) (record h { at = InGroup gr j q }) (InGroup gr j q) fs w x (λ s v y. unwind p k s fs v y)) (unwind p' no_contracts false (tw h h.local ex q' [] b ∷ fs') (beside ss w) x)
  unwinds_piece c h gr j q ex q' b fs fs' w ss x e z = by_drop (drops (piece_at (Some c) gr j)) refl
    where
      f : Frame
      f = record h { at = InGroup gr j q }

      scene : Paired p k p' g r.types r.depths (mk h.method) f fs fs' w ex ss
      scene = record { keeps = z.keeps; beside = z.alike; numbers = z.numbers; deep = z.deep }

      here : IsHere (Some c) (InGroup gr j q)
      here = subst (λ o. IsHere o (InGroup gr j q)) e z.here

      some_depth : 0 < w.depth
      some_depth = let d : w.depth ≡ 1 + count_groups fs = z.count in omega arith

      from : Next
      from = unwind p' no_contracts false (tw h h.local ex q' [] b ∷ fs') (beside ss w) x

      by_drop : (d : Bool) → drops (piece_at (Some c) gr j) ≡ d → To (2 * cst + lay (suc (length fs))) (if d then after_entry_piece p c j f fs w else ends_frame p h.initializes h.continuation (lowered w) x (λ s v y. unwind p k s fs v y)) from
      by_drop true d =
          let a = (groups_of p k ms g r h.method c e z.old).swallows gr j q q' f fs fs' w ex ss b x refl here z.belongs refl z.fits some_depth scene d (is_exception p w x r.rooted z.thrown_there) in
          continued c group.Entry f h.local b fs fs' w from (begin_rest p c f fs (lowered w)) (next_piece p c group.Entry (j + 1) f fs w) e z.old z.under (λ y s. found_piece p c group.Entry (j + 1) f fs w y s) a (2 * cst + lay (suc (length fs))) (omega arith)
          (λ a1. reach_within (cst + lay (suc (length fs))) _ _ _ (omega arith)
          (arrives_here p k ms g r cst from f (Rest c.effective.rest_from) (with_stack h.local []) b fs fs' (lowered w) z.old (rest_here p k ms g r c h.method e) (subst (λ y. Comes_to f fs (with_stack h.local []) y b fs' (lowered w) from) (groups_of p k ms g r h.method c e z.old).entry_out a1) z.under))
      by_drop false d =
          let a = (groups_of p k ms g r h.method c e z.old).breaks gr j q q' f fs fs' w ex ss b x refl here z.belongs refl z.fits some_depth scene d in
          let count : w.depth - 1 ≡ count_groups fs = omega (arith, z.count) in
          let deep : w.depth - 1 ≤ suc k.settings.guard = omega (arith, z.deep) in
          reach_within (cst + (2 * cst + lay (length fs))) _ _ _ (omega arith)
          (reach_by cst (2 * cst + lay (length fs)) _ _ _ a.2 (ends_so h b fs fs' (lowered w) a.0 x z.down z.own a.1 z.thrown_there count deep))

  -- the topmost frame of some
  pub unwinds_at : (h : Frame) (at : ProgramPoint) (ex : List Cell) (hs' : List Handling) (q' : ℕ) (b : Continuation) (fs fs' : List Frame) (w : World) (ss : List Statics) (x : ℕ) → Known_top h at ex hs' q' b fs fs' w ss x
      → To (2 * cst + lay (suc (length fs))) (unwind p k false (record h { at = at } ∷ fs) w x) (unwind p' no_contracts false (tw h h.local ex q' hs' b ∷ fs') (beside ss w) x)
  unfolding unwind
  unwinds_at h (LeadIn a) ex hs' q' b fs fs' w ss x z =
      throws_lead h a h.handling hs' hs' a q' 0 q' ex b fs fs' w ss x
      (record { old = z.old; here = z.here; thrown_there = z.thrown_there; thrower = z.here; belongs = z.belongs; keeps = z.keeps; pairs = z.waits; under = z.under; alike = z.alike; numbers = z.numbers; deep = z.deep; count = omega (arith, z.count); down = z.down; own = z.own })
  unwinds_at h (Rest a) ex hs' q' b fs fs' w ss x z =
      throws_rest h a h.handling hs' hs' a q' 0 q' ex b fs fs' w ss x (none_thrown h.thrown z.fits) (omega arith)
      (record { old = z.old; here = z.here; thrown_there = z.thrown_there; thrower = z.here; belongs = z.belongs; keeps = z.keeps; pairs = z.waits; under = z.under; alike = z.alike; numbers = z.numbers; deep = z.deep; count = omega (arith, z.count); down = z.down; own = z.own })
  unwinds_at h (InGroup gr j q) ex hs' q' b fs fs' w ss x z = by_plan (plan h.method) refl
    where
      by_plan : (o : Option Plan) → plan h.method ≡ o → To (2 * cst + lay (suc (length fs))) (no_handler_left p o (record h { at = InGroup gr j q }) (InGroup gr j q) fs w x (λ s v y. unwind p k s fs v y)) (unwind p' no_contracts false (tw h h.local ex q' hs' b ∷ fs') (beside ss w) x)
      by_plan None e = absurd (subst (λ o. IsHere o (InGroup gr j q)) e z.here)
      by_plan (Some c) e =
          subst (λ hs. To (2 * cst + lay (suc (length fs))) (no_handler_left p (Some c) (record h { at = InGroup gr j q }) (InGroup gr j q) fs w x (λ s v y. unwind p k s fs v y)) (unwind p' no_contracts false (tw h h.local ex q' hs b ∷ fs') (beside ss w) x)) (sym (z.waits).1)
          (unwinds_piece c h gr j q ex q' b fs fs' w ss x e
          (record { old = z.old; here = z.here; thrown_there = z.thrown_there; belongs = z.belongs; keeps = z.keeps; fits = z.fits; waits = ((z.waits).0, refl); under = z.under; alike = z.alike; numbers = z.numbers; deep = z.deep; count = z.count; down = z.down; own = z.own }))

  -- ---- all frames

  pub as_many : (b b' : Continuation) (fs fs' : List Frame) → below b b' fs fs' → length fs' ≡ length fs
  as_many b b' fs fs' (Under.bottom b1 c) = refl
  as_many b b' fs fs' (Under.waits b1 h h' hs hs' c pair here on under) = ap suc (as_many h.continuation h'.continuation hs hs' under)
  as_many b b' fs fs' (Under.begins h h' hs hs' pair first n n' under) = ap suc (as_many h.continuation h'.continuation hs hs' under)
  as_many b b' fs fs' (Under.throws x q h h' hs hs' pair here t under) = ap suc (as_many h.continuation h'.continuation hs hs' under)

  pub begun : (b : Continuation) → Pairs.IsCommon p k ms g r b → hasnt_begun b ≡ false
  begun Rattle.cil_semantics.specs.declared.state.Continuation.TheVariants.Push c = refl
  begun (PushObject v) c = refl
  begun Rattle.cil_semantics.specs.declared.state.Continuation.TheVariants.PushStruct c = refl
  begun (ThrowObject x) c = absurd c
  begun BeginCallee c = absurd c
  begun (Rattle.cil_semantics.specs.declared.state.Continuation.TheVariants.UseField a) c = refl
  begun (Rattle.cil_semantics.specs.declared.state.Continuation.TheVariants.TryNext e t l) c = refl

  first_outside : (o : Option Plan) → in_group (Rattle.cil_semantics.specs.Frames.first_place o) ≡ 0
  first_outside None = refl
  first_outside (Some c) = refl

  same_thrown : (w : World) (ss : List Statics) (x : ℕ) → thrown_name p' (beside ss w) x ≡ thrown_name p w x
  same_thrown w ss x = refl

  -- a frame that stands at its place, or at one where the plain run throws what it made
  pub pair_unwinds : (b b' : Continuation) (q : ℕ) (h h' : Frame) (fs fs' : List Frame) → hasnt_begun b ≡ false → hasnt_begun b' ≡ false → FramePair p k ms g r q h fs h' → IsHere (plan h.method) h.at → IsTrue ((mk h.method).belongs h.at q) → below h.continuation h'.continuation fs fs' → Pairs.Standing p k ms g r h fs → Goes_down h.continuation h'.continuation fs fs' → Goes_down b b' (h ∷ fs) (h' ∷ fs')
  pair_unwinds b b' q h h' fs fs' nb nb' pair here belongs under ok down w ss x bes there count deep =
      subst (λ c. To (2 * cst + lay (suc (length fs))) (unwind p k c (h ∷ fs) w x) (unwind p' no_contracts (hasnt_begun b') (h' ∷ fs') (beside ss w) x)) (sym nb)
      (subst (λ c. To (2 * cst + lay (suc (length fs))) (unwind p k false (h ∷ fs) w x) (unwind p' no_contracts c (h' ∷ fs') (beside ss w) x)) (sym nb')
      (subst (λ z. To (2 * cst + lay (suc (length fs))) (unwind p k false (h ∷ fs) w x) (unwind p' no_contracts false (z ∷ fs') (beside ss w) x)) (sym pair.same)
      (unwinds_at h h.at pair.extra h'.handling q h'.continuation fs fs' w ss x
      (record { old = ok.old; here = here; thrown_there = there; belongs = belongs; keeps = pair.keeps; fits = ok.fits; waits = pair.waits; under = under; alike = bes; numbers = as_many h.continuation h'.continuation fs fs' under; deep = deep; count = count; down = down; own = ok.initializes }))))

  pub unwinds : (b b' : Continuation) (fs fs' : List Frame) → below b b' fs fs' → valid fs → Goes_down b b' fs fs'
  unfolding unwind
  unwinds b b' fs fs' (Under.bottom b1 c) ok w ss x bes there count deep =
      subst (λ z. To (2 * cst + lay 0) (unwind p k z [] w x) (unwind p' no_contracts z [] (beside ss w) x)) (sym (begun b1 c))
      (reach_now (2 * cst + lay 0) _ _ (omega arith) (refl, record { heap = refl; statics = sym bes.statics; trace = refl }))
  unwinds b b' fs fs' (Under.waits b1 h h' hs hs' c pair here on under) ok w ss x bes there count deep =
      pair_unwinds b1 b1 ((mk h.method).places h.at) h h' hs hs' (begun b1 c) (begun b1 c) pair here ((r.bodies h.method (ok.0).old).own h.at here) under ok.0 (unwinds h.continuation h'.continuation hs hs' under ok.1) w ss x bes there count deep
  unwinds b b' fs fs' (Under.throws y q h h' hs hs' pair here t under) ok w ss x bes there count deep =
      pair_unwinds (ThrowObject y) (PushObject (Obj y)) q h h' hs hs' refl refl pair here t.belongs under ok.0 (unwinds h.continuation h'.continuation hs hs' under ok.1) w ss x bes there count deep
  unwinds b b' fs fs' (Under.begins h h' hs hs' pair first n n' under) ok w ss x bes there count deep =
      let out : in_group h.at ≡ 0 = ap in_group first ∙ first_outside (plan h.method) in
      let c : w.depth ≡ count_groups hs = omega (arith, count, out) in
      let t = unwinds h.continuation h'.continuation hs hs' under ok.1 w ss x bes there c deep in
      let t1 = subst (λ z. To (2 * cst + lay (length hs)) (unwind p k z hs w x) (unwind p' no_contracts (hasnt_begun h'.continuation) hs' (beside ss w) x)) n t in
      let t2 = subst (λ z. To (2 * cst + lay (length hs)) (unwind p k false hs w x) (unwind p' no_contracts z hs' (beside ss w) x)) n' t1 in
      reach_within (2 * cst + lay (length hs)) (2 * cst + lay (suc (length hs))) _ _ (omega arith) t2
