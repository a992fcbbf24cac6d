-- A frame and its twin arrive at a place, and groups begin and end.
use Rattle.std.proofs.Common.{◌≡◌, ◌≢◌, ℕ, suc, ◌+◌, ◌*◌, ◌<◌, ◌≤◌, Bool, true, false, List, [], ◌∷◌, length, Option, Some, None, refl, sym, ap, ◌∙◌, subst, arith, ⊎_elim}
use Rattle.std.specs.Prelude.{slice_get, ◌==◌, if◌then◌else◌, filter}
use Rattle.std.proofs.lemmas.Bool.Decides.{eqb_tells}
use Rattle.cil_model.specs.declared.body.Region.{Region}
use Rattle.cil_model.specs.declared.contract.Contracts.{Contracts}
use Rattle.cil_model.specs.declared.contract.Group.{Group}
use Rattle.cil_model.specs.declared.contract.Group.TheVariants as group
use Rattle.cil_model.specs.declared.program.Program.{Program}
use Rattle.cil_model.specs.declared.program.MethodDesc.{MethodDesc}
use Rattle.cil_semantics.specs.Words.{maybe}
use Rattle.cil_semantics.specs.declared.state.Cell.{Cell}
use Rattle.cil_semantics.specs.declared.state.World.{World}
use Rattle.cil_semantics.specs.declared.state.Statics.{Statics}
use Rattle.cil_semantics.specs.declared.state.Local.{Local}
use Rattle.cil_semantics.specs.declared.state.ProgramPoint.{ProgramPoint}
use Rattle.cil_semantics.specs.declared.state.ProgramPoint.TheVariants.{LeadIn, InGroup, Rest}
use Rattle.cil_semantics.specs.declared.state.Handling.{Handling}
use Rattle.cil_semantics.specs.declared.state.Frame.{Frame}
use Rattle.cil_semantics.specs.State.{State, Next, Running, with_stack, with_local, raised}
use Rattle.cil_semantics.specs.declared.state.Continuation.{Continuation}
use Rattle.cil_semantics.specs.Contracted.{Piece, Plan, runs_at}
use Rattle.cil_semantics.specs.Unwind.{begin_entry, begin_first, go_to_rest, body_of, plan_at, piece_at, here_of, place_in, moved_to, in_handler, handled_at, goes_at, arrive, arrive_in, next_piece, begin_piece, begin_group, begin_rest}
use Rattle.cil_semantics.specs.Checks.{AddedNumbers}
use Rattle.machine_laws.specs.Same.{most_clauses}
use Rattle.splice_facts.specs.Bodies.{with_methods}
use Rattle.splice_facts.specs.Exceptions.{ExceptionIf}
use Rattle.splice_facts.specs.Grown.{grow, beside}
use Rattle.splice_facts.specs.Comes.{Reaches}
use Rattle.splice_facts.specs.Input.{PieceFacts, PiecesIf}
use Rattle.splice_facts.specs.Layout.{Marks, Keeps, IsHere, CanArrive}
use Rattle.splice_facts.specs.Spliced.{Beside, twin, stands, Arrives, OpensAt, ContinuesAt, Paired, Spliced, Groups, FitsGroup, cost, opening_cost}
use Rattle.splice_facts.specs.Related.{Rewritten, AlikeWorlds, HandlingPair, HandlingPairs, Waits, FramePair, Under, Frames, Related, laid_by, plan_in, marks_in, written}
use Rattle.splice_facts.specs.Related as Pairs
use Rattle.splice_facts.proofs.ComesLaws.{reaches_by, reaches_within, reaches_at_once, found_piece}

pub pick_true : {X : Type 0} (b : Bool) (x y : X) → b ≡ true → (if b then x else y) ≡ x
pick_true b x y e = ap (λ c. if c then x else y) e

pub pick_false : {X : Type 0} (b : Bool) (x y : X) → b ≡ false → (if b then x else y) ≡ y
pick_false b x y e = ap (λ c. if c then x else y) e

-- ---- handlers that run

abbrev AgreeOn : Option Plan → Marks → ℕ → ProgramPoint → (Handling → Bool) → (Handling → Bool) → Type 0
AgreeOn plan m rows at old new = (h h' : Handling) → HandlingPair plan m rows at h h' → new h' ≡ old h

pairs_if : (plan : Option Plan) (m : Marks) (rows : ℕ) (at : ProgramPoint) (a b : Bool) (h h' : Handling) (hs hs' : List Handling) → b ≡ a → HandlingPair plan m rows at h h' → HandlingPairs plan m rows at hs hs' → HandlingPairs plan m rows at (if a then h ∷ hs else hs) (if b then h' ∷ hs' else hs')
pairs_if plan m rows at true true h h' hs hs' e x xs = (x, xs)
pairs_if plan m rows at false false h h' hs hs' e x xs = xs
pairs_if plan m rows at true false h h' hs hs' e x xs = absurd (cc e)
pairs_if plan m rows at false true h h' hs hs' e x xs = absurd (cc e)

pub kept_pairs : (plan : Option Plan) (m : Marks) (rows : ℕ) (at : ProgramPoint) (old new : Handling → Bool) (hs hs' : List Handling) → AgreeOn plan m rows at old new → HandlingPairs plan m rows at hs hs' → HandlingPairs plan m rows at (filter old hs) (filter new hs')
kept_pairs plan m rows at old new [] [] ok x = tt
kept_pairs plan m rows at old new [] (h' ∷ hs') ok x = absurd x
kept_pairs plan m rows at old new (h ∷ hs) [] ok x = absurd x
kept_pairs plan m rows at old new (h ∷ hs) (h' ∷ hs') ok x = pairs_if plan m rows at (old h) (new h') h h' (filter old hs) (filter new hs') (ok h h' x.0) x.0 (kept_pairs plan m rows at old new hs hs' ok x.1)

dropped_if : (b : Bool) (h : Handling) (hs : List Handling) → b ≡ false → hs ≡ [] → (if b then h ∷ hs else hs) ≡ []
dropped_if b h hs e q = pick_false b (h ∷ hs) hs e ∙ q

none_kept : (plan : Option Plan) (m : Marks) (rows : ℕ) (at : ProgramPoint) (new : Handling → Bool) (hs hs' : List Handling) → ((h h' : Handling) → HandlingPair plan m rows at h h' → new h' ≡ false) → HandlingPairs plan m rows at hs hs' → filter new hs' ≡ []
none_kept plan m rows at new [] [] ok x = refl
none_kept plan m rows at new [] (h' ∷ hs') ok x = absurd x
none_kept plan m rows at new (h ∷ hs) [] ok x = absurd x
none_kept plan m rows at new (h ∷ hs) (h' ∷ hs') ok x = dropped_if (new h') h' (filter new hs') (ok h h' x.0) (none_kept plan m rows at new hs hs' ok x.1)

pub same_number : (rs : List Region) (q : ℕ) (h h' : Handling) → h'.handler ≡ h.handler → in_handler rs q h' ≡ in_handler rs q h
same_number rs q h h' e = ap (λ j. maybe false (λ (x : Region). Rattle.cil_semantics.specs.Unwind.holds_place x.handler_from x.handler_to q) (slice_get rs j)) e

module _ (p : Program) (k : Contracts) (ms : List MethodDesc) (g : AddedNumbers) (r : Rewritten p k ms g) where
  abbrev pub p' : Program
  p' = with_methods p ms

  abbrev pub R : State → State → Type 0
  R = Related p k ms g r

  abbrev pub E : World → World → Type 0
  E = AlikeWorlds r.types

  abbrev pub f : State → ℕ
  f = laid_by p k ms g r

  abbrev pub lay : ℕ → ℕ
  lay n = 18 * (1 + most_clauses k p 0 p.methods) * n

  abbrev pub To : ℕ → Next → Next → Type 0
  To n x y = Reaches p' E R f n x y

  abbrev pub plan : ℕ → Option Plan
  plan m = plan_at k p m

  abbrev pub mk : ℕ → Marks
  mk m = r.marks m

  abbrev pub rows : ℕ → ℕ
  rows m = length (body_of p m).regions

  abbrev pub IsBeside : World → List Statics → Type 0
  IsBeside w ss = Beside p k p' g r.types r.depths w ss

  abbrev pub tw : Frame → Local → List Cell → ℕ → List Handling → Continuation → Frame
  tw h l ex q hs b = twin p k p' g r.types r.depths h l ex q hs b

  abbrev pub below : Continuation → Continuation → List Frame → List Frame → Type 0
  below b b' fs fs' = Under p k ms g r b b' fs fs'

  pub alike : (w : World) (ss : List Statics) → IsBeside w ss → E w (beside ss w)
  alike w ss b = record { heap = refl; statics = sym b.statics; trace = refl }

  -- both are stuck
  pub stuck_both : (n : ℕ) (w : World) (ss : List Statics) → IsBeside w ss → To n (Rattle.cil_semantics.specs.Frames.stuck w) (Rattle.cil_semantics.specs.Frames.stuck (beside ss w))
  stuck_both n w ss b = reaches_at_once p' E R f n _ _ (omega arith) (refl, alike w ss b)

  -- what a new place keeps of the handlers
  kept_at : (m : ℕ) → m < r.methods → (at : ProgramPoint) (hs hs' : List Handling) → IsHere (plan m) at → Waits (plan m) (mk m) (rows m) at hs hs' → Waits (plan m) (mk m) (rows m) at (handled_at (body_of p m).regions at hs) (filter (in_handler (body_of p' m).regions ((mk m).places at)) hs')
  kept_at m old (LeadIn q) hs hs' here x =
      kept_pairs (plan m) (mk m) (rows m) (LeadIn q) (in_handler (body_of p m).regions q) (in_handler (body_of p' m).regions ((mk m).places (LeadIn q))) hs hs'
      (λ h h' y. same_number (body_of p' m).regions ((mk m).places (LeadIn q)) h h' y.handler ∙ (r.bodies m old).handlers (LeadIn q) h ((mk m).places (LeadIn q)) here refl y.low ((r.bodies m old).own (LeadIn q) here)) x
  kept_at m old (Rest q) hs hs' here x =
      kept_pairs (plan m) (mk m) (rows m) (Rest q) (in_handler (body_of p m).regions q) (in_handler (body_of p' m).regions ((mk m).places (Rest q))) hs hs'
      (λ h h' y. same_number (body_of p' m).regions ((mk m).places (Rest q)) h h' y.handler ∙ (r.bodies m old).handlers (Rest q) h ((mk m).places (Rest q)) here refl y.low ((r.bodies m old).own (Rest q) here)) x
  kept_at m old (InGroup gr j q) hs hs' here x = (refl, ap (filter (in_handler (body_of p' m).regions ((mk m).places (InGroup gr j q)))) x.1)

  -- the frames stand at a place and at its image
  pub goes_here : (h : Frame) (at : ProgramPoint) (l l0 : Local) (hs hs' hs0 : List Handling) (q0 : ℕ) (ex : List Cell) (b : Continuation) (fs fs' : List Frame) (w : World) (ss : List Statics) → h.method < r.methods → IsHere (plan h.method) at → Keeps (mk h.method) (here_of h fs) h.thrown l ex → Waits (plan h.method) (mk h.method) (rows h.method) at hs hs' → below h.continuation b fs fs' → IsBeside w ss
      → To (lay (suc (length fs))) (goes_at p h at l hs fs w) (goes_at p' (tw h l0 ex q0 hs0 b) (Rest ((mk h.method).places at)) (grow ex l) hs' fs' (beside ss w))
  goes_here h at l l0 hs hs' hs0 q0 ex b fs fs' w ss old here keeps pairs under bes =
      let f1 : Frame = record h { local = l; at = at; handling = handled_at (body_of p h.method).regions at hs } in
      let f2 : Frame = tw h l ex ((mk h.method).places at) (filter (in_handler (body_of p' h.method).regions ((mk h.method).places at)) hs') b in
      let pair : FramePair p k ms g r ((mk h.method).places at) f1 fs f2 = record { extra = ex; same = refl; keeps = keeps; waits = kept_at h.method old at hs hs' here pairs } in
      reaches_at_once p' E R f (lay (suc (length fs))) _ _ (omega arith)
      (record { frames = Frames.top f1 f2 fs fs' pair here under; statics = ss; alike = bes; world = refl })

  -- the plain run comes to where the twin stands
  pub arrives_here : (c : ℕ) (from : Next) (h : Frame) (at : ProgramPoint) (l : Local) (b : Continuation) (fs fs' : List Frame) (w : World) → h.method < r.methods → IsHere (plan h.method) at → Arrives p k p' g r.types r.depths (mk h.method) c from h fs l ((mk h.method).places at) b fs' w → below h.continuation b fs fs'
      → To (c + lay (suc (length fs))) (goes_at p h at l [] fs w) from
  arrives_here c from h at l b fs fs' w old here a under =
      reaches_by p' E R f c (lay (suc (length fs))) _ from _ a.comes (stands_so (handled_nothing at))
    where
      handled_nothing : (to : ProgramPoint) → handled_at (body_of p h.method).regions to [] ≡ []
      handled_nothing (LeadIn q) = refl
      handled_nothing (InGroup gr j q) = refl
      handled_nothing (Rest q) = refl

      none_waits : (to : ProgramPoint) → Waits (plan h.method) (mk h.method) (rows h.method) to [] []
      none_waits (LeadIn q) = tt
      none_waits (InGroup gr j q) = (refl, refl)
      none_waits (Rest q) = tt

      stands_so : handled_at (body_of p h.method).regions at [] ≡ [] → To (lay (suc (length fs))) (goes_at p h at l [] fs w) (stands p k p' g r.types r.depths h l a.extra ((mk h.method).places at) b fs' w a.statics)
      stands_so e = goes_here h at l l [] [] [] 0 a.extra b fs fs' w a.statics old here a.keeps (none_waits at) under a.beside

  abbrev pub cst : ℕ
  cst = cost k p

  abbrev pub GroupsOf : ℕ → Plan → Type 0
  GroupsOf m c = Groups p k p' g r.types r.depths m c (mk m)

  pub groups_of : (m : ℕ) (c : Plan) → plan m ≡ Some c → m < r.methods → GroupsOf m c
  groups_of m c e old = subst (λ o. Rattle.splice_facts.specs.Spliced.GroupsIf p k p' g r.types r.depths m o (mk m)) e ((r.bodies m old).groups)

  pub pieces_of : (m : ℕ) (c : Plan) → plan m ≡ Some c → m < r.methods → PieceFacts p k g m c
  pieces_of m c e old = subst (λ o. PiecesIf p k g m o) e (r.input m old).pieces

  abbrev pub Fits : Group → Option ℕ → Type 0
  Fits gr o = FitsGroup p k p' g r.types r.depths gr o

  abbrev pub Comes_in : ℕ → Frame → List Frame → Local → ℕ → Continuation → List Frame → World → Next → Type 0
  Comes_in c h fs l q b fs' w from = Arrives p k p' g r.types r.depths (mk h.method) c from h fs l q b fs' w

  abbrev pub begin_in : Group → ℕ
  begin_in gr = opening_cost k p gr

  abbrev pub Comes_to : Frame → List Frame → Local → ℕ → Continuation → List Frame → World → Next → Type 0
  Comes_to h fs l q b fs' w from = Arrives p k p' g r.types r.depths (mk h.method) cst from h fs l q b fs' w

  -- a piece begins where the table of pieces has it
  pub piece_here : (c : Plan) (h : Frame) (gr : Group) (x : ℕ × Piece) → plan h.method ≡ Some c → h.method < r.methods → piece_at (Some c) gr x.0 ≡ Some x.1 → IsHere (plan h.method) (InGroup gr x.0 x.1.from)
  piece_here c h gr x e old s = subst (λ o. IsHere o (InGroup gr x.0 x.1.from)) (sym e) (let b = (pieces_of h.method c e old).begins_in gr x.0 x.1 s in (x.1, s, b.0, b.1))

  -- where there is a piece, it begins in both; else both come to the group's end
  pieces_from : (c : Plan) (gr : Group) (h : Frame) (l : Local) (b : Continuation) (fs fs' : List Frame) (w v : World) (from over : Next) (o : Option (ℕ × Piece)) → plan h.method ≡ Some c → h.method < r.methods → below h.continuation b fs fs' → ((x : ℕ × Piece) → o ≡ Some x → piece_at (Some c) gr x.0 ≡ Some x.1)
      → ((x : ℕ × Piece) → o ≡ Some x → Comes_to h fs (with_stack l []) ((mk h.method).places (InGroup gr x.0 x.1.from)) b fs' v from) → (n : ℕ) → cst + lay (suc (length fs)) ≤ n → (o ≡ None → To n over from)
      → To n (begin_piece p gr o (with_local l h) fs v over) from
  pieces_from c gr h l b fs fs' w v from over None e old under there comes n le other = other refl
  pieces_from c gr h l b fs fs' w v from over (Some x) e old under there comes n le other =
      reaches_within p' E R f (cst + lay (suc (length fs))) n _ from le
      (arrives_here cst from h (InGroup gr x.0 x.1.from) (with_stack l []) b fs fs' v old (piece_here c h gr x e old (there x refl)) (comes x refl) under)

  opened : (c : Plan) (gr : Group) (h : Frame) (l : Local) (b : Continuation) (fs fs' : List Frame) (w : World) (from over : Next) (o : Option (ℕ × Piece)) (t : Bool) → plan h.method ≡ Some c → h.method < r.methods → below h.continuation b fs fs' → ((x : ℕ × Piece) → o ≡ Some x → piece_at (Some c) gr x.0 ≡ Some x.1)
      → OpensAt p k p' g r.types r.depths (mk h.method) c gr (begin_in gr) from h fs l b fs' w o t → (n : ℕ) → begin_in gr + lay (suc (length fs)) ≤ n → (Comes_in (begin_in gr) h fs (with_stack l []) ((mk h.method).out gr) b fs' w from → To n over from)
      → To n (if t then begin_piece p gr o (with_local l h) fs (raised w) over else over) from
  opened c gr h l b fs fs' w from over (Some x) true e old under there a n le other =
      reaches_within p' E R f (begin_in gr + lay (suc (length fs))) n _ from le
      (arrives_here (begin_in gr) from h (InGroup gr x.0 x.1.from) (with_stack l []) b fs fs' (raised w) old (piece_here c h gr x e old (there x refl)) a under)
  opened c gr h l b fs fs' w from over (Some x) false e old under there a n le other = other a
  opened c gr h l b fs fs' w from over None true e old under there a n le other = other a
  opened c gr h l b fs fs' w from over None false e old under there a n le other = other a

  -- a group begins, or is passed over
  pub group_begins : (c : Plan) (gr : Group) (h : Frame) (l : Local) (ex : List Cell) (b : Continuation) (fs fs' : List Frame) (w : World) (ss : List Statics) (over : Next) → plan h.method ≡ Some c → h.method < r.methods → gr ≢ group.Entry → l.stack ≡ [] → Fits gr h.thrown → ExceptionIf p w h.thrown → Keeps (mk h.method) (here_of h fs) h.thrown l ex → IsBeside w ss → length fs' ≡ length fs → w.depth ≤ suc k.settings.guard → below h.continuation b fs fs'
      → (n : ℕ) → begin_in gr + lay (suc (length fs)) ≤ n → (Comes_in (begin_in gr) (record h { local = l }) fs (with_stack l []) ((mk h.method).out gr) b fs' w (stands p k p' g r.types r.depths h l ex ((mk h.method).door gr) b fs' w ss) → To n over (stands p k p' g r.types r.depths h l ex ((mk h.method).door gr) b fs' w ss))
      → To n (begin_group p c gr (with_local l h) fs w over) (stands p k p' g r.types r.depths h l ex ((mk h.method).door gr) b fs' w ss)
  group_begins c gr h l ex b fs fs' w ss over e old other_group empty fits ok keeps bes numbers deep under n le other =
      let h1 : Frame = record h { local = l } in
      let scene : Paired p k p' g r.types r.depths (mk h.method) h1 fs fs' w ex ss = record { keeps = keeps; beside = bes; numbers = numbers; deep = deep } in
      let a = (groups_of h.method c e old).opens gr h1 fs fs' w ex ss b other_group empty refl fits ok scene in
      let from = stands p k p' g r.types r.depths h l ex ((mk h.method).door gr) b fs' w ss in
      opened c gr h1 l b fs fs' w from over (next_piece p c gr 0 h1 fs w) (runs_at c gr w.depth) e old under (λ x q. found_piece p c gr 0 h1 fs w x q) a n le other

  pub rest_here : (c : Plan) (m : ℕ) → plan m ≡ Some c → IsHere (plan m) (Rest c.effective.rest_from)
  rest_here c m e = subst (λ o. IsHere o (Rest c.effective.rest_from)) (sym e) (omega arith)

  no_exception : (o : Option ℕ) → Fits group.Entry o → o ≡ None
  no_exception None x = refl
  no_exception (Some y) x = absurd x

  -- the entry group begins, or is passed over
  entry_begins : (c : Plan) (h : Frame) (l : Local) (ex : List Cell) (b : Continuation) (fs fs' : List Frame) (w : World) (ss : List Statics) → plan h.method ≡ Some c → h.method < r.methods → Fits group.Entry h.thrown → Keeps (mk h.method) (here_of h fs) h.thrown l ex → IsBeside w ss → length fs' ≡ length fs → w.depth ≤ suc k.settings.guard → below h.continuation b fs fs'
      → To (cst + lay (suc (length fs))) (begin_entry p c (with_local l h) fs w) (stands p k p' g r.types r.depths h l ex ((mk h.method).door group.Entry) b fs' w ss)
  entry_begins c h l ex b fs fs' w ss e old fits keeps bes numbers deep under =
      let h1 : Frame = record h { local = l } in
      let scene : Paired p k p' g r.types r.depths (mk h.method) h1 fs fs' w ex ss = record { keeps = keeps; beside = bes; numbers = numbers; deep = deep } in
      by_group (next_piece p c group.Entry 0 h fs w) (runs_at c group.Entry w.depth) (λ x q. found_piece p c group.Entry 0 h fs w x q) ((groups_of h.method c e old).enters h1 fs fs' w ex ss b refl (no_exception h.thrown fits) scene)
    where
      from : Next
      from = stands p k p' g r.types r.depths h l ex ((mk h.method).door group.Entry) b fs' w ss

      h2 : Frame
      h2 = record h { local = l }

      at_rest : Comes_to h2 fs l ((mk h.method).out group.Entry) b fs' w from → To (cst + lay (suc (length fs))) (go_to_rest p c (with_local l h) fs w) from
      at_rest a = arrives_here cst from h2 (Rest c.effective.rest_from) l b fs fs' w old (rest_here c h.method e) (subst (λ z. Comes_to h2 fs l z b fs' w from) (groups_of h.method c e old).entry_out a) under

      by_group : (o : Option (ℕ × Piece)) (t : Bool) → ((x : ℕ × Piece) → o ≡ Some x → piece_at (Some c) group.Entry x.0 ≡ Some x.1) → Rattle.splice_facts.specs.Spliced.EntersAt p k p' g r.types r.depths (mk h.method) c cst from h2 fs l b fs' w o t
          → To (cst + lay (suc (length fs))) (if t then begin_first p c o (with_local l h) fs w else go_to_rest p c (with_local l h) fs w) from
      by_group (Some x) true there a = arrives_here cst from h2 (InGroup group.Entry x.0 x.1.from) l b fs fs' (raised w) old (piece_here c h group.Entry x e old (there x refl)) a under
      by_group (Some x) false there a = at_rest a
      by_group None true there a = at_rest a
      by_group None false there a = at_rest a

  at_door : (c : Plan) (h : Frame) (q : ℕ) (l l0 : Local) (ex : List Cell) (hs hs' hs0 : List Handling) (q0 : ℕ) (b : Continuation) (fs' : List Frame) (w : World) (ss : List Statics) → plan h.method ≡ Some c → h.method < r.methods → q ≡ c.effective.lead_end → HandlingPairs (plan h.method) (mk h.method) (rows h.method) (LeadIn q) hs hs'
      → goes_at p' (tw h l0 ex q0 hs0 b) (Rest ((mk h.method).places (LeadIn q))) (grow ex l) hs' fs' (beside ss w) ≡ stands p k p' g r.types r.depths h l ex ((mk h.method).door group.Entry) b fs' w ss
  at_door c h q l l0 ex hs hs' hs0 q0 b fs' w ss e old eq pairs =
      let gs = groups_of h.method c e old in
      let door : (mk h.method).places (LeadIn q) ≡ (mk h.method).door group.Entry = ap (λ z. (mk h.method).places (LeadIn z)) eq ∙ sym gs.entry_door in
      let none = none_kept (plan h.method) (mk h.method) (rows h.method) (LeadIn q) (in_handler (body_of p' h.method).regions ((mk h.method).door group.Entry)) hs hs'
      (λ h1 h2 y. same_number (body_of p' h.method).regions ((mk h.method).door group.Entry) h1 h2 y.handler ∙ gs.bare_doors group.Entry h1 y.low) pairs in
      ap (λ z. goes_at p' (tw h l0 ex q0 hs0 b) (Rest z) (grow ex l) hs' fs' (beside ss w)) door
      ∙ ap (λ z. Running (record { frames = tw h l ex ((mk h.method).door group.Entry) z b ∷ fs'; world = beside ss w })) none

  -- a frame arrives at a place, and its twin at the image
  pub arrives : (o : Option Plan) (h : Frame) (at : ProgramPoint) (l l0 : Local) (ex : List Cell) (hs hs' hs0 : List Handling) (q0 : ℕ) (b : Continuation) (fs fs' : List Frame) (w : World) (ss : List Statics) → plan h.method ≡ o → h.method < r.methods → CanArrive o at → Pairs.FitsAt Fits at h.thrown → Keeps (mk h.method) (here_of h fs) h.thrown l ex → Waits (plan h.method) (mk h.method) (rows h.method) at hs hs' → IsBeside w ss → length fs' ≡ length fs → w.depth ≤ suc k.settings.guard → below h.continuation b fs fs'
      → To (cst + lay (suc (length fs))) (arrive_in p o h at l hs fs w) (goes_at p' (tw h l0 ex q0 hs0 b) (Rest ((mk h.method).places at)) (grow ex l) hs' fs' (beside ss w))
  arrives None h at l l0 ex hs hs' hs0 q0 b fs fs' w ss e old can fits keeps pairs bes numbers deep under =
      reaches_within p' E R f (lay (suc (length fs))) _ _ _ (omega arith) (goes_here h at l l0 hs hs' hs0 q0 ex b fs fs' w ss old (subst (λ o. IsHere o at) (sym e) can) keeps pairs under bes)
  arrives (Some c) h (InGroup gr j q) l l0 ex hs hs' hs0 q0 b fs fs' w ss e old can fits keeps pairs bes numbers deep under =
      reaches_within p' E R f (lay (suc (length fs))) _ _ _ (omega arith)
      (goes_here h (InGroup gr j q) l l0 hs hs' hs0 q0 ex b fs fs' w ss old (subst (λ o. IsHere o (InGroup gr j q)) (sym e) can) keeps pairs under bes)
  arrives (Some c) h (Rest q) l l0 ex hs hs' hs0 q0 b fs fs' w ss e old can fits keeps pairs bes numbers deep under =
      reaches_within p' E R f (lay (suc (length fs))) _ _ _ (omega arith) (goes_here h (Rest q) l l0 hs hs' hs0 q0 ex b fs fs' w ss old (subst (λ o. IsHere o (Rest q)) (sym e) can) keeps pairs under bes)
  arrives (Some c) h (LeadIn q) l l0 ex hs hs' hs0 q0 b fs fs' w ss e old can fits keeps pairs bes numbers deep under =
      ⊎_elim
      (λ t. subst (λ z. To (cst + lay (suc (length fs))) z (goes_at p' (tw h l0 ex q0 hs0 b) (Rest ((mk h.method).places (LeadIn q))) (grow ex l) hs' fs' (beside ss w))) (sym (pick_true (q == c.effective.lead_end) entered (goes_at p h (LeadIn q) l hs fs w) t.0))
      (subst (λ z. To (cst + lay (suc (length fs))) entered z) (sym (at_door c h q l l0 ex hs hs' hs0 q0 b fs' w ss e old t.1 pairs))
      (entry_begins c h l ex b fs fs' w ss e old fits keeps bes numbers deep under)))
      (λ t. subst (λ z. To (cst + lay (suc (length fs))) z (goes_at p' (tw h l0 ex q0 hs0 b) (Rest ((mk h.method).places (LeadIn q))) (grow ex l) hs' fs' (beside ss w))) (sym (pick_false (q == c.effective.lead_end) entered (goes_at p h (LeadIn q) l hs fs w) t.0))
      (let lt : q < c.effective.lead_end = omega (arith, can, t.1) in
      reaches_within p' E R f (lay (suc (length fs))) _ _ _ (omega arith) (goes_here h (LeadIn q) l l0 hs hs' hs0 q0 ex b fs fs' w ss old (subst (λ o. IsHere o (LeadIn q)) (sym e) lt) keeps pairs under bes)))
      (eqb_tells q c.effective.lead_end)
    where
      entered : Next
      entered = begin_entry p c (with_local l h) fs w

  -- the same by the method's own plan
  pub arrives_alike : (h : Frame) (at : ProgramPoint) (l l0 : Local) (ex : List Cell) (hs hs' hs0 : List Handling) (q0 : ℕ) (b : Continuation) (fs fs' : List Frame) (w : World) (ss : List Statics) → h.method < r.methods → CanArrive (plan h.method) at → Pairs.FitsAt Fits at h.thrown → Keeps (mk h.method) (here_of h fs) h.thrown l ex → Waits (plan h.method) (mk h.method) (rows h.method) at hs hs' → IsBeside w ss → length fs' ≡ length fs → w.depth ≤ suc k.settings.guard → below h.continuation b fs fs'
      → To (cst + lay (suc (length fs))) (arrive_in p (plan h.method) h at l hs fs w) (goes_at p' (tw h l0 ex q0 hs0 b) (Rest ((mk h.method).places at)) (grow ex l) hs' fs' (beside ss w))
  arrives_alike h at l l0 ex hs hs' hs0 q0 b fs fs' w ss old can fits keeps pairs bes numbers deep under = arrives (plan h.method) h at l l0 ex hs hs' hs0 q0 b fs fs' w ss refl old can fits keeps pairs bes numbers deep under
