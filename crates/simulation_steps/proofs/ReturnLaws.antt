-- Frames return in both runs, and groups end.
use Rattle.std.proofs.Common.{◌≡◌, ℕ, suc, ◌+◌, ◌*◌, ◌<◌, ◌≤◌, true, false, List, [], ◌∷◌, length, Option, Some, None, refl, sym, ap, ◌∙◌, subst, arith}
use Rattle.std.specs.Prelude.{if◌then◌else◌, IsTrue, option_and_then}
use Rattle.cil_model.specs.declared.ty.Ty.{Ty}
use Rattle.cil_model.specs.declared.value.Value.{Value, Obj}
use Rattle.cil_model.specs.declared.contract.Contracts.{Contracts}
use Rattle.cil_model.specs.declared.contract.Group.{Group}
use Rattle.cil_model.specs.declared.contract.Group.TheVariants as group
use Rattle.cil_model.specs.declared.program.Program.{Program}
use Rattle.cil_model.specs.declared.program.MethodDesc.{MethodDesc}
use Rattle.cil_model.specs.NoContracts.{no_contracts}
use Rattle.cil_semantics.specs.declared.state.Cell.{Cell}
use Rattle.cil_semantics.specs.declared.state.Local.{Local as LocalState}
use Rattle.cil_semantics.specs.declared.state.World.{World}
use Rattle.cil_semantics.specs.declared.state.Statics.{Statics}
use Rattle.cil_semantics.specs.declared.state.ProgramPoint.{ProgramPoint}
use Rattle.cil_semantics.specs.declared.state.ProgramPoint.TheVariants.{LeadIn, InGroup, Rest}
use Rattle.cil_semantics.specs.declared.state.Handling.{Handling}
use Rattle.cil_semantics.specs.declared.state.Frame.{Frame}
use Rattle.cil_semantics.specs.State.{Next, pushed, with_stack, with_local, raised, lowered}
use Rattle.cil_semantics.specs.declared.state.Continuation.{Continuation}
use Rattle.cil_semantics.specs.declared.state.Continuation.TheVariants.{Push, PushObject, PushStruct, ThrowObject, BeginCallee, UseField, TryNext}
use Rattle.cil_semantics.specs.Acts.{truth}
use Rattle.cil_semantics.specs.Contracted.{pieces, Piece, Plan, runs_at}
use Rattle.cil_semantics.specs.Unwind.{body_of, plan_at, piece_at, here_of, next_place, begin_piece, begin_group, begin_rest, next_piece, no_handler_left, drops, ends_frame, unwind}
use Rattle.cil_semantics.specs.Frames.{stuck, use_static}
use Rattle.cil_semantics.specs.Returns.{push_below, return_with, return_to, begin_invariants, group_over, piece_over, last_cell}
use Rattle.cil_semantics.specs.Checks.{AddedNumbers}
use Rattle.splice_facts.specs.Bodies.{with_methods}
use Rattle.splice_facts.specs.Grown.{beside}
use Rattle.splice_facts.specs.WellFormed.{WellFormedContinuation, WellFormedAccess, WellFormedObjects}
use Rattle.splice_facts.specs.Layout.{Marks, Keeps, IsHere, CanArrive}
use Rattle.splice_facts.specs.Spliced.{Paired, stands, Arrives}
use Rattle.splice_facts.specs.Related.{Rewritten, HandlingPairs, Waits, FramePair, Under, count_groups, in_group}
use Rattle.splice_facts.specs.Related as Pairs
use Rattle.splice_facts.proofs.ExceptionLaws.{are_exceptions}
use Rattle.splice_facts.proofs.ComesLaws.{found_piece}
use Rattle.splice_facts.specs.Exceptions.{IsObject, ObjectIf, BackThere, ExceptionIf}
use Rattle.splice_facts.specs.Input.{ReturnsAsNamed}
use Rattle.simulation.proofs.ArriveLaws as Arriving
use Rattle.simulation.proofs.ArriveLaws.{group_begins, groups_of, arrives_here, rest_here}
use Rattle.simulation.proofs.UnwindLaws as Unwinding
use Rattle.simulation.proofs.UnwindLaws.{as_many, unwinds, unwinds_at, continued, ends_so}
use Rattle.simulation.proofs.PushLaws as Pushing
use Rattle.simulation_steps.proofs.PerformLaws as Performing
use Rattle.simulation_steps.proofs.EnterLaws as Entering
use Rattle.simulation_steps.proofs.DelegateLaws as Delegating

module _ (p : Program) (k : Contracts) (ms : List MethodDesc) (g : AddedNumbers) (r : Rewritten p k ms g) where
  abbrev p' : Program
  p' = with_methods p ms

  abbrev To : ℕ → Next → Next → Type 0
  To n x y = Unwinding.To p k ms g r n x y

  abbrev lay : ℕ → ℕ
  lay n = Unwinding.lay p k ms g r n

  abbrev cst : ℕ
  cst = Unwinding.cst p k ms g r

  abbrev IsBeside : World → List Statics → Type 0
  IsBeside w ss = Unwinding.IsBeside p k ms g r w ss

  abbrev below : Continuation → Continuation → List Frame → List Frame → Type 0
  below b b' fs fs' = Under p k ms g r b b' fs fs'

  abbrev valid : List Frame → Type 0
  valid fs = Pairs.AllStand p k ms g r fs

  abbrev mk : ℕ → Marks
  mk m = Pairs.marks_in p k ms g r m

  -- ---- an exception of a constructor that Requires<E> called

  stack_unread : (h : Frame) (at : ProgramPoint) (s : List Value) (fs : List Frame) (w : World) (x : ℕ) → IsTrue (Pairs.is_in at) → unwind p k false (record h { at = at; local = with_stack h.local s } ∷ fs) w x ≡ unwind p k false (record h { at = at } ∷ fs) w x
  unfolding unwind
  stack_unread h (LeadIn q) s fs w x e = absurd (cc e)
  stack_unread h (Rest q) s fs w x e = absurd (cc e)
  stack_unread h (InGroup gr j q) s fs w x e = by_plan (plan_at k p h.method)
    where
      by_piece : (c : Plan) (o : Option (ℕ × Piece)) → begin_piece p group.Entry o (with_local (with_stack h.local s) (record h { at = InGroup gr j q; local = with_stack h.local s })) fs w (begin_rest p c (with_local (with_stack h.local s) (record h { at = InGroup gr j q; local = with_stack h.local s })) fs (lowered w)) ≡ begin_piece p group.Entry o (with_local h.local (record h { at = InGroup gr j q })) fs w (begin_rest p c (with_local h.local (record h { at = InGroup gr j q })) fs (lowered w))
      by_piece c None = refl
      by_piece c (Some y) = refl

      by_plan : (o : Option Plan) → no_handler_left p o (record h { at = InGroup gr j q; local = with_stack h.local s }) (InGroup gr j q) fs w x (λ t v y. unwind p k t fs v y) ≡ no_handler_left p o (record h { at = InGroup gr j q }) (InGroup gr j q) fs w x (λ t v y. unwind p k t fs v y)
      by_plan None = refl
      by_plan (Some c) = ap (λ z. if drops (piece_at (Some c) gr j) then z else ends_frame p h.initializes h.continuation (lowered w) x (λ t v y. unwind p k t fs v y)) (by_piece c (next_piece p c group.Entry (j + 1) (record h { at = InGroup gr j q }) fs w))

  no_handling : (m : ℕ) (at : ProgramPoint) (hs hs' : List Handling) → IsTrue (Pairs.is_in at) → Waits (plan_at k p m) (mk m) (length (body_of p m).regions) at hs hs' → hs' ≡ []
  no_handling m (LeadIn q) hs hs' e x = absurd (cc e)
  no_handling m (Rest q) hs hs' e x = absurd (cc e)
  no_handling m (InGroup gr j q) hs hs' e x = x.1

  -- the plain run pushes the exception and throws it
  pub makes_throw : (x q : ℕ) (h h' : Frame) (fs fs' : List Frame) (w : World) (ss : List Statics) → FramePair p k ms g r q h fs h' → IsHere (plan_at k p h.method) h.at → Pairs.Throws_here p k ms g r h q x → below h.continuation h'.continuation fs fs' → Pairs.Standing p k ms g r h fs → valid fs → IsBeside w ss → IsObject (length w.heap) x → w.depth ≤ suc k.settings.guard → w.depth ≡ in_group h.at + count_groups fs
      → To (3 * cst + lay (suc (length fs))) (unwind p k false (h ∷ fs) w x) (push_below p' no_contracts (Some (Obj x)) (h' ∷ fs') (beside ss w))
  makes_throw x q h h' fs fs' w ss pair here t under st ok bes there deep count =
      let none = no_handling h.method h.at h.handling h'.handling t.in_group pair.waits in
      let h1 : Frame = record h { local = pushed (Obj x) h.local } in
      let u = unwinds_at p k ms g r h1 h.at pair.extra [] t.next.thrower h'.continuation fs fs' w ss x
      (record { old = st.old; here = here; thrown_there = there; belongs = t.next.belongs; keeps = record { typed = pair.keeps.typed; result = pair.keeps.result; thrown = pair.keeps.thrown; wide = pair.keeps.wide; caps = pair.keeps.caps }; fits = st.fits; waits = no_waits h.at t.in_group pair.waits; under = under; alike = bes; numbers = as_many p k ms g r h.continuation h'.continuation fs fs' under; deep = deep; count = count; down = unwinds p k ms g r h.continuation h'.continuation fs fs' under ok; own = st.initializes }) in
      let e1 = stack_unread h h.at (Obj x ∷ h.local.stack) fs w x t.in_group in
      subst (λ z. To (3 * cst + lay (suc (length fs))) (unwind p k false (h ∷ fs) w x) (push_below p' no_contracts (Some (Obj x)) (z ∷ fs') (beside ss w))) (sym (pair.same ∙ ap (λ hs. Unwinding.tw p k ms g r h h.local pair.extra q hs h'.continuation) none))
      (Unwinding.reach_within p k ms g r (cst + (2 * cst + lay (suc (length fs)))) _ _ _ (omega arith)
      (Unwinding.reach_by p k ms g r cst (2 * cst + lay (suc (length fs))) _ _ _ (t.next.throws h.local pair.extra h'.continuation fs' (beside ss w))
      (subst (λ z. To (2 * cst + lay (suc (length fs))) z (unwind p' no_contracts false (Unwinding.tw p k ms g r h (pushed (Obj x) h.local) pair.extra t.next.thrower [] h'.continuation ∷ fs') (beside ss w) x)) e1 u)))
    where
      no_waits : (at : ProgramPoint) → IsTrue (Pairs.is_in at) → Waits (plan_at k p h.method) (mk h.method) (length (body_of p h.method).regions) at h.handling h'.handling → Waits (plan_at k p h.method) (mk h.method) (length (body_of p h.method).regions) at h.handling []
      no_waits (LeadIn a) e y = absurd (cc e)
      no_waits (Rest a) e y = absurd (cc e)
      no_waits (InGroup gr j a) e y = (y.0, refl)

  -- ---- the value goes down

  uses_so : (a : Rattle.cil_semantics.specs.declared.state.Access.Access) (args : List Cell) (v : Option Value) (h h' : Frame) (hs hs' : List Frame) (w : World) (ss : List Statics) (t : Performing.Top p k ms g r h h' hs hs' w ss) → Rattle.splice_facts.specs.Layout.Onward (plan_at k p h.method) (mk h.method).places h.at (next_place h.at) → WellFormedAccess (Pairs.bounds p k ms g r) a
      → To (cst + lay (suc (length hs))) (return_with p k (UseField a) args v (h ∷ hs) w) (return_with p' no_contracts (UseField a) args v (h' ∷ hs') (beside ss w))
  uses_so a args v h h' hs hs' w ss t on fine =
      subst (λ z. To (cst + lay (suc (length hs))) (use_static p k a h h.local hs w) (use_static p' no_contracts a h' z hs' (beside ss w))) (sym (ap (λ (z : Frame). z.local) (t.pair).same))
      (Performing.uses_static p k ms g r h h' hs hs' w ss a h.local t on (record { result = refl; locals = refl; captured = refl }) fine)

  sooner : (n : ℕ) (x y : Next) → To (cst + lay n) x y → To (cst + lay (suc (suc n))) x y
  sooner n x y h = Unwinding.reach_within p k ms g r (cst + lay n) _ _ _ (omega arith) h

  abbrev WellFormedHeap : World → Type 0
  WellFormedHeap w = WellFormedObjects (Pairs.bounds p k ms g r) w.heap

  common_returns : (b : Continuation) (args : List Cell) (v : Option Value) (fs fs' : List Frame) (w : World) (ss : List Statics) → Pairs.IsCommon p k ms g r b → below b b fs fs' → valid fs → WellFormedHeap w → IsBeside w ss → w.depth ≤ suc k.settings.guard → w.depth ≡ count_groups fs → ((a : Rattle.cil_semantics.specs.declared.state.Access.Access) → b ≡ UseField a → To (cst + lay (length fs)) (return_with p k (UseField a) args v fs w) (return_with p' no_contracts (UseField a) args v fs' (beside ss w)))
      → To (cst + lay (suc (suc (length fs)))) (return_with p k b args v fs w) (return_with p' no_contracts b args v fs' (beside ss w))
  common_returns Push args v fs fs' w ss c u ok heap bes deep count us = sooner (length fs) _ _ (Pushing.pushes p k ms g r Push Push v fs fs' w ss c u ok bes deep)
  common_returns (PushObject x) args v fs fs' w ss c u ok heap bes deep count us = sooner (length fs) _ _ (Pushing.pushes p k ms g r (PushObject x) (PushObject x) (Some x) fs fs' w ss c u ok bes deep)
  common_returns PushStruct args v fs fs' w ss c u ok heap bes deep count us = sooner (length fs) _ _ (Pushing.pushes p k ms g r PushStruct PushStruct (last_cell args) fs fs' w ss c u ok bes deep)
  common_returns (ThrowObject x) args v fs fs' w ss c u ok heap bes deep count us = absurd c
  common_returns BeginCallee args v fs fs' w ss c u ok heap bes deep count us = absurd c
  common_returns (UseField a) args v fs fs' w ss c u ok heap bes deep count us = sooner (length fs) _ _ (us a refl)
  common_returns (TryNext e t0 l) args v fs fs' w ss c u ok heap bes deep count us = Delegating.answers_tried p k ms g r e t0 l (option_and_then truth v) (TryNext e t0 l) fs fs' w ss c u ok heap bes deep count

  pub returns_down : (b b' : Continuation) (args : List Cell) (v : Option Value) (fs fs' : List Frame) (w : World) (ss : List Statics) → below b b' fs fs' → valid fs → WellFormedContinuation (Pairs.bounds p k ms g r) b → BackThere (length w.heap) b → WellFormedHeap w → IsBeside w ss → w.depth ≤ suc k.settings.guard → w.depth ≡ count_groups fs
      → To (cst + lay (suc (suc (length fs)))) (return_with p k b args v fs w) (return_with p' no_contracts b' args v fs' (beside ss w))
  returns_down b b' args v fs fs' w ss (Under.bottom b1 c) ok fine back heap bes deep count =
      common_returns b1 args v [] [] w ss c (Under.bottom b1 c) ok heap bes deep count (λ a e. Arriving.stuck_both p k ms g r _ w ss bes)
  returns_down b b' args v fs fs' w ss (Under.waits b1 h h' hs hs' c pair here on under) ok fine back heap bes deep count =
      let top : Performing.Top p k ms g r h h' hs hs' w ss = record { pair = pair; here = here; under = under; stands = ok.0; others = ok.1; alike = bes; deep = deep; count = count } in
      common_returns b1 args v (h ∷ hs) (h' ∷ hs') w ss c (Under.waits b1 h h' hs hs' c pair here on under) ok heap bes deep count
      (λ a e. uses_so a args v h h' hs hs' w ss top on (subst (WellFormedContinuation (Pairs.bounds p k ms g r)) e fine))
  returns_down b b' args v fs fs' w ss (Under.begins h h' hs hs' pair first n n' under) ok fine back heap bes deep count =
      sooner (suc (length hs)) _ _ (Entering.begins_so p k ms g r h h' hs hs' w ss pair first ok.0 under bes deep)
  returns_down b b' args v fs fs' w ss (Under.throws x q h h' hs hs' pair here th under) ok fine back heap bes deep count =
      Unwinding.reach_within p k ms g r (3 * cst + lay (suc (length hs))) _ _ _ (omega arith) (makes_throw x q h h' hs hs' w ss pair here th under ok.0 ok.1 bes back deep count)

  -- ---- groups end

  -- what is known of a frame whose group is over, with the depth as it is then
  pub record Over (c : Plan) (h : Frame) (l : LocalState) (ex : List Cell) (b' : Continuation) (fs fs' : List Frame) (w : World) (ss : List Statics) : Type 0 where
    pub plan : plan_at k p h.method ≡ Some c
    pub old : h.method < r.methods
    pub keeps : Keeps (mk h.method) (here_of h fs) h.thrown l ex
    pub under : below h.continuation b' fs fs'
    pub others : valid fs
    pub own : (t : Ty) → h.initializes ≡ Some t → IsTrue (Rattle.machine_laws.specs.Answers.is_below r.types t)
    pub fine_back : WellFormedContinuation (Pairs.bounds p k ms g r) h.continuation
    pub deep : w.depth ≤ suc k.settings.guard
    pub count : w.depth ≡ count_groups fs
    pub heap : WellFormedHeap w
    -- what it throws, and where it returns, are objects
    pub thrown : ObjectIf (length w.heap) h.thrown
    pub back : BackThere (length w.heap) h.continuation
    pub named : ReturnsAsNamed p h

  abbrev at_new : Frame → LocalState → List Cell → ℕ → Continuation → List Frame → World → List Statics → Next
  at_new h l ex q b' fs' w ss = stands p k p' g r.types r.depths h l ex q b' fs' w ss

  -- behind the invariants the value goes down
  invariants_over : (c : Plan) (h : Frame) (l : LocalState) (ex : List Cell) (b' : Continuation) (fs fs' : List Frame) (w : World) (ss : List Statics) → Rattle.splice_facts.specs.Spliced.Stays p k p' g r.types r.depths c h l.result → IsBeside w ss → Over c h l ex b' fs fs' w ss
      → To (2 * cst + lay (suc (suc (length fs)))) (return_to p k (with_local l h) fs w) (at_new h l ex ((mk h.method).out group.Invariant) b' fs' w ss)
  unfolding return_to
  invariants_over c h l ex b' fs fs' w ss stays bes z =
      let h1 : Frame = record h { local = l } in
      let scene : Paired p k p' g r.types r.depths (mk h.method) h1 fs fs' w ex ss = record { keeps = z.keeps; beside = bes; numbers = as_many p k ms g r h.continuation b' fs fs' z.under; deep = z.deep } in
      let t = (groups_of p k ms g r h.method c z.plan z.old).returns h1 fs fs' w ex ss b' refl z.named stays scene in
      Unwinding.reach_within p k ms g r (cst + (cst + lay (suc (suc (length fs))))) _ _ _ (omega arith)
      (Unwinding.reach_by p k ms g r cst (cst + lay (suc (suc (length fs)))) _ _ _ t (returns_down h.continuation b' l.args l.result fs fs' w ss z.under z.others z.fine_back z.back z.heap bes z.deep z.count))

  pub stack_gone : (h : Frame) (l : LocalState) (fs : List Frame) (w : World) → return_to p k (with_local (with_stack l []) h) fs w ≡ return_to p k (with_local l h) fs w
  unfolding return_to
  stack_gone h l fs w = refl

  piece_stack : (gr : Group) (h : Frame) (l : LocalState) (fs : List Frame) (w : World) (over : Next) (o : Option (ℕ × Piece)) → begin_piece p gr o (with_local (with_stack l []) h) fs w over ≡ begin_piece p gr o (with_local l h) fs w over
  piece_stack gr h l fs w over None = refl
  piece_stack gr h l fs w over (Some x) = refl

  pub group_stack : (c : Plan) (gr : Group) (h : Frame) (l : LocalState) (fs : List Frame) (w : World) (over over' : Next) → over' ≡ over → begin_group p c gr (with_local (with_stack l []) h) fs w over' ≡ begin_group p c gr (with_local l h) fs w over
  group_stack c gr h l fs w over over' e =
      ap (λ z. begin_group p c gr (with_local (with_stack l []) h) fs w z) e
      ∙ ap (λ z. if runs_at c gr w.depth then z else over) (piece_stack gr h l fs (raised w) over (next_piece p c gr 0 h fs w))

  -- the group of invariants begins, or the value goes down
  pub invariants_begin : (c : Plan) (h : Frame) (l : LocalState) (ex : List Cell) (b' : Continuation) (fs fs' : List Frame) (w : World) (ss : List Statics) → Rattle.splice_facts.specs.Spliced.Stays p k p' g r.types r.depths c h l.result → l.stack ≡ [] → h.thrown ≡ None → IsBeside w ss → Over c h l ex b' fs fs' w ss
      → To (3 * cst + lay (suc (suc (length fs)))) (begin_invariants p k c (with_local l h) fs w) (at_new h l ex ((mk h.method).door group.Invariant) b' fs' w ss)
  invariants_begin c h l ex b' fs fs' w ss stays empty bare bes z =
      group_begins p k ms g r c group.Invariant h l ex b' fs fs' w ss (return_to p k (with_local l h) fs w) z.plan z.old (λ d. cc d) empty (subst (λ o. Unwinding.Fits p k ms g r group.Invariant o) (sym bare) tt) (subst (ExceptionIf p w) (sym bare) tt) z.keeps bes (as_many p k ms g r h.continuation b' fs fs' z.under) z.deep z.under (3 * cst + lay (suc (suc (length fs)))) (omega arith)
      (λ a.
      let rest = invariants_over c h (with_stack l []) a.extra b' fs fs' w a.statics stays a.beside (record { plan = z.plan; old = z.old; keeps = a.keeps; under = z.under; others = z.others; own = z.own; fine_back = z.fine_back; deep = z.deep; count = z.count; heap = z.heap; thrown = z.thrown; back = z.back; named = z.named }) in
      Unwinding.reach_within p k ms g r (cst + (2 * cst + lay (suc (suc (length fs))))) _ _ _ (omega arith)
      (Unwinding.reach_by p k ms g r cst (2 * cst + lay (suc (suc (length fs)))) _ _ _ a.comes
      (subst (λ y. To (2 * cst + lay (suc (suc (length fs)))) y (at_new h (with_stack l []) a.extra ((mk h.method).out group.Invariant) b' fs' w a.statics)) (stack_gone h l fs w) rest)))

  -- the clauses on exceptions are over
  throws_over : (c : Plan) (h : Frame) (l : LocalState) (ex : List Cell) (b' : Continuation) (fs fs' : List Frame) (w : World) (ss : List Statics) (x : ℕ) → Rattle.splice_facts.specs.Spliced.has_any p k p' g r.types r.depths (pieces c group.Throw) ≡ true → h.thrown ≡ Some x → IsBeside w ss → Over c h l ex b' fs fs' w ss
      → To (3 * cst + lay (length fs)) (ends_frame p h.initializes h.continuation w x (λ s v y. unwind p k s fs v y)) (at_new h l ex ((mk h.method).out group.Throw) b' fs' w ss)
  throws_over c h l ex b' fs fs' w ss x kept e bes z =
      let h1 : Frame = record h { local = l } in
      let scene : Paired p k p' g r.types r.depths (mk h.method) h1 fs fs' w ex ss = record { keeps = z.keeps; beside = bes; numbers = as_many p k ms g r h.continuation b' fs fs' z.under; deep = z.deep } in
      let t = (groups_of p k ms g r h.method c z.plan z.old).throws h1 fs fs' w ex ss b' x refl e kept scene in
      Unwinding.reach_within p k ms g r (cst + (2 * cst + lay (length fs))) _ _ _ (omega arith)
      (Unwinding.reach_by p k ms g r cst (2 * cst + lay (length fs)) _ _ _ t (ends_so p k ms g r h b' fs fs' w ss x (unwinds p k ms g r h.continuation b' fs fs' z.under z.others) z.own bes (subst (ObjectIf (length w.heap)) e z.thrown) z.count z.deep))

  not_thrown : (gr : Group) (o : Option ℕ) → Unwinding.Fits p k ms g r gr o → (gr ≡ group.Throw → ⊥) → o ≡ None
  not_thrown group.Entry None f n = refl
  not_thrown group.Entry (Some x) f n = absurd f
  not_thrown group.Exit None f n = refl
  not_thrown group.Exit (Some x) f n = absurd f
  not_thrown group.Invariant None f n = refl
  not_thrown group.Invariant (Some x) f n = absurd f
  not_thrown group.Inline None f n = refl
  not_thrown group.Inline (Some x) f n = absurd f
  not_thrown group.Throw o f n = absurd (n refl)

  thrown_over : (c : Plan) (h : Frame) (l : LocalState) (ex : List Cell) (b' : Continuation) (fs fs' : List Frame) (w : World) (ss : List Statics) (o : Option ℕ) → Rattle.splice_facts.specs.Spliced.has_any p k p' g r.types r.depths (pieces c group.Throw) ≡ true → h.thrown ≡ o → Unwinding.Fits p k ms g r group.Throw o → IsBeside w ss → Over c h l ex b' fs fs' w ss
      → To (3 * cst + lay (length fs)) (Rattle.cil_semantics.specs.Words.maybe (stuck w) (λ x. ends_frame p h.initializes h.continuation w x (λ s v y. unwind p k s fs v y)) o) (at_new h l ex ((mk h.method).out group.Throw) b' fs' w ss)
  thrown_over c h l ex b' fs fs' w ss None kept e f bes z = absurd f
  thrown_over c h l ex b' fs fs' w ss (Some x) kept e f bes z = throws_over c h l ex b' fs fs' w ss x kept e bes z

  -- any group is over
  pub group_is_over : (c : Plan) (gr : Group) (h : Frame) (l : LocalState) (ex : List Cell) (b' : Continuation) (fs fs' : List Frame) (w : World) (ss : List Statics) → (gr ≡ group.Inline → ⊥) → Rattle.splice_facts.specs.Spliced.StaysIn p k p' g r.types r.depths c gr h l.result → Unwinding.Fits p k ms g r gr h.thrown → IsBeside w ss → Over c h (with_stack l []) ex b' fs fs' w ss
      → To (3 * cst + lay (suc (suc (length fs)))) (group_over p k c gr (with_local l h) fs w) (at_new h (with_stack l []) ex ((mk h.method).out gr) b' fs' w ss)
  group_is_over c group.Inline h l ex b' fs fs' w ss n stays fit bes z = absurd (n refl)
  group_is_over c group.Invariant h l ex b' fs fs' w ss n stays fit bes z =
      Unwinding.reach_within p k ms g r (2 * cst + lay (suc (suc (length fs)))) _ _ _ (omega arith)
      (subst (λ y. To (2 * cst + lay (suc (suc (length fs)))) y (at_new h (with_stack l []) ex ((mk h.method).out group.Invariant) b' fs' w ss)) (stack_gone h l fs w) (invariants_over c h (with_stack l []) ex b' fs fs' w ss stays bes z))
  group_is_over c group.Exit h l ex b' fs fs' w ss n stays fit bes z =
      subst (λ q. To (3 * cst + lay (suc (suc (length fs)))) (begin_invariants p k c (with_local l h) fs w) (at_new h (with_stack l []) ex q b' fs' w ss)) (sym (groups_of p k ms g r h.method c z.plan z.old).then_invariants)
      (subst (λ y. To (3 * cst + lay (suc (suc (length fs)))) y (at_new h (with_stack l []) ex ((mk h.method).door group.Invariant) b' fs' w ss)) (group_stack c group.Invariant h l fs w (return_to p k (with_local l h) fs w) (return_to p k (with_local (with_stack l []) h) fs w) (stack_gone h l fs w))
      (invariants_begin c h (with_stack l []) ex b' fs fs' w ss stays refl (not_thrown group.Exit h.thrown fit (λ e. cc e)) bes z))
  group_is_over c group.Throw h l ex b' fs fs' w ss n stays fit bes z = Unwinding.reach_within p k ms g r (3 * cst + lay (length fs)) _ _ _ (omega arith) (thrown_over c h (with_stack l []) ex b' fs fs' w ss h.thrown stays refl fit bes z)
  group_is_over c group.Entry h l ex b' fs fs' w ss n stays fit bes z =
      Unwinding.reach_within p k ms g r (lay (suc (length fs))) _ _ _ (omega arith)
      (subst (λ q. To (lay (suc (length fs))) (begin_rest p c (with_local l h) fs w) (at_new h (with_stack l []) ex q b' fs' w ss)) (sym (groups_of p k ms g r h.method c z.plan z.old).entry_out)
      (Arriving.goes_here p k ms g r h (Rest c.effective.rest_from) (with_stack l []) l [] [] [] 0 ex b' fs fs' w ss z.old (rest_here p k ms g r c h.method z.plan) z.keeps tt z.under bes))

  -- behind a piece the next one begins, or the group is over
  pub piece_is_over : (c : Plan) (gr : Group) (j : ℕ) (x : Piece) (h : Frame) (l : LocalState) (ex : List Cell) (b' : Continuation) (fs fs' : List Frame) (w : World) (ss : List Statics) → (gr ≡ group.Inline → ⊥) → Rattle.splice_facts.specs.Spliced.StaysIn p k p' g r.types r.depths c gr h l.result → Unwinding.Fits p k ms g r gr h.thrown → piece_at (Some c) gr j ≡ Some x → Over c h (with_stack l []) ex b' fs fs' (lowered w) ss → IsBeside w ss → w.depth ≤ suc k.settings.guard → 0 < w.depth
      → To (4 * cst + lay (suc (suc (length fs)))) (piece_over p k c gr j (with_local l h) fs w) (at_new h l ex ((mk h.method).behind gr j) b' fs' w ss)
  piece_is_over c gr j x h l ex b' fs fs' w ss n stays fit there z bes deep some =
      let h1 : Frame = record h { local = l } in
      let scene : Paired p k p' g r.types r.depths (mk h.method) h1 fs fs' w ex ss = record { keeps = record { typed = z.keeps.typed; result = z.keeps.result; thrown = z.keeps.thrown; wide = z.keeps.wide; caps = z.keeps.caps }; beside = bes; numbers = as_many p k ms g r h.continuation b' fs fs' z.under; deep = deep } in
      let a = (groups_of p k ms g r h.method c z.plan z.old).continues gr j x h1 fs fs' w ex ss b' there refl fit (are_exceptions p w h.thrown r.rooted z.thrown) some scene in
      continued p k ms g r c gr h1 l b' fs fs' w (at_new h l ex ((mk h.method).behind gr j) b' fs' w ss) (group_over p k c gr (with_local l h) fs (lowered w)) (next_piece p c gr (j + 1) h fs w) z.plan z.old z.under (λ y e. found_piece p c gr (j + 1) h fs w y e) a (4 * cst + lay (suc (suc (length fs)))) (omega arith)
      (λ a1. Unwinding.reach_within p k ms g r (cst + (3 * cst + lay (suc (suc (length fs))))) _ _ _ (omega arith)
      (Unwinding.reach_by p k ms g r cst (3 * cst + lay (suc (suc (length fs)))) _ _ _ a1.comes
      (group_is_over c gr h l a1.extra b' fs fs' (lowered w) a1.statics n stays fit a1.beside (record { plan = z.plan; old = z.old; keeps = a1.keeps; under = z.under; others = z.others; own = z.own; fine_back = z.fine_back; deep = z.deep; count = z.count; heap = z.heap; thrown = z.thrown; back = z.back; named = z.named }))))
