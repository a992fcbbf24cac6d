-- One step of both runs at a copied instruction whose act calls nothing.
use Rattle.std.proofs.Common.{◌≡◌, ℕ, zero, suc, ◌+◌, ◌*◌, ◌<◌, List, [], ◌∷◌, ◌++◌, length, Some, None, refl, sym, ap, ◌∙◌, subst, arith, append_assoc}
use Rattle.std.specs.Prelude.{slice_get, option_map, IsTrue}
use Rattle.cil_model.specs.declared.ty.Ty.{Ty}
use Rattle.cil_model.specs.declared.value.Value.{Value}
use Rattle.cil_model.specs.declared.body.Instr.{Instr}
use Rattle.cil_model.specs.declared.contract.Contracts.{Contracts}
use Rattle.cil_model.specs.declared.program.Program.{Program}
use Rattle.cil_model.specs.declared.program.MethodDesc.{MethodDesc}
use Rattle.cil_model.specs.NoContracts.{no_contracts}
use Rattle.cil_semantics.specs.Types.{under, same_ty}
use Rattle.cil_semantics.specs.Lookups.{method_of}
use Rattle.il_opcodes.specs.declared.class.Storage.{Storage}
use Rattle.il_opcodes.specs.declared.class.Storage.TheVariants.{Void}
use Rattle.cil_semantics.specs.Places.{storage}
use Rattle.cil_semantics.specs.declared.state.Local.{Local as LocalState}
use Rattle.cil_semantics.specs.declared.state.Item.{Item}
use Rattle.cil_semantics.specs.State.{with_objects, unrecorded, recorded_after, goes_after, State, Next, Running, Ended}
use Rattle.cil_semantics.specs.declared.state.World.{World}
use Rattle.cil_semantics.specs.declared.state.Statics.{Statics}
use Rattle.cil_semantics.specs.declared.state.Init.TheVariants.{Begun}
use Rattle.cil_semantics.specs.declared.state.ProgramPoint.{ProgramPoint}
use Rattle.cil_semantics.specs.declared.state.ProgramPoint.TheVariants.{LeadIn, InGroup, Rest}
use Rattle.cil_semantics.specs.declared.state.Frame.{Frame}
use Rattle.cil_semantics.specs.declared.state.Continuation.TheVariants.{UseField}
use Rattle.cil_semantics.specs.declared.state.Access.{Access}
use Rattle.il_opcodes.specs.Opcodes.{class_of}
use Rattle.cil_semantics.specs.Instructions.{act}
use Rattle.cil_semantics.specs.Acts.{Act, Stuck, GoOn, Jump, Raise, Throw, Rethrow, Leave, EndHandler, Return, Load, Store, Copy, UseStatic, CallMember, CallVirtual, NewObject, LoadVirtualFunction}
use Rattle.cil_semantics.specs.Unwind.{body_of, plan_at, piece_at, here_of, place_in, moved_to, next_place, begin_group, find_statics, set_statics, unwind}
use Rattle.cil_semantics.specs.Frames.{if_there, go_on, use_behind, initializer, Initializer, Ready, FailedWith, ToRun, initializer_frame, with_begun, static_cells, clause_tys}
use Rattle.cil_semantics.specs.Returns.{kept_as, result_type, returned}
use Rattle.cil_semantics.specs.Checks.{AddedNumbers}
use Rattle.cil_semantics.specs.Tokens.{Here, local_tys}
use Rattle.machine_laws.specs.Simulation.{weight, Match}
use Rattle.machine_laws.specs.Same.{plain_step}
use Rattle.cil_semantics.specs.Machine.{step, step_frames, and_then, runs, perform, unused_numbers, step_at, run_plain}
use Rattle.splice_facts.specs.Bodies.{with_methods}
use Rattle.splice_facts.specs.Grown.{grow, beside, grow_act, NamesLocals}
use Rattle.machine_laws.specs.Answers.{is_below}
use Rattle.splice_facts.specs.WellFormed.{WellFormedContinuation}
use Rattle.splice_facts.specs.Acting.{KeepsPlaces, WellFormedAct}
use Rattle.splice_facts.specs.Exceptions.{ThrowsObject}
use Rattle.splice_facts.specs.Layout.{Marks, Keeps, IsHere, CanArrive, Onward}
use Rattle.splice_facts.specs.Spliced.{Paired, from_here}
use Rattle.splice_facts.specs.Related.{Rewritten, FramePair, Under, count_groups, in_group}
use Rattle.splice_facts.specs.Related as Pairs
use Rattle.simulation.proofs.ProgramLaws.{storage_same, stored_in_same}
use Rattle.simulation.proofs.ActLaws.{act_grow}
use Rattle.splice_facts.proofs.ComesLaws.{no_plan}
use Rattle.simulation.proofs.ArriveLaws as Arriving
use Rattle.simulation.proofs.UnwindLaws as Unwinding
use Rattle.simulation.proofs.UnwindLaws.{as_many}
use Rattle.simulation_steps.proofs.PerformLaws as Performing
use Rattle.simulation_steps.proofs.EnterLaws as Entering
use Rattle.simulation_steps.proofs.PointerLaws as Pointing

-- as in GrowthLaws of cil_semantics, which other crates can't name
recorded_twice : (before t : List Item) (x : Next) → goes_after (before ++ t) x ≡ goes_after before (goes_after t x)
recorded_twice before t (Running s) = ap (λ z. Running (record s { world = record s.world { trace = z } })) (append_assoc before t s.world.trace)
recorded_twice before t (Ended o w) = ap (λ z. Ended o (record w { trace = z })) (append_assoc before t w.trace)

recorded_is_unread : (p : Program) (k : Contracts) (g : AddedNumbers) (before : List Item) (s : State) → step p k g (record s { world = recorded_after before s.world }) ≡ goes_after before (step p k g s)
unfolding step
recorded_is_unread p k g before s = recorded_twice before s.world.trace (step_frames p k g s.frames (unrecorded s.world))

module _ (p : Program) (k : Contracts) (ms : List MethodDesc) (g : AddedNumbers) (r : Rewritten p k ms g) where
  abbrev p' : Program
  p' = with_methods p ms

  abbrev To : ℕ → Next → Next → Type 0
  To n x y = Unwinding.To p k ms g r n x y

  abbrev An : ℕ → Next → Next → Type 0
  An n x y = Unwinding.An p k ms g r n x y

  abbrev lay : ℕ → ℕ
  lay n = Unwinding.lay p k ms g r n

  abbrev cst : ℕ
  cst = Unwinding.cst p k ms g r

  abbrev mk : ℕ → Marks
  mk m = Pairs.marks_in p k ms g r m

  abbrev Top : Frame → Frame → List Frame → List Frame → World → List Statics → Type 0
  Top f f' fs fs' w ss = Performing.Top p k ms g r f f' fs fs' w ss

  -- the plain machine's numbers, which it never reads
  abbrev none : AddedNumbers
  none = unused_numbers p'

  kept_as_same : (t : Ty) (h : Storage) (s : List Value) → kept_as p' t h s ≡ kept_as p t h s
  kept_as_same t h s = by_storage h s
    where
      by_storage : (h1 : Storage) (s1 : List Value) → kept_as p' t h1 s1 ≡ kept_as p t h1 s1
      by_storage Void s1 = refl
      by_storage _ [] = refl
      by_storage _ (v ∷ s1) = ap (option_map Some) (stored_in_same p ms t v)

  kept_type : (t : Ty) (s : List Value) → kept_as p' t (storage p' t) s ≡ kept_as p t (storage p t) s
  kept_type t s = ap (λ h. kept_as p' t h s) (storage_same p ms t) ∙ kept_as_same t (storage p t) s

  pub returned_same : (f f' : Frame) (s : List Value) → f'.method ≡ f.method → f'.type_args ≡ f.type_args → f'.method_args ≡ f.method_args → returned p' f' s ≡ returned p f s
  returned_same f f' s e e1 e2 =
      ap (λ t. kept_as p' t (storage p' t) s)
      (ap (λ m. under f'.type_args f'.method_args (method_of p' m).result) e ∙ ap (λ t. under f'.type_args f'.method_args t) ((r.same_methods f.method).result) ∙ ap (λ a. under a f'.method_args (method_of p f.method).result) e1 ∙ ap (λ a. under f.type_args a (method_of p f.method).result) e2)
      ∙ kept_type (result_type p f) s

  -- ---- statics of a type whose initializer is to run

  pub top_with : (f f' : Frame) (fs fs' : List Frame) (w : World) (ss : List Statics) (l : LocalState) (t : Top f f' fs fs' w ss) → KeepsPlaces f.local l → Top (record f { local = l }) (record f' { local = grow (t.pair.extra) l }) fs fs' w ss
  top_with f f' fs fs' w ss l t kl =
      record { pair = Pointing.pair_changed p k ms g r _ f f' fs l t.pair kl; here = t.here; under = t.under; stands = Pointing.stands_changed p k ms g r f fs l t.stands kl.locals; others = t.others; alike = t.alike; deep = t.deep; count = t.count }

  uses_by : (i : Initializer) (ty : Ty) (a : Access) (f f' : Frame) (fs fs' : List Frame) (w : World) (ss : List Statics) (l : LocalState) (t : Top f f' fs fs' w ss) → Onward (plan_at k p f.method) (mk f.method).places f.at (next_place f.at) → KeepsPlaces f.local l → IsTrue (is_below r.types ty) → Rattle.splice_facts.specs.WellFormed.WellFormedAccess (Pairs.bounds p k ms g r) a → ((m : ℕ) → i ≡ ToRun m → m < r.methods) → Entering.FailedIf p k ms g r i w
      → To (2 * cst + lay (suc (suc (length fs)))) (use_behind p k i ty a f l fs w) (use_behind p' no_contracts i ty a f' (grow (t.pair.extra) l) fs' (beside ss w))
  uses_by Ready ty a f f' fs fs' w ss l t on kl below fine own failed = Unwinding.reach_within p k ms g r (cst + lay (suc (length fs))) _ _ _ (omega arith) (Performing.uses_static p k ms g r f f' fs fs' w ss a l t on kl fine)
  uses_by (FailedWith x) ty a f f' fs fs' w ss l t on kl below fine own failed =
      Unwinding.reach_within p k ms g r (2 * cst + lay (suc (length fs))) _ _ _ (omega arith) (Performing.throws p k ms g r (record f { local = l }) (record f' { local = grow (t.pair.extra) l }) fs fs' w ss x (top_with f f' fs fs' w ss l t kl) failed)
  uses_by (ToRun m) ty a f f' fs fs' w ss l t on kl below fine own failed =
      let F : Frame = record f { local = l } in
      let F' : Frame = record f' { local = grow (t.pair.extra) l } in
      let t1 = top_with f f' fs fs' w ss l t kl in
      let u : Under p k ms g r (UseField a) (UseField a) (F ∷ fs) (F' ∷ fs') = Under.waits (UseField a) F F' fs fs' tt (t1.pair) (t1.here) on (t1.under) in
      let old = own m refl in
      let np = Entering.new_pair p k ms g r ty m [] [] (UseField a) (UseField a) (F ∷ fs) (F' ∷ fs') old (as_many p k ms g r (UseField a) (UseField a) (F ∷ fs) (F' ∷ fs') u) in
      let f1 : Frame = initializer_frame p k ty m (UseField a) (F ∷ fs) in
      let f2 : Frame = initializer_frame p' no_contracts ty m (UseField a) (F' ∷ fs') in
      let pair1 : FramePair p k ms g r 0 f1 (F ∷ fs) f2 = record { extra = np.extra; same = ap (λ (z : Frame). record z { initializes = Some ty }) np.same; keeps = np.keeps; waits = np.waits } in
      let s1 = Entering.new_stands p k ms g r ty m [] [] (UseField a) (Some ty) (F ∷ fs) old (λ v e. subst (λ z. IsTrue (is_below r.types z)) (some_inj ty v e) below) in
      Unwinding.reach_within p k ms g r (cst + lay (suc (suc (length fs)))) _ _ _ (omega arith)
      (Entering.begins_so p k ms g r f1 f2 (F ∷ fs) (F' ∷ fs') (with_begun p ty w) (set_statics (same_ty ty) (record { owner = ty; init = Some Begun; cells = static_cells p' (beside ss w) ty }) ss) pair1 refl s1 u (Entering.begun_beside p k ms g r ty w ss below t.alike) t.deep)
    where
      some_inj : (x y : Ty) → Some x ≡ Some y → x ≡ y
      some_inj x y e = cc e

  -- ---- acts

  abbrev LeadsOn : Frame → Act → Type 0
  LeadsOn f a = Pairs.ActLeads p k ms g r f a

  own_place : (at : ProgramPoint) → moved_to (place_in at) at ≡ at
  own_place (LeadIn q) = refl
  own_place (InGroup gr j q) = refl
  own_place (Rest q) = refl

  pub performs : (a : Act) (f f' : Frame) (fs fs' : List Frame) (w : World) (ss : List Statics) (t : Top f f' fs fs' w ss) → WellFormedAct (Pairs.bounds p k ms g r) f.local a → LeadsOn f a → ThrowsObject (length w.heap) f.handling a
      → To (2 * cst + lay (suc (suc (length fs)))) (perform p k g a f fs w) (perform p' no_contracts none (grow_act (λ u. (mk f.method).places (moved_to u f.at)) (t.pair.extra) a) f' fs' (beside ss w))
  performs Stuck f f' fs fs' w ss t fine on there = Arriving.stuck_both p k ms g r _ w ss t.alike
  performs (GoOn made l) f f' fs fs' w ss t fine on there =
      subst (λ v. To (2 * cst + lay (suc (suc (length fs)))) (perform p k g (GoOn made l) f fs w) (go_on p' no_contracts f' (grow (t.pair.extra) l) fs' v)) (sym (Performing.made_beside p k ms g r made w ss))
      (Unwinding.reach_within p k ms g r (cst + lay (suc (length fs))) _ _ _ (omega arith) (Performing.goes p k ms g r f f' fs fs' (with_objects p made w) ss None l (Performing.with_all p k ms g r made f f' fs fs' w ss t) on fine))
  performs (Jump u l) f f' fs fs' w ss t fine on there = Unwinding.reach_within p k ms g r (cst + lay (suc (length fs))) _ _ _ (omega arith) (Performing.jumps p k ms g r f f' fs fs' w ss u l t on fine)
  performs (Raise name) f f' fs fs' w ss t fine on there = Unwinding.reach_within p k ms g r (2 * cst + lay (suc (length fs))) _ _ _ (omega arith) (Performing.raises p k ms g r f f' fs fs' w ss name t)
  performs (Throw x) f f' fs fs' w ss t fine on there = Unwinding.reach_within p k ms g r (2 * cst + lay (suc (length fs))) _ _ _ (omega arith) (Performing.throws p k ms g r f f' fs fs' w ss x t there)
  performs Rethrow f f' fs fs' w ss t fine on there = Unwinding.reach_within p k ms g r (2 * cst + lay (suc (length fs))) _ _ _ (omega arith) (Performing.rethrows p k ms g r f f' fs fs' w ss t there)
  performs (Leave u) f f' fs fs' w ss t fine on there =
      let own = (r.bodies f.method (t.stands).old).own f.at t.here in
      let at' : f'.at ≡ Rest ((mk f.method).places f.at) = ap (λ (z : Frame). z.at) (t.pair).same in
      Unwinding.reach_within p k ms g r (cst + lay (suc (length fs))) _ _ _ (omega arith)
      (subst (λ z. To (cst + lay (suc (length fs))) (perform p k g (Leave u) f fs w) (Rattle.cil_semantics.specs.Unwind.leave p' no_contracts 0 (place_in z) ((mk f.method).places (moved_to u f.at)) f' f'.handling fs' (beside ss w))) (sym at')
      (Performing.leaves p k ms g r f f' fs fs' w ss f.handling f'.handling 0 (place_in f.at) ((mk f.method).places f.at) u t on.0 (Performing.from_waits p k ms g r f.method f.at f.handling f'.handling on.0 (t.pair).waits)
      (subst (Rattle.splice_facts.specs.Layout.IsHere (plan_at k p f.method)) (sym (own_place f.at)) t.here) (subst (λ z. IsTrue ((mk f.method).belongs z ((mk f.method).places f.at))) (sym (own_place f.at)) own) on.1))
  performs EndHandler f f' fs fs' w ss t fine on there = Unwinding.reach_within p k ms g r (2 * cst + lay (suc (length fs))) _ _ _ (omega arith) (Performing.resumes p k ms g r f f' fs fs' w ss t there)
  performs Return f f' fs fs' w ss t fine on there = absurd on
  performs (Load q h l) f f' fs fs' w ss t fine on there = Unwinding.reach_within p k ms g r (cst + lay (suc (length fs))) _ _ _ (omega arith) (Performing.loads p k ms g r f f' fs fs' w ss q h l t on fine.0 fine.1)
  performs (Store q v l) f f' fs fs' w ss t fine on there = Unwinding.reach_within p k ms g r (cst + lay (suc (length fs))) _ _ _ (omega arith) (Performing.stores p k ms g r f f' fs fs' w ss q v l t on fine.0 fine.1)
  performs (Copy a b h l) f f' fs fs' w ss t fine on there = Unwinding.reach_within p k ms g r (cst + lay (suc (length fs))) _ _ _ (omega arith) (Performing.copies p k ms g r f f' fs fs' w ss a b h l t on fine.0 fine.1 fine.2)
  performs (UseStatic ty a l) f f' fs fs' w ss t fine on there =
      subst (λ i. To (2 * cst + lay (suc (suc (length fs)))) (use_behind p k (initializer p w ty) ty a f l fs w) (use_behind p' no_contracts i ty a f' (grow (t.pair.extra) l) fs' (beside ss w))) (sym (Entering.initializer_same p k ms g r w ss ty fine.1 t.alike))
      (uses_by (initializer p w ty) ty a f f' fs fs' w ss l t on fine.0 fine.1 fine.2 (λ m e. r.owned ty w m fine.1 e) (Entering.failed_there p k ms g r ty w ss t.alike))
  performs (CallMember c l) f f' fs fs' w ss t fine on there = absurd on
  performs (CallVirtual c l) f f' fs fs' w ss t fine on there = absurd on
  performs (NewObject c l) f f' fs fs' w ss t fine on there = absurd on
  performs (LoadVirtualFunction c l) f f' fs fs' w ss t fine on there = absurd on

  -- ---- what was told before stands before both

  runs_told : (j : ℕ) (T : List Item) (s : State) → runs (plain_step p') j (record s { world = recorded_after T s.world }) ≡ goes_after T (runs (plain_step p') j s)
  runs_told zero T s = refl
  runs_told (suc j) T s = ap (λ z. and_then z (runs (plain_step p') j)) (recorded_is_unread p' no_contracts none T s) ∙ by_next (λ s1. runs_told j T s1) (plain_step p' s)
    where
      by_next : ((s1 : State) → runs (plain_step p') j (record s1 { world = recorded_after T s1.world }) ≡ goes_after T (runs (plain_step p') j s1)) → (x : Next) → and_then (goes_after T x) (runs (plain_step p') j) ≡ goes_after T (and_then x (runs (plain_step p') j))
      by_next ih (Running s1) = ih s1
      by_next ih (Ended o w) = refl

  pub told_so : (j : ℕ) (T : List Item) (y : Next) → and_then (goes_after T y) (runs (plain_step p') j) ≡ goes_after T (and_then y (runs (plain_step p') j))
  told_so j T (Running s) = runs_told j T s
  told_so j T (Ended o w) = refl

  pub match_told : (T : List Item) (x y : Next) → Match (Arriving.E p k ms g r) (Arriving.R p k ms g r) x y → Match (Arriving.E p k ms g r) (Arriving.R p k ms g r) (goes_after T x) (goes_after T y)
  match_told T (Running s) (Running s') m = record { frames = m.frames; statics = m.statics; alike = record { statics = (m.alike).statics; depth = (m.alike).depth; bare = (m.alike).bare; failures = (m.alike).failures }; world = ap (recorded_after T) m.world }
  match_told T (Ended o w) (Ended o' w') m = (m.0, record { heap = (m.1).heap; statics = (m.1).statics; trace = ap (λ t. T ++ t) ((m.1).trace) })
  match_told T (Running s) (Ended o w) m = absurd m
  match_told T (Ended o w) (Running s) m = absurd m

  pub weight_told : (T : List Item) (x : Next) → weight (Arriving.f p k ms g r) (goes_after T x) ≡ weight (Arriving.f p k ms g r) x
  weight_told T (Running s) = refl
  weight_told T (Ended o w) = refl

  -- a step of the first run is answered from the plain run's step, with nothing told before
  pub step_by : (n : ℕ) (s s' : State) → s'.world.trace ≡ s.world.trace → To n (step_frames p k g s.frames (unrecorded s.world)) (step_frames p' no_contracts none s'.frames (unrecorded s'.world)) → An (suc n) (step p k g s) (Running s')
  unfolding step
  step_by n s s' e h =
      let x = step_frames p k g s.frames (unrecorded s.world) in
      let y = step_frames p' no_contracts none s'.frames (unrecorded s'.world) in
      record {
        moves = omega arith;
        reaches = record {
          steps = suc h.steps;
          most = omega (arith, h.most, weight_told s.world.trace x);
          same = subst (λ t. Match (Arriving.E p k ms g r) (Arriving.R p k ms g r) (goes_after s.world.trace x) (and_then (goes_after t y) (runs (plain_step p') h.steps))) (sym e)
              (subst (Match (Arriving.E p k ms g r) (Arriving.R p k ms g r) (goes_after s.world.trace x)) (sym (told_so h.steps s.world.trace y)) (match_told s.world.trace x _ h.same));
        };
      }

  -- ---- a copied instruction

  locals_count : (f f' : Frame) (fs fs' : List Frame) (w : World) (ss : List Statics) → Top f f' fs fs' w ss → length f.local.locals ≡ length (local_tys p (here_of f fs) (body_of p f.method).locals ++ clause_tys p (here_of f fs) (plan_at k p f.method))
  locals_count f f' fs fs' w ss t =
      let here0 : Here = record { number = 0; method = f.method; type_args = []; method_args = [] } in
      (t.stands).wide
      ∙ ap (λ n. n + length (clause_tys p here0 (plan_at k p f.method))) (Entering.len_locals p here0 (here_of f fs) (body_of p f.method).locals refl)
      ∙ ap (λ n. length (local_tys p (here_of f fs) (body_of p f.method).locals) + n) (Entering.len_clauses p here0 (here_of f fs) (plan_at k p f.method))
      ∙ sym (Entering.len_append (local_tys p (here_of f fs) (body_of p f.method).locals) (clause_tys p (here_of f fs) (plan_at k p f.method)))

  -- what the plain run does at the copy of an instruction
  pub copy_runs : (f f' : Frame) (fs fs' : List Frame) (w : World) (ss : List Statics) (t : Top f f' fs fs' w ss) (i : Instr) → Rattle.splice_facts.specs.Layout.fetch p k g (plan_at k p f.method) f.method f.at ≡ Some i → Rattle.splice_facts.specs.Spliced.IsPlainAt p k p' g r.types r.depths f.method (plan_at k p f.method) f.at i
      → step_frames p' no_contracts none (f' ∷ fs') (beside ss w) ≡ perform p' no_contracts none (grow_act (λ u. (mk f.method).places (moved_to u f.at)) (t.pair.extra) (act p (here_of f fs) i w f.local)) f' fs' (beside ss w)
  copy_runs f f' fs fs' w ss t i e plain =
      let sp = r.bodies f.method (t.stands).old in
      let c = sp.copied f.at i t.here e plain in
      let m : f'.method ≡ f.method = ap (λ (z : Frame). z.method) (t.pair).same in
      let at' : f'.at ≡ Rest ((mk f.method).places f.at) = ap (λ (z : Frame). z.at) (t.pair).same in
      let l' : f'.local ≡ grow (t.pair.extra) f.local = ap (λ (z : Frame). z.local) (t.pair).same in
      let many = as_many p k ms g r f.continuation f'.continuation fs fs' t.under in
      let here' : here_of f' fs' ≡ here_of f fs = ap (λ (z : Frame). here_of z fs') (t.pair).same ∙ ap (λ n. record { number = n; method = f.method; type_args = f.type_args; method_args = f.method_args }) many in
      let names = subst (λ n. NamesLocals n (class_of i.op) i.operand) (sym (locals_count f f' fs fs' w ss t)) ((r.input f.method (t.stands).old).names f.at i t.here e (here_of f fs) refl) in
      ap (λ o. step_at p' no_contracts none o f'.at f' fs' (beside ss w)) (no_plan p' f'.method)
      ∙ ap (λ o. if_there o (beside ss w) (λ j. perform p' no_contracts none (act p' (here_of f' fs') j (beside ss w) f'.local) f' fs' (beside ss w))) (ap (λ z. slice_get (body_of p' z).instrs (place_in f'.at)) m ∙ ap (λ z. slice_get (body_of p' f.method).instrs (place_in z)) at' ∙ c.1)
      ∙ ap (λ h. perform p' no_contracts none (act p' h c.0 (beside ss w) f'.local) f' fs' (beside ss w)) here'
      ∙ ap (λ l. perform p' no_contracts none (act p' (here_of f fs) c.0 (beside ss w) l) f' fs' (beside ss w)) l'
      ∙ ap (λ a. perform p' no_contracts none a f' fs' (beside ss w)) (act_grow p ms (λ u. (mk f.method).places (moved_to u f.at)) (t.pair.extra) ss (here_of f fs) i c.0 w f.local r.same_methods c.2 names)

  -- One step at an instruction that is copied and calls nothing: the plain run's step at the copy answers it.
  pub plain_step_answers : (f f' : Frame) (fs fs' : List Frame) (w : World) (ss : List Statics) (t : Top f f' fs fs' (unrecorded w) ss) (i : Instr) → Rattle.splice_facts.specs.Layout.fetch p k g (plan_at k p f.method) f.method f.at ≡ Some i → Rattle.splice_facts.specs.Spliced.IsPlainAt p k p' g r.types r.depths f.method (plan_at k p f.method) f.at i
      → WellFormedAct (Pairs.bounds p k ms g r) f.local (act p (here_of f fs) i (unrecorded w) f.local) → LeadsOn f (act p (here_of f fs) i (unrecorded w) f.local) → ThrowsObject (length w.heap) f.handling (act p (here_of f fs) i (unrecorded w) f.local)
      → step_frames p k g (f ∷ fs) (unrecorded w) ≡ run_plain p k g i f fs (unrecorded w)
      → An (suc (2 * cst + lay (suc (suc (length fs))))) (step p k g (record { frames = f ∷ fs; world = w })) (Running (record { frames = f' ∷ fs'; world = beside ss w }))
  plain_step_answers f f' fs fs' w ss t i e plain fine on there first =
      step_by (2 * cst + lay (suc (suc (length fs)))) (record { frames = f ∷ fs; world = w }) (record { frames = f' ∷ fs'; world = beside ss w }) refl
      (subst (λ z. To (2 * cst + lay (suc (suc (length fs)))) z (step_frames p' no_contracts none (f' ∷ fs') (beside ss (unrecorded w)))) (sym first)
      (subst (λ z. To (2 * cst + lay (suc (suc (length fs)))) (run_plain p k g i f fs (unrecorded w)) z) (sym (copy_runs f f' fs fs' (unrecorded w) ss t i e plain))
      (performs (act p (here_of f fs) i (unrecorded w) f.local) f f' fs fs' (unrecorded w) ss t fine on there)))
