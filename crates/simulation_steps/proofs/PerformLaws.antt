-- Acts that stay in the frame, or leave it by an exception, performed in both runs.
use Rattle.std.proofs.Common.{◌≡◌, ℕ, suc, ◌+◌, ◌*◌, ◌<◌, ◌≤◌, false, List, [], ◌∷◌, length, Option, Some, None, refl, sym, ap, ◌∙◌, subst, arith}
use Rattle.std.specs.Prelude.{option_map, option_and_then, IsTrue}
use Rattle.cil_model.specs.declared.value.Value.{Value, Ptr}
use Rattle.cil_model.specs.declared.value.Pointer.{Pointer}
use Rattle.cil_model.specs.declared.contract.Contracts.{Contracts}
use Rattle.cil_model.specs.declared.program.Program.{Program}
use Rattle.cil_model.specs.declared.program.MethodDesc.{MethodDesc}
use Rattle.cil_model.specs.declared.run.Outcome.TheVariants as outcome
use Rattle.cil_model.specs.NoContracts.{no_contracts}
use Rattle.cil_semantics.specs.Words.{maybe}
use Rattle.cil_semantics.specs.Core.{Name, class_named}
use Rattle.il_opcodes.specs.declared.class.Storage.{Storage}
use Rattle.cil_semantics.specs.Places.{storage}
use Rattle.cil_semantics.specs.declared.state.Object.{Object}
use Rattle.simulation.proofs.ProgramLaws.{with_object_same}
use Rattle.cil_semantics.specs.Places.{seen_as}
use Rattle.cil_semantics.specs.declared.state.World.{World}
use Rattle.cil_semantics.specs.declared.state.Statics.{Statics}
use Rattle.cil_semantics.specs.declared.state.Local.{Local}
use Rattle.cil_semantics.specs.declared.state.ProgramPoint.{ProgramPoint}
use Rattle.cil_semantics.specs.declared.state.ProgramPoint.TheVariants.{LeadIn, InGroup, Rest}
use Rattle.cil_semantics.specs.declared.state.Handling.{Handling}
use Rattle.cil_semantics.specs.declared.state.Cause.{Cause}
use Rattle.cil_semantics.specs.declared.state.Cause.TheVariants.{Caught, Unwinding, Leaving}
use Rattle.cil_semantics.specs.declared.state.Frame.{Frame}
use Rattle.cil_semantics.specs.State.{Next, Ended, pushed, with_stack, with_object, with_objects, next_object}
use Rattle.cil_semantics.specs.declared.state.Continuation.{Continuation}
use Rattle.cil_semantics.specs.declared.state.Continuation.TheVariants.{Push}
use Rattle.cil_semantics.specs.declared.state.Access.{Access}
use Rattle.cil_semantics.specs.declared.state.Access.TheVariants.{Read, Write, PointTo}
use Rattle.cil_semantics.specs.Unwind.{body_of, plan_at, moved_to, next_place, goes_at, arrive, unwind, raise, innermost, leave, leave_through, left_from, resume, resume_cause, throws_in}
use Rattle.cil_semantics.specs.Frames.{if_there, read, write, go_on, load, store, copy, use_static, go_on_top}
use Rattle.cil_semantics.specs.Returns.{push_below}
use Rattle.cil_semantics.specs.Checks.{AddedNumbers}
use Rattle.splice_facts.specs.Bodies.{with_methods}
use Rattle.splice_facts.specs.Grown.{grow, beside}
use Rattle.splice_facts.specs.WellFormed.{WellFormedPointer, WellFormedAccess}
use Rattle.splice_facts.specs.Acting.{KeepsPlaces}
use Rattle.splice_facts.specs.Layout.{Marks, IsHere, CanArrive, Onward}
use Rattle.splice_facts.specs.Related.{Rewritten, HandlingPair, HandlingPairs, Waits, FramePair, Under, Frames, Related, laid_by, count_groups, in_group}
use Rattle.splice_facts.specs.Related as Pairs
use Rattle.simulation_steps.specs.Steps as Steps
use Rattle.splice_facts.proofs.ComesLaws.{arrives_plain}
use Rattle.simulation.proofs.ArriveLaws as Arriving
use Rattle.splice_facts.specs.Exceptions.{IsObject, ObjectIf, CauseThere, CausesThere}
use Rattle.splice_facts.proofs.ExceptionLaws.{more_failures, longer, new_object, caught_there}
use Rattle.simulation.proofs.UnwindLaws as Unwinding
use Rattle.simulation.proofs.UnwindLaws.{as_many, begun, unwinds}
use Rattle.simulation.proofs.PushLaws as Pushing
use Rattle.simulation.proofs.PushLaws.{stale_arrive, moves, pushes}
use Rattle.simulation_steps.proofs.PointerLaws.{reads, writes, twins, pair_changed, stands_changed}

-- going on is pushing nothing, or a value, in the frame itself
pub go_as_push : (p : Program) (k : Contracts) (f : Frame) (v : Option Value) (l : Local) (fs : List Frame) (w : World) → go_on p k f (maybe l (λ x. pushed x l) v) fs w ≡ push_below p k v (record f { local = l } ∷ fs) w
go_as_push p k f v l fs w = sym (stale_arrive p (plan_at k p f.method) f (next_place f.at) l (maybe l (λ x. pushed x l) v) f.handling fs w)

module _ (p : Program) (k : Contracts) (ms : List MethodDesc) (g : AddedNumbers) (r : Rewritten p k ms g) where
  abbrev p' : Program
  p' = with_methods p ms

  abbrev To : ℕ → Next → Next → Type 0
  To n x y = Unwinding.To p k ms g r n x y

  abbrev lay : ℕ → ℕ
  lay n = Unwinding.lay p k ms g r n

  abbrev cst : ℕ
  cst = Unwinding.cst p k ms g r

  abbrev IsBeside : World → List Statics → Type 0
  IsBeside w ss = Unwinding.IsBeside p k ms g r w ss

  abbrev below : Continuation → Continuation → List Frame → List Frame → Type 0
  below b b' fs fs' = Under p k ms g r b b' fs fs'

  abbrev valid : List Frame → Type 0
  valid fs = Pairs.AllStand p k ms g r fs

  abbrev mk : ℕ → Marks
  mk m = Pairs.marks_in p k ms g r m

  abbrev pub Top : Frame → Frame → List Frame → List Frame → World → List Statics → Type 0
  Top f f' fs fs' w ss = Pairs.TopPair p k ms g r f f' fs fs' w ss

  abbrev Goes_on_from : Frame → Type 0
  Goes_on_from f = Onward (plan_at k p f.method) (mk f.method).places f.at (next_place f.at)

  -- the frame with other places waits for a value
  waiting : (f f' : Frame) (fs fs' : List Frame) (w : World) (ss : List Statics) (l : Local) (t : Top f f' fs fs' w ss) → Goes_on_from f → KeepsPlaces f.local l → below Push Push (record f { local = l } ∷ fs) (record f' { local = grow (t.pair.extra) l } ∷ fs')
  waiting f f' fs fs' w ss l t on kl =
      Under.waits Push (record f { local = l }) (record f' { local = grow (t.pair.extra) l }) fs fs' tt (pair_changed p k ms g r _ f f' fs l t.pair kl) t.here on t.under

  all_valid : (f f' : Frame) (fs fs' : List Frame) (w : World) (ss : List Statics) (l : Local) (t : Top f f' fs fs' w ss) → KeepsPlaces f.local l → valid (record f { local = l } ∷ fs)
  all_valid f f' fs fs' w ss l t kl = (stands_changed p k ms g r f fs l t.stands kl.locals, t.others)

  -- with a value or without
  pub goes : (f f' : Frame) (fs fs' : List Frame) (w : World) (ss : List Statics) (v : Option Value) (l : Local) (t : Top f f' fs fs' w ss) → Goes_on_from f → KeepsPlaces f.local l
      → To (cst + lay (suc (length fs))) (go_on p k f (maybe l (λ x. pushed x l) v) fs w) (go_on p' no_contracts f' (maybe (grow (t.pair.extra) l) (λ x. pushed x (grow (t.pair.extra) l)) v) fs' (beside ss w))
  goes f f' fs fs' w ss v l t on kl =
      let a = pushes p k ms g r Push Push v (record f { local = l } ∷ fs) (record f' { local = grow (t.pair.extra) l } ∷ fs') w ss tt (waiting f f' fs fs' w ss l t on kl) (all_valid f f' fs fs' w ss l t kl) t.alike t.deep in
      subst (λ z. To (cst + lay (suc (length fs))) z (go_on p' no_contracts f' (maybe (grow (t.pair.extra) l) (λ x. pushed x (grow (t.pair.extra) l)) v) fs' (beside ss w))) (sym (go_as_push p k f v l fs w))
      (subst (λ z. To (cst + lay (suc (length fs))) (push_below p k v (record f { local = l } ∷ fs) w) z) (sym (go_as_push p' no_contracts f' v (grow (t.pair.extra) l) fs' (beside ss w))) a)

  loads_by : (o : Option Value) (f f' : Frame) (fs fs' : List Frame) (w : World) (ss : List Statics) (l : Local) (t : Top f f' fs fs' w ss) → Goes_on_from f → KeepsPlaces f.local l
      → To (cst + lay (suc (length fs))) (if_there o w (λ v. go_on p k f (pushed v l) fs w)) (if_there o (beside ss w) (λ v. go_on p' no_contracts f' (pushed v (grow (t.pair.extra) l)) fs' (beside ss w)))
  loads_by None f f' fs fs' w ss l t on kl = Arriving.stuck_both p k ms g r (cst + lay (suc (length fs))) w ss t.alike
  loads_by (Some v) f f' fs fs' w ss l t on kl = goes f f' fs fs' w ss (Some v) l t on kl

  reads_same : (f f' : Frame) (fs fs' : List Frame) (w : World) (ss : List Statics) (q : Pointer) (l : Local) (t : Top f f' fs fs' w ss) → Goes_on_from f → KeepsPlaces f.local l → WellFormedPointer (Pairs.bounds p k ms g r) q
      → read p' (record f' { local = grow (t.pair.extra) l } ∷ fs') (beside ss w) q ≡ read p (record f { local = l } ∷ fs) w q
  reads_same f f' fs fs' w ss q l t on kl fine =
      reads p k ms g r (record f { local = l } ∷ fs) (record f' { local = grow (t.pair.extra) l } ∷ fs') w ss q fine (all_valid f f' fs fs' w ss l t kl) (twins p k ms g r Push Push _ _ (waiting f f' fs fs' w ss l t on kl)) t.alike

  pub loads : (f f' : Frame) (fs fs' : List Frame) (w : World) (ss : List Statics) (q : Pointer) (h : Storage) (l : Local) (t : Top f f' fs fs' w ss) → Goes_on_from f → KeepsPlaces f.local l → WellFormedPointer (Pairs.bounds p k ms g r) q
      → To (cst + lay (suc (length fs))) (load p k q h f l fs w) (load p' no_contracts q h f' (grow (t.pair.extra) l) fs' (beside ss w))
  loads f f' fs fs' w ss q h l t on kl fine =
      subst (λ o. To (cst + lay (suc (length fs))) (load p k q h f l fs w) (if_there (option_and_then (seen_as h) o) (beside ss w) (λ v. go_on p' no_contracts f' (pushed v (grow (t.pair.extra) l)) fs' (beside ss w)))) (sym (reads_same f f' fs fs' w ss q l t on kl fine))
      (loads_by (option_and_then (seen_as h) (read p (record f { local = l } ∷ fs) w q)) f f' fs fs' w ss l t on kl)

  tops : (gs gs' : List Frame) (w : World) (ss : List Statics) (n : ℕ) → below Push Push gs gs' → valid gs → IsBeside w ss → w.depth ≤ suc k.settings.guard → cst + lay (length gs) ≤ n → To n (go_on_top p k gs w) (go_on_top p' no_contracts gs' (beside ss w))
  tops [] [] w ss n u ok bes deep le = Arriving.stuck_both p k ms g r n w ss bes
  tops [] (h' ∷ hs') w ss n u ok bes deep le = let e : suc (length hs') ≡ 0 = as_many p k ms g r Push Push [] (h' ∷ hs') u in absurd (omega (arith, e))
  tops (h ∷ hs) [] w ss n u ok bes deep le = let e : 0 ≡ suc (length hs) = as_many p k ms g r Push Push (h ∷ hs) [] u in absurd (omega (arith, e))
  tops (h ∷ hs) (h' ∷ hs') w ss n u ok bes deep le = Unwinding.reach_within p k ms g r (cst + lay (suc (length hs))) n _ _ le (pushes p k ms g r Push Push None (h ∷ hs) (h' ∷ hs') w ss tt u ok bes deep)

  stores_by : (n m c : ℕ) (w : World) (ss : List Statics) (o o' : Option (List Frame × World)) → IsBeside w ss → w.depth ≤ suc k.settings.guard → cst + lay m ≤ n → Steps.Stored p k ms g r Push Push m c w o o'
      → To n (if_there o w (λ (x : List Frame × World). go_on_top p k x.0 x.1)) (if_there o' (beside ss w) (λ (x : List Frame × World). go_on_top p' no_contracts x.0 x.1))
  stores_by n m c w ss None None bes deep le s = Arriving.stuck_both p k ms g r n w ss bes
  stores_by n m c w ss None (Some x') bes deep le s = absurd s
  stores_by n m c w ss (Some x) None bes deep le s = absurd s
  stores_by n m c w ss (Some x) (Some x') bes deep le s =
      let d : x.1.depth ≤ suc k.settings.guard = subst (λ z. z ≤ suc k.settings.guard) (sym s.5) deep in
      let le1 : cst + lay (length x.0) ≤ n = subst (λ z. cst + lay z ≤ n) (sym s.6) le in
      subst (λ z. To n (go_on_top p k x.0 x.1) (go_on_top p' no_contracts x'.0 z)) (sym s.4) (tops x.0 x'.0 x.1 s.2 n s.0 s.1 s.3 d le1)

  pub stores : (f f' : Frame) (fs fs' : List Frame) (w : World) (ss : List Statics) (q : Pointer) (v : Value) (l : Local) (t : Top f f' fs fs' w ss) → Goes_on_from f → KeepsPlaces f.local l → WellFormedPointer (Pairs.bounds p k ms g r) q
      → To (cst + lay (suc (length fs))) (store p k q v f l fs w) (store p' no_contracts q v f' (grow (t.pair.extra) l) fs' (beside ss w))
  stores f f' fs fs' w ss q v l t on kl fine =
      stores_by (cst + lay (suc (length fs))) (suc (length fs)) _ w ss (write p (record f { local = l } ∷ fs) w q v) (write p' (record f' { local = grow (t.pair.extra) l } ∷ fs') (beside ss w) q v) t.alike t.deep (omega arith)
      (writes p k ms g r Push Push (record f { local = l } ∷ fs) (record f' { local = grow (t.pair.extra) l } ∷ fs') w ss q v fine (waiting f f' fs fs' w ss l t on kl) (all_valid f f' fs fs' w ss l t kl) t.alike)

  copies_by : (o : Option Value) (q : Pointer) (f f' : Frame) (fs fs' : List Frame) (w : World) (ss : List Statics) (l : Local) (t : Top f f' fs fs' w ss) → Goes_on_from f → KeepsPlaces f.local l → WellFormedPointer (Pairs.bounds p k ms g r) q
      → To (cst + lay (suc (length fs))) (if_there o w (λ v. store p k q v f l fs w)) (if_there o (beside ss w) (λ v. store p' no_contracts q v f' (grow (t.pair.extra) l) fs' (beside ss w)))
  copies_by None q f f' fs fs' w ss l t on kl fine = Arriving.stuck_both p k ms g r (cst + lay (suc (length fs))) w ss t.alike
  copies_by (Some v) q f f' fs fs' w ss l t on kl fine = stores f f' fs fs' w ss q v l t on kl fine

  pub copies : (f f' : Frame) (fs fs' : List Frame) (w : World) (ss : List Statics) (to from : Pointer) (h : Storage) (l : Local) (t : Top f f' fs fs' w ss) → Goes_on_from f → KeepsPlaces f.local l → WellFormedPointer (Pairs.bounds p k ms g r) to → WellFormedPointer (Pairs.bounds p k ms g r) from
      → To (cst + lay (suc (length fs))) (copy p k to from h f l fs w) (copy p' no_contracts to from h f' (grow (t.pair.extra) l) fs' (beside ss w))
  copies f f' fs fs' w ss to from h l t on kl fine fine2 =
      subst (λ o. To (cst + lay (suc (length fs))) (copy p k to from h f l fs w) (if_there (option_and_then (seen_as h) o) (beside ss w) (λ v. store p' no_contracts to v f' (grow (t.pair.extra) l) fs' (beside ss w)))) (sym (reads_same f f' fs fs' w ss from l t on kl fine2))
      (copies_by (option_and_then (seen_as h) (read p (record f { local = l } ∷ fs) w from)) to f f' fs fs' w ss l t on kl fine)

  -- a static field of a type that is initialized
  pub uses_static : (f f' : Frame) (fs fs' : List Frame) (w : World) (ss : List Statics) (a : Access) (l : Local) (t : Top f f' fs fs' w ss) → Goes_on_from f → KeepsPlaces f.local l → WellFormedAccess (Pairs.bounds p k ms g r) a
      → To (cst + lay (suc (length fs))) (use_static p k a f l fs w) (use_static p' no_contracts a f' (grow (t.pair.extra) l) fs' (beside ss w))
  uses_static f f' fs fs' w ss (Read q) l t on kl fine = loads f f' fs fs' w ss q Rattle.il_opcodes.specs.declared.class.Storage.TheVariants.Anything l t on kl fine
  uses_static f f' fs fs' w ss (Write q v) l t on kl fine = stores f f' fs fs' w ss q v l t on kl fine.0
  uses_static f f' fs fs' w ss (PointTo q) l t on kl fine = goes f f' fs fs' w ss (Some (Ptr q)) l t on kl

  -- a jump
  pub jumps : (f f' : Frame) (fs fs' : List Frame) (w : World) (ss : List Statics) (u : ℕ) (l : Local) (t : Top f f' fs fs' w ss) → CanArrive (plan_at k p f.method) (moved_to u f.at) → KeepsPlaces f.local l
      → To (cst + lay (suc (length fs))) (arrive p k f (moved_to u f.at) l fs w) (arrive p' no_contracts f' (moved_to ((mk f.method).places (moved_to u f.at)) f'.at) (grow (t.pair.extra) l) fs' (beside ss w))
  jumps f f' fs fs' w ss u l t can kl =
      let q = (mk f.method).places (moved_to u f.at) in
      let h : Frame = record f { local = l } in
      let h' : Frame = record f' { local = grow (t.pair.extra) l } in
      let a = moves p k ms g r h h' ((mk f.method).places f.at) u q l fs fs' w ss (λ x. x) (λ l1 ex. refl) refl (record { result = refl; locals = refl; captured = refl }) (pair_changed p k ms g r _ f f' fs l t.pair kl) refl can (t.stands).old (t.stands).fits t.under t.alike t.deep in
      let at : f'.at ≡ Rest ((mk f.method).places f.at) = ap (λ (z : Frame). z.at) (t.pair.same) in
      subst (λ z. To (cst + lay (suc (length fs))) z (arrive p' no_contracts f' (moved_to q f'.at) (grow (t.pair.extra) l) fs' (beside ss w))) (stale_arrive p (plan_at k p f.method) f (moved_to u f.at) l l f.handling fs w)
      (subst (λ z. To (cst + lay (suc (length fs))) (arrive p k h (moved_to u f.at) l fs w) (arrive p' no_contracts f' (moved_to q z) (grow (t.pair.extra) l) fs' (beside ss w))) (sym at)
      (subst (λ z. To (cst + lay (suc (length fs))) (arrive p k h (moved_to u f.at) l fs w) z) (stale_arrive p' (plan_at no_contracts p' f'.method) f' (Rest q) (grow (t.pair.extra) l) (grow (t.pair.extra) l) f'.handling fs' (beside ss w)) a))

  -- an exception, in the topmost frame and then down
  pub throws : (f f' : Frame) (fs fs' : List Frame) (w : World) (ss : List Statics) (x : ℕ) (t : Top f f' fs fs' w ss) → IsObject (length w.heap) x → To (2 * cst + lay (suc (length fs))) (unwind p k false (f ∷ fs) w x) (unwind p' no_contracts false (f' ∷ fs') (beside ss w) x)
  throws f f' fs fs' w ss x t there =
      Unwinding.pair_unwinds p k ms g r Push Push ((mk f.method).places f.at) f f' fs fs' refl refl t.pair t.here ((r.bodies f.method (t.stands).old).own f.at t.here) t.under t.stands (unwinds p k ms g r f.continuation f'.continuation fs fs' t.under t.others) w ss x t.alike there t.count t.deep

  abbrev rows : ℕ → ℕ
  rows m = length (body_of p m).regions

  -- the same with a new object
  pub with_new : (f f' : Frame) (fs fs' : List Frame) (w : World) (ss : List Statics) (o : Object) → Top f f' fs fs' w ss → Top f f' fs fs' (with_object p o w) ss
  with_new f f' fs fs' w ss o t = record { pair = t.pair; here = t.here; under = t.under; stands = t.stands; others = t.others; alike = record { statics = (t.alike).statics; depth = (t.alike).depth; bare = (t.alike).bare; failures = more_failures (length w.heap) (length (with_object p o w).heap) w.statics (longer w.heap o) (t.alike).failures }; deep = t.deep; count = t.count }

  pub made_depth : (os : List Object) (w : World) → (with_objects p os w).depth ≡ w.depth
  made_depth [] w = refl
  made_depth (o ∷ os) w = made_depth os (with_object p o w)

  pub made_alike : (os : List Object) (w : World) (ss : List Statics) → IsBeside w ss → IsBeside (with_objects p os w) ss
  made_alike [] w ss bes = bes
  made_alike (o ∷ os) w ss bes = made_alike os (with_object p o w) ss (record { statics = bes.statics; depth = bes.depth; bare = bes.bare; failures = more_failures (length w.heap) (length (with_object p o w).heap) w.statics (longer w.heap o) bes.failures })

  abbrev pub with_all : (os : List Object) (f f' : Frame) (fs fs' : List Frame) (w : World) (ss : List Statics) → Top f f' fs fs' w ss → Top f f' fs fs' (with_objects p os w) ss
  with_all os f f' fs fs' w ss t =
      record {
        pair = t.pair;
        here = t.here;
        under = t.under;
        stands = t.stands;
        others = t.others;
        alike = made_alike os w ss t.alike;
        deep = subst (λ d. d ≤ suc k.settings.guard) (sym (made_depth os w)) t.deep;
        count = made_depth os w ∙ t.count;
      }

  pub made_beside : (os : List Object) (w : World) (ss : List Statics) → with_objects p' os (beside ss w) ≡ beside ss (with_objects p os w)
  made_beside [] w ss = refl
  made_beside (o ∷ os) w ss = ap (with_objects p' os) (with_object_same p ms o (beside ss w)) ∙ made_beside os (with_object p o w) ss

  pub raises : (f f' : Frame) (fs fs' : List Frame) (w : World) (ss : List Statics) (name : Name) → Top f f' fs fs' w ss → To (2 * cst + lay (suc (length fs))) (raise p k name (f ∷ fs) w) (raise p' no_contracts name (f' ∷ fs') (beside ss w))
  unfolding storage
  raises f f' fs fs' w ss name t = throws f f' fs fs' (with_object p (record { ty = class_named name; cells = [] }) w) ss (next_object w) (with_new f f' fs fs' w ss (record { ty = class_named name; cells = [] }) t) (new_object w.heap (record { ty = class_named name; cells = [] }))

  -- ---- rethrow

  caught_same : (to : ℕ → ℕ) (c c' : Cause) (h h' : Handling) (hs hs' : List Handling) → c' ≡ Pairs.moved_cause to c → h.cause ≡ c → h'.cause ≡ c' → innermost hs' ≡ innermost hs → innermost (h' ∷ hs') ≡ innermost (h ∷ hs)
  caught_same to (Caught x) c' h h' hs hs' e e1 e2 ih = caught_h' ∙ sym caught_h
    where
      caught_h : innermost (h ∷ hs) ≡ Some x
      caught_h = ap (λ (z : Handling). innermost (z ∷ hs)) (ap (λ c. record h { cause = c }) e1)

      caught_h' : innermost (h' ∷ hs') ≡ Some x
      caught_h' = ap (λ (z : Handling). innermost (z ∷ hs')) (ap (λ c. record h' { cause = c }) (e2 ∙ e))
  caught_same to (Unwinding x) c' h h' hs hs' e e1 e2 ih = ap (λ c. innermost (record h' { cause = c } ∷ hs')) (e2 ∙ e) ∙ ih ∙ sym (ap (λ c. innermost (record h { cause = c } ∷ hs)) e1)
  caught_same to (Leaving u) c' h h' hs hs' e e1 e2 ih = ap (λ c. innermost (record h' { cause = c } ∷ hs')) (e2 ∙ e) ∙ ih ∙ sym (ap (λ c. innermost (record h { cause = c } ∷ hs)) e1)

  innermost_same : (m : ℕ) (at : ProgramPoint) (hs hs' : List Handling) → HandlingPairs (plan_at k p m) (mk m) (rows m) at hs hs' → innermost hs' ≡ innermost hs
  innermost_same m at [] [] x = refl
  innermost_same m at [] (h' ∷ hs') x = absurd x
  innermost_same m at (h ∷ hs) [] x = absurd x
  innermost_same m at (h ∷ hs) (h' ∷ hs') x = caught_same (λ t. (mk m).places (moved_to t at)) h.cause h'.cause h h' hs hs' (x.0).cause refl refl (innermost_same m at hs hs' x.1)

  innermost_waits : (m : ℕ) (at : ProgramPoint) (hs hs' : List Handling) → Waits (plan_at k p m) (mk m) (rows m) at hs hs' → innermost hs' ≡ innermost hs
  innermost_waits m (LeadIn q) hs hs' x = innermost_same m (LeadIn q) hs hs' x
  innermost_waits m (Rest q) hs hs' x = innermost_same m (Rest q) hs hs' x
  innermost_waits m (InGroup gr j q) hs hs' x = ap innermost x.1 ∙ sym (ap innermost x.0)

  rethrows_by : (o : Option ℕ) (f f' : Frame) (fs fs' : List Frame) (w : World) (ss : List Statics) → Top f f' fs fs' w ss → ObjectIf (length w.heap) o → To (2 * cst + lay (suc (length fs))) (if_there o w (λ x. unwind p k false (f ∷ fs) w x)) (if_there o (beside ss w) (λ x. unwind p' no_contracts false (f' ∷ fs') (beside ss w) x))
  rethrows_by None f f' fs fs' w ss t there = Arriving.stuck_both p k ms g r _ w ss t.alike
  rethrows_by (Some x) f f' fs fs' w ss t there = throws f f' fs fs' w ss x t there

  pub rethrows : (f f' : Frame) (fs fs' : List Frame) (w : World) (ss : List Statics) → Top f f' fs fs' w ss → CausesThere (length w.heap) f.handling
      → To (2 * cst + lay (suc (length fs))) (if_there (innermost f.handling) w (λ x. unwind p k false (f ∷ fs) w x)) (if_there (innermost f'.handling) (beside ss w) (λ x. unwind p' no_contracts false (f' ∷ fs') (beside ss w) x))
  rethrows f f' fs fs' w ss t there =
      subst (λ o. To (2 * cst + lay (suc (length fs))) (if_there (innermost f.handling) w (λ x. unwind p k false (f ∷ fs) w x)) (if_there o (beside ss w) (λ x. unwind p' no_contracts false (f' ∷ fs') (beside ss w) x))) (sym (innermost_waits f.method f.at f.handling f'.handling (t.pair).waits))
      (rethrows_by (innermost f.handling) f f' fs fs' w ss t (caught_there (length w.heap) f.handling there))

  -- ---- leave

  abbrev left_new : ℕ → (skip q' t' : ℕ) → Option (ℕ × Rattle.cil_model.specs.declared.body.Region.Region)
  left_new m skip q' t' = left_from skip 0 q' t' (body_of p' m).regions

  abbrev left_old : ℕ → (skip q t : ℕ) → Option (ℕ × Rattle.cil_model.specs.declared.body.Region.Region)
  left_old m skip q t = left_from skip 0 q t (body_of p m).regions

  abbrev goes_to : ℕ → ℕ → ℕ × ℕ
  goes_to i t = (i, t)

  -- both leave, from handlers that go on being run
  leaves_by : (o o' : Option (ℕ × Rattle.cil_model.specs.declared.body.Region.Region)) (f f' : Frame) (fs fs' : List Frame) (w : World) (ss : List Statics) (hs hs' : List Handling) (q q' u : ℕ) (t : Top f f' fs fs' w ss) → Unwinding.is_no_group f.at → HandlingPairs (plan_at k p f.method) (mk f.method) (rows f.method) f.at hs hs' → Waits (plan_at k p f.method) (mk f.method) (rows f.method) f.at hs hs' → IsHere (plan_at k p f.method) (moved_to q f.at) → IsTrue ((mk f.method).belongs (moved_to q f.at) q') → CanArrive (plan_at k p f.method) (moved_to u f.at)
      → option_map (λ (x : ℕ × Rattle.cil_model.specs.declared.body.Region.Region). goes_to x.0 x.1.handler_from) o' ≡ option_map (λ (x : ℕ × Rattle.cil_model.specs.declared.body.Region.Region). goes_to x.0 ((mk f.method).places (moved_to x.1.handler_from f.at))) o
      → ((x : ℕ × Rattle.cil_model.specs.declared.body.Region.Region) → o ≡ Some x → IsHere (plan_at k p f.method) (moved_to x.1.handler_from f.at) × (x.0 < rows f.method))
      → To (cst + lay (suc (length fs))) (leave_through p k o f hs q u fs w) (leave_through p' no_contracts o' f' hs' q' ((mk f.method).places (moved_to u f.at)) fs' (beside ss w))
  leaves_by None None f f' fs fs' w ss hs hs' q q' u t no1 pairs ws here bel can e lands =
      let h1 = f'.handling in
      let a = Arriving.arrives p k ms g r (plan_at k p f.method) f (moved_to u f.at) (with_stack f.local []) f.local (t.pair).extra hs hs' h1 ((mk f.method).places f.at) f'.continuation fs fs' w ss refl can_old can (Pushing.fits_moved (Unwinding.Fits p k ms g r) f.at u f.thrown (t.stands).fits)
      (record { typed = (t.pair).keeps.typed; result = (t.pair).keeps.result; thrown = (t.pair).keeps.thrown; wide = (t.pair).keeps.wide; caps = (t.pair).keeps.caps }) (Pushing.waits_moved (plan_at k p f.method) (mk f.method) (rows f.method) f.at u hs hs' ws) t.alike (as_many p k ms g r f.continuation f'.continuation fs fs' t.under) t.deep t.under in
      subst (λ z. To (cst + lay (suc (length fs))) (leave_through p k None f hs q u fs w) (leave_through p' no_contracts None z hs' q' ((mk f.method).places (moved_to u f.at)) fs' (beside ss w))) (sym (t.pair).same)
      (subst (λ z. To (cst + lay (suc (length fs))) (leave_through p k None f hs q u fs w) z) (sym (arrives_plain p' (Unwinding.tw p k ms g r f f.local (t.pair).extra ((mk f.method).places f.at) h1 f'.continuation) (Rest ((mk f.method).places (moved_to u f.at))) (grow (t.pair).extra (with_stack f.local [])) hs' fs' (beside ss w))) a)
    where
      can_old : f.method < r.methods
      can_old = (t.stands).old
  leaves_by None (Some x') f f' fs fs' w ss hs hs' q q' u t no1 pairs ws here bel can e lands = absurd (cc e)
  leaves_by (Some x) None f f' fs fs' w ss hs hs' q q' u t no1 pairs ws here bel can e lands = absurd (cc e)
  leaves_by (Some x) (Some x') f f' fs fs' w ss hs hs' q q' u t no1 pairs ws here bel can e lands =
      let z : goes_to x'.0 x'.1.handler_from ≡ goes_to x.0 ((mk f.method).places (moved_to x.1.handler_from f.at)) = cc e in
      let e0 : x'.0 ≡ x.0 = ap (λ (y : ℕ × ℕ). y.0) z in
      let e1 : x'.1.handler_from ≡ (mk f.method).places (moved_to x.1.handler_from f.at) = ap (λ (y : ℕ × ℕ). y.1) z in
      let l = lands x refl in
      let new : Handling = record { handler = x.0; cause = Leaving u; place = q; next = x.0 + 1 } in
      let new' : Handling = record { handler = x'.0; cause = Leaving ((mk f.method).places (moved_to u f.at)); place = q'; next = x'.0 + 1 } in
      let at2 = moved_to x.1.handler_from f.at in
      let first : HandlingPair (plan_at k p f.method) (mk f.method) (rows f.method) f.at new new' = record { handler = e0; next = ap (λ j. j + 1) e0; cause = refl; here = here; belongs = bel; leads = can; low = l.1; behind = omega (arith, l.1) } in
      let a = Arriving.goes_here p k ms g r f at2 (with_stack f.local []) f.local (new ∷ hs) (new' ∷ hs') f'.handling ((mk f.method).places f.at) (t.pair).extra f'.continuation fs fs' w ss (t.stands).old l.0 (record { typed = (t.pair).keeps.typed; result = (t.pair).keeps.result; thrown = (t.pair).keeps.thrown; wide = (t.pair).keeps.wide; caps = (t.pair).keeps.caps })
      (as_waits f.at no1 (new ∷ hs) (new' ∷ hs') (Unwinding.moved_pairs (plan_at k p f.method) (mk f.method) (rows f.method) f.at x.1.handler_from (new ∷ hs) (new' ∷ hs') no1 (first, pairs))) t.under t.alike in
      Unwinding.reach_within p k ms g r (lay (suc (length fs))) _ _ _ (omega arith)
      (subst (λ y. To (lay (suc (length fs))) (leave_through p k (Some x) f hs q u fs w) (leave_through p' no_contracts (Some x') y hs' q' ((mk f.method).places (moved_to u f.at)) fs' (beside ss w))) (sym (t.pair).same)
      (subst (λ y. To (lay (suc (length fs))) (leave_through p k (Some x) f hs q u fs w) (goes_at p' (Unwinding.tw p k ms g r f f.local (t.pair).extra ((mk f.method).places f.at) f'.handling f'.continuation) (Rest y) (grow (t.pair).extra (with_stack f.local [])) (new' ∷ hs') fs' (beside ss w))) (sym e1) a))
    where
      as_waits : (at : ProgramPoint) → Unwinding.is_no_group at → (xs ys : List Handling) → HandlingPairs (plan_at k p f.method) (mk f.method) (rows f.method) (moved_to x.1.handler_from at) xs ys → Waits (plan_at k p f.method) (mk f.method) (rows f.method) (moved_to x.1.handler_from at) xs ys
      as_waits (LeadIn a) n1 xs ys y = y
      as_waits (Rest a) n1 xs ys y = y
      as_waits (InGroup gr j a) n1 xs ys y = absurd n1

  no_group_false : (at : ProgramPoint) → Unwinding.is_no_group at → Rattle.splice_facts.specs.Input.is_group at ≡ false
  no_group_false (LeadIn q) n1 = refl
  no_group_false (Rest q) n1 = refl
  no_group_false (InGroup gr j q) n1 = absurd n1

  as_waits : (m : ℕ) (at : ProgramPoint) (xs ys : List Handling) → Unwinding.is_no_group at → HandlingPairs (plan_at k p m) (mk m) (rows m) at xs ys → Waits (plan_at k p m) (mk m) (rows m) at xs ys
  as_waits m (LeadIn a) xs ys n1 y = y
  as_waits m (Rest a) xs ys n1 y = y
  as_waits m (InGroup gr j a) xs ys n1 y = absurd n1

  pub from_waits : (m : ℕ) (at : ProgramPoint) (xs ys : List Handling) → Unwinding.is_no_group at → Waits (plan_at k p m) (mk m) (rows m) at xs ys → HandlingPairs (plan_at k p m) (mk m) (rows m) at xs ys
  from_waits m (LeadIn a) xs ys n1 y = y
  from_waits m (Rest a) xs ys n1 y = y
  from_waits m (InGroup gr j a) xs ys n1 y = absurd n1

  -- leave, from a clause of the table on
  pub leaves : (f f' : Frame) (fs fs' : List Frame) (w : World) (ss : List Statics) (hs hs' : List Handling) (skip q q' u : ℕ) (t : Top f f' fs fs' w ss) → Unwinding.is_no_group f.at → HandlingPairs (plan_at k p f.method) (mk f.method) (rows f.method) f.at hs hs' → IsHere (plan_at k p f.method) (moved_to q f.at) → IsTrue ((mk f.method).belongs (moved_to q f.at) q') → CanArrive (plan_at k p f.method) (moved_to u f.at)
      → To (cst + lay (suc (length fs))) (leave p k skip q u f hs fs w) (leave p' no_contracts skip q' ((mk f.method).places (moved_to u f.at)) f' hs' fs' (beside ss w))
  leaves f f' fs fs' w ss hs hs' skip q q' u t no1 pairs here bel can =
      let sp = r.bodies f.method (t.stands).old in
      let same : f'.method ≡ f.method = ap (λ (z : Frame). z.method) (t.pair).same in
      subst (λ m1. To (cst + lay (suc (length fs))) (leave p k skip q u f hs fs w) (leave_through p' no_contracts (left_new m1 skip q' ((mk f.method).places (moved_to u f.at))) f' hs' q' ((mk f.method).places (moved_to u f.at)) fs' (beside ss w))) (sym same)
      (leaves_by (left_old f.method skip q u) (left_new f.method skip q' ((mk f.method).places (moved_to u f.at))) f f' fs fs' w ss hs hs' q q' u t no1 pairs (as_waits f.method f.at hs hs' no1 pairs) here bel can
      (sp.finally f.at q skip u q' t.here (no_group_false f.at no1) here can bel) (λ x e. (r.input f.method (t.stands).old).left_lands f.at q skip u x t.here (no_group_false f.at no1) here e))

  -- ---- endfinally

  outside_so : (h : Frame) (at : ProgramPoint) (f' : Frame) (fs fs' : List Frame) (w : World) (ss : List Statics) (hs hs' : List Handling) (q q' : ℕ) (t : Top (record h { at = at }) f' fs fs' w ss) → Unwinding.is_no_group at → HandlingPairs (plan_at k p h.method) (mk h.method) (rows h.method) at hs hs' → IsHere (plan_at k p h.method) (moved_to q at) → IsTrue ((mk h.method).belongs (moved_to q at) q') → (x : ℕ) → IsObject (length w.heap) x → Unwinding.Outside p k ms g r h at h.local (t.pair).extra hs hs' q q' f'.continuation fs fs' w ss x
  outside_so h at f' fs fs' w ss hs hs' q q' t no1 pairs here bel x there =
      record {
        old = (t.stands).old;
        here = t.here;
        thrown_there = there;
        thrower = here;
        belongs = bel;
        keeps = record { typed = (t.pair).keeps.typed; result = (t.pair).keeps.result; thrown = (t.pair).keeps.thrown; wide = (t.pair).keeps.wide; caps = (t.pair).keeps.caps };
        pairs = pairs;
        under = t.under;
        alike = t.alike;
        numbers = as_many p k ms g r h.continuation f'.continuation fs fs' t.under;
        deep = t.deep;
        count = none_counted at no1 t.count;
        down = unwinds p k ms g r h.continuation f'.continuation fs fs' t.under t.others;
        own = (t.stands).initializes;
      }
    where
      none_counted : (to : ProgramPoint) → Unwinding.is_no_group to → w.depth ≡ in_group to + count_groups fs → w.depth ≡ count_groups fs
      none_counted (LeadIn a) n1 e = omega (arith, e)
      none_counted (Rest a) n1 e = omega (arith, e)
      none_counted (InGroup gr j a) n1 e = absurd n1

  goes_on_throwing : (h : Frame) (at : ProgramPoint) (f' : Frame) (fs fs' : List Frame) (w : World) (ss : List Statics) (x : ℕ) (hs hs' : List Handling) (skip q q' : ℕ) (t : Top (record h { at = at }) f' fs fs' w ss) → Unwinding.is_no_group at → HandlingPairs (plan_at k p h.method) (mk h.method) (rows h.method) at hs hs' → IsHere (plan_at k p h.method) (moved_to q at) → IsTrue ((mk h.method).belongs (moved_to q at) q') → skip ≤ rows h.method → IsObject (length w.heap) x
      → To (2 * cst + lay (suc (length fs))) (throws_in p k (record h { at = at }) hs skip q fs w x (λ s v y. unwind p k s fs v y)) (throws_in p' no_contracts f' hs' skip q' fs' (beside ss w) x (λ s v y. unwind p' no_contracts s fs' v y))
  goes_on_throwing h (LeadIn a) f' fs fs' w ss x hs hs' skip q q' t no1 pairs here bel most there =
      subst (λ z. To (2 * cst + lay (suc (length fs))) (throws_in p k (record h { at = LeadIn a }) hs skip q fs w x (λ s v y. unwind p k s fs v y)) (throws_in p' no_contracts z hs' skip q' fs' (beside ss w) x (λ s v y. unwind p' no_contracts s fs' v y))) (sym (t.pair).same)
      (Unwinding.throws_lead p k ms g r h a hs hs' f'.handling q q' skip _ (t.pair).extra f'.continuation fs fs' w ss x (outside_so h (LeadIn a) f' fs fs' w ss hs hs' q q' t no1 pairs here bel x there))
  goes_on_throwing h (Rest a) f' fs fs' w ss x hs hs' skip q q' t no1 pairs here bel most there =
      subst (λ z. To (2 * cst + lay (suc (length fs))) (throws_in p k (record h { at = Rest a }) hs skip q fs w x (λ s v y. unwind p k s fs v y)) (throws_in p' no_contracts z hs' skip q' fs' (beside ss w) x (λ s v y. unwind p' no_contracts s fs' v y))) (sym (t.pair).same)
      (Unwinding.throws_rest p k ms g r h a hs hs' f'.handling q q' skip _ (t.pair).extra f'.continuation fs fs' w ss x (Unwinding.none_thrown p k ms g r h.thrown (t.stands).fits) most (outside_so h (Rest a) f' fs fs' w ss hs hs' q q' t no1 pairs here bel x there))
  goes_on_throwing h (InGroup gr j a) f' fs fs' w ss x hs hs' skip q q' t no1 pairs here bel most there = absurd no1

  resumes_by : (c c' : Cause) (f f' : Frame) (fs fs' : List Frame) (w : World) (ss : List Statics) (h h' : Handling) (hs hs' : List Handling) (t : Top f f' fs fs' w ss) → Unwinding.is_no_group f.at → HandlingPair (plan_at k p f.method) (mk f.method) (rows f.method) f.at h h' → HandlingPairs (plan_at k p f.method) (mk f.method) (rows f.method) f.at hs hs' → c' ≡ Pairs.moved_cause (λ u. (mk f.method).places (moved_to u f.at)) c → Pairs.LeadsTo (plan_at k p f.method) f.at c → CauseThere (length w.heap) c
      → To (2 * cst + lay (suc (length fs))) (resume_cause p k h c hs f fs w) (resume_cause p' no_contracts h' c' hs' f' fs' (beside ss w))
  resumes_by (Caught x) c' f f' fs fs' w ss h h' hs hs' t no1 pair pairs e lead there =
      subst (λ z. To (2 * cst + lay (suc (length fs))) (Ended outcome.Stuck w) (resume_cause p' no_contracts h' z hs' f' fs' (beside ss w))) (sym e) (Arriving.stuck_both p k ms g r _ w ss t.alike)
  resumes_by (Unwinding x) c' f f' fs fs' w ss h h' hs hs' t no1 pair pairs e lead there =
      subst (λ z. To (2 * cst + lay (suc (length fs))) (resume_cause p k h (Unwinding x) hs f fs w) (resume_cause p' no_contracts h' z hs' f' fs' (beside ss w))) (sym e)
      (subst (λ n. To (2 * cst + lay (suc (length fs))) (resume_cause p k h (Unwinding x) hs f fs w) (throws_in p' no_contracts f' hs' n h'.place fs' (beside ss w) x (λ s v y. unwind p' no_contracts s fs' v y))) (sym pair.next)
      (goes_on_throwing f f.at f' fs fs' w ss x hs hs' h.next h.place h'.place t no1 pairs pair.here pair.belongs pair.behind there))
  resumes_by (Leaving u) c' f f' fs fs' w ss h h' hs hs' t no1 pair pairs e lead there =
      subst (λ z. To (2 * cst + lay (suc (length fs))) (resume_cause p k h (Leaving u) hs f fs w) (resume_cause p' no_contracts h' z hs' f' fs' (beside ss w))) (sym e)
      (subst (λ n. To (2 * cst + lay (suc (length fs))) (resume_cause p k h (Leaving u) hs f fs w) (leave p' no_contracts n h'.place ((mk f.method).places (moved_to u f.at)) f' hs' fs' (beside ss w))) (sym pair.next)
      (Unwinding.reach_within p k ms g r (cst + lay (suc (length fs))) _ _ _ (omega arith) (leaves f f' fs fs' w ss hs hs' h.next h.place h'.place u t no1 pairs pair.here pair.belongs lead)))

  resumes_all : (f f' : Frame) (fs fs' : List Frame) (w : World) (ss : List Statics) (hs hs' : List Handling) (t : Top f f' fs fs' w ss) → Unwinding.is_no_group f.at → HandlingPairs (plan_at k p f.method) (mk f.method) (rows f.method) f.at hs hs' → CausesThere (length w.heap) hs → To (2 * cst + lay (suc (length fs))) (resume p k hs f fs w) (resume p' no_contracts hs' f' fs' (beside ss w))
  resumes_all f f' fs fs' w ss [] [] t no1 x there = Arriving.stuck_both p k ms g r _ w ss t.alike
  resumes_all f f' fs fs' w ss [] (h' ∷ hs') t no1 x there = absurd x
  resumes_all f f' fs fs' w ss (h ∷ hs) [] t no1 x there = absurd x
  resumes_all f f' fs fs' w ss (h ∷ hs) (h' ∷ hs') t no1 x there = resumes_by h.cause h'.cause f f' fs fs' w ss h h' hs hs' t no1 x.0 x.1 (x.0).cause (x.0).leads there.0

  resumes_at : (at : ProgramPoint) (f f' : Frame) (fs fs' : List Frame) (w : World) (ss : List Statics) (t : Top f f' fs fs' w ss) → f.at ≡ at → CausesThere (length w.heap) f.handling → To (2 * cst + lay (suc (length fs))) (resume p k f.handling f fs w) (resume p' no_contracts f'.handling f' fs' (beside ss w))
  resumes_at (LeadIn q) f f' fs fs' w ss t e there = let n1 = subst Unwinding.is_no_group (sym e) tt in resumes_all f f' fs fs' w ss f.handling f'.handling t n1 (from_waits f.method f.at f.handling f'.handling n1 (t.pair).waits) there
  resumes_at (Rest q) f f' fs fs' w ss t e there = let n1 = subst Unwinding.is_no_group (sym e) tt in resumes_all f f' fs fs' w ss f.handling f'.handling t n1 (from_waits f.method f.at f.handling f'.handling n1 (t.pair).waits) there
  resumes_at (InGroup gr j q) f f' fs fs' w ss t e there =
      let ws = subst (λ z. Waits (plan_at k p f.method) (mk f.method) (rows f.method) z f.handling f'.handling) e (t.pair).waits in
      subst (λ z. To (2 * cst + lay (suc (length fs))) (resume p k z f fs w) (resume p' no_contracts f'.handling f' fs' (beside ss w))) (sym ws.0)
      (subst (λ z. To (2 * cst + lay (suc (length fs))) (resume p k [] f fs w) (resume p' no_contracts z f' fs' (beside ss w))) (sym ws.1) (Arriving.stuck_both p k ms g r _ w ss t.alike))

  pub resumes : (f f' : Frame) (fs fs' : List Frame) (w : World) (ss : List Statics) (t : Top f f' fs fs' w ss) → CausesThere (length w.heap) f.handling → To (2 * cst + lay (suc (length fs))) (resume p k f.handling f fs w) (resume p' no_contracts f'.handling f' fs' (beside ss w))
  resumes f f' fs fs' w ss t there = resumes_at f.at f f' fs fs' w ss t refl there
