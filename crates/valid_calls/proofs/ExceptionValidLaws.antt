-- The exception of a failed Requires<E>: it is made and thrown validly, from a frame in a group.
use Rattle.std.proofs.Common.{◌≡◌, ℕ, suc, ◌<◌, ◌≤◌, Bool, true, false, List, [], ◌∷◌, Option, Some, None, refl, sym, ◌∙◌, subst}
use Rattle.std.specs.Prelude.{◌&&◌, bytes_eq, codes, is_some, if◌then◌else◌, map, option_map}
use Rattle.cil_model.specs.declared.ty.Ty.{Ty, out-Ty}
use Rattle.cil_model.specs.declared.value.Value.{Value, out-Value, Obj}
use Rattle.cil_model.specs.declared.value.Value.TheOpen.{Value-F}
use Rattle.cil_model.specs.declared.contract.Contracts.{Contracts}
use Rattle.cil_model.specs.declared.program.Program.{Program}
use Rattle.cil_model.specs.declared.program.MethodDesc.{MethodDesc}
use Rattle.cil_semantics.specs.Words.{maybe, or_else}
use Rattle.cil_semantics.specs.Types.{same_tys}
use Rattle.cil_semantics.specs.Core.{string_ty}
use Rattle.cil_semantics.specs.Lookups.{method_of, in_set, args_of}
use Rattle.cil_semantics.specs.Dispatch.{methods_of}
use Rattle.cil_semantics.specs.Places.{default_cells, layout}
use Rattle.cil_semantics.specs.declared.state.Object.{Object}
use Rattle.cil_semantics.specs.declared.state.World.{World}
use Rattle.cil_semantics.specs.declared.state.Frame.{Frame}
use Rattle.cil_semantics.specs.declared.state.Continuation.{Continuation}
use Rattle.cil_semantics.specs.declared.state.Continuation.TheVariants.{Push, ThrowObject}
use Rattle.cil_semantics.specs.State.{Next, next_object, with_object}
use Rattle.cil_semantics.specs.Unwind.{unwind}
use Rattle.cil_semantics.specs.Frames.{stuck, enter, enter_struct}
use Rattle.cil_semantics.specs.Outside.{Answer, Returned, Threw, Unfit, member_of, is_outside, ask_new}
use Rattle.cil_semantics.specs.Calls.{CoreMember, Constructor, core_of, is_core_exception, makes_delegate, delegate_cells, new_object, use_answer, make_core, make_own, make_outside, without_this, make}
use Rattle.cil_semantics.specs.Checks.{AddedNumbers, Failure, Sequel, number_of_object, throws_new, goes_on_from, is_accessible, constructor_with, constructor_member, own_constructor, is_named_type, throw_outside, throw_made, after_new}
use Rattle.splice_facts.specs.WellFormed.{Bounds, NoneVoid, WellFormedValue, WellFormedValues, WellFormedWorld}
use Rattle.splice_facts.specs.Input.{is_group}
use Rattle.splice_facts.specs.Related.{Rewritten, IsOwnClass, bounds}
use Rattle.simulation_checks.proofs.MakeLaws.{found_each}
use Rattle.simulation_objects.proofs.StoredLaws.{defaults_fine}
use Rattle.simulation_valid.specs.Keeping.{StaysValid, ValidTail, Placed}
use Rattle.simulation_valid.specs.Steps.{MayEnter, AfterCall, RunsHere}
use Rattle.simulation_valid.proofs.WorldLaws.{object_added}
use Rattle.simulation_valid.proofs.ChangeLaws.{valid_changed, returns_changed, tails_changed, placed_changed, same_count}
use Rattle.simulation_valid.proofs.UnwindValidLaws.{unwinds}
use Rattle.simulation_valid.proofs.EnterValidLaws.{enters_valid}
use Rattle.valid_calls.specs.Members.{ExceptionsValid}
use Rattle.valid_calls.proofs.NewValidLaws.{NewAnswer, asks_new_valid, delegate_fine}

module _ (p : Program) (k : Contracts) (ms : List MethodDesc) (g : AddedNumbers) (r : Rewritten p k ms g) where
  abbrev Stays : Next → Type 0
  Stays x = StaysValid p k ms g r x

  abbrev Bs : Bounds
  Bs = bounds p k ms g r

  module _ (f : Frame) (fs : List Frame) (w : World) (a : RunsHere p k ms g r f fs w) (inside : is_group f.at ≡ true) where
    tail : (b : Continuation) → Placed p k ms g r b (f ∷ fs) → ValidTail p k ms g r b (f ∷ fs)
    tail b placed =
        record { placed = placed; others = (a.top.frame, a.top.below.others); returning = (a.top.as_named, a.top.counted, a.top.below.returning); heights = a.top.below.heights }

    -- thrown where the clause stands
    throws_here : (v : World) (x : ℕ) → WellFormedWorld Bs v → v.depth ≡ w.depth → Stays (unwind p k false (f ∷ fs) v x)
    throws_here v x ok e = unwinds p k ms g r Push (f ∷ fs) (tail Push (a.here, a.placed)) v x ok (e ∙ a.top.count) (subst (λ n. n ≤ suc k.settings.guard) (sym e) a.top.deep)

    -- with frames and world as a call outside leaves them
    throws_after : (v : World) (gs : List Frame) (w2 : World) (x : ℕ) → v.depth ≡ w.depth → AfterCall p k ms g r (f ∷ fs) v gs w2 → Stays (unwind p k false gs w2 x)
    throws_after v gs w2 x e z =
        let t = tail Push (a.here, a.placed) in
        unwinds p k ms g r Push gs
        (record {
          placed = placed_changed p k ms g r Push (f ∷ fs) gs z.frames t.placed;
          others = valid_changed p k ms g r (f ∷ fs) gs z.frames t.others;
          returning = returns_changed p k ms g r (f ∷ fs) gs z.frames t.returning;
          heights = tails_changed p k ms g r (f ∷ fs) gs z.frames t.heights;
        })
        w2 x z.world (z.depth ∙ e ∙ a.top.count ∙ sym (same_count Bs (f ∷ fs) gs z.frames)) (subst (λ n. n ≤ suc k.settings.guard) (sym (z.depth ∙ e)) a.top.deep)

    unchanged : (o : Option ℕ) (v : World) → WellFormedWorld Bs v → v.depth ≡ w.depth → Stays (Rattle.cil_semantics.specs.Frames.if_there o v (λ x. unwind p k false (f ∷ fs) v x))
    unchanged None v ok e = tt
    unchanged (Some x) v ok e = throws_here v x ok e

    changed : (o : Option ℕ) (v : World) (gs : List Frame) (w2 : World) → v.depth ≡ w.depth → AfterCall p k ms g r (f ∷ fs) v gs w2 → Stays (Rattle.cil_semantics.specs.Frames.if_there o w2 (λ x. unwind p k false gs w2 x))
    changed None v gs w2 e z = tt
    changed (Some x) v gs w2 e z = throws_after v gs w2 x e z

    -- a new one that comes from outside
    uses_answer : (v : World) (A : Answer) → v.depth ≡ w.depth → NewAnswer p k ms g r (f ∷ fs) v A → Stays (use_answer p k (throws_new p k) A)
    uses_answer v (Returned None gs w2) e z = tt
    uses_answer v (Returned (Some y) gs w2) e z = changed (number_of_object (out-Value y)) v gs w2 e z.0
    uses_answer v (Threw x gs w2) e z = throws_after v gs w2 x e z
    uses_answer v (Unfit w2) e z = tt

    module _ (t : Ty) (m : ℕ) (values : List Value) (old : m < r.methods) (own : IsOwnClass p r.types r.methods t) (na : NoneVoid p (args_of t)) (fv : WellFormedValues Bs values) (v : World) (ok : WellFormedWorld Bs v) (e : v.depth ≡ w.depth) where
      makes_core : (x : CoreMember) (other : Next) → Stays other → Stays (make_core p k (throws_new p k) x t (f ∷ fs) v other)
      makes_core Constructor other o = unchanged (number_of_object (out-Value (Obj (next_object v)))) (with_object p (new_object t []) v) (object_added Bs p (new_object t []) v (na, tt) ok) e
      makes_core _ other o = o

      makes_outside : Stays (make_outside p k (throws_new p k) t m values (f ∷ fs) v)
      makes_outside =
          let member = record (member_of p t m []) { params = without_this (member_of p t m []).params } in
          uses_answer v (ask_new p t member values (f ∷ fs) v) e (asks_new_valid p k ms g r t member values (f ∷ fs) v na fv ok)

      abbrev object : Object
      object = new_object t (default_cells p (map (λ (x : ℕ × Ty). x.1) (layout p t)))

      abbrev made : World
      made = with_object p object v

      waits : MayEnter p k ms g r (ThrowObject (next_object v)) m (f ∷ fs) made
      waits =
          record {
            tail = tail (ThrowObject (next_object v)) (a.here, a.placed);
            begun = refl;
            waiting = λ h q y. (λ plan o2 e2 outer. absurd (cc (sym inside ∙ outer)), a.top.below.heights);
            world = object_added Bs p object v (na, defaults_fine Bs p (map (λ (x : ℕ × Ty). x.1) (layout p t))) ok;
            fine_back = tt;
            count = e ∙ a.top.count;
            deep = subst (λ n. n ≤ suc k.settings.guard) (sym e) a.top.deep;
          }

      makes_own : Stays (make_own p k (throws_new p k) t m values (f ∷ fs) v)
      unfolding Rattle.cil_model.specs.declared.value.Value.out-Value denote.Hole.Carrier.out
      makes_own =
          subst (λ b. Stays (if b then enter p k t m [] (Obj (next_object v) ∷ values) (ThrowObject (next_object v)) (f ∷ fs) made else enter_struct p k t m [] values (f ∷ fs) v)) (sym own.reference)
          (enters_valid p k ms g r t m [] (Obj (next_object v) ∷ values) (ThrowObject (next_object v)) (f ∷ fs) made old own.below na tt (tt, fv) (λ cells. tt) waits)

      -- by a constructor of the set
      makes_valid : Stays (make p k (throws_new p k) t m values (f ∷ fs) v)
      unfolding make
      makes_valid = by_delegate (makes_delegate p t m values)
        where
          others : (b c : Bool) → Stays (if b then make_outside p k (throws_new p k) t m values (f ∷ fs) v else if c then make_own p k (throws_new p k) t m values (f ∷ fs) v else stuck v)
          others true c = makes_outside
          others false true = makes_own
          others false false = tt

          by_delegate : (d : Bool) → Stays (if d then (throws_new p k).now (Obj (next_object v)) (f ∷ fs) (with_object p (new_object t (delegate_cells values)) v) else make_core p k (throws_new p k) (core_of p t m) t (f ∷ fs) v (if is_outside p m then make_outside p k (throws_new p k) t m values (f ∷ fs) v else if is_some (method_of p m).body then make_own p k (throws_new p k) t m values (f ∷ fs) v else stuck v))
          by_delegate true = unchanged (number_of_object (out-Value (Obj (next_object v)))) (with_object p (new_object t (delegate_cells values)) v) (object_added Bs p (new_object t (delegate_cells values)) v (na, delegate_fine Bs values fv) ok) e
          by_delegate false = makes_core (core_of p t m) _ (others (is_outside p m) (is_some (method_of p m).body))

    module _ (x : Failure) (passes : World → Next) (v : World) (t : Ty) (text : Value) (ft : WellFormedValue Bs text) (ok : WellFormedWorld Bs v) (e : v.depth ≡ w.depth) where
      abbrev sequel : Sequel
      sequel = goes_on_from p k (f ∷ fs) passes

      -- outside: a core exception, or one by a call outside
      throws_made : (u : World) (y : Value-F Value) → WellFormedWorld Bs u → u.depth ≡ w.depth → Stays (throw_made p g k.settings.throwing x sequel u y)
      throws_made u (Value-F.Obj y) fine d = throws_here u y fine d
      throws_made u _ fine d = tt

      after_answer : (A : Answer) → NewAnswer p k ms g r (f ∷ fs) v A → Stays (after_new p g k.settings.throwing x sequel A)
      after_answer (Returned None gs u) z = tt
      after_answer (Returned (Some y) gs u) z = throws_made u (out-Value y) (z.0).world ((z.0).depth ∙ e)
      after_answer (Threw y gs u) z = throws_here u y z.world (z.depth ∙ e)
      after_answer (Unfit u) z = tt

      throws_outside : in_set (out-Ty t) ≡ None → Stays (throw_outside p g k.settings.throwing x sequel t text (f ∷ fs) v)
      throws_outside out = by_tests (is_core_exception p t) (is_named_type (out-Ty t))
        where
          bare : NoneVoid p (args_of t)
          bare = subst (λ (o : Option (ℕ × List Ty)). NoneVoid p (maybe [] (λ (d : ℕ × List Ty). d.1) o)) (sym out) tt

          by_tests : (b c : Bool)
              → Stays (if b then sequel.throws (with_object p (record { ty = t; cells = [] }) v) (next_object v) else if c then after_new p g k.settings.throwing x sequel (ask_new p t (constructor_member p g t) (text ∷ []) (f ∷ fs) v) else sequel.stops v)
          by_tests true c = throws_here (with_object p (record { ty = t; cells = [] }) v) (next_object v) (object_added Bs p (record { ty = t; cells = [] }) v (bare, tt) ok) e
          by_tests false true = after_answer (ask_new p t (constructor_member p g t) (text ∷ []) (f ∷ fs) v) (asks_new_valid p k ms g r t (constructor_member p g t) (text ∷ []) (f ∷ fs) v bare (ft, tt) ok)
          by_tests false false = tt

      -- of the set
      makes_here : IsOwnClass p r.types r.methods t → NoneVoid p (args_of t) → Stays (maybe (sequel.stops v) (λ (c : ℕ × List Value). sequel.makes v t c.0 c.1) (own_constructor p t x.home text))
      makes_here own na = by_constructor (constructor_with p t x.home (string_ty ∷ [])) (constructor_with p t x.home []) refl refl
        where
          tests : List Ty → ℕ → Bool
          tests ts m = bytes_eq (method_of p m).name (codes ".ctor") && (same_tys (method_of p m).params ts && is_accessible p x.home m)

          by_constructor : (o1 o2 : Option ℕ) → constructor_with p t x.home (string_ty ∷ []) ≡ o1 → constructor_with p t x.home [] ≡ o2
              → Stays (maybe (sequel.stops v) (λ (c : ℕ × List Value). sequel.makes v t c.0 c.1) (or_else (option_map (λ m. (m, text ∷ [])) o1) (option_map (λ m. (m, [])) o2)))
          by_constructor (Some m) o2 e1 e2 = makes_valid t m (text ∷ []) ((found_each (λ y. y < r.methods) (tests (string_ty ∷ [])) (methods_of p t) m own.members e1).0) own na (ft, tt) v ok e
          by_constructor None (Some m) e1 e2 = makes_valid t m [] ((found_each (λ y. y < r.methods) (tests []) (methods_of p t) m own.members e2).0) own na tt v ok e
          by_constructor None None e1 e2 = tt

  pub exceptions_valid : ExceptionsValid p k ms g r
  exceptions_valid x passes f fs w a inside classes v t text kd mt ft ok e = by_set (in_set (out-Ty t)) refl
    where
      by_set : (o : Option (ℕ × List Ty)) → in_set (out-Ty t) ≡ o
          → Stays (maybe (throw_outside p g k.settings.throwing x (goes_on_from p k (f ∷ fs) passes) t text (f ∷ fs) v) (λ (d : ℕ × List Ty). maybe (stuck v) (λ (c : ℕ × List Value). make p k (throws_new p k) t c.0 c.1 (f ∷ fs) v) (own_constructor p t x.home text)) o)
      by_set None s = throws_outside f fs w a inside x passes v t text ft ok e s
      by_set (Some d) s = let c = classes t d kd mt s in makes_here f fs w a inside x passes v t text ft ok e c.0 c.1
