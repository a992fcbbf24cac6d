-- New objects in both runs.
use Rattle.std.proofs.Common.{◌≡◌, ℕ, suc, ◌+◌, ◌*◌, ◌<◌, ◌≤◌, Bool, true, false, List, [], ◌∷◌, length, Option, Some, None, refl, sym, ap, ◌∙◌, subst, arith}
use Rattle.std.specs.Prelude.{◌&&◌, if◌then◌else◌, IsTrue, map, is_some}
use Rattle.cil_model.specs.declared.ty.Ty.{Ty, Prim}
use Rattle.cil_model.specs.declared.value.Value.{Value, out-Value, Obj}
use Rattle.cil_model.specs.declared.contract.Contracts.{Contracts}
use Rattle.cil_model.specs.declared.program.Program.{Program}
use Rattle.cil_model.specs.declared.program.MethodDesc.{MethodDesc}
use Rattle.cil_model.specs.NoContracts.{no_contracts}
use Rattle.cil_semantics.specs.Words.{maybe}
use Rattle.cil_semantics.specs.Types.{same_tys}
use Rattle.cil_semantics.specs.Core.{object_ty}
use Rattle.cil_semantics.specs.Lookups.{method_of}
use Rattle.cil_semantics.specs.declared.state.Cell.{Cell}
use Rattle.cil_semantics.specs.declared.state.Object.{Object}
use Rattle.cil_semantics.specs.Places.{storage, is_reference, layout, default_cells}
use Rattle.cil_semantics.specs.declared.state.World.{World}
use Rattle.cil_semantics.specs.declared.state.Statics.{Statics}
use Rattle.cil_semantics.specs.declared.state.Frame.{Frame}
use Rattle.cil_semantics.specs.State.{Next, next_object, with_object}
use Rattle.cil_semantics.specs.declared.state.Continuation.{Continuation}
use Rattle.cil_semantics.specs.declared.state.Continuation.TheVariants.{Push, PushObject, PushStruct, ThrowObject}
use Rattle.cil_semantics.specs.Unwind.{unwind, hasnt_begun}
use Rattle.cil_semantics.specs.Frames.{stuck, enter, enter_struct}
use Rattle.cil_semantics.specs.Outside.{Answer, Returned, Threw, Unfit, Member, ask_new, member_of, is_outside}
use Rattle.cil_semantics.specs.Returns.{push_below}
use Rattle.cil_semantics.specs.Calls.{CoreMember, Constructor, core_of, may_be_delegate, is_function, makes_delegate, delegate_cells, new_object, pushes_new, use_answer, make_core, make_own, without_this, make_outside, make}
use Rattle.cil_semantics.specs.Checks.{AddedNumbers, throws_new}
use Rattle.splice_facts.proofs.ExceptionLaws.{more_failures, longer}
use Rattle.splice_facts.specs.Bodies.{with_methods}
use Rattle.splice_facts.specs.Grown.{beside}
use Rattle.machine_laws.specs.Answers.{is_below}
use Rattle.splice_facts.specs.WellFormed.{WellFormedValues}
use Rattle.splice_facts.specs.Related.{Rewritten, Under, bounds, count_groups}
use Rattle.splice_facts.specs.Related as Pairs
use Rattle.simulation_steps.specs.Outside as Alike
use Rattle.simulation_objects.specs.Calls as Sites
use Rattle.simulation.proofs.ProgramLaws.{storage_same, with_object_same, layout_same, default_cells_same}
use Rattle.simulation.proofs.ArriveLaws as Arriving
use Rattle.simulation.proofs.UnwindLaws as Unwinding
use Rattle.simulation.proofs.UnwindLaws.{unwinds}
use Rattle.simulation.proofs.PushLaws as Pushing
use Rattle.simulation_steps.proofs.EnterLaws as Entering
use Rattle.simulation_steps.proofs.DelegateLaws as Delegating
use Rattle.simulation_steps.proofs.OutsideLaws as Asking
use Rattle.simulation_objects.proofs.RefLaws.{refs_there}
use Rattle.simulation_objects.proofs.CallLaws as Calling

module _ (p : Program) (k : Contracts) (ms : List MethodDesc) (g : AddedNumbers) (r : Rewritten p k ms g) where
  abbrev p' : Program
  p' = with_methods p ms

  abbrev To : ℕ → Next → Next → Type 0
  To n x y = Unwinding.To p k ms g r n x y

  abbrev lay : ℕ → ℕ
  lay n = Unwinding.lay p k ms g r n

  abbrev cst : ℕ
  cst = Unwinding.cst p k ms g r

  abbrev big : ℕ → ℕ
  big n = Sites.call_cost p k ms g r n

  abbrev IsBeside : World → List Statics → Type 0
  IsBeside w ss = Unwinding.IsBeside p k ms g r w ss

  abbrev Site : List Frame → List Frame → World → List Statics → Type 0
  Site fs fs' w ss = Sites.CallSite p k ms g r fs fs' w ss

  one_more : (o : Object) (w : World) (ss : List Statics) → IsBeside w ss → IsBeside (with_object p o w) ss
  one_more o w ss bes = record { statics = bes.statics; depth = bes.depth; bare = bes.bare; failures = more_failures (length w.heap) (length (with_object p o w).heap) w.statics (longer w.heap o) bes.failures }

  -- ---- at once: a delegate, and a core object

  delegate_same : (t : Ty) (m : ℕ) (values : List Value) → makes_delegate p' t m values ≡ makes_delegate p t m values
  delegate_same t m [] = refl
  delegate_same t m (a ∷ []) = refl
  delegate_same t m (a ∷ f ∷ []) = ap (λ ts. may_be_delegate p t && (same_tys ts (object_ty ∷ Prim 0x18 ∷ []) && is_function (out-Value f))) ((r.same_methods m).params)
  delegate_same t m (a ∷ b ∷ c ∷ more) = refl

  pushes_made : (o : Object) (fs fs' : List Frame) (w : World) (ss : List Statics) → Site fs fs' w ss → To (big (length fs)) (push_below p k (Some (Obj (next_object w))) fs (with_object p o w)) (push_below p' no_contracts (Some (Obj (next_object w))) fs' (with_object p' o (beside ss w)))
  pushes_made o fs fs' w ss z =
      subst (λ u. To (big (length fs)) (push_below p k (Some (Obj (next_object w))) fs (with_object p o w)) (push_below p' no_contracts (Some (Obj (next_object w))) fs' u)) (sym (with_object_same p ms o (beside ss w)))
      (Unwinding.reach_within p k ms g r (cst + lay (length fs)) _ _ _ (omega arith) (Pushing.pushes p k ms g r Push Push (Some (Obj (next_object w))) fs fs' (with_object p o w) ss tt z.under z.others (one_more o w ss z.alike) z.deep))

  makes_core : (c : CoreMember) (t : Ty) (fs fs' : List Frame) (w : World) (ss : List Statics) → Site fs fs' w ss → (x x' : Next) → To (big (length fs)) x x' → To (big (length fs)) (make_core p k (pushes_new p k) c t fs w x) (make_core p' no_contracts (pushes_new p' no_contracts) c t fs' (beside ss w) x')
  makes_core Constructor t fs fs' w ss z x x' other = pushes_made (new_object t []) fs fs' w ss z
  makes_core _ t fs fs' w ss z x x' other = other

  -- ---- by an outside constructor

  uses_answer : (n c d : ℕ) (a a' : Answer) → d ≤ suc k.settings.guard → d ≡ c → Alike.BothAnswer p k ms g r Push Push n c d a a' → To (2 * cst + lay n) (use_answer p k (pushes_new p k) a) (use_answer p' no_contracts (pushes_new p' no_contracts) a')
  uses_answer n c d (Returned v gs w) (Returned v' gs' w') deep count z =
      let b = z.1 in
      subst (λ y. To (2 * cst + lay n) (maybe (stuck w) (λ x. push_below p k (Some x) gs w) v) (maybe (stuck w') (λ x. push_below p' no_contracts (Some x) gs' w') y)) (sym z.0)
      (subst (λ y. To (2 * cst + lay n) (maybe (stuck w) (λ x. push_below p k (Some x) gs w) v) (maybe (stuck y) (λ x. push_below p' no_contracts (Some x) gs' y) v)) (sym b.world)
      (subst (λ y. To (2 * cst + lay y) (maybe (stuck w) (λ x. push_below p k (Some x) gs w) v) (maybe (stuck (beside b.statics w)) (λ x. push_below p' no_contracts (Some x) gs' (beside b.statics w)) v)) b.many
      (by_value v)))
    where
      by_value : (o : Option Value) → To (2 * cst + lay (length gs)) (maybe (stuck w) (λ x. push_below p k (Some x) gs w) o) (maybe (stuck (beside (z.1).statics w)) (λ x. push_below p' no_contracts (Some x) gs' (beside (z.1).statics w)) o)
      by_value None = Arriving.stuck_both p k ms g r _ w (z.1).statics (z.1).alike
      by_value (Some x) =
          Unwinding.reach_within p k ms g r (cst + lay (length gs)) _ _ _ (omega arith)
          (Pushing.pushes p k ms g r Push Push (Some x) gs gs' w (z.1).statics tt (z.1).under (z.1).others (z.1).alike (subst (λ d1. d1 ≤ suc k.settings.guard) (sym (z.1).depth) deep))
  uses_answer n c d (Threw x gs w) (Threw x' gs' w') deep count z =
      let b = z.1 in
      subst (λ y. To (2 * cst + lay n) (unwind p k false gs w x) (unwind p' no_contracts false gs' w' y)) (sym z.0)
      (subst (λ y. To (2 * cst + lay n) (unwind p k false gs w x) (unwind p' no_contracts false gs' y x)) (sym b.world)
      (subst (λ y. To (2 * cst + lay y) (unwind p k false gs w x) (unwind p' no_contracts false gs' (beside b.statics w) x)) b.many
      (unwinds p k ms g r Push Push gs gs' b.under b.others w b.statics x b.alike z.2 (b.depth ∙ count ∙ sym b.groups) (subst (λ d1. d1 ≤ suc k.settings.guard) (sym b.depth) deep))))
  uses_answer n c d (Unfit w) (Unfit w') deep count z = subst (λ y. To (2 * cst + lay n) (stuck w) (stuck y)) (sym z.world) (Arriving.stuck_both p k ms g r (2 * cst + lay n) w z.statics z.alike)
  uses_answer n c d (Returned v gs w) (Threw x' gs' w') deep count z = absurd z
  uses_answer n c d (Returned v gs w) (Unfit w') deep count z = absurd z
  uses_answer n c d (Threw x gs w) (Returned v' gs' w') deep count z = absurd z
  uses_answer n c d (Threw x gs w) (Unfit w') deep count z = absurd z
  uses_answer n c d (Unfit w) (Returned v' gs' w') deep count z = absurd z
  uses_answer n c d (Unfit w) (Threw x' gs' w') deep count z = absurd z

  -- a constructor as it is told of outside
  abbrev constructor_of : Member → Member
  constructor_of x = record x { params = without_this x.params }

  makes_outside : (t : Ty) (m : ℕ) (values : List Value) (fs fs' : List Frame) (w : World) (ss : List Statics) → WellFormedValues (bounds p k ms g r) values → Site fs fs' w ss → To (big (length fs)) (make_outside p k (pushes_new p k) t m values fs w) (make_outside p' no_contracts (pushes_new p' no_contracts) t m values fs' (beside ss w))
  makes_outside t m values fs fs' w ss fine z =
      subst (λ x. To (big (length fs)) (make_outside p k (pushes_new p k) t m values fs w) (use_answer p' no_contracts (pushes_new p' no_contracts) (ask_new p' t (constructor_of x) values fs' (beside ss w)))) (sym (Calling.member_same p k ms g r t m []))
      (Unwinding.reach_within p k ms g r (2 * cst + lay (length fs)) _ _ _ (omega arith)
      (uses_answer (length fs) (count_groups fs) w.depth _ _ z.deep z.count
      (Asking.asks_new p k ms g r Push Push t (constructor_of (member_of p t m [])) values fs fs' w ss z.under z.others z.alike (refs_there p k ms g r (constructor_of (member_of p t m [])).params values fine))))

  -- ---- by a constructor of the program

  pub fields_same : (t : Ty) → default_cells p' (map (λ (x : ℕ × Ty). x.1) (layout p' t)) ≡ default_cells p (map (λ (x : ℕ × Ty). x.1) (layout p t))
  fields_same t = ap (λ xs. default_cells p' (map (λ (x : ℕ × Ty). x.1) xs)) (layout_same p ms t) ∙ default_cells_same p ms (map (λ (x : ℕ × Ty). x.1) (layout p t))

  -- an object with its fields at their default values, whose constructor's frame goes on so in each run
  makes_object : (t : Ty) (m : ℕ) (values : List Value) (b b' : Continuation) (fs fs' : List Frame) (w : World) (ss : List Statics) → m < r.methods → IsTrue (is_below r.types t) → Under p k ms g r b b' fs fs' → hasnt_begun b ≡ false → hasnt_begun b' ≡ false → Pairs.AllStand p k ms g r fs → IsBeside w ss → w.depth ≤ suc k.settings.guard → w.depth ≡ count_groups fs
      → To (cst + lay (suc (suc (length fs)))) (enter p k t m [] (Obj (next_object w) ∷ values) b fs (with_object p (new_object t (default_cells p (map (λ (x : ℕ × Ty). x.1) (layout p t)))) w)) (enter p' no_contracts t m [] (Obj (next_object w) ∷ values) b' fs' (with_object p' (new_object t (default_cells p' (map (λ (x : ℕ × Ty). x.1) (layout p' t)))) (beside ss w)))
  makes_object t m values b b' fs fs' w ss old a under nb nb' ok bes deep count =
      subst (λ cs. To (cst + lay (suc (suc (length fs)))) first (enter p' no_contracts t m [] (Obj (next_object w) ∷ values) b' fs' (with_object p' (new_object t cs) (beside ss w)))) (sym (fields_same t))
      (subst (λ u. To (cst + lay (suc (suc (length fs)))) first (enter p' no_contracts t m [] (Obj (next_object w) ∷ values) b' fs' u)) (sym (with_object_same p ms (new_object t cells) (beside ss w)))
      (Entering.enters p k ms g r t m [] (Obj (next_object w) ∷ values) b b' fs fs' (with_object p (new_object t cells) w) ss old a under nb nb' ok (one_more (new_object t cells) w ss bes) deep count))
    where
      cells : List Cell
      cells = default_cells p (map (λ (x : ℕ × Ty). x.1) (layout p t))

      first : Next
      first = enter p k t m [] (Obj (next_object w) ∷ values) b fs (with_object p (new_object t cells) w)

  makes_own : (t : Ty) (m : ℕ) (values : List Value) (fs fs' : List Frame) (w : World) (ss : List Statics) → m < r.methods → IsTrue (is_below r.types t) → Site fs fs' w ss → To (big (length fs)) (make_own p k (pushes_new p k) t m values fs w) (make_own p' no_contracts (pushes_new p' no_contracts) t m values fs' (beside ss w))
  makes_own t m values fs fs' w ss old a z =
      subst (λ h. To (big (length fs)) (make_own p k (pushes_new p k) t m values fs w) (second (is_reference h))) (sym (storage_same p ms t)) (by_test (is_reference (storage p t)))
    where
      second : Bool → Next
      second b = if b then enter p' no_contracts t m [] (Obj (next_object w) ∷ values) (PushObject (Obj (next_object w))) fs' (with_object p' (new_object t (default_cells p' (map (λ (x : ℕ × Ty). x.1) (layout p' t)))) (beside ss w)) else enter_struct p' no_contracts t m [] values fs' (beside ss w)

      by_test : (b : Bool) → To (big (length fs)) (if b then enter p k t m [] (Obj (next_object w) ∷ values) (PushObject (Obj (next_object w))) fs (with_object p (new_object t (default_cells p (map (λ (x : ℕ × Ty). x.1) (layout p t)))) w) else enter_struct p k t m [] values fs w) (second b)
      by_test true =
          Unwinding.reach_within p k ms g r (cst + lay (suc (suc (length fs)))) _ _ _ (omega arith)
          (makes_object t m values (PushObject (Obj (next_object w))) (PushObject (Obj (next_object w))) fs fs' w ss old a (Delegating.waits_too p k ms g r Push Push (PushObject (Obj (next_object w))) fs fs' tt tt z.under) refl refl z.others z.alike z.deep z.count)
      by_test false =
          Unwinding.reach_within p k ms g r (cst + lay (suc (suc (length fs)))) _ _ _ (omega arith)
          (Entering.enters_struct p k ms g r t m [] values fs fs' w ss old a (Delegating.waits_too p k ms g r Push Push PushStruct fs fs' tt tt z.under) z.others z.alike z.deep z.count)

  -- newobj
  pub makes : (t : Ty) (m : ℕ) (values : List Value) (fs fs' : List Frame) (w : World) (ss : List Statics) → m < r.methods → IsTrue (is_below r.types t) → WellFormedValues (bounds p k ms g r) values → Site fs fs' w ss → To (big (length fs)) (make p k (pushes_new p k) t m values fs w) (make p' no_contracts (pushes_new p' no_contracts) t m values fs' (beside ss w))
  unfolding make
  makes t m values fs fs' w ss old a fine z =
      subst (λ b. To (big (length fs)) (made p k fs w (makes_delegate p t m values) (core_of p t m) (is_outside p m) (is_some (method_of p m).body)) (made p' no_contracts fs' (beside ss w) b (core_of p' t m) (is_outside p' m) (is_some (method_of p' m).body))) (sym (delegate_same t m values))
      (subst (λ c. To (big (length fs)) (made p k fs w (makes_delegate p t m values) (core_of p t m) (is_outside p m) (is_some (method_of p m).body)) (made p' no_contracts fs' (beside ss w) (makes_delegate p t m values) c (is_outside p' m) (is_some (method_of p' m).body))) (sym (Calling.core_same p k ms g r t m))
      (subst (λ b. To (big (length fs)) (made p k fs w (makes_delegate p t m values) (core_of p t m) (is_outside p m) (is_some (method_of p m).body)) (made p' no_contracts fs' (beside ss w) (makes_delegate p t m values) (core_of p t m) b (is_some (method_of p' m).body))) (sym (Calling.outside_same p k ms g r m))
      (subst (λ b. To (big (length fs)) (made p k fs w (makes_delegate p t m values) (core_of p t m) (is_outside p m) (is_some (method_of p m).body)) (made p' no_contracts fs' (beside ss w) (makes_delegate p t m values) (core_of p t m) (is_outside p m) b)) (sym ((r.same_methods m).has_body))
      (by_delegate (makes_delegate p t m values)))))
    where
      made : Program → Contracts → List Frame → World → Bool → CoreMember → Bool → Bool → Next
      made q j gs u delegate core outside body =
          if delegate then push_below q j (Some (Obj (next_object u))) gs (with_object q (new_object t (delegate_cells values)) u)
          else make_core q j (pushes_new q j) core t gs u
          (if outside then make_outside q j (pushes_new q j) t m values gs u else if body then make_own q j (pushes_new q j) t m values gs u else stuck u)

      others : (a1 b1 : Bool) → To (big (length fs)) (if a1 then make_outside p k (pushes_new p k) t m values fs w else if b1 then make_own p k (pushes_new p k) t m values fs w else stuck w) (if a1 then make_outside p' no_contracts (pushes_new p' no_contracts) t m values fs' (beside ss w) else if b1 then make_own p' no_contracts (pushes_new p' no_contracts) t m values fs' (beside ss w) else stuck (beside ss w))
      others true b1 = makes_outside t m values fs fs' w ss fine z
      others false true = makes_own t m values fs fs' w ss old a z
      others false false = Arriving.stuck_both p k ms g r _ w ss z.alike

      by_delegate : (d : Bool) → To (big (length fs)) (made p k fs w d (core_of p t m) (is_outside p m) (is_some (method_of p m).body)) (made p' no_contracts fs' (beside ss w) d (core_of p t m) (is_outside p m) (is_some (method_of p m).body))
      by_delegate true = pushes_made (new_object t (delegate_cells values)) fs fs' w ss z
      by_delegate false = makes_core (core_of p t m) t fs fs' w ss z _ _ (others (is_outside p m) (is_some (method_of p m).body))

  -- The exception of a failed Requires<E>: its constructor's frame throws it in the first run when it returns; in the plain run it pushes the object, which the next instruction throws.
  pub makes_own_exception : (t : Ty) (m : ℕ) (values : List Value) (fs fs' : List Frame) (w : World) (ss : List Statics) → m < r.methods → IsTrue (is_below r.types t) → is_reference (storage p t) ≡ true → Under p k ms g r (ThrowObject (next_object w)) (PushObject (Obj (next_object w))) fs fs' → Pairs.AllStand p k ms g r fs → IsBeside w ss → w.depth ≤ suc k.settings.guard → w.depth ≡ count_groups fs
      → To (cst + lay (suc (suc (length fs)))) (make_own p k (throws_new p k) t m values fs w) (make_own p' no_contracts (pushes_new p' no_contracts) t m values fs' (beside ss w))
  unfolding Rattle.cil_model.specs.declared.value.Value.out-Value denote.Hole.Carrier.out
  makes_own_exception t m values fs fs' w ss old a ref under ok bes deep count =
      subst (λ b. To (cst + lay (suc (suc (length fs)))) (first b) (second (is_reference (storage p' t)))) (sym ref)
      (subst (λ h. To (cst + lay (suc (suc (length fs)))) (first true) (second (is_reference h))) (sym (storage_same p ms t))
      (subst (λ b. To (cst + lay (suc (suc (length fs)))) (first true) (second b)) (sym ref)
      (makes_object t m values (ThrowObject (next_object w)) (PushObject (Obj (next_object w))) fs fs' w ss old a under refl refl ok bes deep count)))
    where
      first : Bool → Next
      first b = if b then enter p k t m [] (Obj (next_object w) ∷ values) (ThrowObject (next_object w)) fs (with_object p (new_object t (default_cells p (map (λ (x : ℕ × Ty). x.1) (layout p t)))) w) else enter_struct p k t m [] values fs w

      second : Bool → Next
      second b = if b then enter p' no_contracts t m [] (Obj (next_object w) ∷ values) (PushObject (Obj (next_object w))) fs' (with_object p' (new_object t (default_cells p' (map (λ (x : ℕ × Ty). x.1) (layout p' t)))) (beside ss w)) else enter_struct p' no_contracts t m [] values fs' (beside ss w)
