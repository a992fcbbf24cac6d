-- Delegates are entered in both runs, and ForAll and Exists try what is left.
use Rattle.std.proofs.Common.{◌≡◌, ℕ, zero, suc, ◌+◌, ◌<◌, ◌≤◌, Bool, true, false, List, [], ◌∷◌, length, Option, Some, None, refl, sym, ap, ◌∙◌, subst, arith}
use Rattle.std.proofs.Common.{lt-ltb}
use Rattle.std.specs.Prelude.{◌&&◌, not, if◌then◌else◌, slice_get, option_and_then, is_some, IsTrue}
use Rattle.cil_model.specs.declared.ty.Ty.{Ty, Known}
use Rattle.cil_model.specs.declared.ty.Ty.TheVariants as ty
use Rattle.cil_model.specs.declared.ty.TypeArgs.{TypeArgs}
use Rattle.cil_model.specs.declared.value.Value.{Value, out-Value}
use Rattle.cil_model.specs.declared.value.Value as val
use Rattle.cil_model.specs.declared.value.Value.TheOpen.{Value-F}
use Rattle.cil_model.specs.declared.contract.Contracts.{Contracts}
use Rattle.cil_model.specs.declared.program.Program.{Program}
use Rattle.cil_model.specs.declared.program.MethodDesc.{MethodDesc}
use Rattle.cil_model.specs.NoContracts.{no_contracts}
use Rattle.cil_semantics.specs.Words.{same_bool}
use Rattle.cil_semantics.specs.Types.{under, is_empty}
use Rattle.cil_semantics.specs.Lookups.{type_of, method_of, args_of}
use Rattle.cil_semantics.specs.declared.state.Cell.{Cell}
use Rattle.cil_semantics.specs.Places.{storage, is_void, is_reference}
use Rattle.cil_semantics.specs.declared.state.Object.{Object}
use Rattle.cil_semantics.specs.declared.state.World.{World}
use Rattle.cil_semantics.specs.declared.state.Statics.{Statics}
use Rattle.cil_semantics.specs.declared.state.Frame.{Frame}
use Rattle.cil_semantics.specs.State.{Next, object_at}
use Rattle.cil_semantics.specs.declared.state.Continuation.{Continuation}
use Rattle.cil_semantics.specs.declared.state.Continuation.TheVariants.{TryNext}
use Rattle.cil_semantics.specs.declared.state.Remaining.{Remaining}
use Rattle.cil_semantics.specs.Acts.{flag}
use Rattle.cil_semantics.specs.Unwind.{hasnt_begun}
use Rattle.cil_semantics.specs.Frames.{stuck, if_there, enter, owner_type, parts_of, is_nothing, this_value, delegate_values, gives_value, enter_function, enter_delegate, next_try}
use Rattle.cil_semantics.specs.Returns.{push_below, try_next, tried}
use Rattle.cil_semantics.specs.Checks.{AddedNumbers}
use Rattle.splice_facts.specs.Bodies.{with_methods}
use Rattle.splice_facts.specs.Grown.{beside}
use Rattle.machine_laws.specs.Answers.{is_below}
use Rattle.splice_facts.specs.WellFormed.{WellFormedValue, WellFormedCells, WellFormedObjects}
use Rattle.splice_facts.specs.Related.{Rewritten, Under, bounds, count_groups, IsCommon}
use Rattle.splice_facts.specs.Related as Pairs
use Rattle.simulation.proofs.ProgramLaws.{storage_same}
use Rattle.simulation.proofs.ArriveLaws as Arriving
use Rattle.simulation.proofs.UnwindLaws as Unwinding
use Rattle.simulation.proofs.PushLaws as Pushing
use Rattle.simulation_steps.proofs.EnterLaws as Entering

-- a pointer where the target is a struct that was boxed
abbrev this_as : Bool → ℕ → Value → Value
this_as b x v = if b then v else val.Ptr (Rattle.cil_model.specs.declared.value.Pointer.TheVariants.Inside x (0 ∷ []))

module _ (p : Program) (k : Contracts) (ms : List MethodDesc) (g : AddedNumbers) (r : Rewritten p k ms g) where
  abbrev p' : Program
  p' = with_methods p ms

  abbrev To : ℕ → Next → Next → Type 0
  To n x y = Unwinding.To p k ms g r n x y

  abbrev lay : ℕ → ℕ
  lay n = Unwinding.lay p k ms g r n

  abbrev cst : ℕ
  cst = Unwinding.cst p k ms g r

  abbrev IsBeside : World → List Statics → Type 0
  IsBeside w ss = Unwinding.IsBeside p k ms g r w ss

  abbrev below : Continuation → Continuation → List Frame → List Frame → Type 0
  below b b' fs fs' = Under p k ms g r b b' fs fs'

  abbrev valid : List Frame → Type 0
  valid fs = Pairs.AllStand p k ms g r fs

  -- the frames that a call leaves behind, in both runs
  pub record Behind (b b' : Continuation) (fs fs' : List Frame) (w : World) (ss : List Statics) : Type 0 where
    pub under : below b b' fs fs'
    pub others : valid fs
    pub alike : IsBeside w ss
    pub deep : w.depth ≤ suc k.settings.guard
    pub count : w.depth ≡ count_groups fs

  -- ---- what a delegate's call needs is the same in both programs

  owner_same : (m : ℕ) (args : List Ty) → owner_type p' m args ≡ owner_type p m args
  owner_same m args = ap (λ o. if is_empty args then Known o else ty.Inst o args) ((r.same_methods m).owner)

  pub gives_same : (owner : Ty) (m : ℕ) (args : List Ty) → gives_value p' owner m args ≡ gives_value p owner m args
  gives_same owner m args =
      ap (λ t. not (is_void (storage p' (under (args_of owner) args t)))) ((r.same_methods m).result) ∙ ap (λ h. not (is_void h)) (storage_same p ms (under (args_of owner) args (method_of p m).result))

  pub this_value_same : (t : Ty) (x : Value-F Value) (v : Value) → this_value p' t x v ≡ this_value p t x v
  this_value_same t (Value-F.Obj x) v = ap (λ h. this_as (is_reference h) x v) (storage_same p ms t)
  this_value_same t _ v = refl

  values_same : (owner : Ty) (m : ℕ) (target : Value) (values : List Value) → delegate_values p' owner m target values ≡ delegate_values p owner m target values
  values_same owner m target values =
      ap (λ b. if b then (if is_nothing (out-Value target) then values else target ∷ values) else this_value p' owner (out-Value target) target ∷ values) ((r.same_methods m).is_static)
      ∙ ap (λ v. if (method_of p m).is_static then (if is_nothing (out-Value target) then values else target ∷ values) else v ∷ values) (this_value_same owner (out-Value target) target)

  may_enter : Program → Bool → Ty → ℕ → List Ty → Bool
  may_enter q gives owner m args = is_some (method_of q m).body && (not (type_of q (method_of q m).owner).reference && same_bool gives (gives_value q owner m args))

  may_same : (gives : Bool) (owner : Ty) (m : ℕ) (args : List Ty) → may_enter p' gives owner m args ≡ may_enter p gives owner m args
  unfolding may_enter
  may_same gives owner m args =
      ap (λ b. b && (not (type_of p (method_of p' m).owner).reference && same_bool gives (gives_value p' owner m args))) ((r.same_methods m).has_body)
      ∙ ap (λ o. is_some (method_of p m).body && (not (type_of p o).reference && same_bool gives (gives_value p' owner m args))) ((r.same_methods m).owner)
      ∙ ap (λ b. is_some (method_of p m).body && (not (type_of p (method_of p m).owner).reference && same_bool gives b)) (gives_same owner m args)

  pub owner_below : (m : ℕ) (args : List Ty) → m < r.methods → IsTrue (is_below r.types (owner_type p m args))
  unfolding Rattle.cil_model.specs.declared.ty.Ty.out-Ty denote.Hole.Carrier.out
  owner_below m args old = by_test (is_empty args)
    where
      by_test : (b : Bool) → IsTrue (is_below r.types (if b then Known (method_of p m).owner else ty.Inst (method_of p m).owner args))
      by_test true = lt-ltb (method_of p m).owner r.types (r.members m old)
      by_test false = lt-ltb (method_of p m).owner r.types (r.members m old)

  -- ---- the function of a delegate

  abbrev enters_with : Program → Contracts → Bool → ℕ → TypeArgs → Ty → Value → List Value → Continuation → List Frame → World → Next
  enters_with q c gives m u owner target values b fs w =
      if is_some (method_of q m).body && (not (type_of q (method_of q m).owner).reference && same_bool gives (gives_value q owner m u.method_args)) then enter q c owner m u.method_args (delegate_values q owner m target values) b fs w else stuck w

  calls_function : (gives : Bool) (m : ℕ) (u : TypeArgs) (target : Value) (values : List Value) (b b' : Continuation) (fs fs' : List Frame) (w : World) (ss : List Statics) → m < r.methods → hasnt_begun b ≡ false → hasnt_begun b' ≡ false → Behind b b' fs fs' w ss
      → To (cst + lay (suc (suc (length fs)))) (enters_with p k gives m u (owner_type p m u.type_args) target values b fs w) (enters_with p' no_contracts gives m u (owner_type p' m u.type_args) target values b' fs' (beside ss w))
  unfolding may_enter
  calls_function gives m u target values b b' fs fs' w ss old nb nb' z =
      let owner = owner_type p m u.type_args in
      subst (λ o. To (cst + lay (suc (suc (length fs)))) (enters_with p k gives m u owner target values b fs w) (enters_with p' no_contracts gives m u o target values b' fs' (beside ss w))) (sym (owner_same m u.type_args))
      (subst (λ t. To (cst + lay (suc (suc (length fs)))) (enters_with p k gives m u owner target values b fs w) (if t then enter p' no_contracts owner m u.method_args (delegate_values p' owner m target values) b' fs' (beside ss w) else stuck (beside ss w))) (sym (may_same gives owner m u.method_args))
      (subst (λ vs. To (cst + lay (suc (suc (length fs)))) (enters_with p k gives m u owner target values b fs w) (if may_enter p gives owner m u.method_args then enter p' no_contracts owner m u.method_args vs b' fs' (beside ss w) else stuck (beside ss w))) (sym (values_same owner m target values))
      (by_test (may_enter p gives owner m u.method_args))))
    where
      by_test : (t : Bool) → To (cst + lay (suc (suc (length fs)))) (if t then enter p k (owner_type p m u.type_args) m u.method_args (delegate_values p (owner_type p m u.type_args) m target values) b fs w else stuck w) (if t then enter p' no_contracts (owner_type p m u.type_args) m u.method_args (delegate_values p (owner_type p m u.type_args) m target values) b' fs' (beside ss w) else stuck (beside ss w))
      by_test true = Entering.enters p k ms g r (owner_type p m u.type_args) m u.method_args (delegate_values p (owner_type p m u.type_args) m target values) b b' fs fs' w ss old (owner_below m u.type_args old) z.under nb nb' z.others z.alike z.deep z.count
      by_test false = Arriving.stuck_both p k ms g r _ w ss z.alike

  calls_value : (gives : Bool) (f target : Value) (values : List Value) (b b' : Continuation) (fs fs' : List Frame) (w : World) (ss : List Statics) → WellFormedValue (bounds p k ms g r) f → hasnt_begun b ≡ false → hasnt_begun b' ≡ false → Behind b b' fs fs' w ss
      → To (cst + lay (suc (suc (length fs)))) (enter_function p k gives (out-Value f) target values b fs w) (enter_function p' no_contracts gives (out-Value f) target values b' fs' (beside ss w))
  unfolding Rattle.cil_model.specs.declared.value.Value.out-Value denote.Hole.Carrier.out
  calls_value gives (val.Func m u) target values b b' fs fs' w ss fine nb nb' z = calls_function gives m u target values b b' fs fs' w ss fine.0 nb nb' z
  calls_value gives _ target values b b' fs fs' w ss fine nb nb' z = Arriving.stuck_both p k ms g r _ w ss z.alike

  -- ---- the object

  cells_there : (os : List Object) (i : ℕ) (o : Object) → WellFormedObjects (bounds p k ms g r) os → slice_get os i ≡ Some o → WellFormedCells (bounds p k ms g r) o.cells
  cells_there [] i o fine e = absurd (cc e)
  cells_there (x ∷ os) zero o fine e = let q : x ≡ o = cc e in subst (λ (y : Object). WellFormedCells (bounds p k ms g r) y.cells) q fine.0.1
  cells_there (x ∷ os) (suc i) o fine e = cells_there os i o fine.1 e

  object_there : (w : World) (x : ℕ) (o : Object) → WellFormedObjects (bounds p k ms g r) w.heap → object_at w x ≡ Some o → WellFormedCells (bounds p k ms g r) o.cells
  object_there w zero o fine e = absurd (cc e)
  object_there w (suc x) o fine e = cells_there w.heap x o fine e

  pub enters_delegate : (gives : Bool) (v : Value-F Value) (values : List Value) (b b' : Continuation) (fs fs' : List Frame) (w : World) (ss : List Statics) → below b b' fs fs' → hasnt_begun b ≡ false → hasnt_begun b' ≡ false → valid fs → WellFormedObjects (bounds p k ms g r) w.heap → IsBeside w ss → w.depth ≤ suc k.settings.guard → w.depth ≡ count_groups fs
      → To (cst + lay (suc (suc (length fs)))) (enter_delegate p k gives v values b fs w) (enter_delegate p' no_contracts gives v values b' fs' (beside ss w))
  enters_delegate gives (Value-F.Obj x) values b b' fs fs' w ss under nb nb' ok fine bes deep count = by_object (object_at w x) (λ o e. object_there w x o fine e)
    where
      by_cells : (cells : List Cell) → WellFormedCells (bounds p k ms g r) cells → To (cst + lay (suc (suc (length fs)))) (if_there (parts_of cells) w (λ (d : Value × Value). enter_function p k gives (out-Value d.1) d.0 values b fs w)) (if_there (parts_of cells) (beside ss w) (λ (d : Value × Value). enter_function p' no_contracts gives (out-Value d.1) d.0 values b' fs' (beside ss w)))
      by_cells [] f = Arriving.stuck_both p k ms g r _ w ss bes
      by_cells (t ∷ []) f = Arriving.stuck_both p k ms g r _ w ss bes
      by_cells (t ∷ c ∷ cs) f = calls_value gives c.value t.value values b b' fs fs' w ss (f.1).0 nb nb' (record { under = under; others = ok; alike = bes; deep = deep; count = count })

      by_object : (o : Option Object) → ((y : Object) → o ≡ Some y → WellFormedCells (bounds p k ms g r) y.cells) → To (cst + lay (suc (suc (length fs)))) (if_there (option_and_then (λ (y : Object). parts_of y.cells) o) w (λ (d : Value × Value). enter_function p k gives (out-Value d.1) d.0 values b fs w)) (if_there (option_and_then (λ (y : Object). parts_of y.cells) o) (beside ss w) (λ (d : Value × Value). enter_function p' no_contracts gives (out-Value d.1) d.0 values b' fs' (beside ss w)))
      by_object None f = Arriving.stuck_both p k ms g r _ w ss bes
      by_object (Some y) f = by_cells y.cells (f y refl)
  enters_delegate gives _ values b b' fs fs' w ss under nb nb' ok fine bes deep count = Arriving.stuck_both p k ms g r _ w ss bes

  -- ---- ForAll and Exists

  -- frames that wait for a value wait for it whatever is done with it
  pub waits_too : (b b' c : Continuation) (fs fs' : List Frame) → IsCommon p k ms g r b → IsCommon p k ms g r c → below b b' fs fs' → below c c fs fs'
  waits_too b b' c fs fs' i j (Under.bottom b1 i1) = Under.bottom c j
  waits_too b b' c fs fs' i j (Under.waits b1 h h' hs hs' i1 pair here on under) = Under.waits c h h' hs hs' j pair here on under
  waits_too b b' c fs fs' i j (Under.begins h h' hs hs' pair first n n' under) = absurd i
  waits_too b b' c fs fs' i j (Under.throws x q h h' hs hs' pair here th under) = absurd i

  pub tries_next : (e : Bool) (target : Value) (o : Option (Value × Remaining)) (b : Continuation) (fs fs' : List Frame) (w : World) (ss : List Statics) → IsCommon p k ms g r b → below b b fs fs' → valid fs → WellFormedObjects (bounds p k ms g r) w.heap → IsBeside w ss → w.depth ≤ suc k.settings.guard → w.depth ≡ count_groups fs
      → To (cst + lay (suc (suc (length fs)))) (try_next p k e target o fs w) (try_next p' no_contracts e target o fs' (beside ss w))
  tries_next e target None b fs fs' w ss c under ok fine bes deep count =
      Unwinding.reach_within p k ms g r (cst + lay (length fs)) _ _ _ (omega arith) (Pushing.pushes p k ms g r b b (Some (flag (not e))) fs fs' w ss c under ok bes deep)
  tries_next e target (Some x) b fs fs' w ss c under ok fine bes deep count =
      enters_delegate true (out-Value target) (x.0 ∷ []) (TryNext e target x.1) (TryNext e target x.1) fs fs' w ss (waits_too b b (TryNext e target x.1) fs fs' c tt under) refl refl ok fine bes deep count

  pub answers_tried : (e : Bool) (target : Value) (left : Remaining) (o : Option Bool) (b : Continuation) (fs fs' : List Frame) (w : World) (ss : List Statics) → IsCommon p k ms g r b → below b b fs fs' → valid fs → WellFormedObjects (bounds p k ms g r) w.heap → IsBeside w ss → w.depth ≤ suc k.settings.guard → w.depth ≡ count_groups fs
      → To (cst + lay (suc (suc (length fs)))) (tried p k e target left o fs w) (tried p' no_contracts e target left o fs' (beside ss w))
  answers_tried e target left None b fs fs' w ss c under ok fine bes deep count = Arriving.stuck_both p k ms g r _ w ss bes
  answers_tried e target left (Some a) b fs fs' w ss c under ok fine bes deep count = by_test (same_bool e a)
    where
      by_test : (t : Bool) → To (cst + lay (suc (suc (length fs)))) (if t then push_below p k (Some (flag e)) fs w else try_next p k e target (next_try w left) fs w) (if t then push_below p' no_contracts (Some (flag e)) fs' (beside ss w) else try_next p' no_contracts e target (next_try w left) fs' (beside ss w))
      by_test true = Unwinding.reach_within p k ms g r (cst + lay (length fs)) _ _ _ (omega arith) (Pushing.pushes p k ms g r b b (Some (flag e)) fs fs' w ss c under ok bes deep)
      by_test false = tries_next e target (next_try w left) b fs fs' w ss c under ok fine bes deep count
