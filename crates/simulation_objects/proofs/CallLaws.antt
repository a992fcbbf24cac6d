-- Calls of settled members in both runs.
use Rattle.std.proofs.Common.{◌≡◌, ℕ, suc, ◌+◌, ◌*◌, ◌<◌, ◌≤◌, Bool, true, false, List, [], ◌∷◌, length, Option, Some, None, refl, sym, ap, ◌∙◌, subst, arith}
use Rattle.std.specs.Prelude.{slice_get, option_map, option_and_then, ◌==◌, if◌then◌else◌, IsTrue, codes, not, ◌&&◌, ◌||◌, is_some}
use Rattle.cil_model.specs.declared.ty.Ty.{Ty, out-Ty}
use Rattle.cil_model.specs.declared.value.Value.{Value, out-Value}
use Rattle.cil_model.specs.declared.contract.Contracts.{Contracts}
use Rattle.cil_model.specs.declared.program.Program.{Program}
use Rattle.cil_model.specs.declared.program.MethodDesc.{MethodDesc}
use Rattle.cil_model.specs.NoContracts.{no_contracts}
use Rattle.cil_semantics.specs.Words.{any, maybe}
use Rattle.cil_semantics.specs.Types.{under, same_ty, same_tys}
use Rattle.cil_semantics.specs.Core.{Name, class_named, object_ty, string_ty, core_classes, contract_name, helper_name, event_name, event_params}
use Rattle.cil_semantics.specs.Lookups.{type_of, method_of, args_of}
use Rattle.cil_semantics.specs.Dispatch.{has_bit}
use Rattle.cil_semantics.specs.Places.{storage, is_void, default_value}
use Rattle.cil_semantics.specs.State as state
use Rattle.cil_semantics.specs.declared.state.World.{World}
use Rattle.cil_semantics.specs.declared.state.Statics.{Statics}
use Rattle.cil_semantics.specs.declared.state.Frame.{Frame}
use Rattle.cil_semantics.specs.State.{Next}
use Rattle.cil_semantics.specs.declared.state.Continuation.{Continuation}
use Rattle.cil_semantics.specs.declared.state.Continuation.TheVariants.{Push}
use Rattle.cil_semantics.specs.Acts.{ty_name, member_name}
use Rattle.cil_semantics.specs.Unwind.{unwind, raise}
use Rattle.cil_semantics.specs.Frames.{stuck, if_there, param_types, enter}
use Rattle.cil_semantics.specs.Outside.{Answer, Returned, Threw, Unfit, Member, ask, is_outside, member_of, default_reply}
use Rattle.cil_semantics.specs.Frames.{next_try}
use Rattle.cil_semantics.specs.declared.state.Remaining.{Remaining}
use Rattle.cil_semantics.specs.declared.state.Remaining.TheVariants.{Range, Elements}
use Rattle.cil_semantics.specs.Returns.{push_below, try_next}
use Rattle.cil_semantics.specs.Calls.{is_event, CoreMember, Constructor, Equality, Concatenation, TextLength, IsNullOrEmpty, Quantifier, NotCore, is_core_exception, is_named, is_outside_type, are_strings, string_member, core_of, string_answer, number_in, array_in, count_units, Texted, NullText, SomeText, NotText, first_texted, on_answer, with_default, outside_call, plain_call, call_core, call_member, quantify}
use Rattle.cil_semantics.specs.Checks.{AddedNumbers}
use Rattle.splice_facts.proofs.ExceptionLaws.{more_failures, longer, new_object}
use Rattle.splice_facts.specs.Bodies.{with_methods}
use Rattle.splice_facts.specs.Grown.{beside}
use Rattle.machine_laws.specs.Answers.{is_below}
use Rattle.splice_facts.specs.WellFormed.{WellFormedValues}
use Rattle.splice_facts.specs.Related.{Rewritten, Under, count_groups}
use Rattle.splice_facts.specs.Related as Pairs
use Rattle.simulation_steps.specs.Outside as Alike
use Rattle.simulation_objects.specs.Calls as Sites
use Rattle.simulation.proofs.ProgramLaws.{storage_same, default_same, sub_same}
use Rattle.simulation.proofs.ArriveLaws as Arriving
use Rattle.simulation.proofs.UnwindLaws as Unwinding
use Rattle.simulation.proofs.UnwindLaws.{unwinds}
use Rattle.simulation.proofs.PushLaws as Pushing
use Rattle.simulation_steps.proofs.OutsideLaws as Asking
use Rattle.simulation_steps.proofs.EnterLaws as Entering
use Rattle.simulation_steps.proofs.DelegateLaws as Delegating
use Rattle.simulation_objects.proofs.RefLaws.{refs_there}

-- what of a member its being core goes by
abbrev core_as : Ty → Name → Name → List Ty → Bool → CoreMember
core_as owner type_name name params exception =
    if not (is_outside_type (out-Ty owner)) then NotCore
    else if is_named name (codes ".ctor") && ((same_ty owner object_ty && (length params == 0)) || exception) then Constructor
    else if same_ty owner string_ty then (if (is_named name (codes "Concat") && not (are_strings params)) then NotCore else string_member name (length params))
    else if is_named type_name contract_name && is_named name (codes "ForAll") then Quantifier false
    else if is_named type_name contract_name && is_named name (codes "Exists") then Quantifier true
    else NotCore

module _ (p : Program) (k : Contracts) (ms : List MethodDesc) (g : AddedNumbers) (r : Rewritten p k ms g) where
  abbrev p' : Program
  p' = with_methods p ms

  abbrev To : ℕ → Next → Next → Type 0
  To n x y = Unwinding.To p k ms g r n x y

  abbrev lay : ℕ → ℕ
  lay n = Unwinding.lay p k ms g r n

  abbrev cst : ℕ
  cst = Unwinding.cst p k ms g r

  abbrev IsBeside : World → List Statics → Type 0
  IsBeside w ss = Unwinding.IsBeside p k ms g r w ss

  abbrev below : Continuation → Continuation → List Frame → List Frame → Type 0
  below b b' fs fs' = Under p k ms g r b b' fs fs'

  abbrev valid : List Frame → Type 0
  valid fs = Pairs.AllStand p k ms g r fs

  pub exception_same : (t : Ty) → is_core_exception p' t ≡ is_core_exception p t
  exception_same t = ap (λ b. any (λ (row : Name × Ty). is_named row.0 (ty_name p t)) core_classes && b) (sub_same p ms t (class_named (codes "System.Exception")))

  pub core_same : (owner : Ty) (m : ℕ) → core_of p' owner m ≡ core_of p owner m
  unfolding core_of
  core_same owner m =
      ap (λ n. core_as owner (ty_name p owner) n (method_of p' m).params (is_core_exception p' owner)) ((r.same_methods m).name)
      ∙ ap (λ ts. core_as owner (ty_name p owner) (method_of p m).name ts (is_core_exception p' owner)) ((r.same_methods m).params)
      ∙ ap (λ e. core_as owner (ty_name p owner) (method_of p m).name (method_of p m).params e) (exception_same owner)

  pub outside_same : (m : ℕ) → is_outside p' m ≡ is_outside p m
  unfolding is_outside
  outside_same m =
      ap (λ b. b || ((type_of p (method_of p' m).owner).reference || (not (is_some (method_of p' m).body) && not (has_bit (method_of p' m).flags 10)))) ((r.same_methods m).outside)
      ∙ ap (λ o. (method_of p m).outside || ((type_of p o).reference || (not (is_some (method_of p' m).body) && not (has_bit (method_of p' m).flags 10)))) ((r.same_methods m).owner)
      ∙ ap (λ b. (method_of p m).outside || ((type_of p (method_of p m).owner).reference || (not b && not (has_bit (method_of p' m).flags 10)))) ((r.same_methods m).has_body)
      ∙ ap (λ n. (method_of p m).outside || ((type_of p (method_of p m).owner).reference || (not (is_some (method_of p m).body) && not (has_bit n 10)))) ((r.same_methods m).flags)

  default_reply_same : (t : Ty) → default_reply p' t ≡ default_reply p t
  default_reply_same t = ap (λ h. if is_void h then None else Some (default_value p' t)) (storage_same p ms t) ∙ ap (λ v. if is_void (storage p t) then None else Some v) (default_same p ms 1001 t)

  abbrev member_as : ℕ → Name → List Ty → Ty → Option Value → Member
  member_as m name params result default = record { number = m; name = name; params = params; result = result; default = default }

  pub member_same : (owner : Ty) (m : ℕ) (args : List Ty) → member_of p' owner m args ≡ member_of p owner m args
  member_same owner m args =
      ap (λ n. member_as m (member_name (ty_name p owner) n) (param_types p' owner m args) (under (args_of owner) args (method_of p' m).result) (default_reply p' (under (args_of owner) args (method_of p' m).result))) ((r.same_methods m).name)
      ∙ ap (λ ts. member_as m (member_name (ty_name p owner) (method_of p m).name) ts (under (args_of owner) args (method_of p' m).result) (default_reply p' (under (args_of owner) args (method_of p' m).result))) (Entering.params_same p k ms g r owner m args)
      ∙ ap (λ t. member_as m (member_name (ty_name p owner) (method_of p m).name) (param_types p owner m args) (under (args_of owner) args t) (default_reply p' (under (args_of owner) args t))) ((r.same_methods m).result)
      ∙ ap (λ o. member_as m (member_name (ty_name p owner) (method_of p m).name) (param_types p owner m args) (under (args_of owner) args (method_of p m).result) o) (default_reply_same (under (args_of owner) args (method_of p m).result))

  event_same : (owner : Ty) (m : ℕ) → is_event p' owner m ≡ is_event p owner m
  event_same owner m =
      ap (λ n. is_named (ty_name p owner) helper_name && (is_named n event_name && ((method_of p' m).is_static && (same_tys (method_of p' m).params event_params && same_ty (method_of p' m).result string_ty)))) ((r.same_methods m).name)
      ∙ ap (λ b. is_named (ty_name p owner) helper_name && (is_named (method_of p m).name event_name && (b && (same_tys (method_of p' m).params event_params && same_ty (method_of p' m).result string_ty)))) ((r.same_methods m).is_static)
      ∙ ap (λ ts. is_named (ty_name p owner) helper_name && (is_named (method_of p m).name event_name && ((method_of p m).is_static && (same_tys ts event_params && same_ty (method_of p' m).result string_ty)))) ((r.same_methods m).params)
      ∙ ap (λ t. is_named (ty_name p owner) helper_name && (is_named (method_of p m).name event_name && ((method_of p m).is_static && (same_tys (method_of p m).params event_params && same_ty t string_ty)))) ((r.same_methods m).result)

  called_member : (owner : Ty) (m : ℕ) (args : List Ty) (values : List Value) → with_default p' owner m values (member_of p' owner m args) ≡ with_default p owner m values (member_of p owner m args)
  called_member owner m args values =
      ap (λ x. with_default p' owner m values x) (member_same owner m args) ∙ ap (λ b. if b then record (member_of p owner m args) { default = slice_get values 2 } else member_of p owner m args) (event_same owner m)

  -- what comes back from outside goes on in the frame that called
  on_answers : (n c d : ℕ) (a a' : Answer) → d ≤ suc k.settings.guard → d ≡ c → Alike.BothAnswer p k ms g r Push Push n c d a a' → To (2 * cst + lay n) (on_answer p k a) (on_answer p' no_contracts a')
  on_answers n c d (Returned v gs w) (Returned v' gs' w') deep count z =
      let b = z.1 in
      subst (λ y. To (2 * cst + lay n) (push_below p k v gs w) (push_below p' no_contracts y gs' w')) (sym z.0)
      (subst (λ y. To (2 * cst + lay n) (push_below p k v gs w) (push_below p' no_contracts v gs' y)) (sym b.world)
      (subst (λ y. To (2 * cst + lay y) (push_below p k v gs w) (push_below p' no_contracts v gs' (beside b.statics w))) b.many
      (Unwinding.reach_within p k ms g r (cst + lay (length gs)) _ _ _ (omega arith) (Pushing.pushes p k ms g r Push Push v gs gs' w b.statics tt b.under b.others b.alike (subst (λ d1. d1 ≤ suc k.settings.guard) (sym b.depth) deep)))))
  on_answers n c d (Threw x gs w) (Threw x' gs' w') deep count z =
      let b = z.1 in
      subst (λ y. To (2 * cst + lay n) (unwind p k false gs w x) (unwind p' no_contracts false gs' w' y)) (sym z.0)
      (subst (λ y. To (2 * cst + lay n) (unwind p k false gs w x) (unwind p' no_contracts false gs' y x)) (sym b.world)
      (subst (λ y. To (2 * cst + lay y) (unwind p k false gs w x) (unwind p' no_contracts false gs' (beside b.statics w) x)) b.many
      (unwinds p k ms g r Push Push gs gs' b.under b.others w b.statics x b.alike z.2 (b.depth ∙ count ∙ sym b.groups) (subst (λ d1. d1 ≤ suc k.settings.guard) (sym b.depth) deep))))
  on_answers n c d (Unfit w) (Unfit w') deep count z = subst (λ y. To (2 * cst + lay n) (stuck w) (stuck y)) (sym z.world) (Arriving.stuck_both p k ms g r (2 * cst + lay n) w z.statics z.alike)
  on_answers n c d (Returned v gs w) (Threw x' gs' w') deep count z = absurd z
  on_answers n c d (Returned v gs w) (Unfit w') deep count z = absurd z
  on_answers n c d (Threw x gs w) (Returned v' gs' w') deep count z = absurd z
  on_answers n c d (Threw x gs w) (Unfit w') deep count z = absurd z
  on_answers n c d (Unfit w) (Returned v' gs' w') deep count z = absurd z
  on_answers n c d (Unfit w) (Threw x' gs' w') deep count z = absurd z

  pub calls_outside : (owner : Ty) (m : ℕ) (args : List Ty) (values : List Value) (fs fs' : List Frame) (w : World) (ss : List Statics) → Sites.CallSite p k ms g r fs fs' w ss → WellFormedValues (Pairs.bounds p k ms g r) values → To (2 * cst + lay (length fs)) (outside_call p k owner m args values fs w) (outside_call p' no_contracts owner m args values fs' (beside ss w))
  calls_outside owner m args values fs fs' w ss z fine =
      subst (λ x. To (2 * cst + lay (length fs)) (outside_call p k owner m args values fs w) (on_answer p' no_contracts (ask p' x values fs' (beside ss w)))) (sym (called_member owner m args values))
      (on_answers (length fs) (count_groups fs) w.depth _ _ z.deep z.count (Asking.asks p k ms g r Push Push (with_default p owner m values (member_of p owner m args)) values fs fs' w ss z.under z.others z.alike (refs_there p k ms g r (with_default p owner m values (member_of p owner m args)).params values fine)))

  -- a member outside, or a method with a body
  pub calls_plainly : (owner : Ty) (m : ℕ) (args : List Ty) (values : List Value) (fs fs' : List Frame) (w : World) (ss : List Statics) → m < r.methods → IsTrue (is_below r.types owner) → Sites.CallSite p k ms g r fs fs' w ss → WellFormedValues (Pairs.bounds p k ms g r) values → To (2 * cst + lay (suc (suc (length fs)))) (plain_call p k owner m args values fs w) (plain_call p' no_contracts owner m args values fs' (beside ss w))
  calls_plainly owner m args values fs fs' w ss old a z fine =
      subst (λ t. To (2 * cst + lay (suc (suc (length fs)))) (plain_call p k owner m args values fs w) (if t then outside_call p' no_contracts owner m args values fs' (beside ss w) else if is_some (method_of p' m).body then enter p' no_contracts owner m args values Push fs' (beside ss w) else stuck (beside ss w))) (sym (outside_same m))
      (subst (λ t. To (2 * cst + lay (suc (suc (length fs)))) (plain_call p k owner m args values fs w) (if is_outside p m then outside_call p' no_contracts owner m args values fs' (beside ss w) else if t then enter p' no_contracts owner m args values Push fs' (beside ss w) else stuck (beside ss w))) (sym ((r.same_methods m).has_body))
      (by_tests (is_outside p m) (is_some (method_of p m).body)))
    where
      by_tests : (s t : Bool) → To (2 * cst + lay (suc (suc (length fs)))) (if s then outside_call p k owner m args values fs w else if t then enter p k owner m args values Push fs w else stuck w) (if s then outside_call p' no_contracts owner m args values fs' (beside ss w) else if t then enter p' no_contracts owner m args values Push fs' (beside ss w) else stuck (beside ss w))
      by_tests true t = Unwinding.reach_within p k ms g r (2 * cst + lay (length fs)) _ _ _ (omega arith) (calls_outside owner m args values fs fs' w ss z fine)
      by_tests false true = Unwinding.reach_within p k ms g r (cst + lay (suc (suc (length fs)))) _ _ _ (omega arith) (Entering.enters p k ms g r owner m args values Push Push fs fs' w ss old a z.under refl refl z.others z.alike z.deep z.count)
      by_tests false false = Arriving.stuck_both p k ms g r _ w ss z.alike

  -- ---- core members

  abbrev big : ℕ → ℕ
  big n = 2 * cst + lay (suc (suc n))

  pub pushes_here : (v : Option Value) (fs fs' : List Frame) (w : World) (ss : List Statics) → Sites.CallSite p k ms g r fs fs' w ss → To (big (length fs)) (push_below p k v fs w) (push_below p' no_contracts v fs' (beside ss w))
  pushes_here v fs fs' w ss z = Unwinding.reach_within p k ms g r (cst + lay (length fs)) _ _ _ (omega arith) (Pushing.pushes p k ms g r Push Push v fs fs' w ss tt z.under z.others z.alike z.deep)

  pushes_if : (o : Option Value) (fs fs' : List Frame) (w : World) (ss : List Statics) → Sites.CallSite p k ms g r fs fs' w ss → To (big (length fs)) (if_there o w (λ v. push_below p k (Some v) fs w)) (if_there o (beside ss w) (λ v. push_below p' no_contracts (Some v) fs' (beside ss w)))
  pushes_if None fs fs' w ss z = Arriving.stuck_both p k ms g r _ w ss z.alike
  pushes_if (Some v) fs fs' w ss z = pushes_here (Some v) fs fs' w ss z

  pub raises_here : (name : Name) (fs fs' : List Frame) (w : World) (ss : List Statics) → Sites.CallSite p k ms g r fs fs' w ss → To (big (length fs)) (raise p k name fs w) (raise p' no_contracts name fs' (beside ss w))
  unfolding storage
  raises_here name fs fs' w ss z =
      Unwinding.reach_within p k ms g r (2 * cst + lay (length fs)) _ _ _ (omega arith)
      (unwinds p k ms g r Push Push fs fs' z.under z.others (state.with_object p (record { ty = class_named name; cells = [] }) w) ss (state.next_object w)
      (record { statics = (z.alike).statics; depth = (z.alike).depth; bare = (z.alike).bare; failures = more_failures (length w.heap) (length (state.with_object p (record { ty = class_named name; cells = [] }) w).heap) w.statics (longer w.heap (record { ty = class_named name; cells = [] })) (z.alike).failures })
      (new_object w.heap (record { ty = class_named name; cells = [] })) z.count z.deep)

  counts_so : (t : Texted) (fs fs' : List Frame) (w : World) (ss : List Statics) → Sites.CallSite p k ms g r fs fs' w ss → To (big (length fs)) (count_units p k t fs w) (count_units p' no_contracts t fs' (beside ss w))
  counts_so NullText fs fs' w ss z = raises_here (codes "System.NullReferenceException") fs fs' w ss z
  counts_so (SomeText a) fs fs' w ss z = pushes_here _ fs fs' w ss z
  counts_so NotText fs fs' w ss z = Arriving.stuck_both p k ms g r _ w ss z.alike

  tries : (e : Bool) (target : Value) (o : Option (Value × Remaining)) (fs fs' : List Frame) (w : World) (ss : List Statics) → Sites.CallSite p k ms g r fs fs' w ss → To (big (length fs)) (try_next p k e target o fs w) (try_next p' no_contracts e target o fs' (beside ss w))
  tries e target o fs fs' w ss z = Unwinding.reach_within p k ms g r (cst + lay (suc (suc (length fs)))) _ _ _ (omega arith) (Delegating.tries_next p k ms g r e target o Push fs fs' w ss tt z.under z.others z.heap z.alike z.deep z.count)

  quantifies : (e : Bool) (values : List Value) (fs fs' : List Frame) (w : World) (ss : List Statics) → Sites.CallSite p k ms g r fs fs' w ss → (x x' : Next) → To (big (length fs)) x x' → To (big (length fs)) (quantify p k e values fs w x) (quantify p' no_contracts e values fs' (beside ss w) x')
  quantifies e [] fs fs' w ss z x x' other = Arriving.stuck_both p k ms g r _ w ss z.alike
  quantifies e (a ∷ []) fs fs' w ss z x x' other = Arriving.stuck_both p k ms g r _ w ss z.alike
  quantifies e (items ∷ target ∷ []) fs fs' w ss z x x' other = by_array (array_in w (out-Value items))
    where
      by_array : (o : Option ℕ) → To (big (length fs)) (maybe x (λ y. try_next p k e target (next_try w (Elements y 0)) fs w) o) (maybe x' (λ y. try_next p' no_contracts e target (next_try w (Elements y 0)) fs' (beside ss w)) o)
      by_array None = other
      by_array (Some y) = tries e target (next_try w (Elements y 0)) fs fs' w ss z
  quantifies e (from ∷ to ∷ target ∷ []) fs fs' w ss z x x' other = by_range (option_and_then (λ a. option_map (λ b. Range a b) (number_in (out-Value to))) (number_in (out-Value from)))
    where
      by_range : (o : Option Remaining) → To (big (length fs)) (if_there o w (λ left. try_next p k e target (next_try w left) fs w)) (if_there o (beside ss w) (λ left. try_next p' no_contracts e target (next_try w left) fs' (beside ss w)))
      by_range None = Arriving.stuck_both p k ms g r _ w ss z.alike
      by_range (Some left) = tries e target (next_try w left) fs fs' w ss z
  quantifies e (a ∷ b ∷ c ∷ d ∷ more) fs fs' w ss z x x' other = Arriving.stuck_both p k ms g r _ w ss z.alike

  pub calls_core : (c : CoreMember) (owner : Ty) (m : ℕ) (args : List Ty) (values : List Value) (fs fs' : List Frame) (w : World) (ss : List Statics) → m < r.methods → IsTrue (is_below r.types owner) → Sites.CallSite p k ms g r fs fs' w ss → WellFormedValues (Pairs.bounds p k ms g r) values → To (big (length fs)) (call_core p k c owner m args values fs w) (call_core p' no_contracts c owner m args values fs' (beside ss w))
  calls_core Constructor owner m args values fs fs' w ss old a z fine = pushes_here None fs fs' w ss z
  calls_core (Equality b) owner m args values fs fs' w ss old a z fine = pushes_if (string_answer (Equality b) values) fs fs' w ss z
  calls_core Concatenation owner m args values fs fs' w ss old a z fine = pushes_if (string_answer Concatenation values) fs fs' w ss z
  calls_core TextLength owner m args values fs fs' w ss old a z fine = counts_so (first_texted values) fs fs' w ss z
  calls_core IsNullOrEmpty owner m args values fs fs' w ss old a z fine = pushes_if (string_answer IsNullOrEmpty values) fs fs' w ss z
  calls_core (Quantifier e) owner m args values fs fs' w ss old a z fine = quantifies e values fs fs' w ss z _ _ (calls_plainly owner m args values fs fs' w ss old a z fine)
  calls_core NotCore owner m args values fs fs' w ss old a z fine = calls_plainly owner m args values fs fs' w ss old a z fine

  -- a call of the member that a token names
  pub calls_member : (owner : Ty) (m : ℕ) (args : List Ty) (values : List Value) (fs fs' : List Frame) (w : World) (ss : List Statics) → m < r.methods → IsTrue (is_below r.types owner) → WellFormedValues (Pairs.bounds p k ms g r) values → Sites.CallSite p k ms g r fs fs' w ss → To (big (length fs)) (call_member p k owner m args values fs w) (call_member p' no_contracts owner m args values fs' (beside ss w))
  unfolding call_member
  calls_member owner m args values fs fs' w ss old a fine z =
      subst (λ c. To (big (length fs)) (call_core p k (core_of p owner m) owner m args values fs w) (call_core p' no_contracts c owner m args values fs' (beside ss w))) (sym (core_same owner m)) (calls_core (core_of p owner m) owner m args values fs fs' w ss old a z fine)
