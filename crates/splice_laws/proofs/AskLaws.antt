-- What the member to which failures are reported answers: null, a text or an object; and what was told before is unread.
use Rattle.std.proofs.Common.{◌≡◌, ℕ, zero, suc, Bool, true, false, List, [], ◌∷◌, length, Option, Some, None, refl, sym, ap, ◌∙◌, subst, append_assoc}
use Rattle.std.specs.Prelude.{map, if◌then◌else◌, ◌&&◌, ◌||◌, bytes_eq, codes, slice_get, IsTrue, not, option_map}
use Rattle.cil_model.specs.declared.ty.Ty.{Ty, out-Ty, Prim, Outside}
use Rattle.cil_model.specs.declared.ty.Ty as types
use Rattle.cil_model.specs.declared.value.Value.{Value, out-Value, Null}
use Rattle.cil_model.specs.declared.value.Value.TheOpen.{Value-F}
use Rattle.cil_model.specs.declared.run.ReplyResult.{ReplyResult}
use Rattle.cil_model.specs.declared.run.ReplyResult.TheVariants as reply
use Rattle.cil_model.specs.declared.program.Program.{Program}
use Rattle.cil_model.specs.NoContracts.{no_contracts}
use Rattle.cil_semantics.specs.Words.{maybe}
use Rattle.cil_semantics.specs.Types.{under, all_under}
use Rattle.cil_semantics.specs.Core.{Name, class_named, string_ty, helper_name, event_name}
use Rattle.cil_semantics.specs.Lookups.{is_sub, method_of}
use Rattle.cil_semantics.specs.declared.state.Cell.{Cell}
use Rattle.il_opcodes.specs.declared.class.Storage.TheVariants.{Reference}
use Rattle.cil_semantics.specs.Places.{storage, prim_storage, if_reference, is_void, stored_in}
use Rattle.cil_semantics.specs.declared.state.World.{World}
use Rattle.cil_semantics.specs.declared.state.Item.{Item}
use Rattle.cil_semantics.specs.declared.state.Frame.{Frame}
use Rattle.cil_semantics.specs.State.{Next, recorded_after, with_object, next_object}
use Rattle.cil_semantics.specs.Frames.{stored_args, param_types}
use Rattle.cil_semantics.specs.Acts.{member_name}
use Rattle.cil_semantics.specs.Outside.{fits, fits_within, refers_to, by_ref_args, stored_back, Answer, Returned, Threw, Unfit, next_reply, Member, given, recorded, result_of, answered, ask, is_outside, member_of}
use Rattle.cil_semantics.specs.Calls.{core_of, call_core, call_member, on_answer, outside_call, with_default}
use Rattle.cil_semantics.specs.Core.{kind_ty, exception_ty, event_params}
use Rattle.cil_semantics.specs.Types.{same_ty, same_tys}
use Rattle.splice_facts.proofs.StoreLaws.{stored_plain}
use Rattle.cil_semantics.specs.Checks.{AddedNumbers, event_member}
use Rattle.machine_laws.specs.Same.{IsHelper}

abbrev pub told_answer : List Item → Answer → Answer
told_answer t (Returned v fs w) = Returned v fs (recorded_after t w)
told_answer t (Threw x fs w) = Threw x fs (recorded_after t w)
told_answer t (Unfit w) = Unfit (recorded_after t w)

abbrev pub Refers : Value-F Value → Type 0
Refers Value-F.Null = Unit {0}
Refers (Value-F.Obj k) = Unit {0}
Refers (Value-F.Text u) = Unit {0}
Refers _ = ⊥

-- null, a text or an object; never nothing
abbrev pub RefersTo : Answer → Type 0
RefersTo (Returned None fs w) = ⊥
RefersTo (Returned (Some v) fs w) = Refers (out-Value v)
RefersTo (Threw x fs w) = Unit {0}
RefersTo (Unfit w) = Unit {0}

-- statics and heap, but for an exception that is made, are as they were
abbrev pub Leaves_statics : World → Answer → Type 0
Leaves_statics w (Returned v fs u) = u.statics ≡ w.statics
Leaves_statics w (Threw x fs u) = Unit {0}
Leaves_statics w (Unfit u) = Unit {0}

module _ (p : Program) where
  -- a string's place
  fits_text : (w : World) (v : Value) → fits p w string_ty v ≡ refers_to p w string_ty (out-Value v)
  unfolding fits_within storage prim_storage types.out-Ty denote.Hole.Carrier.out
  fits_text w v = refl

  refers_told : (t : List Item) (w : World) (v : Value-F Value) → refers_to p (recorded_after t w) string_ty v ≡ refers_to p w string_ty v
  refers_told t w Value-F.Null = refl
  refers_told t w (Value-F.Obj k) = by_place k
    where
      by_place : (j : ℕ) → refers_to p (recorded_after t w) string_ty (Value-F.Obj j) ≡ refers_to p w string_ty (Value-F.Obj j)
      by_place zero = refl
      by_place (suc j) = refl
  refers_told t w (Value-F.Text u) = refl
  refers_told t w _ = refl

  text_place : storage p string_ty ≡ Reference
  unfolding storage prim_storage types.out-Ty denote.Hole.Carrier.out
  text_place = refl

  module _ (m : Member) (result : m.result ≡ string_ty) (default : (v : Value) × (m.default ≡ Some v) × Refers (out-Value v)) (plain : (vs : List Value) → by_ref_args m.params vs ≡ []) where
    told_told : (t : List Item) (vs : List Value) (x : ReplyResult) (back : List Value) (w : World) → recorded m vs x back (recorded_after t w) ≡ recorded_after t (recorded m vs x back w)
    told_told t vs x back w =
        ap (λ z. record (recorded m vs x back w) { trace = z }) (append_assoc t w.trace (record { member = m.number; recorded = record { member = m.name; args = vs; reply = record { result = x; by_ref = back } } } ∷ []))

    no_void : is_void (storage p m.result) ≡ false
    no_void = ap (λ r. is_void (storage p r)) result ∙ ap is_void text_place

    result_told : (t : List Item) (vs : List Value) (x : ReplyResult) (back : List Value) (fs : List Frame) (w u : World) → result_of p m vs x back fs (recorded_after t w) (Unfit (recorded_after t u)) ≡ told_answer t (result_of p m vs x back fs w (Unfit u))
    result_told t vs reply.Default back fs w u = ap (Returned m.default fs) (told_told t vs (given m.default) back w)
    result_told t vs reply.Void back fs w u = ap (λ b. if b then Returned None fs (recorded m vs reply.Void back (recorded_after t w)) else Unfit (recorded_after t u)) no_void ∙ sym (ap (λ b. told_answer t (if b then Returned None fs (recorded m vs reply.Void back w) else Unfit u)) no_void)
    result_told t vs (reply.Given v) back fs w u =
        ap (λ r. if fits p (recorded_after t w) r v then maybe (Unfit (recorded_after t u)) (λ y. Returned (Some y) fs (recorded m vs (reply.Given v) back (recorded_after t w))) (stored_in p m.result v) else Unfit (recorded_after t u)) result
        ∙ ap (λ b. if b then maybe (Unfit (recorded_after t u)) (λ y. Returned (Some y) fs (recorded m vs (reply.Given v) back (recorded_after t w))) (stored_in p m.result v) else Unfit (recorded_after t u)) (fits_text (recorded_after t w) v ∙ refers_told t w (out-Value v) ∙ sym (fits_text w v))
        ∙ by_fits (fits p w string_ty v) (stored_in p m.result v)
        ∙ sym (ap (λ r. told_answer t (if fits p w r v then maybe (Unfit u) (λ y. Returned (Some y) fs (recorded m vs (reply.Given v) back w)) (stored_in p m.result v) else Unfit u)) result)
      where
        by_fits : (b : Bool) (o : Option Value) → (if b then maybe (Unfit (recorded_after t u)) (λ y. Returned (Some y) fs (recorded m vs (reply.Given v) back (recorded_after t w))) o else Unfit (recorded_after t u)) ≡ told_answer t (if b then maybe (Unfit u) (λ y. Returned (Some y) fs (recorded m vs (reply.Given v) back w)) o else Unfit u)
        by_fits false o = refl
        by_fits true None = refl
        by_fits true (Some y) = ap (Returned (Some y) fs) (told_told t vs (reply.Given v) back w)
    result_told t vs (reply.Throw name) back fs w u = by_sub (is_sub p (class_named name) (class_named (codes "System.Exception")))
      where
        by_sub : (b : Bool) → (if b then Threw (next_object w) fs (with_object p (record { ty = class_named name; cells = [] }) (recorded m vs (reply.Throw name) back (recorded_after t w))) else Unfit (recorded_after t u))
            ≡ told_answer t (if b then Threw (next_object w) fs (with_object p (record { ty = class_named name; cells = [] }) (recorded m vs (reply.Throw name) back w)) else Unfit u)
        by_sub true = ap (λ z. Threw (next_object w) fs (with_object p (record { ty = class_named name; cells = [] }) z)) (told_told t vs (reply.Throw name) back w)
        by_sub false = refl

    result_refers : (vs : List Value) (x : ReplyResult) (back : List Value) (fs : List Frame) (w u : World) → RefersTo (result_of p m vs x back fs w (Unfit u))
    result_refers vs reply.Default back fs w u = subst (λ d. RefersTo (Returned d fs (recorded m vs (given m.default) back w))) (sym default.1) default.2
    result_refers vs reply.Void back fs w u = subst (λ b. RefersTo (if b then Returned None fs (recorded m vs reply.Void back w) else Unfit u)) (sym no_void) tt
    result_refers vs (reply.Given v) back fs w u = subst (λ o. RefersTo (if fits p w m.result v then maybe (Unfit u) (λ y. Returned (Some y) fs (recorded m vs (reply.Given v) back w)) o else Unfit u)) (sym (ap (λ r. stored_in p r v) result ∙ stored_plain p string_ty Reference v text_place tt)) (by_fits (fits p w m.result v))
      where
        by_value : (o : Value-F Value) → out-Value v ≡ o → RefersTo (maybe (Unfit u) (λ y. Returned (Some y) fs (recorded m vs (reply.Given v) back w)) (if_reference o v))
        by_value Value-F.Null e = subst Refers (sym e) tt
        by_value (Value-F.Obj k) e = subst Refers (sym e) tt
        by_value (Value-F.Text u) e = subst Refers (sym e) tt
        by_value _ e = tt

        by_fits : (b : Bool) → RefersTo (if b then maybe (Unfit u) (λ y. Returned (Some y) fs (recorded m vs (reply.Given v) back w)) (if_reference (out-Value v) v) else Unfit u)
        by_fits false = tt
        by_fits true = by_value (out-Value v) refl
    result_refers vs (reply.Throw name) back fs w u = by_sub (is_sub p (class_named name) (class_named (codes "System.Exception")))
      where
        by_sub : (b : Bool) → RefersTo (if b then Threw (next_object w) fs (with_object p (record { ty = class_named name; cells = [] }) (recorded m vs (reply.Throw name) back w)) else Unfit u)
        by_sub true = tt
        by_sub false = tt

    pub ask_told : (t : List Item) (values : List Value) (w : World) → ask p m values [] (recorded_after t w) ≡ told_answer t (ask p m values [] w)
    unfolding ask
    ask_told t values w = by_cells (stored_args p m.params values)
      where
        by_back : (vs : List Value) (x : ReplyResult) (back : List Value) → answered p m vs (record { result = x; by_ref = back }) (recorded_after t w) (stored_back p [] back [] (recorded_after t w)) ≡ told_answer t (answered p m vs (record { result = x; by_ref = back }) w (stored_back p [] back [] w))
        by_back vs x [] = ap (λ z. result_of p m vs x [] [] (recorded_after t w) (Unfit z)) (told_told t vs x [] w) ∙ result_told t vs x [] [] w (recorded m vs x [] w)
        by_back vs x (v ∷ more) = ap Unfit (told_told t vs x (v ∷ more) w)

        by_cells : (o : Option (List Cell)) → maybe (Unfit (recorded_after t w)) (λ (cells : List Cell). answered p m (map (λ (c : Cell). c.value) cells) (next_reply w.replies) (recorded_after t w) (stored_back p (by_ref_args m.params (map (λ (c : Cell). c.value) cells)) (next_reply w.replies).by_ref [] (recorded_after t w))) o
            ≡ told_answer t (maybe (Unfit w) (λ (cells : List Cell). answered p m (map (λ (c : Cell). c.value) cells) (next_reply w.replies) w (stored_back p (by_ref_args m.params (map (λ (c : Cell). c.value) cells)) (next_reply w.replies).by_ref [] w)) o)
        by_cells None = refl
        by_cells (Some cells) =
            let vs = map (λ (c : Cell). c.value) cells in
            let x = next_reply w.replies in
            ap (λ a. answered p m vs x (recorded_after t w) (stored_back p a x.by_ref [] (recorded_after t w))) (plain vs) ∙ by_back vs x.result x.by_ref ∙ sym (ap (λ a. told_answer t (answered p m vs x w (stored_back p a x.by_ref [] w))) (plain vs))

    pub ask_refers : (values : List Value) (w : World) → RefersTo (ask p m values [] w)
    unfolding ask
    ask_refers values w = by_cells (stored_args p m.params values)
      where
        by_back : (vs : List Value) (x : ReplyResult) (back : List Value) → RefersTo (answered p m vs (record { result = x; by_ref = back }) w (stored_back p [] back [] w))
        by_back vs x [] = result_refers vs x [] [] w (recorded m vs x [] w)
        by_back vs x (v ∷ more) = tt

        by_cells : (o : Option (List Cell)) → RefersTo (maybe (Unfit w) (λ (cells : List Cell). answered p m (map (λ (c : Cell). c.value) cells) (next_reply w.replies) w (stored_back p (by_ref_args m.params (map (λ (c : Cell). c.value) cells)) (next_reply w.replies).by_ref [] w)) o)
        by_cells None = tt
        by_cells (Some cells) =
            let vs = map (λ (c : Cell). c.value) cells in
            let x = next_reply w.replies in
            subst (λ a. RefersTo (answered p m vs x w (stored_back p a x.by_ref [] w))) (sym (plain vs)) (by_back vs x.result x.by_ref)

    result_leaves : (vs : List Value) (x : ReplyResult) (back : List Value) (fs : List Frame) (w u : World) → Leaves_statics w (result_of p m vs x back fs w (Unfit u))
    result_leaves vs reply.Default back fs w u = refl
    result_leaves vs reply.Void back fs w u = by_test (is_void (storage p m.result))
      where
        by_test : (b : Bool) → Leaves_statics w (if b then Returned None fs (recorded m vs reply.Void back w) else Unfit u)
        by_test true = refl
        by_test false = tt
    result_leaves vs (reply.Given v) back fs w u = by_test (fits p w m.result v) (stored_in p m.result v)
      where
        by_test : (b : Bool) (o : Option Value) → Leaves_statics w (if b then maybe (Unfit u) (λ y. Returned (Some y) fs (recorded m vs (reply.Given v) back w)) o else Unfit u)
        by_test true None = tt
        by_test true (Some y) = refl
        by_test false o = tt
    result_leaves vs (reply.Throw name) back fs w u = by_test (is_sub p (class_named name) (class_named (codes "System.Exception")))
      where
        by_test : (b : Bool) → Leaves_statics w (if b then Threw (next_object w) fs (with_object p (record { ty = class_named name; cells = [] }) (recorded m vs (reply.Throw name) back w)) else Unfit u)
        by_test true = tt
        by_test false = tt

    pub ask_leaves : (values : List Value) (w : World) → Leaves_statics w (ask p m values [] w)
    unfolding ask
    ask_leaves values w = by_cells (stored_args p m.params values)
      where
        by_back : (vs : List Value) (x : ReplyResult) (back : List Value) → Leaves_statics w (answered p m vs (record { result = x; by_ref = back }) w (stored_back p [] back [] w))
        by_back vs x [] = result_leaves vs x [] [] w (recorded m vs x [] w)
        by_back vs x (v ∷ more) = tt

        by_cells : (o : Option (List Cell)) → Leaves_statics w (maybe (Unfit w) (λ (cells : List Cell). answered p m (map (λ (c : Cell). c.value) cells) (next_reply w.replies) w (stored_back p (by_ref_args m.params (map (λ (c : Cell). c.value) cells)) (next_reply w.replies).by_ref [] w)) o)
        by_cells None = tt
        by_cells (Some cells) =
            let vs = map (λ (c : Cell). c.value) cells in
            let x = next_reply w.replies in
            subst (λ a. Leaves_statics w (answered p m vs x w (stored_back p a x.by_ref [] w))) (sym (plain vs)) (by_back vs x.result x.by_ref)

  -- ---- the member as the program has it

  module _ (g : AddedNumbers) (h : IsHelper p g.event event_name (kind_ty ∷ string_ty ∷ string_ty ∷ exception_ty ∷ []) string_ty) where
    abbrev pub reported_values : Value → Value → Value → List Value
    reported_values kd user label = kd ∷ user ∷ label ∷ Null ∷ []

    isnt_core : core_of p (class_named helper_name) g.event ≡ Rattle.cil_semantics.specs.Calls.NotCore
    unfolding core_of types.out-Ty denote.Hole.Carrier.out
    isnt_core = ap (by_name (length (method_of p g.event).params)) h.name
      where
        by_name : ℕ → Name → Rattle.cil_semantics.specs.Calls.CoreMember
        by_name n name =
            if bytes_eq name (codes ".ctor") && (false || Rattle.cil_semantics.specs.Calls.is_core_exception p (class_named helper_name)) then Rattle.cil_semantics.specs.Calls.Constructor
            else if bytes_eq helper_name Rattle.cil_semantics.specs.Core.contract_name && bytes_eq name (codes "ForAll") then Rattle.cil_semantics.specs.Calls.Quantifier false
            else if bytes_eq helper_name Rattle.cil_semantics.specs.Core.contract_name && bytes_eq name (codes "Exists") then Rattle.cil_semantics.specs.Calls.Quantifier true
            else Rattle.cil_semantics.specs.Calls.NotCore

    is_the_event : Rattle.cil_semantics.specs.Calls.is_event p (class_named helper_name) g.event ≡ true
    unfolding types.out-Ty denote.Hole.Carrier.out
    is_the_event =
        ap (λ name. bytes_eq name event_name && ((method_of p g.event).is_static && (same_tys (method_of p g.event).params event_params && same_ty (method_of p g.event).result string_ty))) h.name
        ∙ ap (λ b. b && (same_tys (method_of p g.event).params event_params && same_ty (method_of p g.event).result string_ty)) h.static
        ∙ ap (λ ts. same_tys ts event_params && same_ty (method_of p g.event).result string_ty) h.params
        ∙ ap (λ t. same_ty t string_ty) h.result

    is_event : (kd user label : Value) → with_default p (class_named helper_name) g.event (reported_values kd user label) (member_of p (class_named helper_name) g.event []) ≡ event_member g label
    unfolding types.out-Ty denote.Hole.Carrier.out
    is_event kd user label =
        ap (λ b. if b then record (member_of p (class_named helper_name) g.event []) { default = Some label } else member_of p (class_named helper_name) g.event []) is_the_event
        ∙ ap (λ name. named name (param_types p (class_named helper_name) g.event []) (under [] [] (method_of p g.event).result)) h.name
        ∙ ap (λ b. named event_name (if b then all_under [] [] (method_of p g.event).params else Rattle.cil_semantics.specs.Frames.this_type p (class_named helper_name) ∷ all_under [] [] (method_of p g.event).params) (under [] [] (method_of p g.event).result)) h.static
        ∙ ap (λ ts. named event_name (all_under [] [] ts) (under [] [] (method_of p g.event).result)) h.params
        ∙ ap (λ t. named event_name (all_under [] [] (kind_ty ∷ string_ty ∷ string_ty ∷ exception_ty ∷ [])) (under [] [] t)) h.result
      where
        named : Name → List Ty → Ty → Member
        named name ts t = record { number = g.event; name = member_name helper_name name; params = ts; result = t; default = Some label }

    pub calls_event : (kd user label : Value) (fs : List Frame) (w : World) → call_member p no_contracts (class_named helper_name) g.event [] (reported_values kd user label) fs w ≡ on_answer p no_contracts (ask p (event_member g label) (reported_values kd user label) fs w)
    unfolding call_member is_outside
    calls_event kd user label fs w =
        ap (λ c. call_core p no_contracts c (class_named helper_name) g.event [] (reported_values kd user label) fs w) isnt_core
        ∙ ap (λ b. if b || rest then outside_call p no_contracts (class_named helper_name) g.event [] (reported_values kd user label) fs w else other) h.outside
        ∙ ap (λ m. on_answer p no_contracts (ask p m (reported_values kd user label) fs w)) (is_event kd user label)
      where
        rest : Bool
        rest = (Rattle.cil_semantics.specs.Lookups.type_of p (method_of p g.event).owner).reference || (not (Rattle.std.specs.Prelude.is_some (method_of p g.event).body) && not (Rattle.cil_semantics.specs.Dispatch.is_abstract (method_of p g.event)))

        other : Next
        other = if Rattle.std.specs.Prelude.is_some (method_of p g.event).body then Rattle.cil_semantics.specs.Frames.enter p no_contracts (class_named helper_name) g.event [] (reported_values kd user label) Rattle.cil_semantics.specs.declared.state.Continuation.TheVariants.Push fs w else Rattle.cil_semantics.specs.Frames.stuck w
