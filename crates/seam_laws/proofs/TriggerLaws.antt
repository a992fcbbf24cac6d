-- What the member that is told of a failure answers doesn't read what was told before; and a call of it is that question.
use Rattle.std.proofs.Common.{◌≡◌, ℕ, Bool, true, false, List, [], ◌∷◌, length, Option, Some, None, refl, sym, ap, ◌∙◌, append_assoc}
use Rattle.std.specs.Prelude.{map, if◌then◌else◌, ◌&&◌, ◌||◌, bytes_eq, codes, not}
use Rattle.cil_model.specs.declared.ty.Ty.{Ty, Prim}
use Rattle.cil_model.specs.declared.ty.Ty as types
use Rattle.cil_model.specs.declared.value.Value.{Value}
use Rattle.cil_model.specs.declared.run.ReplyResult.{ReplyResult}
use Rattle.cil_model.specs.declared.run.ReplyResult.TheVariants as reply
use Rattle.cil_model.specs.declared.program.Program.{Program}
use Rattle.cil_model.specs.NoContracts.{no_contracts}
use Rattle.cil_semantics.specs.Words.{maybe}
use Rattle.cil_semantics.specs.Types.{under, all_under, same_ty, same_tys}
use Rattle.cil_semantics.specs.Core.{Name, class_named, kind_ty, string_ty, exception_ty, event_params, helper_name, event_name}
use Rattle.cil_semantics.specs.Lookups.{is_sub, method_of}
use Rattle.cil_semantics.specs.Places.{storage, prim_storage, is_void, stored_in}
use Rattle.cil_semantics.specs.declared.state.Cell.{Cell}
use Rattle.cil_semantics.specs.declared.state.World.{World}
use Rattle.cil_semantics.specs.declared.state.Item.{Item}
use Rattle.cil_semantics.specs.declared.state.Frame.{Frame}
use Rattle.cil_semantics.specs.State.{Next, recorded_after, with_object, next_object}
use Rattle.cil_semantics.specs.Frames.{stored_args, param_types}
use Rattle.cil_semantics.specs.Acts.{member_name}
use Rattle.cil_semantics.specs.Outside.{fits, fits_within, by_ref_args, stored_back, Returned, Threw, Unfit, next_reply, Member, recorded, result_of, answered, ask, is_outside, member_of, default_reply}
use Rattle.cil_semantics.specs.Calls.{core_of, call_core, call_member, on_answer, outside_call, with_default}
use Rattle.cil_semantics.specs.Checks.{AddedNumbers, trigger_member}
use Rattle.machine_laws.specs.Same.{IsHelper}
use Rattle.splice_facts.proofs.AskFrameLaws.{trigger_plain}
use Rattle.splice_laws.proofs.AskLaws.{told_answer}

module _ (p : Program) (g : AddedNumbers) where
  abbrev m : Member
  m = trigger_member g

  never_fits : (w : World) (v : Value) → fits p w (Prim 0x01) v ≡ false
  unfolding fits_within storage prim_storage types.out-Ty denote.Hole.Carrier.out
  never_fits w v = refl

  void_place : is_void (storage p (Prim 0x01)) ≡ true
  unfolding storage prim_storage types.out-Ty denote.Hole.Carrier.out
  void_place = refl

  told_told : (t : List Item) (vs : List Value) (x : ReplyResult) (back : List Value) (w : World) → recorded m vs x back (recorded_after t w) ≡ recorded_after t (recorded m vs x back w)
  told_told t vs x back w =
      ap (λ z. record (recorded m vs x back w) { trace = z }) (append_assoc t w.trace (record { member = m.number; recorded = record { member = m.name; args = vs; reply = record { result = x; by_ref = back } } } ∷ []))

  result_told : (t : List Item) (vs : List Value) (x : ReplyResult) (back : List Value) (fs : List Frame) (w u : World) → result_of p m vs x back fs (recorded_after t w) (Unfit (recorded_after t u)) ≡ told_answer t (result_of p m vs x back fs w (Unfit u))
  result_told t vs reply.Default back fs w u = ap (Returned None fs) (told_told t vs reply.Void back w)
  result_told t vs reply.Void back fs w u =
      ap (λ b. if b then Returned None fs (recorded m vs reply.Void back (recorded_after t w)) else Unfit (recorded_after t u)) void_place
      ∙ ap (Returned None fs) (told_told t vs reply.Void back w)
      ∙ sym (ap (λ b. told_answer t (if b then Returned None fs (recorded m vs reply.Void back w) else Unfit u)) void_place)
  result_told t vs (reply.Given v) back fs w u =
      ap (λ b. if b then maybe (Unfit (recorded_after t u)) (λ y. Returned (Some y) fs (recorded m vs (reply.Given v) back (recorded_after t w))) (stored_in p m.result v) else Unfit (recorded_after t u)) (never_fits (recorded_after t w) v)
      ∙ sym (ap (λ b. told_answer t (if b then maybe (Unfit u) (λ y. Returned (Some y) fs (recorded m vs (reply.Given v) back w)) (stored_in p m.result v) else Unfit u)) (never_fits w v))
  result_told t vs (reply.Throw name) back fs w u = by_sub (is_sub p (class_named name) (class_named (codes "System.Exception")))
    where
      by_sub : (b : Bool) → (if b then Threw (next_object w) fs (with_object p (record { ty = class_named name; cells = [] }) (recorded m vs (reply.Throw name) back (recorded_after t w))) else Unfit (recorded_after t u))
          ≡ told_answer t (if b then Threw (next_object w) fs (with_object p (record { ty = class_named name; cells = [] }) (recorded m vs (reply.Throw name) back w)) else Unfit u)
      by_sub true = ap (λ z. Threw (next_object w) fs (with_object p (record { ty = class_named name; cells = [] }) z)) (told_told t vs (reply.Throw name) back w)
      by_sub false = refl

  pub trigger_told : (t : List Item) (values : List Value) (w : World) → ask p m values [] (recorded_after t w) ≡ told_answer t (ask p m values [] w)
  unfolding ask
  trigger_told t values w = by_cells (stored_args p m.params values)
    where
      by_back : (vs : List Value) (x : ReplyResult) (back : List Value) → answered p m vs (record { result = x; by_ref = back }) (recorded_after t w) (stored_back p [] back [] (recorded_after t w)) ≡ told_answer t (answered p m vs (record { result = x; by_ref = back }) w (stored_back p [] back [] w))
      by_back vs x [] = ap (λ z. result_of p m vs x [] [] (recorded_after t w) (Unfit z)) (told_told t vs x [] w) ∙ result_told t vs x [] [] w (recorded m vs x [] w)
      by_back vs x (v ∷ more) = ap Unfit (told_told t vs x (v ∷ more) w)

      by_cells : (o : Option (List Cell)) → maybe (Unfit (recorded_after t w)) (λ (cells : List Cell). answered p m (map (λ (c : Cell). c.value) cells) (next_reply w.replies) (recorded_after t w) (stored_back p (by_ref_args m.params (map (λ (c : Cell). c.value) cells)) (next_reply w.replies).by_ref [] (recorded_after t w))) o
          ≡ told_answer t (maybe (Unfit w) (λ (cells : List Cell). answered p m (map (λ (c : Cell). c.value) cells) (next_reply w.replies) w (stored_back p (by_ref_args m.params (map (λ (c : Cell). c.value) cells)) (next_reply w.replies).by_ref [] w)) o)
      by_cells None = refl
      by_cells (Some cells) =
          let vs = map (λ (c : Cell). c.value) cells in
          let x = next_reply w.replies in
          ap (λ a. answered p m vs x (recorded_after t w) (stored_back p a x.by_ref [] (recorded_after t w))) (trigger_plain g vs) ∙ by_back vs x.result x.by_ref ∙ sym (ap (λ a. told_answer t (answered p m vs x w (stored_back p a x.by_ref [] w))) (trigger_plain g vs))

  -- ---- the member as the program has it

  module _ (h : IsHelper p g.trigger (codes "TriggerFailure") (kind_ty ∷ string_ty ∷ string_ty ∷ string_ty ∷ exception_ty ∷ []) (Prim 0x01)) where
    isnt_core : core_of p (class_named helper_name) g.trigger ≡ Rattle.cil_semantics.specs.Calls.NotCore
    unfolding core_of types.out-Ty denote.Hole.Carrier.out
    isnt_core = ap (by_name (length (method_of p g.trigger).params)) h.name
      where
        by_name : ℕ → Name → Rattle.cil_semantics.specs.Calls.CoreMember
        by_name n name =
            if bytes_eq name (codes ".ctor") && (false || Rattle.cil_semantics.specs.Calls.is_core_exception p (class_named helper_name)) then Rattle.cil_semantics.specs.Calls.Constructor
            else if bytes_eq helper_name Rattle.cil_semantics.specs.Core.contract_name && bytes_eq name (codes "ForAll") then Rattle.cil_semantics.specs.Calls.Quantifier false
            else if bytes_eq helper_name Rattle.cil_semantics.specs.Core.contract_name && bytes_eq name (codes "Exists") then Rattle.cil_semantics.specs.Calls.Quantifier true
            else Rattle.cil_semantics.specs.Calls.NotCore

    isnt_event : Rattle.cil_semantics.specs.Calls.is_event p (class_named helper_name) g.trigger ≡ false
    unfolding types.out-Ty denote.Hole.Carrier.out
    isnt_event = ap (λ name. bytes_eq name event_name && ((method_of p g.trigger).is_static && (same_tys (method_of p g.trigger).params event_params && same_ty (method_of p g.trigger).result string_ty))) h.name

    is_trigger : (vs : List Value) → with_default p (class_named helper_name) g.trigger vs (member_of p (class_named helper_name) g.trigger []) ≡ m
    unfolding types.out-Ty storage prim_storage denote.Hole.Carrier.out
    is_trigger vs =
        ap (λ b. if b then record (member_of p (class_named helper_name) g.trigger []) { default = Rattle.std.specs.Prelude.slice_get vs 2 } else member_of p (class_named helper_name) g.trigger []) isnt_event
        ∙ ap (λ name. named name (param_types p (class_named helper_name) g.trigger []) (under [] [] (method_of p g.trigger).result)) h.name
        ∙ ap (λ b. named (codes "TriggerFailure") (if b then all_under [] [] (method_of p g.trigger).params else Rattle.cil_semantics.specs.Frames.this_type p (class_named helper_name) ∷ all_under [] [] (method_of p g.trigger).params) (under [] [] (method_of p g.trigger).result)) h.static
        ∙ ap (λ ts. named (codes "TriggerFailure") (all_under [] [] ts) (under [] [] (method_of p g.trigger).result)) h.params
        ∙ ap (λ t. named (codes "TriggerFailure") (all_under [] [] (kind_ty ∷ string_ty ∷ string_ty ∷ string_ty ∷ exception_ty ∷ [])) (under [] [] t)) h.result
      where
        named : Name → List Ty → Ty → Member
        named name ts t = record { number = g.trigger; name = member_name helper_name name; params = ts; result = t; default = default_reply p t }

    pub calls_trigger : (vs : List Value) (fs : List Frame) (w : World) → call_member p no_contracts (class_named helper_name) g.trigger [] vs fs w ≡ on_answer p no_contracts (ask p m vs fs w)
    unfolding call_member is_outside
    calls_trigger vs fs w =
        ap (λ c. call_core p no_contracts c (class_named helper_name) g.trigger [] vs fs w) isnt_core
        ∙ ap (λ b. if b || rest then outside_call p no_contracts (class_named helper_name) g.trigger [] vs fs w else other) h.outside
        ∙ ap (λ x. on_answer p no_contracts (ask p x vs fs w)) (is_trigger vs)
      where
        rest : Bool
        rest = (Rattle.cil_semantics.specs.Lookups.type_of p (method_of p g.trigger).owner).reference || (not (Rattle.std.specs.Prelude.is_some (method_of p g.trigger).body) && not (Rattle.cil_semantics.specs.Dispatch.is_abstract (method_of p g.trigger)))

        other : Next
        other = if Rattle.std.specs.Prelude.is_some (method_of p g.trigger).body then Rattle.cil_semantics.specs.Frames.enter p no_contracts (class_named helper_name) g.trigger [] vs Rattle.cil_semantics.specs.declared.state.Continuation.TheVariants.Push fs w else Rattle.cil_semantics.specs.Frames.stuck w
