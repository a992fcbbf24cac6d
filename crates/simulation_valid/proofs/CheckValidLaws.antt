-- Clauses end, failures are reported, and old values are captured.
use Rattle.std.proofs.Common.{◌≡◌, ℕ, Bool, true, false, List, [], ◌∷◌, Option, Some, None, refl, sym, ap, ◌∙◌, subst}
use Rattle.std.specs.Prelude.{if◌then◌else◌, option_map, option_and_then}
use Rattle.cil_model.specs.declared.ty.Ty.{Ty}
use Rattle.cil_model.specs.declared.value.Value.{Value, out-Value, Obj, Text, Null}
use Rattle.cil_model.specs.declared.value.Value.TheOpen.{Value-F}
use Rattle.cil_model.specs.declared.contract.Contracts.{Contracts}
use Rattle.cil_model.specs.declared.contract.ClauseKind.{ClauseKind}
use Rattle.cil_model.specs.declared.contract.ClauseKind.TheVariants as kind
use Rattle.cil_model.specs.declared.program.Program.{Program}
use Rattle.cil_model.specs.declared.program.MethodDesc.{MethodDesc}
use Rattle.il_opcodes.specs.declared.class.Storage.TheVariants.{Truncated, Reference}
use Rattle.cil_semantics.specs.Words.{maybe}
use Rattle.cil_semantics.specs.Places.{storage, is_void, stored, set_cell}
use Rattle.cil_semantics.specs.declared.state.Object.{Object}
use Rattle.cil_semantics.specs.declared.state.World.{World}
use Rattle.cil_semantics.specs.declared.state.Frame.{Frame}
use Rattle.cil_semantics.specs.State.{Next, next_object, with_object}
use Rattle.cil_semantics.specs.Outside.{Answer, Returned, Threw, Unfit, ask}
use Rattle.cil_semantics.specs.Checks.{AddedNumbers, Failure, Sequel, Condition, condition_from, condition_in, number_value, label_text, event_member, trigger_member, contract_failure, made_type, throw_exception, triggered, fail_with, replied, reported, failing}
use Rattle.splice_facts.specs.WellFormed.{Bounds, WellFormedValue, WellFormedValues, WellFormedWorld}
use Rattle.splice_facts.specs.Related.{Rewritten, bounds}
use Rattle.splice_facts.proofs.AskFrameLaws.{event_plain, trigger_plain}
use Rattle.simulation_calls.proofs.CheckLaws.{KeepsHeap, ask_keeps}
use Rattle.simulation_objects.proofs.StoredLaws.{same_reference}
use Rattle.simulation_valid.specs.Keeping.{StaysValid}
use Rattle.simulation_valid.proofs.WorldLaws.{object_added, known_typed}
use Rattle.simulation_valid.proofs.AskValidLaws.{asks_valid}
use Rattle.simulation_valid.specs.Steps.{ValidAnswer}

-- the message of a failure is well formed
module _ (b : Bounds) where
  from_fine : (user : Value) (s : List Value) (c : Condition) → WellFormedValue b user → WellFormedValues b s → condition_from user s ≡ Some c → WellFormedValue b c.user × WellFormedValues b c.rest
  from_fine user [] c fu fs e = absurd (cc e)
  from_fine user (v ∷ rest) c fu fs e = by_stored (stored (Truncated Rattle.il_opcodes.specs.declared.class.Bits.TheVariants.B8 false) v) e
    where
      as_condition : Value → Condition
      as_condition x = record { holds = Rattle.cil_semantics.specs.Checks.bool_in (out-Value x); user = user; rest = rest }

      by_stored : (o : Option Value) → option_map as_condition o ≡ Some c → WellFormedValue b c.user × WellFormedValues b c.rest
      by_stored None q = absurd (cc q)
      by_stored (Some x) q = let z : as_condition x ≡ c = cc q in subst (λ (y : Condition). WellFormedValue b y.user × WellFormedValues b y.rest) z (fu, fs.1)

  pub condition_fine : (message : Bool) (s : List Value) (c : Condition) → WellFormedValues b s → condition_in message s ≡ Some c → WellFormedValue b c.user × WellFormedValues b c.rest
  condition_fine true [] c fs e = absurd (cc e)
  condition_fine false s c fs e = from_fine Null s c tt fs e
  condition_fine true (v ∷ stack) c fs e = by_stored (stored Reference v) refl e
    where
      by_stored : (o : Option Value) → stored Reference v ≡ o → option_and_then (λ user. condition_from user stack) o ≡ Some c → WellFormedValue b c.user × WellFormedValues b c.rest
      by_stored None s q = absurd (cc q)
      by_stored (Some user) s q = from_fine user stack c (subst (WellFormedValue b) (same_reference b (out-Value v) v user s) fs.0) fs.1 q

module _ (p : Program) (k : Contracts) (ms : List MethodDesc) (g : AddedNumbers) (r : Rewritten p k ms g) where
  abbrev Stays : Next → Type 0
  Stays x = StaysValid p k ms g r x

  abbrev Bs : Bounds
  Bs = bounds p k ms g r

  -- What follows a failure in a world of a depth is valid; where it is passed over, the heap is as it was.
  pub record ValidSequel (d : ℕ) (heap : List Object) (x : Failure) (fs : List Frame) (s : Sequel) : Type 0 where
    pub passes_so : (v : World) → WellFormedWorld Bs v → v.depth ≡ d → v.heap ≡ heap → Stays (s.passes v)
    pub throws_so : (v : World) (y : ℕ) → WellFormedWorld Bs v → v.depth ≡ d → Stays (s.throws v y)
    pub makes_so : (v : World) (t : Ty) (text : Value) → x.kind ≡ kind.RequiresOf → made_type x ≡ Some t → WellFormedValue Bs text → WellFormedWorld Bs v → v.depth ≡ d → Stays (throw_exception p g k.settings.throwing x s t text fs v)
    pub stops_so : (v : World) → Stays (s.stops v)

  module _ (d : ℕ) (heap : List Object) (x : Failure) (fs : List Frame) (s : Sequel) (a : ValidSequel d heap x fs s) (user : WellFormedValue Bs x.user) where
    triggers_valid : (m : Rattle.cil_semantics.specs.Outside.Member) (w : World) (A : Answer) → w.depth ≡ d → KeepsHeap heap A → ValidAnswer p k ms g r m fs w A → Stays (triggered p g k.settings.throwing x s A)
    triggers_valid m w (Returned v gs u) e kh z = a.passes_so u (z.0).world ((z.0).depth ∙ e) kh
    triggers_valid m w (Threw y gs u) e kh z = a.throws_so u y z.world (z.depth ∙ e)
    triggers_valid m w (Unfit u) e kh z = a.stops_so u

    void_there : (is_void (storage p (trigger_member g).result)) ≡ true
    unfolding storage Rattle.cil_semantics.specs.Places.prim_storage Rattle.cil_model.specs.declared.ty.Ty.out-Ty denote.Hole.Carrier.out
    void_there = refl

    throws_or_triggers : (text : Value) (w : World) → WellFormedValue Bs text → WellFormedWorld Bs w → w.depth ≡ d → w.heap ≡ heap → (b : Bool) → Stays (if b then s.throws (with_object p (contract_failure g x) w) (next_object w) else triggered p g k.settings.throwing x s (ask p (trigger_member g) (number_value x ∷ text ∷ x.user ∷ label_text x ∷ Null ∷ []) fs w))
    throws_or_triggers text w ft ok e h true = a.throws_so (with_object p (contract_failure g x) w) (next_object w) (object_added Bs p (contract_failure g x) w (known_typed Bs g.exception, (tt, (user, (tt, tt)))) ok) e
    throws_or_triggers text w ft ok e h false =
        triggers_valid (trigger_member g) w (ask p (trigger_member g) (number_value x ∷ text ∷ x.user ∷ label_text x ∷ Null ∷ []) fs w) e
        (subst (λ z. KeepsHeap z (ask p (trigger_member g) (number_value x ∷ text ∷ x.user ∷ label_text x ∷ Null ∷ []) fs w)) h (ask_keeps p (trigger_member g) (number_value x ∷ text ∷ x.user ∷ label_text x ∷ Null ∷ []) fs w (trigger_plain g)))
        (asks_valid p k ms g r (trigger_member g) (number_value x ∷ text ∷ x.user ∷ label_text x ∷ Null ∷ []) fs w (tt, (ft, (user, (tt, (tt, tt))))) ok tt (λ cells q. ap (λ (c : Bool). if c then 0 else 1) (sym void_there)))

    kinds_valid : (kd : ClauseKind) → x.kind ≡ kd → (text : Value) (w : World) → WellFormedValue Bs text → WellFormedWorld Bs w → w.depth ≡ d → w.heap ≡ heap → Stays (fail_with p g k.settings.throwing x s kd text fs w)
    kinds_valid kind.RequiresOf kd text w ft ok e h = by_type (made_type x) refl
      where
        by_type : (o : Option Ty) → made_type x ≡ o → Stays (maybe (s.stops w) (λ t. throw_exception p g k.settings.throwing x s t text fs w) o)
        by_type None q = a.stops_so w
        by_type (Some t) q = a.makes_so w t text kd q ft ok e
    kinds_valid kind.Requires kd text w ft ok e h = throws_or_triggers text w ft ok e h k.settings.throwing
    kinds_valid kind.Ensures kd text w ft ok e h = throws_or_triggers text w ft ok e h k.settings.throwing
    kinds_valid kind.Throws kd text w ft ok e h = throws_or_triggers text w ft ok e h k.settings.throwing
    kinds_valid kind.Invariant kd text w ft ok e h = throws_or_triggers text w ft ok e h k.settings.throwing
    kinds_valid kind.Assert kd text w ft ok e h = throws_or_triggers text w ft ok e h k.settings.throwing
    kinds_valid kind.Assume kd text w ft ok e h = throws_or_triggers text w ft ok e h k.settings.throwing

    replies_valid : (v : Value-F Value) (w : World) → WellFormedWorld Bs w → w.depth ≡ d → w.heap ≡ heap → Stays (replied p g k.settings.throwing x s v fs w)
    replies_valid Value-F.Null w ok e h = a.passes_so w ok e h
    replies_valid (Value-F.Text units) w ok e h = kinds_valid x.kind refl (Text units) w tt ok e h
    replies_valid (Value-F.Obj y) w ok e h = kinds_valid x.kind refl (Obj y) w tt ok e h
    replies_valid _ w ok e h = a.stops_so w

    answers_valid : (m : Rattle.cil_semantics.specs.Outside.Member) (w : World) (A : Answer) → w.depth ≡ d → KeepsHeap heap A → ValidAnswer p k ms g r m fs w A → Stays (reported p g k.settings.throwing x s fs A)
    answers_valid m w (Returned None gs u) e kh z = a.stops_so u
    answers_valid m w (Returned (Some v) gs u) e kh z = replies_valid (out-Value v) u (z.0).world ((z.0).depth ∙ e) kh
    answers_valid m w (Threw y gs u) e kh z = a.throws_so u y z.world (z.depth ∙ e)
    answers_valid m w (Unfit u) e kh z = a.stops_so u

    text_there : is_void (storage p (event_member g (label_text x)).result) ≡ false
    unfolding storage Rattle.cil_semantics.specs.Places.prim_storage Rattle.cil_model.specs.declared.ty.Ty.out-Ty denote.Hole.Carrier.out
    text_there = refl

    -- a failure is reported outside, and what follows is valid
    pub fails_valid : (w : World) → WellFormedWorld Bs w → w.depth ≡ d → w.heap ≡ heap → Stays (failing p g k.settings.throwing x s fs w)
    unfolding failing
    fails_valid w ok e h =
        let m = event_member g (label_text x) in
        let values = number_value x ∷ x.user ∷ label_text x ∷ Null ∷ [] in
        answers_valid m w (ask p m values fs w) e (subst (λ z. KeepsHeap z (ask p m values fs w)) h (ask_keeps p m values fs w (event_plain g (label_text x))))
        (asks_valid p k ms g r m values fs w (tt, (user, (tt, (tt, tt)))) ok tt (λ cells q. ap (λ (c : Bool). if c then 0 else 1) (sym text_there)))
