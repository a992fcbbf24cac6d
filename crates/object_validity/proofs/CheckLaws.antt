-- Failures, Assert and Assume, ends of clauses, and captures of old values: references stay.
use Rattle.std.proofs.Common.{◌≡◌, ℕ, suc, Bool, true, false, List, [], ◌∷◌, Option, Some, None, refl, subst}
use Rattle.std.specs.Prelude.{◌==◌, if◌then◌else◌, option_map, option_and_then, slice_get, slice_set}
use Rattle.cil_model.specs.declared.ty.Ty.{Ty, out-Ty}
use Rattle.cil_model.specs.declared.value.Value.{Value, out-Value, Text, Obj, Null}
use Rattle.cil_model.specs.declared.value.Value as val
use Rattle.cil_model.specs.declared.value.Value.TheOpen.{Value-F}
use Rattle.cil_model.specs.declared.body.Instr.{Instr}
use Rattle.cil_model.specs.declared.contract.ClauseKind.{ClauseKind}
use Rattle.cil_model.specs.declared.contract.ClauseKind.TheVariants as kind
use Rattle.cil_model.specs.declared.contract.Contracts.{Contracts}
use Rattle.cil_model.specs.declared.contract.Group.{Group}
use Rattle.cil_model.specs.declared.program.Program.{Program}
use Rattle.il_opcodes.specs.declared.class.Bits.TheVariants.{B8}
use Rattle.il_opcodes.specs.declared.class.Storage.TheVariants.{Truncated, Reference}
use Rattle.cil_semantics.specs.Words.{maybe, or_else}
use Rattle.cil_semantics.specs.Core.{Name}
use Rattle.cil_semantics.specs.Lookups.{in_set}
use Rattle.cil_semantics.specs.Places.{stored, set_cell, stored_in}
use Rattle.cil_semantics.specs.declared.state.Cell.{Cell}
use Rattle.cil_semantics.specs.declared.state.World.{World}
use Rattle.cil_semantics.specs.declared.state.Frame.{Frame}
use Rattle.cil_semantics.specs.declared.state.Continuation.TheVariants.{Push, ThrowObject}
use Rattle.cil_semantics.specs.State.{Next, with_stack, with_object, next_object}
use Rattle.cil_semantics.specs.Tokens.{ref_type}
use Rattle.cil_semantics.specs.ContractCalls.{has_message}
use Rattle.cil_semantics.specs.Contracted.{Piece, Plan, rank}
use Rattle.cil_semantics.specs.Unwind.{here_of, unwind}
use Rattle.cil_semantics.specs.Frames.{if_there, go_on}
use Rattle.cil_semantics.specs.Outside.{Answer, Returned, Threw, Unfit, ask, ask_new}
use Rattle.cil_semantics.specs.Returns.{piece_over}
use Rattle.cil_semantics.specs.Calls.{is_core_exception}
use Rattle.cil_semantics.specs.Checks.{AddedNumbers, Failure, Condition, bool_in, condition_from, condition_in, dropped, event_member, trigger_member, label_text, number_value, contract_failure, own_constructor, constructor_member, made_type, is_named_type, Sequel, throw_made, after_new, throw_outside, throw_exception, triggered, fail_with, replied, reported, failing, number_of_object, throws_new, goes_on_from, fail, check, check_inline, end_clause, capture}
use Rattle.splice_facts.specs.Exceptions.{IsObject}
use Rattle.object_validity.specs.Known.{KnownValue, KnownValues, KnownWorld, KnownContinuation, KnownFrame, KnownFrames, KeepsReferences}
use Rattle.object_validity.specs.Steps.{AnswerKnown}
use Rattle.object_validity.proofs.ChangeLaws.{stored_seen, kept_fine, cells_set}
use Rattle.object_validity.proofs.GrowthLaws.{grown_value, grown_frames, object_added, new_known, restacked}
use Rattle.object_validity.proofs.MoveLaws.{unwinds_known}
use Rattle.object_validity.proofs.PlaceStepLaws.{there_known, either_known, with_locals, goes_on}
use Rattle.object_validity.proofs.ReturnLaws.{piece_ends}
use Rattle.object_validity.proofs.OutsideLaws.{asks}
use Rattle.object_validity.proofs.NewLaws.{UseKnown, NewAnswered, asks_new, makes_known}

abbrev Keeps : Next → Type 0
Keeps x = KeepsReferences x

-- ---- references to objects

pub object_there : (b : ℕ) (v : Value) (y : ℕ) → KnownValue b v → out-Value v ≡ Value-F.Obj y → IsObject b y
unfolding Rattle.cil_model.specs.declared.value.Value.out-Value denote.Hole.Carrier.out
object_there b (val.Obj x) y h e = let q : x ≡ y = cc e in subst (IsObject b) q h
object_there b _ y h e = absurd (cc e)

number_there : (b : ℕ) (v : Value) (y : ℕ) → KnownValue b v → number_of_object (out-Value v) ≡ Some y → IsObject b y
number_there b v y h e = by_out (out-Value v) refl e
  where
    by_out : (o : Value-F Value) → out-Value v ≡ o → number_of_object o ≡ Some y → IsObject b y
    by_out (Value-F.Obj x) s q = let z : x ≡ y = cc q in subst (IsObject b) z (object_there b v x h s)
    by_out _ s q = absurd (cc q)

-- ---- conditions

record ConditionKnown (b : ℕ) (x : Condition) : Type 0 where
  pub user : KnownValue b x.user
  pub rest : KnownValues b x.rest

from_known : (b : ℕ) (user : Value) (stack : List Value) (x : Condition) → KnownValue b user → KnownValues b stack → condition_from user stack ≡ Some x → ConditionKnown b x
from_known b user [] x ku ks e = absurd (cc e)
from_known b user (v ∷ rest) x ku ks e = by_stored (stored (Truncated B8 false) v) e
  where
    made_of : Value → Condition
    made_of y = record { holds = bool_in (out-Value y); user = user; rest = rest }

    by_stored : (o : Option Value) → option_map (λ y. made_of y) o ≡ Some x → ConditionKnown b x
    by_stored None q = absurd (cc q)
    by_stored (Some y) q = let z : made_of y ≡ x = cc q in subst (ConditionKnown b) z (record { user = ku; rest = ks.1 })

condition_known : (b : ℕ) (message : Bool) (stack : List Value) (x : Condition) → KnownValues b stack → condition_in message stack ≡ Some x → ConditionKnown b x
condition_known b true [] x ks e = absurd (cc e)
condition_known b true (v ∷ stack) x ks e = by_user (stored Reference v) refl e
  where
    by_user : (o : Option Value) → stored Reference v ≡ o → option_and_then (λ user. condition_from user stack) o ≡ Some x → ConditionKnown b x
    by_user None s q = absurd (cc q)
    by_user (Some user) s q = from_known b user stack x (stored_seen b Reference v user ks.0 s) ks.1 q
condition_known b false stack x ks e = from_known b Null stack x tt ks e

dropped_known : (b : ℕ) (message : Bool) (stack rest : List Value) → KnownValues b stack → dropped message stack ≡ Some rest → KnownValues b rest
dropped_known b true [] rest ks e = absurd (cc e)
dropped_known b true (v ∷ []) rest ks e = absurd (cc e)
dropped_known b true (v ∷ c ∷ more) rest ks e = let q : more ≡ rest = cc e in subst (KnownValues b) q ks.1.1
dropped_known b false [] rest ks e = absurd (cc e)
dropped_known b false (c ∷ more) rest ks e = let q : more ≡ rest = cc e in subst (KnownValues b) q ks.1

-- ---- failures

-- What follows a failure, by the frames that it began in: where the clause passes no object was made.
record SequelKnown (b : ℕ) (fs : List Frame) (s : Sequel) : Type 0 where
  pub passed : (w : World) → KnownWorld b w → Keeps (s.passes w)
  pub thrown : (c : ℕ) (w : World) (y : ℕ) → KnownFrames c fs → KnownWorld c w → IsObject c y → Keeps (s.throws w y)
  pub created : (c : ℕ) (w : World) (t : Ty) (m : ℕ) (values : List Value) → KnownFrames c fs → KnownValues c values → KnownWorld c w → Keeps (s.makes w t m values)
  pub stopped : (w : World) → Keeps (s.stops w)

constructor_values : (b : ℕ) (p : Program) (t : Ty) (home : ℕ) (text : Value) (c : ℕ × List Value) → KnownValue b text → own_constructor p t home text ≡ Some c → KnownValues b c.1
constructor_values b p t home text c kt e = by_both _ _ e
  where
    by_both : (o u : Option ℕ) → or_else (option_map (λ m. (m, text ∷ [])) o) (option_map (λ m. (m, [])) u) ≡ Some c → KnownValues b c.1
    by_both (Some m) u q = let z : (m, text ∷ []) ≡ c = cc q in subst (λ (y : ℕ × List Value). KnownValues b y.1) z (kt, tt)
    by_both None (Some m) q = let z : (m, []) ≡ c = cc q in subst (λ (y : ℕ × List Value). KnownValues b y.1) z tt
    by_both None None q = absurd (cc q)

module _ (p : Program) (g : AddedNumbers) (throwing : Bool) (x : Failure) (fs : List Frame) (s : Sequel) (b : ℕ) (h : SequelKnown b fs s) where
  thrown_made : (c : ℕ) (w : World) (v : Value) → KnownValue c v → KnownFrames c fs → KnownWorld c w → Keeps (throw_made p g throwing x s w (out-Value v))
  thrown_made c w v kv ks kw = by_out (out-Value v) refl
    where
      by_out : (o : Value-F Value) → out-Value v ≡ o → Keeps (throw_made p g throwing x s w o)
      by_out (Value-F.Obj y) e = h.thrown c w y ks kw (object_there c v y kv e)
      by_out _ e = h.stopped w

  behind_new : (a : Answer) → KnownFrames b fs → NewAnswered b a → Keeps (after_new p g throwing x s a)
  behind_new (Returned None gs w) ks ka = h.stopped w
  behind_new (Returned (Some v) gs w) ks ka = thrown_made ka.0 w v ka.1.0 (ka.1.3 fs ks) ka.1.2
  behind_new (Threw y gs w) ks ka = h.thrown ka.0 w y (ka.1.3 fs ks) ka.1.2 ka.1.0
  behind_new (Unfit w) ks ka = h.stopped w

  thrown_outside : (t : Ty) (text : Value) (w : World) → KnownFrames b fs → KnownWorld b w → Keeps (throw_outside p g throwing x s t text fs w)
  thrown_outside t text w ks kw =
      either_known (is_core_exception p t) (s.throws (with_object p (record { ty = t; cells = [] }) w) (next_object w)) (if is_named_type (out-Ty t) then after_new p g throwing x s (ask_new p t (constructor_member p g t) (text ∷ []) fs w) else s.stops w)
      (h.thrown (suc b) (with_object p (record { ty = t; cells = [] }) w) (next_object w) (grown_frames b fs ks) (object_added b p (record { ty = t; cells = [] }) w tt kw) (new_known b w kw))
      (either_known (is_named_type (out-Ty t)) (after_new p g throwing x s (ask_new p t (constructor_member p g t) (text ∷ []) fs w)) (s.stops w) (behind_new (ask_new p t (constructor_member p g t) (text ∷ []) fs w) ks (asks_new p b t (constructor_member p g t) (text ∷ []) fs w ks kw)) (h.stopped w))

  thrown_exception : (t : Ty) (text : Value) (w : World) → KnownValue b text → KnownFrames b fs → KnownWorld b w → Keeps (throw_exception p g throwing x s t text fs w)
  thrown_exception t text w kt ks kw = by_set (in_set (out-Ty t))
    where
      by_constructor : (o : Option (ℕ × List Value)) → own_constructor p t x.home text ≡ o → Keeps (maybe (s.stops w) (λ (c : ℕ × List Value). s.makes w t c.0 c.1) o)
      by_constructor None e = h.stopped w
      by_constructor (Some c) e = h.created b w t c.0 c.1 ks (constructor_values b p t x.home text c kt e) kw

      by_set : (o : Option (ℕ × List Ty)) → Keeps (maybe (throw_outside p g throwing x s t text fs w) (λ (d : ℕ × List Ty). maybe (s.stops w) (λ (c : ℕ × List Value). s.makes w t c.0 c.1) (own_constructor p t x.home text)) o)
      by_set None = thrown_outside t text w ks kw
      by_set (Some d) = by_constructor (own_constructor p t x.home text) refl

  triggers_known : (a : Answer) → KnownFrames b fs → AnswerKnown b a → Keeps (triggered p g throwing x s a)
  triggers_known (Returned v gs w) ks ka = h.passed w ka.2
  triggers_known (Threw y gs w) ks ka = h.thrown (suc b) w y (grown_frames b fs ks) ka.2 ka.0
  triggers_known (Unfit w) ks ka = h.stopped w

  -- a failure of any kind but Requires<E>
  fails_otherwise : (text : Value) (w : World) → KnownValue b x.user → KnownFrames b fs → KnownWorld b w
      → Keeps (if throwing then s.throws (with_object p (contract_failure g x) w) (next_object w) else triggered p g throwing x s (ask p (trigger_member g) (number_value x ∷ text ∷ x.user ∷ label_text x ∷ Null ∷ []) fs w))
  fails_otherwise text w ku ks kw =
      either_known throwing (s.throws (with_object p (contract_failure g x) w) (next_object w)) (triggered p g throwing x s (ask p (trigger_member g) (number_value x ∷ text ∷ x.user ∷ label_text x ∷ Null ∷ []) fs w))
      (h.thrown (suc b) (with_object p (contract_failure g x) w) (next_object w) (grown_frames b fs ks) (object_added b p (contract_failure g x) w (tt, (grown_value b x.user ku, (tt, tt))) kw) (new_known b w kw))
      (triggers_known (ask p (trigger_member g) (number_value x ∷ text ∷ x.user ∷ label_text x ∷ Null ∷ []) fs w) ks (asks p b (trigger_member g) (number_value x ∷ text ∷ x.user ∷ label_text x ∷ Null ∷ []) fs w tt ks kw))

  fails_as : (c : ClauseKind) (text : Value) (w : World) → KnownValue b x.user → KnownValue b text → KnownFrames b fs → KnownWorld b w → Keeps (fail_with p g throwing x s c text fs w)
  fails_as kind.RequiresOf text w ku kt ks kw = by_type (made_type x)
    where
      by_type : (o : Option Ty) → Keeps (maybe (s.stops w) (λ t. throw_exception p g throwing x s t text fs w) o)
      by_type None = h.stopped w
      by_type (Some t) = thrown_exception t text w kt ks kw
  fails_as kind.Requires text w ku kt ks kw = fails_otherwise text w ku ks kw
  fails_as kind.Ensures text w ku kt ks kw = fails_otherwise text w ku ks kw
  fails_as kind.Throws text w ku kt ks kw = fails_otherwise text w ku ks kw
  fails_as kind.Invariant text w ku kt ks kw = fails_otherwise text w ku ks kw
  fails_as kind.Assert text w ku kt ks kw = fails_otherwise text w ku ks kw
  fails_as kind.Assume text w ku kt ks kw = fails_otherwise text w ku ks kw

  replies_known : (v : Value) (w : World) → KnownValue b x.user → KnownValue b v → KnownFrames b fs → KnownWorld b w → Keeps (replied p g throwing x s (out-Value v) fs w)
  replies_known v w ku kv ks kw = by_out (out-Value v) refl
    where
      by_out : (o : Value-F Value) → out-Value v ≡ o → Keeps (replied p g throwing x s o fs w)
      by_out Value-F.Null e = h.passed w kw
      by_out (Value-F.Text units) e = fails_as x.kind (Text units) w ku tt ks kw
      by_out (Value-F.Obj y) e = fails_as x.kind (Obj y) w ku (object_there b v y kv e) ks kw
      by_out _ e = h.stopped w

  reports_known : (a : Answer) → KnownValue b x.user → KnownFrames b fs → AnswerKnown b a → Keeps (reported p g throwing x s fs a)
  reports_known (Returned None gs w) ku ks ka = h.stopped w
  reports_known (Returned (Some v) gs w) ku ks ka = replies_known v w ku ka.0 ks ka.2
  reports_known (Threw y gs w) ku ks ka = h.thrown (suc b) w y (grown_frames b fs ks) ka.2 ka.0
  reports_known (Unfit w) ku ks ka = h.stopped w

  fails_known : (w : World) → KnownValue b x.user → KnownFrames b fs → KnownWorld b w → Keeps (failing p g throwing x s fs w)
  unfolding failing
  fails_known w ku ks kw =
      reports_known (ask p (event_member g (label_text x)) (number_value x ∷ x.user ∷ label_text x ∷ Null ∷ []) fs w) ku ks (asks p b (event_member g (label_text x)) (number_value x ∷ x.user ∷ label_text x ∷ Null ∷ []) fs w tt ks kw)

-- ---- in a call with contracts

module _ (p : Program) (k : Contracts) where
  throws_made_new : UseKnown (throws_new p k)
  throws_made_new =
      record {
        at_once = λ b v fs w kv ks kw. there_known (number_of_object (out-Value v)) w (λ x. unwind p k false fs w x) (λ x e. unwinds_known p k fs b false w x ks kw (number_there b v x kv e));
        waits = λ b v kv. waiting b v kv;
      }
    where
      waiting : (b : ℕ) (v : Value) → KnownValue b v → KnownContinuation b (maybe Push ThrowObject (number_of_object (out-Value v)))
      waiting b v kv = by_number (number_of_object (out-Value v)) refl
        where
          by_number : (o : Option ℕ) → number_of_object (out-Value v) ≡ o → KnownContinuation b (maybe Push ThrowObject o)
          by_number None e = tt
          by_number (Some y) e = number_there b v y kv e

  goes_so : (b : ℕ) (fs : List Frame) (passes : World → Next) → ((w : World) → KnownWorld b w → Keeps (passes w)) → SequelKnown b fs (goes_on_from p k fs passes)
  goes_so b fs passes h =
      record {
        passed = h;
        thrown = λ c w y ks kw there. unwinds_known p k fs c false w y ks kw there;
        created = λ c w t m values ks kv kw. makes_known p k (throws_new p k) throws_made_new c t m values fs w kv ks kw;
        stopped = λ w. tt;
      }

  checks_known : (g : AddedNumbers) (b : ℕ) (x : Failure) (holds : Bool) (fs : List Frame) (w : World) (passes : World → Next) → KnownValue b x.user → KnownFrames b fs → KnownWorld b w → ((u : World) → KnownWorld b u → Keeps (passes u)) → Keeps (check p k g x holds fs w passes)
  checks_known g b x holds fs w passes ku ks kw h = either_known holds (passes w) (fail p k g x fs w passes) (h w kw) (fails_known p g k.settings.throwing x fs (goes_on_from p k fs passes) b (goes_so b fs passes h) w ku ks kw)

  pub inline_known : (g : AddedNumbers) (b : ℕ) (plan : Plan) (c : ClauseKind) (home : ℕ) (label : Name) (i : Instr) (f : Frame) (fs : List Frame) (w : World) → KnownFrame b f → KnownFrames b fs → KnownWorld b w → Keeps (check_inline p k g plan c home label i f fs w)
  inline_known g b plan c home label i f fs w kf ks kw =
      either_known (rank plan.settings.level == 4)
      (if_there (condition_in (has_message p i) f.local.stack) w (λ (x : Condition). check p k g (failure x) x.holds (record f { local = with_stack f.local x.rest } ∷ fs) w (λ v. go_on p k f (with_stack f.local x.rest) fs v)))
      (if_there (dropped (has_message p i) f.local.stack) w (λ rest. go_on p k f (with_stack f.local rest) fs w))
      (there_known (condition_in (has_message p i) f.local.stack) w (λ (x : Condition). check p k g (failure x) x.holds (record f { local = with_stack f.local x.rest } ∷ fs) w (λ v. go_on p k f (with_stack f.local x.rest) fs v))
      (λ x e. let known : ConditionKnown b x = condition_known b (has_message p i) f.local.stack x (kf.local).stack e in
      checks_known g b (failure x) x.holds (record f { local = with_stack f.local x.rest } ∷ fs) w (λ v. go_on p k f (with_stack f.local x.rest) fs v) known.user (with_locals b f (with_stack f.local x.rest) (restacked b f.local x.rest kf.local known.rest) kf, ks) kw
      (λ u ku. goes_on p k b f (with_stack f.local x.rest) fs u (restacked b f.local x.rest kf.local known.rest) kf ks ku)))
      (there_known (dropped (has_message p i) f.local.stack) w (λ rest. go_on p k f (with_stack f.local rest) fs w)
      (λ rest e. goes_on p k b f (with_stack f.local rest) fs w (restacked b f.local rest kf.local (dropped_known b (has_message p i) f.local.stack rest (kf.local).stack e)) kf ks kw))
    where
      failure : Condition → Failure
      failure x = record { kind = c; exception = None; home = home; user = x.user; label = label }

  pub clause_ends : (g : AddedNumbers) (b : ℕ) (plan : Plan) (gr : Group) (n : ℕ) (x : Piece) (i : Instr) (f : Frame) (fs : List Frame) (w : World) → KnownFrame b f → KnownFrames b fs → KnownWorld b w → Keeps (end_clause p k g plan gr n x i f fs w)
  clause_ends g b plan gr n x i f fs w kf ks kw =
      there_known (condition_in (has_message p i) f.local.stack) w (λ (c : Condition). check p k g (failure c) c.holds (record f { local = with_stack f.local c.rest } ∷ fs) w (λ v. piece_over p k plan gr n (record f { local = with_stack f.local c.rest }) fs v))
      (λ c e. let known : ConditionKnown b c = condition_known b (has_message p i) f.local.stack c (kf.local).stack e in
      checks_known g b (failure c) c.holds (record f { local = with_stack f.local c.rest } ∷ fs) w (λ v. piece_over p k plan gr n (record f { local = with_stack f.local c.rest }) fs v) known.user (with_locals b f (with_stack f.local c.rest) (restacked b f.local c.rest kf.local known.rest) kf, ks) kw
      (λ u ku. piece_ends p k b plan gr n (record f { local = with_stack f.local c.rest }) fs u (with_locals b f (with_stack f.local c.rest) (restacked b f.local c.rest kf.local known.rest) kf) ks ku))
    where
      failure : Condition → Failure
      failure c = record { kind = x.clause.kind; exception = option_and_then (ref_type p (here_of f fs)) x.clause.exception; home = x.clause.home; user = c.user; label = x.clause.label }

  set_known : (b : ℕ) (v : Value) (c x : Cell) → KnownValue b v → set_cell p v c ≡ Some x → KnownValue b x.value
  set_known b v c x kv e = by_stored (stored_in p c.ty v) refl e
    where
      with_value : Value → Cell
      with_value y = record { ty = c.ty; value = y }

      by_stored : (o : Option Value) → stored_in p c.ty v ≡ o → option_map (λ y. with_value y) o ≡ Some x → KnownValue b x.value
      by_stored None s q = absurd (cc q)
      by_stored (Some y) s q = let z : with_value y ≡ x = cc q in subst (λ (d : Cell). KnownValue b d.value) z (kept_fine b p c.ty v y kv s)

  pub captures_known : (b : ℕ) (plan : Plan) (gr : Group) (n c : ℕ) (f : Frame) (stack : List Value) (fs : List Frame) (w : World) → KnownValues b stack → KnownFrame b f → KnownFrames b fs → KnownWorld b w → Keeps (capture p k plan gr n c f stack fs w)
  captures_known b plan gr n c f [] fs w kv kf ks kw = tt
  captures_known b plan gr n c f (v ∷ rest) fs w kv kf ks kw = by_cell (slice_get f.local.captured c) refl
    where
      next : Cell → Next
      next x = piece_over p k plan gr n (record f { local = record f.local { captured = slice_set f.local.captured c x; stack = rest } }) fs w

      goes : (x : Cell) → KnownValue b x.value → Keeps (next x)
      goes x kx =
          piece_ends p k b plan gr n (record f { local = record f.local { captured = slice_set f.local.captured c x; stack = rest } }) fs w
          (with_locals b f (record f.local { captured = slice_set f.local.captured c x; stack = rest }) (record { args = (kf.local).args; locals = (kf.local).locals; captured = cells_set b f.local.captured c x (kf.local).captured kx; result = (kf.local).result; stack = kv.1 }) kf) ks kw

      by_cell : (o : Option Cell) → slice_get f.local.captured c ≡ o → Keeps (if_there (option_and_then (set_cell p v) o) w next)
      by_cell None e = tt
      by_cell (Some d) e = there_known (set_cell p v d) w next (λ x q. goes x (set_known b v d x kv.0 q))
