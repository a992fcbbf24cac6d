-- Calls of members that are settled, virtual calls and `ldvirtftn`: references stay.
use Rattle.std.proofs.Common.{◌≡◌, ℕ, suc, Bool, true, false, List, [], ◌∷◌, ◌++◌, length, Option, Some, None, subst}
use Rattle.std.specs.Prelude.{if◌then◌else◌, option_map, option_and_then, is_some, pos, codes}
use Rattle.cil_model.specs.declared.ty.Ty.{Ty}
use Rattle.cil_model.specs.declared.value.Value.{Value, out-Value, Obj, I4, Text, Ptr}
use Rattle.cil_model.specs.declared.value.Pointer.{Pointer}
use Rattle.cil_model.specs.declared.contract.Contracts.{Contracts}
use Rattle.cil_model.specs.declared.program.Program.{Program}
use Rattle.cil_semantics.specs.Words.{maybe}
use Rattle.cil_semantics.specs.Core.{Name, class_named}
use Rattle.cil_semantics.specs.Lookups.{method_of}
use Rattle.cil_semantics.specs.Dispatch.{Seen}
use Rattle.cil_semantics.specs.Numbers.{truncated}
use Rattle.cil_semantics.specs.Places.{storage, is_reference, new_cell}
use Rattle.cil_semantics.specs.declared.state.Object.{Object}
use Rattle.cil_semantics.specs.declared.state.World.{World}
use Rattle.cil_semantics.specs.declared.state.Frame.{Frame}
use Rattle.cil_semantics.specs.declared.state.Remaining.TheVariants.{Range, Elements}
use Rattle.cil_semantics.specs.declared.state.Continuation.TheVariants.{Push}
use Rattle.cil_semantics.specs.State.{Next, with_object, next_object}
use Rattle.cil_semantics.specs.Acts.{Call, dynamic_type, is_null, flag}
use Rattle.cil_semantics.specs.Unwind.{raise}
use Rattle.cil_semantics.specs.Frames.{stuck, if_there, read, this_value, gives_value, enter, enter_delegate, next_try}
use Rattle.cil_semantics.specs.Outside.{is_outside}
use Rattle.cil_semantics.specs.Returns.{push_below, try_next}
use Rattle.cil_semantics.specs.Calls.{CoreMember, Constructor, Equality, Concatenation, TextLength, IsNullOrEmpty, Quantifier, NotCore, core_of, Texted, NullText, SomeText, NotText, texted, same_text, units_of, joined, is_empty_text, wanted_flag, string_answer, count_units, outside_call, number_in, array_in, quantify, plain_call, first_texted, call_core, call_member, body_seen, gives_alike, call_unfound, call_found, is_invoke, call_on, pointed, own_body, call_boxed, call_struct, call_constrained, call_virtual_on, call_virtual, function_of, find_virtual_on}
use Rattle.object_validity.specs.Known.{KnownValue, KnownValues, KnownWorld, KnownFrames, KeepsReferences}
use Rattle.object_validity.proofs.StoredLaws.{read_fine, boxed_fine}
use Rattle.object_validity.proofs.GrowthLaws.{grown_value, grown_values, grown_frames, object_added, new_known}
use Rattle.object_validity.proofs.MoveLaws.{unwinds_known}
use Rattle.object_validity.proofs.PlaceStepLaws.{there_known, either_known, enters_known}
use Rattle.object_validity.proofs.ReturnLaws.{pushes_known, tries_known, enters_delegate, next_known, this_known}
use Rattle.object_validity.proofs.OutsideLaws.{outside}

abbrev Keeps : Next → Type 0
Keeps x = KeepsReferences x

module _ (b : ℕ) where
  -- ---- what the core members on texts answer

  wanted_known : (wanted c : Bool) → KnownValue b (wanted_flag wanted c)
  wanted_known true c = tt
  wanted_known false c = tt

  compared_known : (wanted : Bool) (o : Option Bool) (v : Value) → option_map (wanted_flag wanted) o ≡ Some v → KnownValue b v
  compared_known wanted None v e = absurd (cc e)
  compared_known wanted (Some c) v e = let q : wanted_flag wanted c ≡ v = cc e in subst (KnownValue b) q (wanted_known wanted c)

  joined_known : (o u : Option (List ℕ)) (v : Value) → joined o u ≡ Some v → KnownValue b v
  joined_known None u v e = absurd (cc e)
  joined_known (Some x) None v e = absurd (cc e)
  joined_known (Some x) (Some y) v e = let q : Text (x ++ y) ≡ v = cc e in subst (KnownValue b) q tt

  empty_known : (t : Texted) (v : Value) → is_empty_text t ≡ Some v → KnownValue b v
  empty_known NullText v e = let q : flag true ≡ v = cc e in subst (KnownValue b) q tt
  empty_known (SomeText x) v e = let q : flag (Rattle.std.specs.Prelude.◌==◌ (length x) 0) ≡ v = cc e in subst (KnownValue b) q tt
  empty_known NotText v e = absurd (cc e)

  answer_known : (c : CoreMember) (values : List Value) (v : Value) → string_answer c values ≡ Some v → KnownValue b v
  answer_known (Equality wanted) (x ∷ y ∷ []) v e = compared_known wanted (same_text (texted x) (texted y)) v e
  answer_known (Equality wanted) [] v e = absurd (cc e)
  answer_known (Equality wanted) (x ∷ []) v e = absurd (cc e)
  answer_known (Equality wanted) (x ∷ y ∷ z ∷ r) v e = absurd (cc e)
  answer_known Concatenation (x ∷ y ∷ []) v e = joined_known (units_of (texted x)) (units_of (texted y)) v e
  answer_known Concatenation [] v e = absurd (cc e)
  answer_known Concatenation (x ∷ []) v e = absurd (cc e)
  answer_known Concatenation (x ∷ y ∷ z ∷ r) v e = absurd (cc e)
  answer_known IsNullOrEmpty (x ∷ []) v e = empty_known (texted x) v e
  answer_known IsNullOrEmpty [] v e = absurd (cc e)
  answer_known IsNullOrEmpty (x ∷ y ∷ r) v e = absurd (cc e)
  answer_known Constructor values v e = absurd (cc e)
  answer_known TextLength values v e = absurd (cc e)
  answer_known (Quantifier exists) values v e = absurd (cc e)
  answer_known NotCore values v e = absurd (cc e)

module _ (p : Program) (k : Contracts) where
  -- a new exception of a core class
  pub raises_known : (b : ℕ) (name : Name) (fs : List Frame) (w : World) → KnownFrames b fs → KnownWorld b w → Keeps (raise p k name fs w)
  raises_known b name fs w ks kw =
      let o : Object = record { ty = class_named name; cells = [] } in
      unwinds_known p k fs (suc b) false (with_object p o w) (next_object w) (grown_frames b fs ks) (object_added b p o w tt kw) (new_known b w kw)

  -- ---- a member that is settled

  quantifies_known : (b : ℕ) (exists : Bool) (values : List Value) (fs : List Frame) (w : World) (other : Next) → KnownValues b values → KnownFrames b fs → KnownWorld b w → Keeps other → Keeps (quantify p k exists values fs w other)
  quantifies_known b exists [] fs w other kv ks kw h = tt
  quantifies_known b exists (x ∷ []) fs w other kv ks kw h = tt
  quantifies_known b exists (items ∷ target ∷ []) fs w other kv ks kw h = by_array (array_in w (out-Value items))
    where
      by_array : (o : Option ℕ) → Keeps (maybe other (λ x. try_next p k exists target (next_try w (Elements x 0)) fs w) o)
      by_array None = h
      by_array (Some x) = tries_known p k b exists target (next_try w (Elements x 0)) fs w (next_known b w (Elements x 0) kw) kv.1.0 ks kw
  quantifies_known b exists (from ∷ to ∷ target ∷ []) fs w other kv ks kw h =
      there_known (option_and_then (λ a. option_map (λ z. Range a z) (number_in (out-Value to))) (number_in (out-Value from))) w (λ left. try_next p k exists target (next_try w left) fs w)
      (λ left e. tries_known p k b exists target (next_try w left) fs w (next_known b w left kw) kv.1.1.0 ks kw)
  quantifies_known b exists (x ∷ y ∷ z ∷ u ∷ r) fs w other kv ks kw h = tt

  pub called_plainly : (b : ℕ) (owner : Ty) (m : ℕ) (args : List Ty) (values : List Value) (fs : List Frame) (w : World) → KnownValues b values → KnownFrames b fs → KnownWorld b w → Keeps (plain_call p k owner m args values fs w)
  called_plainly b owner m args values fs w kv ks kw =
      either_known (is_outside p m) (outside_call p k owner m args values fs w) (if is_some (method_of p m).body then enter p k owner m args values Push fs w else stuck w) (outside p b k owner m args values fs w kv ks kw)
      (either_known (is_some (method_of p m).body) (enter p k owner m args values Push fs w) (stuck w) (enters_known p k b owner m args values Push fs w kv tt ks kw) tt)

  text_answered : (b : ℕ) (c : CoreMember) (values : List Value) (fs : List Frame) (w : World) → KnownFrames b fs → KnownWorld b w → Keeps (if_there (string_answer c values) w (λ v. push_below p k (Some v) fs w))
  text_answered b c values fs w ks kw = there_known (string_answer c values) w (λ v. push_below p k (Some v) fs w) (λ v e. pushes_known p k b (Some v) fs w (answer_known b c values v e) ks kw)

  counts_known : (b : ℕ) (t : Texted) (fs : List Frame) (w : World) → KnownFrames b fs → KnownWorld b w → Keeps (count_units p k t fs w)
  counts_known b NullText fs w ks kw = raises_known b (codes "System.NullReferenceException") fs w ks kw
  counts_known b (SomeText x) fs w ks kw = pushes_known p k b (Some (I4 (truncated 32 true (pos (length x))))) fs w tt ks kw
  counts_known b NotText fs w ks kw = tt

  core_known : (b : ℕ) (c : CoreMember) (owner : Ty) (m : ℕ) (args : List Ty) (values : List Value) (fs : List Frame) (w : World) → KnownValues b values → KnownFrames b fs → KnownWorld b w → Keeps (call_core p k c owner m args values fs w)
  core_known b Constructor owner m args values fs w kv ks kw = pushes_known p k b None fs w tt ks kw
  core_known b (Equality wanted) owner m args values fs w kv ks kw = text_answered b (Equality wanted) values fs w ks kw
  core_known b Concatenation owner m args values fs w kv ks kw = text_answered b Concatenation values fs w ks kw
  core_known b TextLength owner m args values fs w kv ks kw = counts_known b (first_texted values) fs w ks kw
  core_known b IsNullOrEmpty owner m args values fs w kv ks kw = text_answered b IsNullOrEmpty values fs w ks kw
  core_known b (Quantifier exists) owner m args values fs w kv ks kw = quantifies_known b exists values fs w (plain_call p k owner m args values fs w) kv ks kw (called_plainly b owner m args values fs w kv ks kw)
  core_known b NotCore owner m args values fs w kv ks kw = called_plainly b owner m args values fs w kv ks kw

  pub calls_known : (b : ℕ) (owner : Ty) (m : ℕ) (args : List Ty) (values : List Value) (fs : List Frame) (w : World) → KnownValues b values → KnownFrames b fs → KnownWorld b w → Keeps (call_member p k owner m args values fs w)
  unfolding call_member
  calls_known b owner m args values fs w kv ks kw = core_known b (core_of p owner m) owner m args values fs w kv ks kw

  -- ---- virtual calls

  unfound_known : (b : ℕ) (core : CoreMember) (c : Call) (fs : List Frame) (w : World) → KnownValues b c.values → KnownFrames b fs → KnownWorld b w → Keeps (call_unfound p k core c fs w)
  unfound_known b NotCore c fs w kv ks kw =
      either_known (is_outside p c.method) (outside_call p k c.owner c.method c.method_args c.values fs w) (stuck w) (outside p b k c.owner c.method c.method_args c.values fs w kv ks kw) tt
  unfound_known b Constructor c fs w kv ks kw = core_known b Constructor c.owner c.method c.method_args c.values fs w kv ks kw
  unfound_known b (Equality wanted) c fs w kv ks kw = core_known b (Equality wanted) c.owner c.method c.method_args c.values fs w kv ks kw
  unfound_known b Concatenation c fs w kv ks kw = core_known b Concatenation c.owner c.method c.method_args c.values fs w kv ks kw
  unfound_known b TextLength c fs w kv ks kw = core_known b TextLength c.owner c.method c.method_args c.values fs w kv ks kw
  unfound_known b IsNullOrEmpty c fs w kv ks kw = core_known b IsNullOrEmpty c.owner c.method c.method_args c.values fs w kv ks kw
  unfound_known b (Quantifier exists) c fs w kv ks kw = core_known b (Quantifier exists) c.owner c.method c.method_args c.values fs w kv ks kw

  found_known : (b : ℕ) (o : Option Seen) (t : Ty) (c : Call) (this : Value) (values : List Value) (fs : List Frame) (w : World) → KnownValues b c.values → KnownValue b this → KnownValues b values → KnownFrames b fs → KnownWorld b w → Keeps (call_found p k o t c this values fs w)
  found_known b None t c this values fs w kc kt kv ks kw = unfound_known b (core_of p c.owner c.method) c fs w kc ks kw
  found_known b (Some s) t c this values fs w kc kt kv ks kw =
      either_known (gives_alike p c s) (plain_call p k s.0 s.1 c.method_args (this_value p t (out-Value this) this ∷ values) fs w) (stuck w) (called_plainly b s.0 s.1 c.method_args (this_value p t (out-Value this) this ∷ values) fs w (this_known b p t this kt, kv) ks kw) tt

  virtually_known : (b : ℕ) (c : Call) (this : Value) (values : List Value) (fs : List Frame) (w : World) → KnownValues b c.values → KnownValue b this → KnownValues b values → KnownFrames b fs → KnownWorld b w → Keeps (call_on p k c this values fs w)
  virtually_known b c this values fs w kc kt kv ks kw =
      either_known (is_null this) (raise p k (codes "System.NullReferenceException") fs w)
      (if is_invoke p w c this then enter_delegate p k (gives_value p c.owner c.method c.method_args) (out-Value this) values Push fs w
      else if_there (dynamic_type w this) w (λ t. call_found p k (body_seen p t (c.owner, c.method)) t c this values fs w))
      (raises_known b (codes "System.NullReferenceException") fs w ks kw)
      (either_known (is_invoke p w c this) (enter_delegate p k (gives_value p c.owner c.method c.method_args) (out-Value this) values Push fs w) (if_there (dynamic_type w this) w (λ t. call_found p k (body_seen p t (c.owner, c.method)) t c this values fs w))
      (enters_delegate p k b (gives_value p c.owner c.method c.method_args) (out-Value this) values Push fs w kv tt ks kw)
      (there_known (dynamic_type w this) w (λ t. call_found p k (body_seen p t (c.owner, c.method)) t c this values fs w) (λ t e. found_known b (body_seen p t (c.owner, c.method)) t c this values fs w kc kt kv ks kw)))

  boxed_known : (b : ℕ) (t : Ty) (v : Value) (c : Call) (values : List Value) (fs : List Frame) (w : World) → KnownValue b v → KnownValues b values → KnownFrames b fs → KnownWorld b w → Keeps (call_boxed p k t v c values fs w)
  boxed_known b t v c values fs w kv kvs ks kw =
      there_known (new_cell p t v) w (λ cell. call_on p k (record c { values = Obj (next_object w) ∷ values }) (Obj (next_object w)) values fs (with_object p (record { ty = t; cells = cell ∷ [] }) w))
      (λ cell e. virtually_known (suc b) (record c { values = Obj (next_object w) ∷ values }) (Obj (next_object w)) values fs (with_object p (record { ty = t; cells = cell ∷ [] }) w) (new_known b w kw, grown_values b values kvs) (new_known b w kw) (grown_values b values kvs) (grown_frames b fs ks)
      (object_added b p (record { ty = t; cells = cell ∷ [] }) w (grown_value b cell.value (boxed_fine b p t v cell kv e), tt) kw))

  struct_known : (b : ℕ) (o : Option Seen) (t : Ty) (q : Pointer) (c : Call) (values : List Value) (fs : List Frame) (w : World) → KnownValues b values → KnownFrames b fs → KnownWorld b w → Keeps (call_struct p k o t q c values fs w)
  struct_known b (Some s) t q c values fs w kv ks kw = either_known (gives_alike p c s) (plain_call p k s.0 s.1 c.method_args (Ptr q ∷ values) fs w) (stuck w) (called_plainly b s.0 s.1 c.method_args (Ptr q ∷ values) fs w (tt, kv) ks kw) tt
  struct_known b None t q c values fs w kv ks kw = there_known (read p fs w q) w (λ v. call_boxed p k t v c values fs w) (λ v e. boxed_known b t v c values fs w (read_fine b p fs w q v ks kw e) kv ks kw)

  constrained_known : (b : ℕ) (o : Option Ty) (c : Call) (this : Value) (values : List Value) (fs : List Frame) (w : World) → KnownValues b c.values → KnownValue b this → KnownValues b values → KnownFrames b fs → KnownWorld b w → Keeps (call_constrained p k o c this values fs w)
  constrained_known b None c this values fs w kc kt kv ks kw = virtually_known b c this values fs w kc kt kv ks kw
  constrained_known b (Some t) c this values fs w kc kt kv ks kw =
      there_known (pointed (out-Value this)) w
      (λ q. if is_reference (storage p t) then if_there (read p fs w q) w (λ v. call_on p k (record c { values = v ∷ values }) v values fs w) else call_struct p k (own_body p t (c.owner, c.method)) t q c values fs w)
      (λ q e. either_known (is_reference (storage p t)) (if_there (read p fs w q) w (λ v. call_on p k (record c { values = v ∷ values }) v values fs w)) (call_struct p k (own_body p t (c.owner, c.method)) t q c values fs w)
      (there_known (read p fs w q) w (λ v. call_on p k (record c { values = v ∷ values }) v values fs w) (λ v s. let kr = read_fine b p fs w q v ks kw s in virtually_known b (record c { values = v ∷ values }) v values fs w (kr, kv) kr kv ks kw))
      (struct_known b (own_body p t (c.owner, c.method)) t q c values fs w kv ks kw))

  on_values : (b : ℕ) (c : Call) (values : List Value) (fs : List Frame) (w : World) → KnownValues b c.values → KnownValues b values → KnownFrames b fs → KnownWorld b w → Keeps (call_virtual_on p k c values fs w)
  on_values b c [] fs w kc kv ks kw = tt
  on_values b c (this ∷ values) fs w kc kv ks kw = constrained_known b c.constrained c this values fs w kc kv.0 kv.1 ks kw

  pub virtual_known : (b : ℕ) (c : Call) (fs : List Frame) (w : World) → KnownValues b c.values → KnownFrames b fs → KnownWorld b w → Keeps (call_virtual p k c fs w)
  unfolding call_virtual
  virtual_known b c fs w kc ks kw = either_known (method_of p c.method).is_static (stuck w) (call_virtual_on p k c c.values fs w) tt (on_values b c c.values fs w kc kc ks kw)

  -- ---- ldvirtftn

  function_known : (b : ℕ) (c : Call) (o : Option Seen) → KnownValue b (function_of p c o)
  function_known b c None = tt
  function_known b c (Some s) = tt

  pub looks_up : (b : ℕ) (c : Call) (values : List Value) (fs : List Frame) (w : World) → KnownFrames b fs → KnownWorld b w → Keeps (find_virtual_on p k c values fs w)
  looks_up b c [] fs w ks kw = tt
  looks_up b c (this ∷ values) fs w ks kw =
      either_known (is_null this) (raise p k (codes "System.NullReferenceException") fs w) (if_there (dynamic_type w this) w (λ t. push_below p k (Some (function_of p c (body_seen p t (c.owner, c.method)))) fs w)) (raises_known b (codes "System.NullReferenceException") fs w ks kw)
      (there_known (dynamic_type w this) w (λ t. push_below p k (Some (function_of p c (body_seen p t (c.owner, c.method)))) fs w)
      (λ t e. pushes_known p k b (Some (function_of p c (body_seen p t (c.owner, c.method)))) fs w (function_known b c (body_seen p t (c.owner, c.method))) ks kw))
