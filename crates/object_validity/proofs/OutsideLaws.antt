-- A call outside, and a call of a settled member: references stay.
use Rattle.std.proofs.Common.{◌≡◌, ℕ, suc, Bool, true, false, List, [], ◌∷◌, Option, Some, None, refl, subst}
use Rattle.std.specs.Prelude.{if◌then◌else◌, map, option_and_then, slice_get, codes}
use Rattle.cil_model.specs.declared.ty.Ty.{Ty}
use Rattle.cil_model.specs.declared.value.Value.{Value, out-Value}
use Rattle.cil_model.specs.declared.value.Pointer.{Pointer}
use Rattle.cil_model.specs.declared.run.ReplyResult.{ReplyResult}
use Rattle.cil_model.specs.declared.run.ReplyResult.TheVariants as reply
use Rattle.cil_model.specs.declared.contract.Contracts.{Contracts}
use Rattle.cil_model.specs.declared.program.Program.{Program}
use Rattle.cil_semantics.specs.Words.{maybe}
use Rattle.cil_semantics.specs.Types.{under}
use Rattle.cil_semantics.specs.Core.{Name, class_named}
use Rattle.cil_semantics.specs.Lookups.{is_sub, method_of, args_of}
use Rattle.cil_semantics.specs.Places.{storage, is_void, stored_in, default_value}
use Rattle.cil_semantics.specs.declared.state.Cell.{Cell}
use Rattle.cil_semantics.specs.declared.state.World.{World}
use Rattle.cil_semantics.specs.declared.state.Frame.{Frame}
use Rattle.cil_semantics.specs.State.{next_object, with_object}
use Rattle.cil_semantics.specs.Frames.{write, stored_args}
use Rattle.cil_semantics.specs.Outside.{fits, pointer_in, by_ref_args, stored_back, Answer, Returned, Threw, Unfit, next_reply, Member, given, recorded, unfit, thrown_out, result_of, answered, ask, default_reply, member_of}
use Rattle.cil_semantics.specs.Calls.{on_answer, is_event, with_default, outside_call}
use Rattle.object_validity.specs.Known.{KnownValue, KnownValues, KnownIf, KnownWorld, KnownFrames, KeepsReferences}
use Rattle.object_validity.proofs.StoredLaws.{stored_fine, default_fine, get_fine}
use Rattle.object_validity.proofs.GrowthLaws.{grown_frames, object_added, new_known}
use Rattle.object_validity.proofs.WriteLaws.{Left, write_known}
use Rattle.object_validity.proofs.FitsLaws.{fits_fine}
use Rattle.object_validity.proofs.MoveLaws.{unwinds_known}
use Rattle.object_validity.proofs.ReturnLaws.{pushes_known}
use Rattle.object_validity.specs.Steps.{AnswerKnown, AsksKnown, OutsideKnown}

abbrev pub values_of : List Cell → List Value
values_of cells = map (λ (c : Cell). c.value) cells

module _ (p : Program) (b : ℕ) where
  abbrev More : List (Ty × Value) → List Value → List Frame × World → Type 0
  More args vs x = (y : List Frame × World) → KnownFrames b y.0 → KnownWorld b y.1 → stored_back p args vs y.0 y.1 ≡ Some x → Left b p x

  pub stores_back : (args : List (Ty × Value)) (vs : List Value) (fs : List Frame) (w : World) (x : List Frame × World) → KnownFrames b fs → KnownWorld b w → stored_back p args vs fs w ≡ Some x → Left b p x
  stores_back args [] fs w x ks kw e = let z : (fs, w) ≡ x = cc e in subst (Left b p) z (record { frames = ks; world = kw })
  stores_back [] (v ∷ vs) fs w x ks kw e = absurd (cc e)
  stores_back (a ∷ args) (v ∷ vs) fs w x ks kw e = by_fit (λ y kf ky q. stores_back args vs y.0 y.1 x kf ky q) (fits p w a.0 v) refl e
    where
      by_write : More args vs x → (q : Pointer) → KnownValue b v → (o : Option (List Frame × World)) → write p fs w q v ≡ o → option_and_then (λ (y : List Frame × World). stored_back p args vs y.0 y.1) o ≡ Some x → Left b p x
      by_write more q kv None s z = absurd (cc z)
      by_write more q kv (Some y) s z = let left : Left b p y = write_known b p fs w q v y ks kw kv s in more y left.frames left.world z

      by_pointer : More args vs x → KnownValue b v → (o : Option Pointer) → option_and_then (λ (y : List Frame × World). stored_back p args vs y.0 y.1) (option_and_then (λ q. write p fs w q v) o) ≡ Some x → Left b p x
      by_pointer more kv None z = absurd (cc z)
      by_pointer more kv (Some q) z = by_write more q kv (write p fs w q v) refl z

      by_fit : More args vs x → (c : Bool) → fits p w a.0 v ≡ c → (if c then option_and_then (λ (y : List Frame × World). stored_back p args vs y.0 y.1) (option_and_then (λ q. write p fs w q v) (pointer_in (out-Value a.1))) else None) ≡ Some x → Left b p x
      by_fit more true s z = by_pointer more (fits_fine b w kw.count 1001 p a.0 v s) (pointer_in (out-Value a.1)) z
      by_fit more false s z = absurd (cc z)

  pub told : (m : Member) (values : List Value) (res : ReplyResult) (back : List Value) (w : World) → KnownWorld b w → KnownWorld b (recorded m values res back w)
  told m values res back w kw = record { count = kw.count; heap = kw.heap; statics = kw.statics }

  pub throws_out : (name : Name) (fs : List Frame) (w : World) (other : Answer) → KnownFrames b fs → KnownWorld b w → AnswerKnown b other → AnswerKnown b (thrown_out p name fs w other)
  throws_out name fs w other ks kw o = by_test (is_sub p (class_named name) (class_named (codes "System.Exception")))
    where
      by_test : (c : Bool) → AnswerKnown b (if c then Threw (next_object w) fs (with_object p (record { ty = class_named name; cells = [] }) w) else other)
      by_test true = (new_known b w kw, grown_frames b fs ks, object_added b p (record { ty = class_named name; cells = [] }) w tt kw)
      by_test false = o

  results : (m : Member) (values : List Value) (res : ReplyResult) (back : List Value) (fs : List Frame) (w : World) (other : Answer) → KnownIf b m.default → KnownFrames b fs → KnownWorld b w → AnswerKnown b other → AnswerKnown b (result_of p m values res back fs w other)
  results m values reply.Default back fs w other kd ks kw o = (kd, ks, told m values (given m.default) back w kw)
  results m values reply.Void back fs w other kd ks kw o = by_void (is_void (storage p m.result))
    where
      by_void : (c : Bool) → AnswerKnown b (if c then Returned None fs (recorded m values reply.Void back w) else other)
      by_void true = (tt, ks, told m values reply.Void back w kw)
      by_void false = o
  results m values (reply.Given v) back fs w other kd ks kw o = by_fit (fits p w m.result v) refl
    where
      by_stored : KnownValue b v → (s : Option Value) → stored_in p m.result v ≡ s → AnswerKnown b (maybe other (λ y. Returned (Some y) fs (recorded m values (reply.Given v) back w)) s)
      by_stored kv None q = o
      by_stored kv (Some y) q = (stored_fine b p 1001 m.result v y kv q, ks, told m values (reply.Given v) back w kw)

      by_fit : (c : Bool) → fits p w m.result v ≡ c → AnswerKnown b (if c then maybe other (λ y. Returned (Some y) fs (recorded m values (reply.Given v) back w)) (stored_in p m.result v) else other)
      by_fit true e = by_stored (fits_fine b w kw.count 1001 p m.result v e) (stored_in p m.result v) refl
      by_fit false e = o
  results m values (reply.Throw name) back fs w other kd ks kw o = throws_out name fs (recorded m values (reply.Throw name) back w) other ks (told m values (reply.Throw name) back w kw) o

  pub asks : (m : Member) (values : List Value) (fs : List Frame) (w : World) → KnownIf b m.default → KnownFrames b fs → KnownWorld b w → AnswerKnown b (ask p m values fs w)
  unfolding ask
  asks m values fs w kd ks kw = by_cells (stored_args p m.params values)
    where
      by_back : (vs : List Value) (o : Option (List Frame × World)) → stored_back p (by_ref_args m.params vs) (next_reply w.replies).by_ref fs w ≡ o → AnswerKnown b (answered p m vs (next_reply w.replies) w o)
      by_back vs None e = tt
      by_back vs (Some x) e =
          let left : Left b p x = stores_back (by_ref_args m.params vs) (next_reply w.replies).by_ref fs w x ks kw e in
          results m vs (next_reply w.replies).result (next_reply w.replies).by_ref x.0 x.1 (unfit m vs (next_reply w.replies) w) kd left.frames left.world tt

      by_cells : (o : Option (List Cell)) → AnswerKnown b (maybe (Unfit w) (λ (cells : List Cell). answered p m (values_of cells) (next_reply w.replies) w (stored_back p (by_ref_args m.params (values_of cells)) (next_reply w.replies).by_ref fs w)) o)
      by_cells None = tt
      by_cells (Some cells) = by_back (values_of cells) (stored_back p (by_ref_args m.params (values_of cells)) (next_reply w.replies).by_ref fs w) refl

  default_known : (t : Ty) → KnownIf b (default_reply p t)
  default_known t = by_void (is_void (storage p t))
    where
      by_void : (c : Bool) → KnownIf b (if c then None else Some (default_value p t))
      by_void true = tt
      by_void false = default_fine b p 1001 t

  with_default_known : (owner : Ty) (m : ℕ) (values : List Value) (x : Member) → KnownValues b values → KnownIf b x.default → KnownIf b (with_default p owner m values x).default
  with_default_known owner m values x kv kd = by_event (is_event p owner m)
    where
      third : (o : Option Value) → slice_get values 2 ≡ o → KnownIf b o
      third None e = tt
      third (Some v) e = get_fine b values 2 v kv e

      by_event : (c : Bool) → KnownIf b (if c then record x { default = slice_get values 2 } else x).default
      by_event true = third (slice_get values 2) refl
      by_event false = kd

  pub outside : (k : Contracts) (owner : Ty) (m : ℕ) (args : List Ty) (values : List Value) (fs : List Frame) (w : World) → KnownValues b values → KnownFrames b fs → KnownWorld b w → KeepsReferences (outside_call p k owner m args values fs w)
  outside k owner m args values fs w kv ks kw = by_answer (ask p x values fs w) (asks x values fs w (with_default_known owner m values (member_of p owner m args) kv (default_known (under (args_of owner) args (method_of p m).result))) ks kw)
    where
      x : Member
      x = with_default p owner m values (member_of p owner m args)

      by_answer : (a : Answer) → AnswerKnown b a → KeepsReferences (on_answer p k a)
      by_answer (Returned v gs u) ka = pushes_known p k b v gs u ka.0 ka.1 ka.2
      by_answer (Threw y gs u) ka = unwinds_known p k gs (suc b) false u y ka.1 ka.2 ka.0
      by_answer (Unfit u) ka = tt

pub asks_known : AsksKnown
asks_known p b m values fs w kd ks kw = asks p b m values fs w kd ks kw

pub outside_known : OutsideKnown
outside_known p k b owner m args values fs w kv ks kw = outside p b k owner m args values fs w kv ks kw
