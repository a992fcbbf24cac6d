-- What a return meets in a plain run isn't told: nothing reads what was recorded.
use Rattle.std.proofs.Common.{◌≡◌, ℕ, zero, suc, Bool, true, false, List, [], ◌∷◌, Option, Some, None, refl, sym, ap, ◌∙◌}
use Rattle.std.specs.Prelude.{◌&&◌, not, if◌then◌else◌, option_map, option_and_then, slice_get, is_some}
use Rattle.cil_model.specs.declared.ty.Ty.{Ty}
use Rattle.cil_model.specs.declared.value.Value.{Value, out-Value, Obj}
use Rattle.cil_model.specs.declared.value.Value.TheOpen.{Value-F}
use Rattle.cil_model.specs.declared.value.Pointer.{Pointer}
use Rattle.cil_model.specs.declared.value.Pointer.TheVariants.{Arg, Local, Inside, Static}
use Rattle.cil_model.specs.declared.program.Program.{Program}
use Rattle.cil_semantics.specs.declared.state.Item.{Item}
use Rattle.cil_model.specs.NoContracts.{no_contracts}
use Rattle.il_opcodes.specs.declared.class.Storage.{Storage}
use Rattle.il_opcodes.specs.declared.class.Storage.TheVariants.{Anything}
use Rattle.cil_semantics.specs.Words.{maybe, same_bool}
use Rattle.cil_semantics.specs.Lookups.{type_of, method_of}
use Rattle.cil_semantics.specs.Places.{seen_as}
use Rattle.cil_semantics.specs.Acts.{flag, truth}
use Rattle.cil_semantics.specs.declared.state.Cell.{Cell}
use Rattle.cil_semantics.specs.declared.state.Object.{Object}
use Rattle.cil_semantics.specs.declared.state.Local.{Local as LocalState}
use Rattle.cil_semantics.specs.declared.state.World.{World}
use Rattle.cil_semantics.specs.declared.state.ProgramPoint.TheVariants.{Rest}
use Rattle.cil_semantics.specs.declared.state.Handling.{Handling}
use Rattle.cil_semantics.specs.declared.state.Frame.{Frame}
use Rattle.cil_semantics.specs.declared.state.Access.{Access}
use Rattle.cil_semantics.specs.declared.state.Access.TheVariants.{Read, Write, PointTo}
use Rattle.cil_semantics.specs.declared.state.Remaining.{Remaining}
use Rattle.cil_semantics.specs.declared.state.Remaining.TheVariants.{Range, Elements}
use Rattle.cil_semantics.specs.declared.state.Continuation.{Continuation}
use Rattle.cil_semantics.specs.declared.state.Continuation.TheVariants.{Push, PushObject, PushStruct, ThrowObject, BeginCallee, UseField, TryNext}
use Rattle.cil_semantics.specs.State.{pushed, unrecorded, recorded_after, goes_after, object_at, with_local}
use Rattle.cil_semantics.specs.Unwind.{body_of, here_of, plan_at, next_place}
use Rattle.cil_semantics.specs.Frames.{stuck, if_there, read, write, in_frame, set_args, set_locals, set_in, set_object, set_static, static_cells, static_path, go_on, go_on_top, load, store, use_static, Initializer, Ready, FailedWith, ToRun, initializer, initializer_frame, with_begun, begin, begin_behind, begin_use, is_use, frame_with, param_types, stored_args, enter, owner_type, delegate_values, gives_value, parts_of, enter_function, enter_delegate, next_try}
use Rattle.cil_semantics.specs.Returns.{push_below, last_cell, try_next, tried, return_with, return_to, return_from, returned}
use Rattle.splice_facts.proofs.ComesLaws.{no_plan, arrives_plain}
use Rattle.machine_laws.specs.Same.{plain_step}
use Rattle.splice_laws.specs.Straight.{ret, frame_at}
use Rattle.splice_laws.proofs.StraightLaws.{steps_by, acts_ret, world_back}
use Rattle.splice_laws.proofs.LeavingLaws.{unwind_told}

module _ (p : Program) (t : List Item) where
  abbrev told : World → World
  told w = recorded_after t w

  go_on_told : (f : Frame) (l : LocalState) (fs : List Frame) (w : World) → goes_after t (go_on p no_contracts f l fs w) ≡ go_on p no_contracts f l fs (told w)
  go_on_told f l fs w = ap (goes_after t) (arrives_plain p f (next_place f.at) l f.handling fs w) ∙ sym (arrives_plain p f (next_place f.at) l f.handling fs (told w))

  begin_told : (f : Frame) (fs : List Frame) (w : World) → goes_after t (begin p no_contracts f fs w) ≡ begin p no_contracts f fs (told w)
  begin_told f fs w = ap (goes_after t) (arrives_plain p f f.at f.local f.handling fs w) ∙ sym (arrives_plain p f f.at f.local f.handling fs (told w))

  push_told : (v : Option Value) (fs : List Frame) (w : World) → goes_after t (push_below p no_contracts v fs w) ≡ push_below p no_contracts v fs (told w)
  push_told v [] w = refl
  push_told v (f ∷ fs) w = go_on_told f (maybe f.local (λ x. pushed x f.local) v) fs w

  -- ---- places

  read_told : (fs : List Frame) (w : World) (q : Pointer) → read p fs (told w) q ≡ read p fs w q
  read_told fs w (Arg n m i is) = refl
  read_told fs w (Local n m i is) = refl
  read_told fs w (Inside k is) = refl
  read_told fs w (Static u f is) = refl

  load_told : (q : Pointer) (h : Storage) (f : Frame) (l : LocalState) (fs : List Frame) (w : World) → goes_after t (load p no_contracts q h f l fs w) ≡ load p no_contracts q h f l fs (told w)
  load_told q h f l fs w =
      by_value (option_and_then (seen_as h) (read p (record f { local = l } ∷ fs) w q))
      ∙ sym (ap (λ o. if_there (option_and_then (seen_as h) o) (told w) (λ v. go_on p no_contracts f (pushed v l) fs (told w))) (read_told (record f { local = l } ∷ fs) w q))
    where
      by_value : (o : Option Value) → goes_after t (if_there o w (λ v. go_on p no_contracts f (pushed v l) fs w)) ≡ if_there o (told w) (λ v. go_on p no_contracts f (pushed v l) fs (told w))
      by_value None = refl
      by_value (Some v) = go_on_told f (pushed v l) fs w

  abbrev both_told : List Frame × World → List Frame × World
  both_told x = (x.0, told x.1)

  frames_told : (w : World) (o : Option (List Frame)) → option_map (λ gs. (gs, told w)) o ≡ option_map both_told (option_map (λ gs. (gs, w)) o)
  frames_told w None = refl
  frames_told w (Some gs) = refl

  object_told : (w : World) (k : ℕ) (cs : List Cell) → set_object (told w) k cs ≡ told (set_object w k cs)
  object_told w zero cs = refl
  object_told w (suc k) cs = refl

  write_told : (fs : List Frame) (w : World) (q : Pointer) (v : Value) → write p fs (told w) q v ≡ option_map both_told (write p fs w q v)
  write_told fs w (Arg n m i is) v = frames_told w (in_frame fs n m (set_args p (i ∷ is) v))
  write_told fs w (Local n m i is) v = frames_told w (in_frame fs n m (set_locals p (i ∷ is) v))
  write_told fs w (Inside k is) v = by_object (object_at w k)
    where
      by_cells : (o : Option (List Cell)) → option_map (λ cs. (fs, set_object (told w) k cs)) o ≡ option_map both_told (option_map (λ cs. (fs, set_object w k cs)) o)
      by_cells None = refl
      by_cells (Some cs) = ap (λ u. Some (fs, u)) (object_told w k cs)

      by_object : (o : Option Object) → option_and_then (λ (x : Object). option_map (λ cs. (fs, set_object (told w) k cs)) (set_in p is v x.cells)) o ≡ option_map both_told (option_and_then (λ (x : Object). option_map (λ cs. (fs, set_object w k cs)) (set_in p is v x.cells)) o)
      by_object None = refl
      by_object (Some x) = by_cells (set_in p is v x.cells)
  write_told fs w (Static u f is) v = by_cells (set_in p (static_path p u f is) v (static_cells p w u))
    where
      by_cells : (o : Option (List Cell)) → option_map (λ cs. (fs, set_static (told w) u cs)) o ≡ option_map both_told (option_map (λ cs. (fs, set_static w u cs)) o)
      by_cells None = refl
      by_cells (Some cs) = refl

  top_told : (fs : List Frame) (w : World) → goes_after t (go_on_top p no_contracts fs w) ≡ go_on_top p no_contracts fs (told w)
  top_told [] w = refl
  top_told (f ∷ fs) w = go_on_told f f.local fs w

  store_told : (q : Pointer) (v : Value) (f : Frame) (l : LocalState) (fs : List Frame) (w : World) → goes_after t (store p no_contracts q v f l fs w) ≡ store p no_contracts q v f l fs (told w)
  store_told q v f l fs w =
      by_frames (write p (record f { local = l } ∷ fs) w q v)
      ∙ sym (ap (λ o. if_there o (told w) (λ (x : List Frame × World). go_on_top p no_contracts x.0 x.1)) (write_told (record f { local = l } ∷ fs) w q v))
    where
      by_frames : (o : Option (List Frame × World)) → goes_after t (if_there o w (λ (x : List Frame × World). go_on_top p no_contracts x.0 x.1)) ≡ if_there (option_map both_told o) (told w) (λ (x : List Frame × World). go_on_top p no_contracts x.0 x.1)
      by_frames None = refl
      by_frames (Some x) = top_told x.0 x.1

  static_told : (a : Access) (f : Frame) (l : LocalState) (fs : List Frame) (w : World) → goes_after t (use_static p no_contracts a f l fs w) ≡ use_static p no_contracts a f l fs (told w)
  static_told (Read q) f l fs w = load_told q Anything f l fs w
  static_told (Write q v) f l fs w = store_told q v f l fs w
  static_told (PointTo q) f l fs w = go_on_told f (pushed (Rattle.cil_model.specs.declared.value.Value.Ptr q) l) fs w

  -- ---- frames that begin

  initializer_told : (w : World) (u : Ty) → initializer p (told w) u ≡ initializer p w u
  unfolding initializer
  initializer_told w u = refl

  behind_told : (i : Initializer) (u : Ty) (f : Frame) (fs : List Frame) (w : World) → goes_after t (begin_behind p no_contracts i u f fs w) ≡ begin_behind p no_contracts i u f fs (told w)
  behind_told Ready u f fs w = begin_told f fs w
  behind_told (FailedWith x) u f fs w = unwind_told p t false fs w x
  behind_told (ToRun m) u f fs w = begin_told (initializer_frame p no_contracts u m BeginCallee (f ∷ fs)) (f ∷ fs) (with_begun p u w)

  use_told : (u : Ty) (f : Frame) (fs : List Frame) (w : World) → goes_after t (begin_use p no_contracts u f fs w) ≡ begin_use p no_contracts u f fs (told w)
  use_told u f fs w =
      by_test (is_use (method_of p f.method)) ∙ sym (ap (λ i. if is_use (method_of p f.method) then begin_behind p no_contracts i u f fs (told w) else begin p no_contracts f fs (told w)) (initializer_told w u))
    where
      by_test : (b : Bool) → goes_after t (if b then begin_behind p no_contracts (initializer p w u) u f fs w else begin p no_contracts f fs w) ≡ (if b then begin_behind p no_contracts (initializer p w u) u f fs (told w) else begin p no_contracts f fs (told w))
      by_test true = behind_told (initializer p w u) u f fs w
      by_test false = begin_told f fs w

  enter_told : (owner : Ty) (m : ℕ) (args : List Ty) (values : List Value) (b : Continuation) (fs : List Frame) (w : World) → goes_after t (enter p no_contracts owner m args values b fs w) ≡ enter p no_contracts owner m args values b fs (told w)
  enter_told owner m args values b fs w = by_cells (stored_args p (param_types p owner m args) values)
    where
      by_cells : (o : Option (List Cell)) → goes_after t (if_there o w (λ cells. begin_use p no_contracts owner (frame_with p no_contracts owner m args cells b fs) fs w)) ≡ if_there o (told w) (λ cells. begin_use p no_contracts owner (frame_with p no_contracts owner m args cells b fs) fs (told w))
      by_cells None = refl
      by_cells (Some cells) = use_told owner (frame_with p no_contracts owner m args cells b fs) fs w

  function_told : (gives : Bool) (y : Value-F Value) (target : Value) (values : List Value) (b : Continuation) (fs : List Frame) (w : World) → goes_after t (enter_function p no_contracts gives y target values b fs w) ≡ enter_function p no_contracts gives y target values b fs (told w)
  function_told gives (Value-F.Func m u) target values b fs w =
      by_test (is_some (method_of p m).body && (not (type_of p (method_of p m).owner).reference && same_bool gives (gives_value p (owner_type p m u.type_args) m u.method_args)))
    where
      by_test : (a : Bool) → goes_after t (if a then enter p no_contracts (owner_type p m u.type_args) m u.method_args (delegate_values p (owner_type p m u.type_args) m target values) b fs w else stuck w) ≡ (if a then enter p no_contracts (owner_type p m u.type_args) m u.method_args (delegate_values p (owner_type p m u.type_args) m target values) b fs (told w) else stuck (told w))
      by_test true = enter_told (owner_type p m u.type_args) m u.method_args (delegate_values p (owner_type p m u.type_args) m target values) b fs w
      by_test false = refl
  function_told gives _ target values b fs w = refl

  delegate_told : (gives : Bool) (y : Value-F Value) (values : List Value) (b : Continuation) (fs : List Frame) (w : World) → goes_after t (enter_delegate p no_contracts gives y values b fs w) ≡ enter_delegate p no_contracts gives y values b fs (told w)
  delegate_told gives (Value-F.Obj x) values b fs w = by_parts (option_and_then (λ (o : Object). parts_of o.cells) (object_at w x))
    where
      by_parts : (o : Option (Value × Value)) → goes_after t (if_there o w (λ (d : Value × Value). enter_function p no_contracts gives (out-Value d.1) d.0 values b fs w)) ≡ if_there o (told w) (λ (d : Value × Value). enter_function p no_contracts gives (out-Value d.1) d.0 values b fs (told w))
      by_parts None = refl
      by_parts (Some d) = function_told gives (out-Value d.1) d.0 values b fs w
  delegate_told gives _ values b fs w = refl

  -- ---- ForAll and Exists

  next_told : (e : Bool) (v : Value) (o : Option (Value × Remaining)) (fs : List Frame) (w : World) → goes_after t (try_next p no_contracts e v o fs w) ≡ try_next p no_contracts e v o fs (told w)
  next_told e v None fs w = push_told (Some (flag (not e))) fs w
  next_told e v (Some x) fs w = delegate_told true (out-Value v) (x.0 ∷ []) (TryNext e v x.1) fs w

  try_told : (left : Remaining) (w : World) → next_try (told w) left ≡ next_try w left
  try_told (Range a b) w = refl
  try_told (Elements x i) w = refl

  tried_told : (e : Bool) (v : Value) (left : Remaining) (o : Option Bool) (fs : List Frame) (w : World) → goes_after t (tried p no_contracts e v left o fs w) ≡ tried p no_contracts e v left o fs (told w)
  tried_told e v left None fs w = refl
  tried_told e v left (Some b) fs w =
      by_test (same_bool e b) ∙ sym (ap (λ o. if same_bool e b then push_below p no_contracts (Some (flag e)) fs (told w) else try_next p no_contracts e v o fs (told w)) (try_told left w))
    where
      by_test : (a : Bool) → goes_after t (if a then push_below p no_contracts (Some (flag e)) fs w else try_next p no_contracts e v (next_try w left) fs w) ≡ (if a then push_below p no_contracts (Some (flag e)) fs (told w) else try_next p no_contracts e v (next_try w left) fs (told w))
      by_test true = push_told (Some (flag e)) fs w
      by_test false = next_told e v (next_try w left) fs w

  -- ---- what goes down

  return_told : (b : Continuation) (args : List Cell) (v : Option Value) (fs : List Frame) (w : World) → goes_after t (return_with p no_contracts b args v fs w) ≡ return_with p no_contracts b args v fs (told w)
  return_told Push args v fs w = push_told v fs w
  return_told (PushObject x) args v fs w = push_told (Some x) fs w
  return_told PushStruct args v fs w = push_told (last_cell args) fs w
  return_told (ThrowObject x) args v fs w = unwind_told p t false fs w x
  return_told BeginCallee args v [] w = refl
  return_told BeginCallee args v (f ∷ fs) w = begin_told f fs w
  return_told (UseField a) args v [] w = refl
  return_told (UseField a) args v (f ∷ fs) w = static_told a f f.local fs w
  return_told (TryNext e target left) args v fs w = tried_told e target left (option_and_then truth v) fs w

-- ret in a plain run
pub rets_plainly : (p : Program) (f : Frame) (l : LocalState) (q : ℕ) (hs : List Handling) (fs : List Frame) (w : World) (v : Option Value) → slice_get (body_of p f.method).instrs q ≡ Some ret → returned p f l.stack ≡ Some v
    → plain_step p (record { frames = frame_at f l q hs ∷ fs; world = w }) ≡ return_with p no_contracts f.continuation l.args v fs w
unfolding return_to
rets_plainly p f l q hs fs w v there gives =
    steps_by p f l q hs fs w ret (λ u. Rattle.cil_semantics.specs.Acts.Return) there (acts_ret p (here_of f fs) l)
    ∙ ap (λ o. goes_after w.trace (if_there o (unrecorded w) (λ x. return_from p no_contracts (plan_at no_contracts p f.method) (Rest q) (with_local (record l { result = x }) (frame_at f l q hs)) fs (unrecorded w)))) gives
    ∙ ap (λ o. goes_after w.trace (return_from p no_contracts o (Rest q) (with_local (record l { result = v }) (frame_at f l q hs)) fs (unrecorded w))) (no_plan p f.method)
    ∙ return_told p w.trace f.continuation l.args v fs (unrecorded w)
    ∙ ap (λ u. return_with p no_contracts f.continuation l.args v fs u) (world_back w)
