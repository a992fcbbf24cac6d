-- newobj of the exception's class makes the object of a failure.
use Rattle.std.proofs.Common.{◌≡◌, ℕ, suc, ◌+◌, true, List, [], ◌∷◌, ◌++◌, length, Option, Some, None, refl, sym, ap, ◌∙◌, arith}
use Rattle.std.specs.Prelude.{slice_get, slice_set, option_map, option_and_then, if◌then◌else◌, nat_le, take, drop, reverse, pos, map, find, ◌||◌, ◌&&◌, not, is_some, bytes_eq, codes}
use Rattle.cil_base.specs.declared.token.Token.{Token}
use Rattle.cil_model.specs.declared.ty.Ty.{Ty, out-Ty, Known}
use Rattle.cil_model.specs.declared.ty.Ty as types
use Rattle.cil_model.specs.declared.ty.Ty.TheVariants as ty
use Rattle.cil_model.specs.declared.value.Value.{Value, out-Value, I4, Null, Obj, Text}
use Rattle.cil_model.specs.declared.value.Value as values
use Rattle.cil_model.specs.declared.value.Pointer.TheVariants.{Inside}
use Rattle.cil_model.specs.declared.body.Body.{Body}
use Rattle.cil_model.specs.declared.body.Instr.{Instr}
use Rattle.cil_model.specs.declared.program.Program.{Program}
use Rattle.cil_model.specs.declared.program.Meaning.TheVariants.{OfMethod, OfField}
use Rattle.cil_model.specs.NoContracts.{no_contracts}
use Rattle.cil_semantics.specs.Words.{maybe}
use Rattle.cil_semantics.specs.Types.{under, all_under}
use Rattle.cil_semantics.specs.Core.{string_ty}
use Rattle.cil_semantics.specs.Lookups.{type_of, method_of}
use Rattle.cil_semantics.specs.declared.state.Cell.{Cell}
use Rattle.il_opcodes.specs.declared.class.Storage.TheVariants.{Reference, Truncated, Long, NativeInt, Address, Fields, Opaque, Anything, Void}
use Rattle.cil_semantics.specs.Places.{storage, prim_storage, kind_storage, is_reference, stored, default_within, default_cells, layout, field_place, write_cell, stored_in}
use Rattle.cil_semantics.specs.declared.state.Local.{Local as LocalState}
use Rattle.cil_semantics.specs.declared.state.Object.{Object}
use Rattle.cil_semantics.specs.declared.state.World.{World}
use Rattle.cil_semantics.specs.declared.state.Statics.{Statics}
use Rattle.cil_semantics.specs.declared.state.ProgramPoint.TheVariants.{Rest}
use Rattle.cil_semantics.specs.declared.state.Frame.{Frame}
use Rattle.cil_semantics.specs.State.{Next, unrecorded, goes_after, with_stack, with_object, next_object, object_at}
use Rattle.cil_semantics.specs.declared.state.Continuation.TheVariants.{PushObject}
use Rattle.il_opcodes.specs.Opcodes.{class_of, opcode_of, the_opcodes}
use Rattle.cil_semantics.specs.Tokens.{Here, meaning_of, meaning_here, token_here, if_little, meaning_under, local_tys}
use Rattle.cil_semantics.specs.Dispatch.{methods_of}
use Rattle.cil_semantics.specs.Contracted.{Plan}
use Rattle.cil_semantics.specs.Acts as Acts
use Rattle.cil_semantics.specs.Acts.{Act, Store, CallMember, Return, if_some, field_of_object, store_field, taken, method_in, with_this, arity}
use Rattle.cil_semantics.specs.Instructions.{act, act_of_class}
use Rattle.cil_semantics.specs.Unwind.{body_of, no_body, here_of, goes_at, plan_at, find_statics}
use Rattle.cil_semantics.specs.Frames as Frames
use Rattle.cil_semantics.specs.Frames.{if_there, write, set_in, set_object, initializer, initializer_state, is_initializer, Ready, begin_use, begin_behind, begin, frame_with, enter, stored_args, param_types, this_type, clause_tys, captured_tys, first_place}
use Rattle.cil_semantics.specs.Returns.{return_from, return_to, kept_as}
use Rattle.cil_semantics.specs.Calls.{CoreMember, NotCore, Constructor, core_of, call_core, call_member, make, make_core, make_own, pushes_new}
use Rattle.cil_semantics.specs.Core.{exception_ty}
use Rattle.cil_semantics.specs.Checks.{AddedNumbers, Failure, kind_number, label_text, number_value, contract_failure}
use Rattle.machine_laws.specs.Same.{plain_step}
use Rattle.splice_facts.specs.Comes.{Comes}
use Rattle.splice_laws.specs.Straight.{ldarg, ret, call, newobj, frame_at, at_place, Acts_so}
use Rattle.splice_laws.specs.Helpers.{int32}
use Rattle.splice_laws.specs.Fails.{FitsFail, MakesFailure, HasException, ctor_code, stfld}
use Rattle.splice_facts.proofs.ComesLaws.{comes_at_once, no_plan, arrives_plain}
use Rattle.cil_semantics.specs.State.{counted, with_local}
use Rattle.il_opcodes.specs.declared.class.Storage.{Storage}
use Rattle.splice_facts.proofs.StoreLaws.{stored_plain}
use Rattle.splice_laws.proofs.HelperCallLaws.{int_kept}
use Rattle.splice_laws.proofs.StraightLaws.{one_step, goes_one, steps_by, arrives_at, world_back, does_ldarg, acts_call, acts_ret, called, done}
use Rattle.splice_laws.proofs.FailLaws as Failing

last_of : {X : Type 0} (xs : List X) (x : X) → slice_get (xs ++ x ∷ []) (length xs) ≡ Some x
last_of [] x = refl
last_of (y ∷ ys) x = last_of ys x

set_last : {X : Type 0} (xs : List X) (x z : X) → slice_set (xs ++ x ∷ []) (length xs) z ≡ xs ++ z ∷ []
set_last [] x z = refl
set_last (y ∷ ys) x z = ap (λ l. y ∷ l) (set_last ys x z)

one_past : (n : ℕ) → n + 1 ≡ suc n
one_past n = omega arith

same_count : (h : Storage) (a b : List Cell) → length a ≡ length b → counted h a ≡ counted h b
same_count (Fields n) a b e = refl
same_count (Truncated n s) a b e = e
same_count Long a b e = e
same_count NativeInt a b e = e
same_count Reference a b e = e
same_count Address a b e = e
same_count Opaque a b e = e
same_count Anything a b e = e
same_count Void a b e = e

new_there : (p : Program) (o : Object) (w : World) → object_at (with_object p o w) (next_object w) ≡ Some o
new_there p o w = ap (object_at (with_object p o w)) (one_past (length w.heap)) ∙ last_of w.heap o

new_set : (p : Program) (o : Object) (w : World) (cs : List Cell) → length cs ≡ length o.cells → set_object (with_object p o w) (next_object w) cs ≡ with_object p (record o { cells = cs }) w
new_set p o w cs e =
    ap (λ n. set_object (with_object p o w) n cs) (one_past (length w.heap))
    ∙ ap (λ x. record (with_object p o w) { heap = maybe (w.heap ++ o ∷ []) (λ (y : Object). slice_set (w.heap ++ o ∷ []) (length w.heap) (record y { cells = cs })) x }) (last_of w.heap o)
    ∙ ap (λ l. record (with_object p o w) { heap = l }) (set_last w.heap o (record o { cells = cs }))
    ∙ ap (λ n. record (with_object p (record o { cells = cs }) w) { cells = w.cells + (1 + n) }) (sym (same_count (storage p o.ty) cs o.cells e))

as_obj : (n : ℕ) → stored Reference (Obj n) ≡ Some (Obj n)
unfolding values.out-Value denote.Hole.Carrier.out
as_obj n = refl

module _ (p : Program) (g : AddedNumbers) (c a : ℕ) (tok : Token) (h : HasException p g c a tok) where
  abbrev T : Ty
  T = Known g.exception

  abbrev cell : Ty → Value → Cell
  cell t v = record { ty = t; value = v }

  holds_T : storage p T ≡ Reference
  unfolding storage types.out-Ty denote.Hole.Carrier.out
  holds_T = ap (kind_storage p (type_of p g.exception)) h.kind_is

  obj_stored : (n : ℕ) → stored_in p T (Obj n) ≡ Some (Obj n)
  obj_stored n = stored_plain p T Reference (Obj n) holds_T tt ∙ as_obj n

  first_three : default_cells p (int32 ∷ string_ty ∷ string_ty ∷ []) ≡ cell int32 (I4 (pos 0)) ∷ cell string_ty Null ∷ cell string_ty Null ∷ []
  unfolding default_within storage prim_storage types.out-Ty denote.Hole.Carrier.out
  first_three = refl

  abbrev code : List Instr
  code = ctor_code a h.base h.kind h.user h.label

  body_is : body_of p h.method ≡ h.body
  body_is = ap (maybe no_body (λ b. b)) h.has

  at_code : (j : ℕ) (i : Instr) → slice_get code j ≡ Some i → slice_get (body_of p h.method).instrs j ≡ Some i
  at_code j i e = ap (λ (b : Body). slice_get b.instrs j) body_is ∙ ap (λ is. slice_get is j) h.code ∙ e

  field_here : (here : Here) (t : Token) (f : ℕ) → meaning_of p a t ≡ Some (OfField T f) → token_here p here None a t ≡ Some (OfField T f)
  unfolding token_here
  field_here here t f e = ap (option_and_then (λ x. if_little (meaning_under here.type_args here.method_args x))) e

  method_here : (here : Here) (t : Token) (m : ℕ) → meaning_of p a t ≡ Some (OfMethod T m []) → meaning_here p here (newobj a t) ≡ Some (OfMethod T m [])
  unfolding token_here
  method_here here t m e = ap (option_and_then (λ x. if_little (meaning_under here.type_args here.method_args x))) e

  base_here : (here : Here) (t : Token) (m : ℕ) → meaning_of p a t ≡ Some (OfMethod exception_ty m []) → meaning_here p here (call a t) ≡ Some (OfMethod exception_ty m [])
  unfolding token_here
  base_here here t m e = ap (option_and_then (λ x. if_little (meaning_under here.type_args here.method_args x))) e

  -- ---- a store in the new object

  acts_stfld : (here : Here) (t : Token) (f : ℕ) (v : Value) (n : ℕ) (rest : List Value) (l : LocalState) → meaning_of p a t ≡ Some (OfField T f) → Acts_so p here (stfld a t) (with_stack l (v ∷ Obj n ∷ rest)) (λ w. if_some (field_of_object p w n f) (λ i. Store (Inside n (i ∷ [])) v (with_stack l rest)))
  unfolding act act_of_class class_of opcode_of the_opcodes values.out-Value denote.Hole.Carrier.out
  acts_stfld here t f v n rest l e w = ap (λ m. store_field p m w (with_stack l (v ∷ Obj n ∷ rest))) (field_here here t f e)

  stores_new : (f : Frame) (l : LocalState) (rest : List Value) (q : ℕ) (fs : List Frame) (w : World) (o : Object) (cs : List Cell) (v : Value) (i fld : ℕ) (t : Token) → slice_get (body_of p f.method).instrs q ≡ Some (stfld a t) → meaning_of p a t ≡ Some (OfField T fld) → field_place p o.ty fld ≡ Some i → set_in p (i ∷ []) v o.cells ≡ Some cs → is_reference (storage p o.ty) ≡ true → length cs ≡ length o.cells
      → plain_step p (record { frames = frame_at f (with_stack l (v ∷ Obj (next_object w) ∷ rest)) q [] ∷ fs; world = with_object p o w }) ≡ at_place f (with_stack l rest) (q + 1) [] fs (with_object p (record o { cells = cs }) w)
  stores_new f l rest q fs w o cs v i fld t there token place set ref long =
      let L = with_stack l (v ∷ Obj (next_object w) ∷ rest) in
      let W : World = with_object p o (unrecorded w) in
      let n = next_object w in
      let F : Frame = frame_at f L q [] in
      let G : Frame = frame_at f (with_stack l rest) q [] in
      steps_by p f L q [] fs (with_object p o w) (stfld a t) (λ z. if_some (field_of_object p z n fld) (λ j. Store (Inside n (j ∷ [])) v (with_stack l rest))) there (acts_stfld (here_of f fs) t fld v n rest l token)
      ∙ ap (λ x. goes_after w.trace (done p (if_some (option_and_then (λ (y : Object). if is_reference (storage p y.ty) then field_place p y.ty fld else None) x) (λ j. Store (Inside n (j ∷ [])) v (with_stack l rest))) F fs W)) (new_there p o (unrecorded w))
      ∙ ap (λ b. goes_after w.trace (done p (if_some (if b then field_place p o.ty fld else None) (λ j. Store (Inside n (j ∷ [])) v (with_stack l rest))) F fs W)) ref
      ∙ ap (λ x. goes_after w.trace (done p (if_some x (λ j. Store (Inside n (j ∷ [])) v (with_stack l rest))) F fs W)) place
      ∙ ap (λ x. goes_after w.trace (if_there (option_and_then (λ (y : Object). option_map (λ zs. (G ∷ fs, set_object W n zs)) (set_in p (i ∷ []) v y.cells)) x) W (λ (x1 : List Frame × World). Frames.go_on_top p no_contracts x1.0 x1.1))) (new_there p o (unrecorded w))
      ∙ ap (λ x. goes_after w.trace (if_there (option_map (λ zs. (G ∷ fs, set_object W n zs)) x) W (λ (x1 : List Frame × World). Frames.go_on_top p no_contracts x1.0 x1.1))) set
      ∙ ap (λ z. goes_after w.trace (Frames.go_on_top p no_contracts (G ∷ fs) z)) (new_set p o (unrecorded w) cs long)
      ∙ arrives_at p G (with_stack l rest) (q + 1) [] fs (with_object p (record o { cells = cs }) w) refl

  -- ---- the constructor's frame

  abbrev made_frame : ℕ → List Cell → Frame
  made_frame n cells =
      record {
        method = h.method;
        type_args = [];
        method_args = [];
        local = record { args = cells; locals = []; captured = []; result = None; stack = [] };
        at = Rest 0;
        handling = [];
        thrown = None;
        continuation = PushObject (Obj n);
        initializes = None;
      }

  abbrev frame_of_plan : ℕ → List Cell → List Frame → Body → Option Plan → Frame
  frame_of_plan n cells fs b o =
      let here : Here = record { number = length fs; method = h.method; type_args = []; method_args = [] } in
      record {
        method = h.method;
        type_args = [];
        method_args = [];
        local = record { args = cells; locals = default_cells p (local_tys p here b.locals ++ clause_tys p here o); captured = default_cells p (captured_tys p here o); result = None; stack = [] };
        at = first_place o;
        handling = [];
        thrown = None;
        continuation = PushObject (Obj n);
        initializes = None;
      }

  is_made : (n : ℕ) (cells : List Cell) (fs : List Frame) → frame_with p no_contracts T h.method [] cells (PushObject (Obj n)) fs ≡ made_frame n cells
  unfolding types.out-Ty denote.Hole.Carrier.out
  is_made n cells fs =
      ap (frame_of_plan n cells fs (body_of p h.method)) (no_plan p h.method) ∙ ap (λ b. frame_of_plan n cells fs b None) body_is
      ∙ ap (λ o. record (made_frame n cells) { local = record { args = cells; locals = default_cells p (local_tys p (record { number = length fs; method = h.method; type_args = []; method_args = [] }) o ++ []); captured = []; result = None; stack = [] } }) h.locals

  ready : (w : World) → find_statics T w.statics ≡ None → initializer p w T ≡ Ready
  unfolding initializer
  ready w e =
      ap (λ o. initializer_state (option_and_then (λ (s : Statics). s.init) o) (find (λ m. is_initializer (method_of p m) && not (type_of p (method_of p m).owner).reference) (methods_of p T))) e
      ∙ ap (initializer_state None) h.no_initializer

  takes_are : param_types p T h.method [] ≡ T ∷ int32 ∷ string_ty ∷ string_ty ∷ []
  unfolding types.out-Ty denote.Hole.Carrier.out
  takes_are =
      ap (λ b. if b then all_under [] [] (method_of p h.method).params else this_type p T ∷ all_under [] [] (method_of p h.method).params) h.instance
      ∙ ap (λ ts. this_type p T ∷ all_under [] [] ts) h.params
      ∙ ap (λ x. (if is_reference x then T else ty.ByRef T) ∷ int32 ∷ string_ty ∷ string_ty ∷ []) holds_T

  enters : (n : ℕ) (vals : List Value) (cells : List Cell) (fs : List Frame) (w : World) → stored_args p (T ∷ int32 ∷ string_ty ∷ string_ty ∷ []) vals ≡ Some cells → find_statics T w.statics ≡ None → enter p no_contracts T h.method [] vals (PushObject (Obj n)) fs w ≡ goes_at p (made_frame n cells) (Rest 0) (made_frame n cells).local [] fs w
  enters n vals cells fs w e bare =
      ap (λ ts. if_there (stored_args p ts vals) w (λ cs. begin_use p no_contracts T (frame_with p no_contracts T h.method [] cs (PushObject (Obj n)) fs) fs w)) takes_are
      ∙ ap (λ o. if_there o w (λ cs. begin_use p no_contracts T (frame_with p no_contracts T h.method [] cs (PushObject (Obj n)) fs) fs w)) e
      ∙ ap (λ f. begin_use p no_contracts T f fs w) (is_made n cells fs)
      ∙ ap (λ b. if b || bytes_eq (method_of p h.method).name (codes ".ctor") then begin_behind p no_contracts (initializer p w T) T (made_frame n cells) fs w else begin p no_contracts (made_frame n cells) fs w) h.instance
      ∙ ap (λ name. if bytes_eq name (codes ".ctor") then begin_behind p no_contracts (initializer p w T) T (made_frame n cells) fs w else begin p no_contracts (made_frame n cells) fs w) h.named
      ∙ ap (λ i. begin_behind p no_contracts i T (made_frame n cells) fs w) (ready w bare)
      ∙ arrives_plain p (made_frame n cells) (Rest 0) (made_frame n cells).local [] fs w

  abbrev first_object : Object
  first_object = record { ty = T; cells = cell int32 (I4 (pos 0)) ∷ cell string_ty Null ∷ cell string_ty Null ∷ [] }

  makes_new : (v1 v2 v3 : Value) (cells : List Cell) (fs : List Frame) (w : World) → stored_args p (T ∷ int32 ∷ string_ty ∷ string_ty ∷ []) (Obj (next_object w) ∷ v1 ∷ v2 ∷ v3 ∷ []) ≡ Some cells → find_statics T w.statics ≡ None
      → make p no_contracts (pushes_new p no_contracts) T h.method (v1 ∷ v2 ∷ v3 ∷ []) fs w ≡ goes_at p (made_frame (next_object w) cells) (Rest 0) (made_frame (next_object w) cells).local [] fs (with_object p first_object w)
  unfolding make core_of types.out-Ty denote.Hole.Carrier.out
  makes_new v1 v2 v3 cells fs w e bare =
      ap (λ b. if b then Rattle.cil_semantics.specs.Calls.make_outside p no_contracts (pushes_new p no_contracts) T h.method (v1 ∷ v2 ∷ v3 ∷ []) fs w else (if is_some (method_of p h.method).body then make_own p no_contracts (pushes_new p no_contracts) T h.method (v1 ∷ v2 ∷ v3 ∷ []) fs w else Frames.stuck w)) h.inside
      ∙ ap (λ o. if is_some o then make_own p no_contracts (pushes_new p no_contracts) T h.method (v1 ∷ v2 ∷ v3 ∷ []) fs w else Frames.stuck w) h.has
      ∙ ap (λ x. if is_reference x then own (layout p T) else Frames.enter_struct p no_contracts T h.method [] (v1 ∷ v2 ∷ v3 ∷ []) fs w) holds_T
      ∙ ap own h.layout_is
      ∙ ap (λ cs. enter p no_contracts T h.method [] (Obj (next_object w) ∷ v1 ∷ v2 ∷ v3 ∷ []) (PushObject (Obj (next_object w))) fs (with_object p (record { ty = T; cells = cs }) w)) first_three
      ∙ enters (next_object w) (Obj (next_object w) ∷ v1 ∷ v2 ∷ v3 ∷ []) cells fs (with_object p first_object w) e bare
    where
      own : List (ℕ × Ty) → Next
      own xs = enter p no_contracts T h.method [] (Obj (next_object w) ∷ v1 ∷ v2 ∷ v3 ∷ []) (PushObject (Obj (next_object w))) fs (with_object p (record { ty = T; cells = default_cells p (map (λ (x : ℕ × Ty). x.1) xs) }) w)

  acts_newobj : (here : Here) (t : Token) (l : LocalState) → meaning_of p a t ≡ Some (OfMethod T h.method []) → nat_le (arity p h.method) (length l.stack) ≡ true
      → Acts_so p here (newobj a t) l (λ w. Acts.NewObject (called p here T h.method [] (reverse (take (arity p h.method) l.stack))) (with_stack l (drop (arity p h.method) l.stack)))
  unfolding act act_of_class class_of opcode_of the_opcodes
  acts_newobj here t l e le w =
      ap (λ o. taken p (newobj a t) here (arity p (method_in o)) o l Acts.NewObject) (method_here here t h.method e)
      ∙ ap (λ b. if b then Acts.NewObject (called p here T h.method [] (reverse (take (arity p h.method) l.stack))) (with_stack l (drop (arity p h.method) l.stack)) else Acts.Stuck) le

  three : arity p h.method ≡ 3
  three = ap length h.params

  base_this : with_this p h.base_method ≡ 1
  base_this = ap (λ b. if b then arity p h.base_method else suc (arity p h.base_method)) h.base_instance ∙ ap (λ ts. suc (length ts)) h.base_params

  -- ---- the whole

  module _ (f : Frame) (l : LocalState) (rest : List Value) (q : ℕ) (fs : List Frame) (w : World) (x : Failure) (there : slice_get (body_of p f.method).instrs q ≡ Some (newobj a tok)) (ref : stored Reference x.user ≡ Some x.user) (fit : FitsFail g c w) where
    abbrev n : ℕ
    n = next_object w

    abbrev FS : List Frame
    FS = frame_at f (with_stack l rest) q [] ∷ fs

    abbrev args : List Cell
    args = cell T (Obj n) ∷ cell int32 (number_value x) ∷ cell string_ty x.user ∷ cell string_ty (label_text x) ∷ []

    abbrev M : Frame
    M = made_frame n args

    abbrev m0 : LocalState
    m0 = M.local

    kd_stored : stored_in p int32 (number_value x) ≡ Some (number_value x)
    kd_stored = int_kept p (kind_number x.kind) (Failing.small_kind x.kind)

    user_stored : stored_in p string_ty x.user ≡ Some x.user
    user_stored = Failing.as_string p x.user x.user ref

    label_stored : stored_in p string_ty (label_text x) ≡ Some (label_text x)
    label_stored = Failing.as_string p (label_text x) (label_text x) (Failing.text_stored _)

    all_passed : stored_args p (T ∷ int32 ∷ string_ty ∷ string_ty ∷ []) (Obj n ∷ number_value x ∷ x.user ∷ label_text x ∷ []) ≡ Some args
    all_passed =
        Failing.passes_one p T (Obj n) (Obj n) (int32 ∷ string_ty ∷ string_ty ∷ []) (number_value x ∷ x.user ∷ label_text x ∷ []) (cell int32 (number_value x) ∷ cell string_ty x.user ∷ cell string_ty (label_text x) ∷ []) (obj_stored n)
        (Failing.passes_one p int32 (number_value x) (number_value x) (string_ty ∷ string_ty ∷ []) (x.user ∷ label_text x ∷ []) (cell string_ty x.user ∷ cell string_ty (label_text x) ∷ []) kd_stored
        (Failing.passes_one p string_ty x.user x.user (string_ty ∷ []) (label_text x ∷ []) (cell string_ty (label_text x) ∷ []) user_stored
        (Failing.passes_one p string_ty (label_text x) (label_text x) [] [] [] label_stored refl)))

    abbrev L : LocalState
    L = with_stack l (label_text x ∷ x.user ∷ number_value x ∷ rest)

    begins : plain_step p (record { frames = frame_at f L q [] ∷ fs; world = w }) ≡ at_place M m0 0 [] FS (with_object p first_object w)
    begins =
        steps_by p f L q [] fs w (newobj a tok) (λ z. Acts.NewObject (called p (here_of f fs) T h.method [] (reverse (take (arity p h.method) L.stack))) (with_stack L (drop (arity p h.method) L.stack))) there
        (acts_newobj (here_of f fs) tok L h.token (ap (λ j. nat_le j (length L.stack)) three ∙ Failing.three_there (length rest)))
        ∙ ap (λ j. goes_after w.trace (make p no_contracts (pushes_new p no_contracts) T h.method (reverse (take j L.stack)) (frame_at f (with_stack L (drop j L.stack)) q [] ∷ fs) (unrecorded w))) three
        ∙ ap (goes_after w.trace) (makes_new (number_value x) x.user (label_text x) args FS (unrecorded w) all_passed fit.bare)
        ∙ ap (λ u. at_place M m0 0 [] FS (with_object p first_object u)) (world_back w)

    based : (W : World) → plain_step p (record { frames = frame_at M (with_stack m0 (Obj n ∷ [])) 1 [] ∷ FS; world = W }) ≡ at_place M m0 2 [] FS W
    unfolding call_member
    based W =
        let l1 = with_stack m0 (Obj n ∷ []) in
        steps_by p M l1 1 [] FS W (call a h.base) (λ z. CallMember (called p (here_of M FS) exception_ty h.base_method [] (reverse (take (with_this p h.base_method) l1.stack))) (with_stack l1 (drop (with_this p h.base_method) l1.stack))) (at_code 1 _ refl)
        (acts_call p (here_of M FS) a h.base exception_ty h.base_method [] l1 (base_here (here_of M FS) h.base h.base_method h.base_token) (ap (λ j. nat_le j 1) base_this))
        ∙ ap (λ j. goes_after W.trace (call_member p no_contracts exception_ty h.base_method [] (reverse (take j l1.stack)) (frame_at M (with_stack l1 (drop j l1.stack)) 1 [] ∷ FS) (unrecorded W))) base_this
        ∙ ap (λ k1. goes_after W.trace (call_core p no_contracts k1 exception_ty h.base_method [] (Obj n ∷ []) (frame_at M m0 1 [] ∷ FS) (unrecorded W))) h.base_core
        ∙ arrives_at p (frame_at M m0 1 []) m0 2 [] FS W refl

    abbrev o1 : Object
    o1 = record { ty = T; cells = cell int32 (number_value x) ∷ cell string_ty Null ∷ cell string_ty Null ∷ [] }

    abbrev o2 : Object
    o2 = record { ty = T; cells = cell int32 (number_value x) ∷ cell string_ty x.user ∷ cell string_ty Null ∷ [] }

    set_one : (t : Ty) (v : Value) (i : ℕ) (c0 : Cell) (cs : List Cell) → stored_in p t v ≡ Some v → slice_get cs i ≡ Some c0 → c0.ty ≡ t → set_in p (i ∷ []) v cs ≡ Some (slice_set cs i (cell t v))
    set_one t v i c0 cs e g1 y =
        ap (λ o. option_map (slice_set cs i) (option_and_then (write_cell p [] v) o)) g1
        ∙ ap (λ u. option_map (slice_set cs i) (option_map (λ z. cell u z) (stored_in p u v))) y
        ∙ ap (λ o. option_map (slice_set cs i) (option_map (λ z. cell t z) o)) e

    ends : (W : World) → plain_step p (record { frames = frame_at M m0 11 [] ∷ FS; world = W }) ≡ at_place f (with_stack l (Obj n ∷ rest)) (q + 1) [] fs W
    unfolding return_to
    ends W =
        let F : Frame = frame_at M m0 11 [] in
        steps_by p M m0 11 [] FS W ret (λ z. Return) (at_code 11 _ refl) (acts_ret p (here_of M FS) m0)
        ∙ ap (λ o. goes_after W.trace (if_there (kept_as p (under [] [] o) (storage p (under [] [] o)) []) (unrecorded W) (λ y. return_from p no_contracts (plan_at no_contracts p h.method) (Rest 11) (with_local (record m0 { result = y }) F) FS (unrecorded W)))) h.result
        ∙ ap (λ o. goes_after W.trace (if_there o (unrecorded W) (λ y. return_from p no_contracts (plan_at no_contracts p h.method) (Rest 11) (with_local (record m0 { result = y }) F) FS (unrecorded W)))) (Failing.nothing_kept p [])
        ∙ ap (λ o. goes_after W.trace (return_from p no_contracts o (Rest 11) (with_local (record m0 { result = None }) F) FS (unrecorded W))) (no_plan p h.method)
        ∙ arrives_at p (frame_at f (with_stack l rest) q []) (with_stack l (Obj n ∷ rest)) (q + 1) [] fs W refl

    whole : Comes p 13 (at_place f L q [] fs w) (at_place f (with_stack l (Obj n ∷ rest)) (q + 1) [] fs (with_object p (contract_failure g x) w))
    whole =
        let here : Here = here_of M FS in
        let s1 = with_stack m0 (Obj n ∷ []) in
        let W0 : World = with_object p first_object w in
        let V1 : World = with_object p o1 w in
        let V2 : World = with_object p o2 w in
        let V3 : World = with_object p (contract_failure g x) w in
        one_step p f L q [] fs w 12 _ _ begins
        (one_step p M m0 0 [] FS W0 11 _ _ (goes_one p M m0 s1 0 [] FS W0 (ldarg 0) (at_code 0 _ refl) (does_ldarg p here 0 (cell T (Obj n)) m0 refl) refl)
        (one_step p M s1 1 [] FS W0 10 _ _ (based W0)
        (one_step p M m0 2 [] FS W0 9 _ _ (goes_one p M m0 s1 2 [] FS W0 (ldarg 0) (at_code 2 _ refl) (does_ldarg p here 0 (cell T (Obj n)) m0 refl) refl)
        (one_step p M s1 3 [] FS W0 8 _ _ (goes_one p M s1 (with_stack m0 (number_value x ∷ Obj n ∷ [])) 3 [] FS W0 (ldarg 1) (at_code 3 _ refl) (does_ldarg p here 1 (cell int32 (number_value x)) s1 refl) refl)
        (one_step p M (with_stack m0 (number_value x ∷ Obj n ∷ [])) 4 [] FS W0 7 _ _ (stores_new M m0 [] 4 FS w first_object o1.cells (number_value x) 0 _ h.kind (at_code 4 _ refl) h.kind_token (h.places.0).0 (set_one int32 (number_value x) 0 (cell int32 (I4 (pos 0))) first_object.cells kd_stored refl refl) (ap is_reference holds_T) refl)
        (one_step p M m0 5 [] FS V1 6 _ _ (goes_one p M m0 s1 5 [] FS V1 (ldarg 0) (at_code 5 _ refl) (does_ldarg p here 0 (cell T (Obj n)) m0 refl) refl)
        (one_step p M s1 6 [] FS V1 5 _ _ (goes_one p M s1 (with_stack m0 (x.user ∷ Obj n ∷ [])) 6 [] FS V1 (ldarg 2) (at_code 6 _ refl) (does_ldarg p here 2 (cell string_ty x.user) s1 refl) refl)
        (one_step p M (with_stack m0 (x.user ∷ Obj n ∷ [])) 7 [] FS V1 4 _ _ (stores_new M m0 [] 7 FS w o1 o2.cells x.user 1 _ h.user (at_code 7 _ refl) h.user_token (h.places.0).1 (set_one string_ty x.user 1 (cell string_ty Null) o1.cells user_stored refl refl) (ap is_reference holds_T) refl)
        (one_step p M m0 8 [] FS V2 3 _ _ (goes_one p M m0 s1 8 [] FS V2 (ldarg 0) (at_code 8 _ refl) (does_ldarg p here 0 (cell T (Obj n)) m0 refl) refl)
        (one_step p M s1 9 [] FS V2 2 _ _ (goes_one p M s1 (with_stack m0 (label_text x ∷ Obj n ∷ [])) 9 [] FS V2 (ldarg 3) (at_code 9 _ refl) (does_ldarg p here 3 (cell string_ty (label_text x)) s1 refl) refl)
        (one_step p M (with_stack m0 (label_text x ∷ Obj n ∷ [])) 10 [] FS V2 1 _ _ (stores_new M m0 [] 10 FS w o2 (contract_failure g x).cells (label_text x) 2 _ h.label (at_code 10 _ refl) h.label_token h.places.1 (set_one string_ty (label_text x) 2 (cell string_ty Null) o2.cells label_stored refl refl) (ap is_reference holds_T) refl)
        (one_step p M m0 11 [] FS V3 0 _ _ (ends V3)
        (comes_at_once p 0 _ _ refl)))))))))))))

  pub makes_failure : MakesFailure p g c a tok
  makes_failure f l rest q fs w x there ref fit = whole f l rest q fs w x there ref fit
