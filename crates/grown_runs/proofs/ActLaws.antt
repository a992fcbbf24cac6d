-- What an instruction wants done, in both programs, and that it names and makes what a run may hold.
use Rattle.std.proofs.Common.{◌≡◌, ℕ, zero, suc, ◌+◌, ◌<◌, List, [], ◌∷◌, ◌++◌, length, Option, Some, None, refl, sym, ap, ◌∙◌, subst, inl}
use Rattle.std.specs.Prelude.{Bool, true, false, ◌&&◌, ◌||◌, not, nat_le, nat_lt, if◌then◌else◌, ℤ, pos, negsuc, take, drop, reverse, replicate, codes, slice_get, slice_set, option_map, option_and_then}
use Rattle.cil_base.specs.declared.token.Token.{Token}
use Rattle.cil_model.specs.declared.ty.Ty.{Ty, out-Ty}
use Rattle.cil_model.specs.declared.ty.Ty as types
use Rattle.cil_model.specs.declared.ty.Ty.TheVariants as ty
use Rattle.cil_model.specs.declared.value.Value.{Value, out-Value, I4, I8, Native, Null, Obj, Ptr}
use Rattle.cil_model.specs.declared.value.Value as val
use Rattle.cil_model.specs.declared.value.Value.TheOpen.{Value-F}
use Rattle.cil_model.specs.declared.value.Value.TheVariants as value
use Rattle.cil_model.specs.declared.value.Pointer.{Pointer}
use Rattle.cil_model.specs.declared.value.Pointer.TheVariants.{Arg, Local, Inside, Static}
use Rattle.cil_model.specs.declared.body.Instr.{Instr}
use Rattle.cil_model.specs.declared.body.Operand.{Operand}
use Rattle.cil_model.specs.declared.body.Operand.TheVariants.{Nothing, Int, Index, Target, Targets, Tok}
use Rattle.cil_model.specs.declared.contract.Contracts.{Contracts}
use Rattle.cil_model.specs.declared.program.Meaning.{Meaning}
use Rattle.cil_model.specs.declared.program.Meaning.TheVariants.{OfType, OfField, OfMethod, OfText, OfLocals}
use Rattle.cil_model.specs.declared.program.Program.{Program}
use Rattle.cil_model.specs.declared.program.MethodDesc.{MethodDesc}
use Rattle.cil_semantics.specs.Words.{maybe}
use Rattle.cil_semantics.specs.Types.{same_ty}
use Rattle.cil_semantics.specs.Lookups.{type_of, field_of, method_of, in_set, is_sub, args_of}
use Rattle.cil_semantics.specs.Numbers as number
use Rattle.cil_semantics.specs.declared.number.Number.{Number}
use Rattle.cil_semantics.specs.declared.number.Number.TheVariants as result
use Rattle.il_opcodes.specs.declared.class.BinaryOp.{BinaryOp}
use Rattle.cil_semantics.specs.declared.state.Cell.{Cell}
use Rattle.cil_semantics.specs.declared.state.Object.{Object}
use Rattle.cil_semantics.specs.declared.state.World.{World}
use Rattle.cil_semantics.specs.declared.state.Local.{Local as LocalState}
use Rattle.cil_semantics.specs.declared.state.Access.{Access}
use Rattle.cil_semantics.specs.declared.state.Access.TheVariants.{Read, Write, PointTo}
use Rattle.cil_semantics.specs.declared.number.Numeric.{Numeric}
use Rattle.cil_semantics.specs.declared.number.Numeric.TheVariants.{Int4, Int8, IntNative, NoNumber}
use Rattle.cil_semantics.specs.declared.number.Pair.{Pair}
use Rattle.cil_semantics.specs.declared.number.Pair.TheVariants.{Both4, Both8, BothNative, NoPair}
use Rattle.cil_semantics.specs.State.{object_at, next_object, with_stack, pushed}
use Rattle.cil_semantics.specs.Places.{Storage, Anything, storage, is_reference, stored, stored_in, default_value, default_cell, set_cell, new_cell, field_place, fields_in}
use Rattle.cil_semantics.specs.Tokens.{Here, meaning_here, constrained_here}
use Rattle.cil_semantics.specs.Acts.{Call, Act, Stuck, GoOn, Jump, Raise, Throw, Rethrow, Leave, EndHandler, Return, Load, Store, Copy, UseStatic, CallMember, CallVirtual, NewObject, LoadVirtualFunction, on_top, on_two, if_some, goes_with, goes_with_new, null_reference, overflow, invalid_cast, out_of_range, numeric, paired, number_act, compute, shift_count, shift, unary, read_number, convert, put_in, convert_checked, compare, flag, truth, is_wanted, branch, switch, extended, if_pointer, on_pointer, load_argument, load_local, store_argument, store_local, point_to_argument, point_to_local, push_int, dynamic_type, is_null, cast, unboxed, unbox, box, field_of_object, on_field, field_of_value, load_field, point_to_field, store_field, on_static, item_type, index_number, made_array, on_array, at_index, on_item, fits_item, put_item, store_item, ty_name, member_name, handle_of, text_in, size_at, on_type, arity, with_this, method_in, taken}
use Rattle.cil_semantics.specs.Instructions.{throw_value, leave_to, push_function, act_of_class, act}
use Rattle.cil_semantics.specs.Outside.{pointer_in}
use Rattle.cil_semantics.specs.Checks.{AddedNumbers}
use Rattle.il_opcodes.specs.Opcodes.{class_of}
use Rattle.il_opcodes.specs.declared.class.Class.{Class}
use Rattle.il_opcodes.specs.declared.class.Class.TheVariants as class
use Rattle.machine_laws.specs.Answers.{Each, IsOld}
use Rattle.splice_facts.specs.Related.{Rewritten, bounds}
use Rattle.splice_facts.specs.WellFormed.{WellFormedValue, WellFormedValues, WellFormedPointer, WellFormedLocal}
use Rattle.simulation_objects.proofs.RefLaws.{pointer_there}
use Rattle.valid_calls.proofs.CallStepLaws.{reversed, taken_values, dropped_values}
use Rattle.grown_runs.specs.Grown.{GrowsAround, IsHeld}
use Rattle.grown_runs.specs.Looks.{LooksAlike}
use Rattle.grown_runs.proofs.AlikeLaws.{option_on, maybe_on, HeldWorld, held_at}
use Rattle.grown_runs.proofs.ReadLaws.{OwnPointer, OwnAccess, new_same, set_same, default_same}
use Rattle.grown_runs.proofs.OutsideLaws.{own_pointer}
use Rattle.grown_runs.proofs.CallLaws.{type_held, struct_held}

array_old : (p0 : Program) (t : Ty) → IsOld p0 (ty.Array t)
unfolding types.out-Ty denote.Hole.Carrier.out
array_old p0 t = refl

module _ (p0 p : Program) (k : Contracts) (ms : List MethodDesc) (g : AddedNumbers) (r : Rewritten p k ms g) (h : GrowsAround p0 p k g.exception) (l : LooksAlike p0 p g.exception) (tys : r.types ≡ length p0.types) (me : r.methods ≡ length p0.methods) where
  abbrev Held : World → Type 0
  Held w = HeldWorld p0 g.exception w

  abbrev Fine : Value → Type 0
  Fine v = WellFormedValue (bounds p k ms g r) v

  abbrev AllFine : List Value → Type 0
  AllFine vs = WellFormedValues (bounds p k ms g r) vs

  -- a call of a member of the input
  abbrev pub CallOk : Call → Type 0
  CallOk c = IsOld p0 c.owner × (c.method < length p0.methods) × WellFormedValues (bounds p k ms g r) c.values

  abbrev pub ActOk : Act → Type 0
  ActOk Stuck = Unit {0}
  ActOk (GoOn made v) = Each (λ (o : Object). IsHeld p0 g.exception o.ty) made
  ActOk (Jump t v) = Unit {0}
  ActOk (Raise name) = Unit {0}
  ActOk (Throw x) = Unit {0}
  ActOk Rethrow = Unit {0}
  ActOk (Leave t) = Unit {0}
  ActOk EndHandler = Unit {0}
  ActOk Return = Unit {0}
  ActOk (Load q s v) = OwnPointer p0 q
  ActOk (Store q x v) = OwnPointer p0 q
  ActOk (Copy to from s v) = OwnPointer p0 to × OwnPointer p0 from
  ActOk (UseStatic t a v) = IsOld p0 t × OwnAccess p0 a
  ActOk (CallMember c v) = CallOk c × WellFormedLocal (bounds p k ms g r) v
  ActOk (CallVirtual c v) = CallOk c × WellFormedLocal (bounds p k ms g r) v
  ActOk (NewObject c v) = CallOk c × WellFormedLocal (bounds p k ms g r) v
  ActOk (LoadVirtualFunction c v) = CallOk c × WellFormedLocal (bounds p k ms g r) v

  abbrev pub Acts : (Program → Act) → Type 0
  Acts F = (F p ≡ F p0) × ActOk (F p)

  -- ---- the same whatever the program

  top : (s : List Value) (go : Program → Value → List Value → Act) → AllFine s → ((v : Value) (rest : List Value) → Fine v → AllFine rest → Acts (λ q. go q v rest)) → Acts (λ q. on_top s (go q))
  top [] go f a = (refl, tt)
  top (v ∷ rest) go f a = a v rest f.0 f.1

  two : (s : List Value) (go : Program → Value → Value → List Value → Act) → AllFine s → ((x y : Value) (rest : List Value) → Fine x → Fine y → AllFine rest → Acts (λ q. go q x y rest)) → Acts (λ q. on_two s (go q))
  two [] go f a = (refl, tt)
  two (y ∷ []) go f a = (refl, tt)
  two (y ∷ x ∷ rest) go f a = a x y rest f.1.0 f.0 f.1.1

  some : {X : Type 0} (o : Program → Option X) (go : Program → X → Act) → o p ≡ o p0 → ((x : X) → o p ≡ Some x → Acts (λ q. go q x)) → Acts (λ q. if_some (o q) (go q))
  some {X} o go same a = subst (λ (z : Option X). (if_some (o p) (go p) ≡ if_some z (go p0)) × ActOk (if_some (o p) (go p))) same (by_case (o p) refl)
    where
      by_case : (z : Option X) → o p ≡ z → (if_some z (go p) ≡ if_some z (go p0)) × ActOk (if_some z (go p))
      by_case None q = (refl, tt)
      by_case (Some x) q = a x q

  either : (b : Program → Bool) (x y : Program → Act) → b p ≡ b p0 → (b p ≡ true → Acts x) → (b p ≡ false → Acts y) → Acts (λ q. if b q then x q else y q)
  either b x y same a c = subst (λ (z : Bool). ((if b p then x p else y p) ≡ (if z then x p0 else y p0)) × ActOk (if b p then x p else y p)) same (by_case (b p) refl)
    where
      by_case : (z : Bool) → b p ≡ z → ((if z then x p else y p) ≡ (if z then x p0 else y p0)) × ActOk (if z then x p else y p)
      by_case true q = a q
      by_case false q = c q

  known : {X : Type 0} (v : Program → X) (F : Program → X → Act) → v p ≡ v p0 → Acts (λ q. F q (v p)) → Acts (λ q. F q (v q))
  known {X} v F same a = subst (λ (z : X). (F p (v p) ≡ F p0 z) × ActOk (F p (v p))) same a

  typed : (m : Option Meaning) (go : Program → Ty → Act) → ((t : Ty) → Acts (λ q. go q t)) → Acts (λ q. on_type m (go q))
  typed None go a = (refl, tt)
  typed (Some (OfType t)) go a = a t
  typed (Some (OfField owner f)) go a = (refl, tt)
  typed (Some (OfMethod owner m args)) go a = (refl, tt)
  typed (Some (OfText units)) go a = (refl, tt)
  typed (Some (OfLocals ts)) go a = (refl, tt)

  own_in : (v : Value) (q : Pointer) → Fine v → pointer_in (out-Value v) ≡ Some q → OwnPointer p0 q
  own_in v q fine e = own_pointer p0 p k ms g r h l tys me q (pointer_there p k ms g r v q fine e)

  pointed : (v : Value) (go : Program → Pointer → Act) → Fine v → ((q : Pointer) → OwnPointer p0 q → Acts (λ p. go p q)) → Acts (λ q. on_pointer v (go q))
  pointed v go fine a = by_out (out-Value v) (λ q e. own_in v q fine e)
    where
      by_out : (o : Value-F Value) → ((q : Pointer) → pointer_in o ≡ Some q → OwnPointer p0 q) → Acts (λ q. if_pointer o (go q))
      by_out (Value-F.Ptr q) own = a q (own q refl)
      by_out (Value-F.Obj x) own = (refl, tt)
      by_out (Value-F.Text units) own = (refl, tt)
      by_out Value-F.Null own = (refl, tt)
      by_out (Value-F.I4 n) own = (refl, tt)
      by_out (Value-F.I8 n) own = (refl, tt)
      by_out (Value-F.Native n) own = (refl, tt)
      by_out (Value-F.Struct vs) own = (refl, tt)
      by_out (Value-F.Func m u) own = (refl, tt)
      by_out (Value-F.Opaque bytes) own = (refl, tt)

  -- nothing of the program is asked
  alone : (a : Act) → ActOk a → Acts (λ q. a)
  alone a ok = (refl, ok)

  -- ---- numbers and jumps

  number_ok : (back : ℤ → Value) (n : Number ℤ) (v : LocalState) → ActOk (number_act back n v)
  number_ok back (result.Is z) v = tt
  number_ok back result.DividesByZero v = tt
  number_ok back result.Overflows v = tt

  compute_ok : (op : BinaryOp) (x : Pair) (v : LocalState) → ActOk (compute op x v)
  compute_ok op (Both4 x y) v = number_ok I4 (number.computed op number.size_32 x y) v
  compute_ok op (Both8 x y) v = number_ok I8 (number.computed op number.size_64 x y) v
  compute_ok op (BothNative x y) v = number_ok Native (number.computed op number.size_64 x y) v
  compute_ok op NoPair v = tt

  if_ok : (b : Bool) (x y : Act) → ActOk x → ActOk y → ActOk (if b then x else y)
  if_ok true x y a c = a
  if_ok false x y a c = c

  branch_ok : (o : Operand) (b : Bool) (v : LocalState) → ActOk (branch o b v)
  branch_ok Nothing b v = tt
  branch_ok (Int n) b v = tt
  branch_ok (Index n) b v = tt
  branch_ok (Target n) b v = if_ok b (Jump n v) (GoOn [] v) tt tt
  branch_ok (Targets ns) b v = tt
  branch_ok (Tok a t) b v = tt

  jump_ok : (o : Option ℕ) (v : LocalState) → ActOk (maybe (GoOn [] v) (λ t. Jump t v) o)
  jump_ok None v = tt
  jump_ok (Some t) v = tt

  switch_ok : (o : Operand) (n : Numeric) (v : LocalState) → ActOk (switch o n v)
  switch_ok Nothing (Int4 z) v = tt
  switch_ok Nothing (Int8 z) v = tt
  switch_ok Nothing (IntNative z) v = tt
  switch_ok Nothing NoNumber v = tt
  switch_ok (Int n) (Int4 z) v = tt
  switch_ok (Int n) (Int8 z) v = tt
  switch_ok (Int n) (IntNative z) v = tt
  switch_ok (Int n) NoNumber v = tt
  switch_ok (Index n) (Int4 z) v = tt
  switch_ok (Index n) (Int8 z) v = tt
  switch_ok (Index n) (IntNative z) v = tt
  switch_ok (Index n) NoNumber v = tt
  switch_ok (Target n) (Int4 z) v = tt
  switch_ok (Target n) (Int8 z) v = tt
  switch_ok (Target n) (IntNative z) v = tt
  switch_ok (Target n) NoNumber v = tt
  switch_ok (Targets ns) (Int4 z) v = jump_ok (slice_get ns (number.unsigned number.size_32 z)) v
  switch_ok (Targets ns) (Int8 z) v = tt
  switch_ok (Targets ns) (IntNative z) v = tt
  switch_ok (Targets ns) NoNumber v = tt
  switch_ok (Tok a t) (Int4 z) v = tt
  switch_ok (Tok a t) (Int8 z) v = tt
  switch_ok (Tok a t) (IntNative z) v = tt
  switch_ok (Tok a t) NoNumber v = tt

  -- ---- arguments and locals

  load_arguments : (o : Operand) (v : LocalState) → Acts (λ q. load_argument o v)
  load_arguments Nothing v = (refl, tt)
  load_arguments (Int n) v = (refl, tt)
  load_arguments (Index n) v = some (λ q. slice_get v.args n) (λ q (c : Cell). goes_with v c.value v.stack) refl (λ c e. (refl, tt))
  load_arguments (Target n) v = (refl, tt)
  load_arguments (Targets ns) v = (refl, tt)
  load_arguments (Tok a t) v = (refl, tt)

  load_locals : (o : Operand) (v : LocalState) → Acts (λ q. load_local o v)
  load_locals Nothing v = (refl, tt)
  load_locals (Int n) v = (refl, tt)
  load_locals (Index n) v = some (λ q. slice_get v.locals n) (λ q (c : Cell). goes_with v c.value v.stack) refl (λ c e. (refl, tt))
  load_locals (Target n) v = (refl, tt)
  load_locals (Targets ns) v = (refl, tt)
  load_locals (Tok a t) v = (refl, tt)

  store_arguments : (o : Operand) (v : LocalState) → AllFine v.stack → Acts (λ q. store_argument q o v)
  store_arguments Nothing v f = (refl, tt)
  store_arguments (Int n) v f = (refl, tt)
  store_arguments (Index n) v f = top v.stack (λ q x rest. if_some (option_and_then (set_cell q x) (slice_get v.args n)) (λ c. GoOn [] (record v { args = slice_set v.args n c; stack = rest }))) f (λ x rest fx fr. some (λ q. option_and_then (set_cell q x) (slice_get v.args n)) (λ q c. GoOn [] (record v { args = slice_set v.args n c; stack = rest })) (option_on (set_cell p x) (set_cell p0 x) (slice_get v.args n) (λ c z. set_same p0 p k g.exception h l x c)) (λ c e. (refl, tt)))
  store_arguments (Target n) v f = (refl, tt)
  store_arguments (Targets ns) v f = (refl, tt)
  store_arguments (Tok a t) v f = (refl, tt)

  store_locals : (o : Operand) (v : LocalState) → AllFine v.stack → Acts (λ q. store_local q o v)
  store_locals Nothing v f = (refl, tt)
  store_locals (Int n) v f = (refl, tt)
  store_locals (Index n) v f = top v.stack (λ q x rest. if_some (option_and_then (set_cell q x) (slice_get v.locals n)) (λ c. GoOn [] (record v { locals = slice_set v.locals n c; stack = rest }))) f (λ x rest fx fr. some (λ q. option_and_then (set_cell q x) (slice_get v.locals n)) (λ q c. GoOn [] (record v { locals = slice_set v.locals n c; stack = rest })) (option_on (set_cell p x) (set_cell p0 x) (slice_get v.locals n) (λ c z. set_same p0 p k g.exception h l x c)) (λ c e. (refl, tt)))
  store_locals (Target n) v f = (refl, tt)
  store_locals (Targets ns) v f = (refl, tt)
  store_locals (Tok a t) v f = (refl, tt)

  point_arguments : (here : Here) (o : Operand) (v : LocalState) → Acts (λ q. point_to_argument here o v)
  point_arguments here Nothing v = (refl, tt)
  point_arguments here (Int n) v = (refl, tt)
  point_arguments here (Index n) v = (refl, tt)
  point_arguments here (Target n) v = (refl, tt)
  point_arguments here (Targets ns) v = (refl, tt)
  point_arguments here (Tok a t) v = (refl, tt)

  point_locals : (here : Here) (o : Operand) (v : LocalState) → Acts (λ q. point_to_local here o v)
  point_locals here Nothing v = (refl, tt)
  point_locals here (Int n) v = (refl, tt)
  point_locals here (Index n) v = (refl, tt)
  point_locals here (Target n) v = (refl, tt)
  point_locals here (Targets ns) v = (refl, tt)
  point_locals here (Tok a t) v = (refl, tt)

  push_ints : (back : ℤ → Value) (o : Operand) (v : LocalState) → Acts (λ q. push_int back o v)
  push_ints back Nothing v = (refl, tt)
  push_ints back (Int n) v = (refl, tt)
  push_ints back (Index n) v = (refl, tt)
  push_ints back (Target n) v = (refl, tt)
  push_ints back (Targets ns) v = (refl, tt)
  push_ints back (Tok a t) v = (refl, tt)

  leaves_to : (o : Operand) → Acts (λ q. leave_to o)
  leaves_to Nothing = (refl, tt)
  leaves_to (Int n) = (refl, tt)
  leaves_to (Index n) = (refl, tt)
  leaves_to (Target n) = (refl, tt)
  leaves_to (Targets ns) = (refl, tt)
  leaves_to (Tok a t) = (refl, tt)

  throws_value : (o : Value-F Value) → Acts (λ q. throw_value o)
  throws_value (Value-F.Ptr q) = (refl, tt)
  throws_value (Value-F.Obj x) = (refl, tt)
  throws_value (Value-F.Text units) = (refl, tt)
  throws_value Value-F.Null = (refl, tt)
  throws_value (Value-F.I4 n) = (refl, tt)
  throws_value (Value-F.I8 n) = (refl, tt)
  throws_value (Value-F.Native n) = (refl, tt)
  throws_value (Value-F.Struct vs) = (refl, tt)
  throws_value (Value-F.Func m u) = (refl, tt)
  throws_value (Value-F.Opaque bytes) = (refl, tt)

  pushes_function : (m : Option Meaning) (v : LocalState) → Acts (λ q. push_function m v)
  pushes_function None v = (refl, tt)
  pushes_function (Some (OfType t)) v = (refl, tt)
  pushes_function (Some (OfField owner f)) v = (refl, tt)
  pushes_function (Some (OfMethod owner m args)) v = (refl, tt)
  pushes_function (Some (OfText units)) v = (refl, tt)
  pushes_function (Some (OfLocals ts)) v = (refl, tt)

  -- ---- types of values

  casts : (t : Ty) (v : Value) (passes other : Act) (w : World) → Held w → ActOk passes → ActOk other → Acts (λ q. cast q t v passes other w)
  casts t v passes other w held a c =
      either (λ q. is_null v) (λ q. passes) (λ q. if_some (dynamic_type w v) (λ u. if is_sub q u t then passes else other)) refl (λ e. (refl, a))
      (λ e. some (λ q. dynamic_type w v) (λ q u. if is_sub q u t then passes else other) refl (λ u z. either (λ q. is_sub q u t) (λ q. passes) (λ q. other) (l.subs u t (type_held p0 p k ms g r h l tys me w v u held z)) (λ e2. (refl, a)) (λ e2. (refl, c))))

  unboxed_ok : (w : World) (t : Ty) (o : Value-F Value) (go : ℕ → Cell → Act) → ((x : ℕ) (c : Cell) → ActOk (go x c)) → ActOk (unboxed w t o go)
  unboxed_ok w t (Value-F.Obj x) go a = by_object (object_at w x)
    where
      by_cell : (o : Option Cell) → ActOk (if_some o (go x))
      by_cell None = tt
      by_cell (Some c) = a x c

      by_test : (o : Object) (b : Bool) → ActOk (if b then if_some (slice_get o.cells 0) (go x) else invalid_cast)
      by_test o true = by_cell (slice_get o.cells 0)
      by_test o false = tt

      by_object : (o : Option Object) → ActOk (if_some o (λ (o : Object). if same_ty o.ty t then if_some (slice_get o.cells 0) (go x) else invalid_cast))
      by_object None = tt
      by_object (Some o) = by_test o (same_ty o.ty t)
  unboxed_ok w t (Value-F.Ptr q) go a = tt
  unboxed_ok w t (Value-F.Text units) go a = tt
  unboxed_ok w t Value-F.Null go a = tt
  unboxed_ok w t (Value-F.I4 n) go a = tt
  unboxed_ok w t (Value-F.I8 n) go a = tt
  unboxed_ok w t (Value-F.Native n) go a = tt
  unboxed_ok w t (Value-F.Struct vs) go a = tt
  unboxed_ok w t (Value-F.Func m u) go a = tt
  unboxed_ok w t (Value-F.Opaque bytes) go a = tt

  unboxes : (w : World) (t : Ty) (v : Value) (x : LocalState) (rest : List Value) → Acts (λ q. unbox q w t v x rest)
  unboxes w t v x rest =
      either (λ q. is_reference (storage q t)) (λ q. Stuck) (λ q. unboxed w t (out-Value v) (λ n c. goes_with x (Ptr (Inside n (0 ∷ []))) rest)) (ap is_reference (l.storages t)) (λ e. (refl, tt)) (λ e. (refl, unboxed_ok w t (out-Value v) (λ n c. goes_with x (Ptr (Inside n (0 ∷ []))) rest) (λ n c. tt)))

  boxes : (t : Ty) (v : Value) (rest : List Value) (w : World) (x : LocalState) → Acts (λ q. box q t v rest w x)
  boxes t v rest w x =
      either (λ q. is_reference (storage q t)) (λ q. goes_with x v rest) (λ q. if_some (new_cell q t v) (λ c. goes_with_new w (record { ty = t; cells = c ∷ [] }) x rest)) (ap is_reference (l.storages t)) (λ e. (refl, tt))
      (λ e. some (λ q. new_cell q t v) (λ q c. goes_with_new w (record { ty = t; cells = c ∷ [] }) x rest) (new_same p0 p k g.exception h l t v) (λ c z. (refl, (struct_held p0 p k ms g r h l tys me t e, tt))))

  -- ---- fields

  extended_own : (i : ℕ) (q : Pointer) → OwnPointer p0 q → OwnPointer p0 (extended i q)
  extended_own i (Arg f m n is) own = tt
  extended_own i (Local f m n is) own = tt
  extended_own i (Inside x is) own = tt
  extended_own i (Static t f is) own = own

  module _ (w : World) (held : Held w) (owner : Ty) (f : ℕ) (old : IsOld p0 owner) (own : f < length p0.fields) where
    place_same : field_place p owner f ≡ field_place p0 owner f
    place_same = l.field_places owner f (inl old) own

    object_place_same : (x : ℕ) → field_of_object p w x f ≡ field_of_object p0 w x f
    object_place_same x =
        option_on (λ (o : Object). if is_reference (storage p o.ty) then field_place p o.ty f else None) (λ (o : Object). if is_reference (storage p0 o.ty) then field_place p0 o.ty f else None) (object_at w x)
        (λ o q. ap (λ (s : Storage). if is_reference s then field_place p o.ty f else None) (l.storages o.ty) ∙ ap (λ (n : Option ℕ). if is_reference (storage p0 o.ty) then n else None) (l.field_places o.ty f (held_at p0 g.exception w x o held q) own))

    fields : (v : Value) (go : Pointer → Act) (other : Program → Act) → Fine v → ((q : Pointer) → OwnPointer p0 q → ActOk (go q)) → Acts other → Acts (λ q. on_field q w owner f (out-Value v) go (other q))
    fields v go other fine a c = by_out (out-Value v) (λ q e. own_in v q fine e)
      where
        by_out : (o : Value-F Value) → ((q : Pointer) → pointer_in o ≡ Some q → OwnPointer p0 q) → Acts (λ q. on_field q w owner f o go (other q))
        by_out Value-F.Null there_ = (refl, tt)
        by_out (Value-F.Obj x) there_ = some (λ q. field_of_object q w x f) (λ q i. go (Inside x (i ∷ []))) (object_place_same x) (λ i e. (refl, a (Inside x (i ∷ [])) tt))
        by_out (Value-F.Ptr q) there_ = some (λ p. field_place p owner f) (λ p i. go (extended i q)) place_same (λ i e. (refl, a (extended i q) (extended_own i q (there_ q refl))))
        by_out (Value-F.Text units) there_ = c
        by_out (Value-F.I4 n) there_ = c
        by_out (Value-F.I8 n) there_ = c
        by_out (Value-F.Native n) there_ = c
        by_out (Value-F.Struct vs) there_ = c
        by_out (Value-F.Func m u) there_ = c
        by_out (Value-F.Opaque bytes) there_ = c

    field_in : (v : Value) (x : LocalState) (rest : List Value) → Acts (λ q. field_of_value q owner f v x rest)
    field_in v x rest = some (λ q. option_and_then (slice_get (fields_in (out-Value v))) (field_place q owner f)) (λ q y. goes_with x y rest) (ap (λ (o : Option ℕ). option_and_then (slice_get (fields_in (out-Value v))) o) place_same) (λ y e. (refl, tt))

    static_same : (field_of p f).is_static ≡ (field_of p0 f).is_static
    static_same = (h.tables.extends.fields f own).is_static

    statics : (go : Ty → Pointer → Act) → (OwnPointer p0 (Static owner f []) → ActOk (go owner (Static owner f []))) → Acts (λ q. if (field_of q f).is_static then maybe Stuck (λ (d : ℕ × List Ty). go owner (Static owner f [])) (in_set (out-Ty owner)) else Stuck)
    statics go a = either (λ q. (field_of q f).is_static) (λ q. maybe Stuck (λ (d : ℕ × List Ty). go owner (Static owner f [])) (in_set (out-Ty owner))) (λ q. Stuck) static_same (λ e. (refl, by_set (in_set (out-Ty owner)))) (λ e. (refl, tt))
      where
        by_set : (d : Option (ℕ × List Ty)) → ActOk (maybe Stuck (λ (d : ℕ × List Ty). go owner (Static owner f [])) d)
        by_set None = tt
        by_set (Some d) = a old

  -- what a token means where it stands, of the input
  abbrev pub MeantOwn : Option Meaning → Type 0
  MeantOwn (Some (OfField owner f)) = IsOld p0 owner × (f < length p0.fields)
  MeantOwn (Some (OfMethod owner m args)) = IsOld p0 owner × (m < length p0.methods)
  MeantOwn m = Unit {0}

  loads_field : (m : Option Meaning) (w : World) (x : LocalState) → Held w → MeantOwn m → AllFine x.stack → Acts (λ q. load_field q m w x)
  loads_field (Some (OfField owner f)) w x held own fine =
      top x.stack (λ q v rest. on_field q w owner f (out-Value v) (λ r. Load r Anything (with_stack x rest)) (field_of_value q owner f v x rest)) fine
      (λ v rest fv fr. fields w held owner f own.0 own.1 v (λ r. Load r Anything (with_stack x rest)) (λ q. field_of_value q owner f v x rest) fv (λ r o. o) (field_in w held owner f own.0 own.1 v x rest))
  loads_field None w x held own fine = (refl, tt)
  loads_field (Some (OfType t)) w x held own fine = (refl, tt)
  loads_field (Some (OfMethod owner m args)) w x held own fine = (refl, tt)
  loads_field (Some (OfText units)) w x held own fine = (refl, tt)
  loads_field (Some (OfLocals ts)) w x held own fine = (refl, tt)

  points_field : (m : Option Meaning) (w : World) (x : LocalState) → Held w → MeantOwn m → AllFine x.stack → Acts (λ q. point_to_field q m w x)
  points_field (Some (OfField owner f)) w x held own fine =
      top x.stack (λ q v rest. on_field q w owner f (out-Value v) (λ r. goes_with x (Ptr r) rest) Stuck) fine (λ v rest fv fr. fields w held owner f own.0 own.1 v (λ r. goes_with x (Ptr r) rest) (λ q. Stuck) fv (λ r o. tt) (refl, tt))
  points_field None w x held own fine = (refl, tt)
  points_field (Some (OfType t)) w x held own fine = (refl, tt)
  points_field (Some (OfMethod owner m args)) w x held own fine = (refl, tt)
  points_field (Some (OfText units)) w x held own fine = (refl, tt)
  points_field (Some (OfLocals ts)) w x held own fine = (refl, tt)

  stores_field : (m : Option Meaning) (w : World) (x : LocalState) → Held w → MeantOwn m → AllFine x.stack → Acts (λ q. store_field q m w x)
  stores_field (Some (OfField owner f)) w x held own fine =
      two x.stack (λ q o v rest. on_field q w owner f (out-Value o) (λ r. Store r v (with_stack x rest)) Stuck) fine (λ o v rest fo fv fr. fields w held owner f own.0 own.1 o (λ r. Store r v (with_stack x rest)) (λ q. Stuck) fo (λ r z. z) (refl, tt))
  stores_field None w x held own fine = (refl, tt)
  stores_field (Some (OfType t)) w x held own fine = (refl, tt)
  stores_field (Some (OfMethod owner m args)) w x held own fine = (refl, tt)
  stores_field (Some (OfText units)) w x held own fine = (refl, tt)
  stores_field (Some (OfLocals ts)) w x held own fine = (refl, tt)

  on_statics : (m : Option Meaning) (w : World) (go : Ty → Pointer → Act) → Held w → MeantOwn m → ((t : Ty) (q : Pointer) → IsOld p0 t → OwnPointer p0 q → ActOk (go t q)) → Acts (λ q. on_static q m go)
  on_statics (Some (OfField owner f)) w go held own a = statics w held owner f own.0 own.1 go (λ o. a owner (Static owner f []) own.0 o)
  on_statics None w go held own a = (refl, tt)
  on_statics (Some (OfType t)) w go held own a = (refl, tt)
  on_statics (Some (OfMethod owner m args)) w go held own a = (refl, tt)
  on_statics (Some (OfText units)) w go held own a = (refl, tt)
  on_statics (Some (OfLocals ts)) w go held own a = (refl, tt)

  -- ---- arrays

  arrays : (t : Ty) (n : ℤ) (w : World) (x : LocalState) (rest : List Value) → Acts (λ q. made_array q t n w x rest)
  arrays t (pos n) w x rest = (ap (λ (c : Cell). goes_with_new w (record { ty = ty.Array t; cells = replicate n c }) x rest) (default_same p0 p k g.exception h l t), (inl (array_old p0 t), tt))
  arrays t (negsuc n) w x rest = (refl, tt)

  on_arrays : (w : World) (o : Value-F Value) (go : Program → ℕ → Object → Ty → Act) → ((x : ℕ) (o : Object) (t : Ty) → Acts (λ q. go q x o t)) → Acts (λ q. on_array w o (go q))
  on_arrays w (Value-F.Obj x) go a = some (λ q. object_at w x) (λ q (o : Object). if_some (item_type o) (go q x o)) refl (λ o e. some (λ q. item_type o) (λ q t. go q x o t) refl (λ t z. a x o t))
  on_arrays w (Value-F.Ptr q) go a = (refl, tt)
  on_arrays w (Value-F.Text units) go a = (refl, tt)
  on_arrays w Value-F.Null go a = (refl, tt)
  on_arrays w (Value-F.I4 n) go a = (refl, tt)
  on_arrays w (Value-F.I8 n) go a = (refl, tt)
  on_arrays w (Value-F.Native n) go a = (refl, tt)
  on_arrays w (Value-F.Struct vs) go a = (refl, tt)
  on_arrays w (Value-F.Func m u) go a = (refl, tt)
  on_arrays w (Value-F.Opaque bytes) go a = (refl, tt)

  at_indexes : (n : ℕ) (z : ℤ) (go : Program → ℕ → Act) → ((i : ℕ) → Acts (λ q. go q i)) → Acts (λ q. at_index n z (go q))
  at_indexes n (pos i) go a = either (λ q. nat_lt i n) (λ q. go q i) (λ q. out_of_range) refl (λ e. a i) (λ e. (refl, tt))
  at_indexes n (negsuc i) go a = (refl, tt)

  items : (w : World) (a i : Value) (go : Program → Pointer → Ty → Act) → ((q : Pointer) (t : Ty) → OwnPointer p0 q → Acts (λ p. go p q t)) → Acts (λ q. on_item w a i (go q))
  items w a i go h2 =
      some (λ q. index_number (numeric i)) (λ q z. on_array w (out-Value a) (λ x o t. at_index (length o.cells) z (λ j. go q (Inside x (j ∷ [])) t))) refl
      (λ z e. on_arrays w (out-Value a) (λ q x o t. at_index (length o.cells) z (λ j. go q (Inside x (j ∷ [])) t)) (λ x o t. at_indexes (length o.cells) z (λ q j. go q (Inside x (j ∷ [])) t) (λ j. h2 (Inside x (j ∷ [])) t tt)))

  item_fits : (w : World) (t : Ty) (v : Value) → Held w → fits_item p w t v ≡ fits_item p0 w t v
  item_fits w t v held = ap (λ (b : Bool). is_null v || b) (maybe_on true (λ u. is_sub p u t) (λ u. is_sub p0 u t) (dynamic_type w v) (λ u e. l.subs u t (type_held p0 p k ms g r h l tys me w v u held e)))

  stores_item : (w : World) (x : LocalState) (store : Program → Value → Option Value) (s : List Value) → Held w → ((v : Value) → store p v ≡ store p0 v) → Acts (λ q. store_item q w x (store q) s)
  stores_item w x store [] held same = (refl, tt)
  stores_item w x store (v ∷ []) held same = (refl, tt)
  stores_item w x store (v ∷ i ∷ []) held same = (refl, tt)
  stores_item w x store (v ∷ i ∷ a ∷ rest) held same =
      items w a i (λ q r t. if_some (store q v) (λ y. if is_reference (storage q t) && not (fits_item q w t y) then Raise (codes "System.ArrayTypeMismatchException") else Store r y (with_stack x rest)))
      (λ r t own. some (λ q. store q v) (λ q y. if is_reference (storage q t) && not (fits_item q w t y) then Raise (codes "System.ArrayTypeMismatchException") else Store r y (with_stack x rest)) (same v)
      (λ y e. either (λ q. is_reference (storage q t) && not (fits_item q w t y)) (λ q. Raise (codes "System.ArrayTypeMismatchException")) (λ q. Store r y (with_stack x rest)) (ap (λ (b : Storage). is_reference b && not (fits_item p w t y)) (l.storages t) ∙ ap (λ (b : Bool). is_reference (storage p0 t) && not b) (item_fits w t y held)) (λ e2. (refl, tt)) (λ e2. (refl, own))))

  -- ---- calls

  arity_same : (m : ℕ) → m < length p0.methods → arity p m ≡ arity p0 m
  arity_same m own = ap (λ (ts : List Ty). length ts) (h.tables.extends.methods m own).params

  with_this_same : (m : ℕ) → m < length p0.methods → with_this p m ≡ with_this p0 m
  with_this_same m own =
      ap (λ (b : Bool). if b then arity p m else suc (arity p m)) (h.tables.extends.methods m own).is_static ∙ ap (λ n. if (method_of p0 m).is_static then n else suc n) (arity_same m own)

  takes : (i : Instr) (here : Here) (count : Program → ℕ) (owner : Ty) (m : ℕ) (args : List Ty) (x : LocalState) (go : Call → LocalState → Act) → constrained_here p here i ≡ constrained_here p0 here i → count p ≡ count p0 → IsOld p0 owner → m < length p0.methods → WellFormedLocal (bounds p k ms g r) x
      → ((c : Call) (y : LocalState) → CallOk c → WellFormedLocal (bounds p k ms g r) y → ActOk (go c y)) → Acts (λ q. taken q i here (count q) (Some (OfMethod owner m args)) x go)
  takes i here count owner m args x go constrained counts old own fine a =
      known count (λ q n. taken q i here n (Some (OfMethod owner m args)) x go) counts
      (known (λ q. constrained_here q here i) (λ q c. if nat_le (count p) (length x.stack) then go (record { owner = owner; method = m; method_args = args; values = reverse (take (count p) x.stack); constrained = c }) (with_stack x (drop (count p) x.stack)) else Stuck) constrained (
        refl,
        if_ok (nat_le (count p) (length x.stack)) (go (record { owner = owner; method = m; method_args = args; values = reverse (take (count p) x.stack); constrained = constrained_here p here i }) (with_stack x (drop (count p) x.stack))) Stuck
            (a (record { owner = owner; method = m; method_args = args; values = reverse (take (count p) x.stack); constrained = constrained_here p here i }) (with_stack x (drop (count p) x.stack)) (old, own, reversed (bounds p k ms g r) (take (count p) x.stack) (taken_values (bounds p k ms g r) (count p) x.stack fine.stack)) (record { args = fine.args; locals = fine.locals; captured = fine.captured; result = fine.result; stack = dropped_values (bounds p k ms g r) (count p) x.stack fine.stack })) tt,
      ))

  -- a call of what a token means
  calls : (i : Instr) (here : Here) (count : Program → Option Meaning → ℕ) (m : Option Meaning) (x : LocalState) (go : Call → LocalState → Act) → constrained_here p here i ≡ constrained_here p0 here i → ((owner : Ty) (n : ℕ) (args : List Ty) → n < length p0.methods → count p (Some (OfMethod owner n args)) ≡ count p0 (Some (OfMethod owner n args))) → MeantOwn m → WellFormedLocal (bounds p k ms g r) x
      → ((c : Call) (y : LocalState) → CallOk c → WellFormedLocal (bounds p k ms g r) y → ActOk (go c y)) → Acts (λ q. taken q i here (count q m) m x go)
  calls i here count (Some (OfMethod owner m args)) x go constrained counts own fine a = takes i here (λ q. count q (Some (OfMethod owner m args))) owner m args x go constrained (counts owner m args own.1) own.0 own.1 fine a
  calls i here count None x go constrained counts own fine a = (refl, tt)
  calls i here count (Some (OfType t)) x go constrained counts own fine a = (refl, tt)
  calls i here count (Some (OfField owner f)) x go constrained counts own fine a = (refl, tt)
  calls i here count (Some (OfText units)) x go constrained counts own fine a = (refl, tt)
  calls i here count (Some (OfLocals ts)) x go constrained counts own fine a = (refl, tt)

  -- ---- names

  -- what a token names whose name is loaded
  abbrev pub NamedOwn : Option Meaning → Type 0
  NamedOwn (Some (OfType t)) = IsOld p0 t
  NamedOwn m = Unit {0}

  handle_same : (m : Option Meaning) → NamedOwn m → MeantOwn m → option_and_then (handle_of p) m ≡ option_and_then (handle_of p0) m
  handle_same None a own = refl
  handle_same (Some (OfType t)) a own = ap Some (l.names t (inl a))
  handle_same (Some (OfField owner f)) a own =
      ap (λ n. Some (member_name n (field_of p f).name)) (l.names owner (inl own.0)) ∙ ap (λ n. Some (member_name (ty_name p0 owner) n)) (h.tables.extends.fields f own.1).name
  handle_same (Some (OfMethod owner m args)) a own =
      ap (λ n. Some (member_name n (method_of p m).name)) (l.names owner (inl own.0)) ∙ ap (λ n. Some (member_name (ty_name p0 owner) n)) (h.tables.extends.methods m own.1).name
  handle_same (Some (OfText units)) a own = refl
  handle_same (Some (OfLocals ts)) a own = refl

  -- ---- by class

  module _ (here : Here) (i : Instr) (w : World) (x : LocalState) (held : Held w) (local : WellFormedLocal (bounds p k ms g r) x) (same : meaning_here p here i ≡ meaning_here p0 here i) (constrained : constrained_here p here i ≡ constrained_here p0 here i) (own : MeantOwn (meaning_here p here i)) where
    fine : AllFine x.stack
    fine = local.stack

    abbrev C : Class → Type 0
    C c = Acts (λ q. act_of_class q here i w x c)

    -- where what the token means is known
    meant : (F : Program → Option Meaning → Act) → Acts (λ q. F q (meaning_here p here i)) → Acts (λ q. F q (meaning_here q here i))
    meant F a = known (λ q. meaning_here q here i) F same a

    abbrev M : Option Meaning
    M = meaning_here p here i

    pub by_class : (c : Class) → (c ≡ class.LoadToken → NamedOwn M) → C c
    unfolding act_of_class
    by_class class.Nop named = (refl, tt)
    by_class class.LoadArgument named = load_arguments i.operand x
    by_class class.StoreArgument named = store_arguments i.operand x fine
    by_class class.ArgumentAddress named = point_arguments here i.operand x
    by_class class.LoadLocal named = load_locals i.operand x
    by_class class.StoreLocal named = store_locals i.operand x fine
    by_class class.LocalAddress named = point_locals here i.operand x
    by_class class.LoadNull named = (refl, tt)
    by_class class.LoadInt named = push_ints I4 i.operand x
    by_class class.LoadLong named = push_ints I8 i.operand x
    by_class class.LoadString named = meant (λ q m. if_some (text_in m) (λ v. goes_with x v x.stack)) (some (λ q. text_in M) (λ q v. goes_with x v x.stack) refl (λ v e. (refl, tt)))
    by_class class.LoadToken named = meant (λ q m. if_some (option_and_then (handle_of q) m) (λ name. goes_with x (value.Opaque name) x.stack)) (some (λ q. option_and_then (handle_of q) M) (λ q name. goes_with x (value.Opaque name) x.stack) (handle_same M (named refl) own) (λ n e. (refl, tt)))
    by_class class.SizeOf named = meant (λ q m. on_type m (λ t. if_some (size_at (out-Ty t)) (λ n. goes_with x (I4 (pos n)) x.stack))) (typed M (λ q t. if_some (size_at (out-Ty t)) (λ n. goes_with x (I4 (pos n)) x.stack)) (λ t. some (λ q. size_at (out-Ty t)) (λ q n. goes_with x (I4 (pos n)) x.stack) refl (λ n e. (refl, tt))))
    by_class class.LoadFunction named = meant (λ q m. push_function m x) (pushes_function M x)
    by_class class.Duplicate named = top x.stack (λ q v rest. goes_with x v (v ∷ rest)) fine (λ v rest fv fr. (refl, tt))
    by_class class.Pop named = top x.stack (λ q v rest. GoOn [] (record x { stack = rest })) fine (λ v rest fv fr. (refl, tt))
    by_class (class.Binary op) named = two x.stack (λ q y z rest. compute op (paired (numeric y) (numeric z)) (record x { stack = rest })) fine (λ y z rest fa fb fr. (refl, compute_ok op (paired (numeric y) (numeric z)) (record x { stack = rest })))
    by_class (class.Shift s) named = two x.stack (λ q y z rest. if_some (option_and_then (shift s (numeric y)) (shift_count (numeric z))) (λ v. goes_with x v rest)) fine (λ y z rest fa fb fr. some (λ q. option_and_then (shift s (numeric y)) (shift_count (numeric z))) (λ q v. goes_with x v rest) refl (λ v e. (refl, tt)))
    by_class (class.Unary u) named = top x.stack (λ q v rest. if_some (unary u (numeric v)) (λ y. goes_with x y rest)) fine (λ v rest fv fr. some (λ q. unary u (numeric v)) (λ q y. goes_with x y rest) refl (λ y e. (refl, tt)))
    by_class (class.Convert t) named = top x.stack (λ q v rest. if_some (convert t (numeric v)) (λ y. goes_with x y rest)) fine (λ v rest fv fr. some (λ q. convert t (numeric v)) (λ q y. goes_with x y rest) refl (λ y e. (refl, tt)))
    by_class (class.ConvertChecked u t) named = top x.stack (λ q v rest. if_some (read_number u (numeric v)) (λ z. convert_checked t z x rest)) fine (λ v rest fv fr. some (λ q. read_number u (numeric v)) (λ q z. convert_checked t z x rest) refl (λ z e. (refl, if_ok (number.lies_in t z) (goes_with x (put_in t z) rest) overflow tt tt)))
    by_class (class.Compare t) named = two x.stack (λ q y z rest. if_some (compare t y z) (λ b. goes_with x (flag b) rest)) fine (λ y z rest fa fb fr. some (λ q. compare t y z) (λ q b. goes_with x (flag b) rest) refl (λ b e. (refl, tt)))
    by_class class.Jump named = (refl, branch_ok i.operand true x)
    by_class class.Switch named = top x.stack (λ q v rest. switch i.operand (numeric v) (record x { stack = rest })) fine (λ v rest fv fr. (refl, switch_ok i.operand (numeric v) (record x { stack = rest })))
    by_class (class.Branch wanted) named = top x.stack (λ q v rest. if_some (truth v) (λ b. branch i.operand (is_wanted wanted b) (record x { stack = rest }))) fine (λ v rest fv fr. some (λ q. truth v) (λ q b. branch i.operand (is_wanted wanted b) (record x { stack = rest })) refl (λ b e. (refl, branch_ok i.operand (is_wanted wanted b) (record x { stack = rest }))))
    by_class (class.CompareBranch t wanted) named = two x.stack (λ q y z rest. if_some (compare t y z) (λ b. branch i.operand (is_wanted wanted b) (record x { stack = rest }))) fine (λ y z rest fa fb fr. some (λ q. compare t y z) (λ q b. branch i.operand (is_wanted wanted b) (record x { stack = rest })) refl (λ b e. (refl, branch_ok i.operand (is_wanted wanted b) (record x { stack = rest }))))
    by_class (class.LoadIndirect s) named = top x.stack (λ q v rest. on_pointer v (λ r. Load r s (record x { stack = rest }))) fine (λ v rest fv fr. pointed v (λ q r. Load r s (record x { stack = rest })) fv (λ r o. (refl, o)))
    by_class (class.StoreIndirect s) named = two x.stack (λ q y z rest. on_pointer y (λ r. if_some (stored s z) (λ v. Store r v (record x { stack = rest })))) fine (λ y z rest fa fb fr. pointed y (λ q r. if_some (stored s z) (λ v. Store r v (record x { stack = rest }))) fa (λ r o. some (λ q. stored s z) (λ q v. Store r v (record x { stack = rest })) refl (λ v e. (refl, o))))
    by_class class.CopyObject named = meant (λ q m. on_type m (λ t. on_two x.stack (λ to from rest. on_pointer to (λ a. on_pointer from (λ b. Copy a b (storage q t) (record x { stack = rest })))))) (typed M (λ q t. on_two x.stack (λ to from rest. on_pointer to (λ a. on_pointer from (λ b. Copy a b (storage q t) (record x { stack = rest }))))) (λ t. two x.stack (λ q to from rest. on_pointer to (λ a. on_pointer from (λ b. Copy a b (storage q t) (record x { stack = rest })))) fine (λ to from rest fa fb fr. pointed to (λ q a. on_pointer from (λ b. Copy a b (storage q t) (record x { stack = rest }))) fa (λ a oa. pointed from (λ q b. Copy a b (storage q t) (record x { stack = rest })) fb (λ b ob. (ap (λ s. Copy a b s (record x { stack = rest })) (l.storages t), (oa, ob)))))))
    by_class class.LoadObject named = meant (λ q m. on_type m (λ t. on_top x.stack (λ v rest. on_pointer v (λ r. Load r (storage q t) (record x { stack = rest }))))) (typed M (λ q t. on_top x.stack (λ v rest. on_pointer v (λ r. Load r (storage q t) (record x { stack = rest })))) (λ t. top x.stack (λ q v rest. on_pointer v (λ r. Load r (storage q t) (record x { stack = rest }))) fine (λ v rest fv fr. pointed v (λ q r. Load r (storage q t) (record x { stack = rest })) fv (λ r o. (ap (λ s. Load r s (record x { stack = rest })) (l.storages t), o)))))
    by_class class.StoreObject named = meant (λ q m. on_type m (λ t. on_two x.stack (λ y z rest. on_pointer y (λ r. if_some (stored_in q t z) (λ v. Store r v (record x { stack = rest })))))) (typed M (λ q t. on_two x.stack (λ y z rest. on_pointer y (λ r. if_some (stored_in q t z) (λ v. Store r v (record x { stack = rest }))))) (λ t. two x.stack (λ q y z rest. on_pointer y (λ r. if_some (stored_in q t z) (λ v. Store r v (record x { stack = rest })))) fine (λ y z rest fa fb fr. pointed y (λ q r. if_some (stored_in q t z) (λ v. Store r v (record x { stack = rest }))) fa (λ r o. some (λ q. stored_in q t z) (λ q v. Store r v (record x { stack = rest })) (l.stores t z) (λ v e. (refl, o))))))
    by_class class.InitObject named = meant (λ q m. on_type m (λ t. on_top x.stack (λ v rest. on_pointer v (λ r. Store r (default_value q t) (record x { stack = rest }))))) (typed M (λ q t. on_top x.stack (λ v rest. on_pointer v (λ r. Store r (default_value q t) (record x { stack = rest })))) (λ t. top x.stack (λ q v rest. on_pointer v (λ r. Store r (default_value q t) (record x { stack = rest }))) fine (λ v rest fv fr. pointed v (λ q r. Store r (default_value q t) (record x { stack = rest })) fv (λ r o. (ap (λ d. Store r d (record x { stack = rest })) (l.defaults t), o)))))
    by_class class.CastClass named = meant (λ q m. on_type m (λ t. on_top x.stack (λ v rest. cast q t v (goes_with x v rest) invalid_cast w))) (typed M (λ q t. on_top x.stack (λ v rest. cast q t v (goes_with x v rest) invalid_cast w)) (λ t. top x.stack (λ q v rest. cast q t v (goes_with x v rest) invalid_cast w) fine (λ v rest fv fr. casts t v (goes_with x v rest) invalid_cast w held tt tt)))
    by_class class.IsInstance named = meant (λ q m. on_type m (λ t. on_top x.stack (λ v rest. cast q t v (goes_with x v rest) (goes_with x Null rest) w))) (typed M (λ q t. on_top x.stack (λ v rest. cast q t v (goes_with x v rest) (goes_with x Null rest) w)) (λ t. top x.stack (λ q v rest. cast q t v (goes_with x v rest) (goes_with x Null rest) w) fine (λ v rest fv fr. casts t v (goes_with x v rest) (goes_with x Null rest) w held tt tt)))
    by_class class.Unbox named = meant (λ q m. on_type m (λ t. on_top x.stack (λ v rest. unbox q w t v x rest))) (typed M (λ q t. on_top x.stack (λ v rest. unbox q w t v x rest)) (λ t. top x.stack (λ q v rest. unbox q w t v x rest) fine (λ v rest fv fr. unboxes w t v x rest)))
    by_class class.Box named = meant (λ q m. on_type m (λ t. on_top x.stack (λ v rest. box q t v rest w x))) (typed M (λ q t. on_top x.stack (λ v rest. box q t v rest w x)) (λ t. top x.stack (λ q v rest. box q t v rest w x) fine (λ v rest fv fr. boxes t v rest w x)))
    by_class class.UnboxAny named = meant (λ q m. on_type m (λ t. on_top x.stack (λ v rest. if is_reference (storage q t) then cast q t v (goes_with x v rest) invalid_cast w else unboxed w t (out-Value v) (λ n (c : Cell). goes_with x c.value rest)))) (typed M (λ q t. on_top x.stack (λ v rest. if is_reference (storage q t) then cast q t v (goes_with x v rest) invalid_cast w else unboxed w t (out-Value v) (λ n (c : Cell). goes_with x c.value rest))) (λ t. top x.stack (λ q v rest. if is_reference (storage q t) then cast q t v (goes_with x v rest) invalid_cast w else unboxed w t (out-Value v) (λ n (c : Cell). goes_with x c.value rest)) fine (λ v rest fv fr. either (λ q. is_reference (storage q t)) (λ q. cast q t v (goes_with x v rest) invalid_cast w) (λ q. unboxed w t (out-Value v) (λ n (c : Cell). goes_with x c.value rest)) (ap is_reference (l.storages t)) (λ e. casts t v (goes_with x v rest) invalid_cast w held tt tt) (λ e. (refl, unboxed_ok w t (out-Value v) (λ n (c : Cell). goes_with x c.value rest) (λ n c. tt))))))
    by_class class.Throw named = top x.stack (λ q v rest. throw_value (out-Value v)) fine (λ v rest fv fr. throws_value (out-Value v))
    by_class class.Rethrow named = (refl, tt)
    by_class class.LoadField named = meant (λ q m. load_field q m w x) (loads_field M w x held own fine)
    by_class class.FieldAddress named = meant (λ q m. point_to_field q m w x) (points_field M w x held own fine)
    by_class class.StoreField named = meant (λ q m. store_field q m w x) (stores_field M w x held own fine)
    by_class class.LoadStatic named = meant (λ q m. on_static q m (λ t r. UseStatic t (Read r) x)) (on_statics M w (λ t r. UseStatic t (Read r) x) held own (λ t r a b. (a, b)))
    by_class class.StaticAddress named = meant (λ q m. on_static q m (λ t r. UseStatic t (PointTo r) x)) (on_statics M w (λ t r. UseStatic t (PointTo r) x) held own (λ t r a b. (a, b)))
    by_class class.StoreStatic named = meant (λ q m. on_top x.stack (λ v rest. on_static q m (λ t r. UseStatic t (Write r v) (record x { stack = rest })))) (top x.stack (λ q v rest. on_static q M (λ t r. UseStatic t (Write r v) (record x { stack = rest }))) fine (λ v rest fv fr. on_statics M w (λ t r. UseStatic t (Write r v) (record x { stack = rest })) held own (λ t r a b. (a, b))))
    by_class class.NewArray named = meant (λ q m. on_type m (λ t. on_top x.stack (λ v rest. if_some (index_number (numeric v)) (λ z. made_array q t z w x rest)))) (typed M (λ q t. on_top x.stack (λ v rest. if_some (index_number (numeric v)) (λ z. made_array q t z w x rest))) (λ t. top x.stack (λ q v rest. if_some (index_number (numeric v)) (λ z. made_array q t z w x rest)) fine (λ v rest fv fr. some (λ q. index_number (numeric v)) (λ q z. made_array q t z w x rest) refl (λ z e. arrays t z w x rest))))
    by_class class.ArrayLength named = top x.stack (λ q v rest. on_array w (out-Value v) (λ n (o : Object) t. goes_with x (Native (pos (length o.cells))) rest)) fine (λ v rest fv fr. on_arrays w (out-Value v) (λ q n (o : Object) t. goes_with x (Native (pos (length o.cells))) rest) (λ n o t. (refl, tt)))
    by_class class.ElementAddress named = two x.stack (λ q y z rest. on_item w y z (λ r t. goes_with x (Ptr r) rest)) fine (λ y z rest fa fb fr. items w y z (λ q r t. goes_with x (Ptr r) rest) (λ r t o. (refl, tt)))
    by_class class.LoadTypedElement named = meant (λ q m. on_type m (λ t. on_two x.stack (λ y z rest. on_item w y z (λ r u. Load r (storage q t) (record x { stack = rest }))))) (typed M (λ q t. on_two x.stack (λ y z rest. on_item w y z (λ r u. Load r (storage q t) (record x { stack = rest })))) (λ t. two x.stack (λ q y z rest. on_item w y z (λ r u. Load r (storage q t) (record x { stack = rest }))) fine (λ y z rest fa fb fr. items w y z (λ q r u. Load r (storage q t) (record x { stack = rest })) (λ r u o. (ap (λ s. Load r s (record x { stack = rest })) (l.storages t), o)))))
    by_class class.StoreTypedElement named = meant (λ q m. on_type m (λ t. store_item q w x (stored_in q t) x.stack)) (typed M (λ q t. store_item q w x (stored_in q t) x.stack) (λ t. stores_item w x (λ q. stored_in q t) x.stack held (λ v. l.stores t v)))
    by_class (class.LoadElement s) named = two x.stack (λ q y z rest. on_item w y z (λ r u. Load r s (record x { stack = rest }))) fine (λ y z rest fa fb fr. items w y z (λ q r u. Load r s (record x { stack = rest })) (λ r u o. (refl, o)))
    by_class (class.StoreElement s) named = stores_item w x (λ q. stored s) x.stack held (λ v. refl)
    by_class class.EndFinally named = (refl, tt)
    by_class class.Leave named = leaves_to i.operand
    by_class class.Call named = meant (λ q m. taken q i here (with_this q (method_in m)) m x CallMember) (calls i here (λ q m. with_this q (method_in m)) M x CallMember constrained (λ owner n args o. with_this_same n o) own local (λ c y ok lo. (ok, lo)))
    by_class class.CallVirtual named = meant (λ q m. taken q i here (with_this q (method_in m)) m x CallVirtual) (calls i here (λ q m. with_this q (method_in m)) M x CallVirtual constrained (λ owner n args o. with_this_same n o) own local (λ c y ok lo. (ok, lo)))
    by_class class.NewObject named = meant (λ q m. taken q i here (arity q (method_in m)) m x NewObject) (calls i here (λ q m. arity q (method_in m)) M x NewObject constrained (λ owner n args o. arity_same n o) own local (λ c y ok lo. (ok, lo)))
    by_class class.LoadVirtualFunction named = meant (λ q m. taken q i here 1 m x LoadVirtualFunction) (calls i here (λ q m. 1) M x LoadVirtualFunction constrained (λ owner n args o. refl) own local (λ c y ok lo. (ok, lo)))
    by_class class.Return named = (refl, tt)
    by_class class.Unsupported named = (refl, tt)
    by_class class.Prefix named = (refl, tt)

    pub acts_same : (class_of i.op ≡ class.LoadToken → NamedOwn M) → Acts (λ q. act q here i w x)
    unfolding act
    acts_same named = by_class (class_of i.op) named
