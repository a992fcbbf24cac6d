-- What an act leads to, by its class.
use Rattle.std.proofs.Common.{◌≡◌, ℕ, zero, suc, Bool, true, false, List, [], ◌∷◌, Option, Some, None, refl}
use Rattle.std.specs.Prelude.{ℤ, pos, negsuc, slice_get, if◌then◌else◌}
use Rattle.cil_model.specs.declared.ty.Ty.{Ty}
use Rattle.cil_model.specs.declared.value.Value.{Value}
use Rattle.cil_model.specs.declared.value.Value.TheOpen.{Value-F}
use Rattle.cil_model.specs.declared.value.Pointer.{Pointer}
use Rattle.cil_model.specs.declared.body.Instr.{Instr}
use Rattle.cil_model.specs.declared.body.Operand.{Operand}
use Rattle.cil_model.specs.declared.body.Operand.TheVariants.{Target, Targets, Int, Index}
use Rattle.cil_model.specs.declared.program.Program.{Program}
use Rattle.cil_model.specs.declared.program.Meaning.{Meaning}
use Rattle.cil_model.specs.declared.program.Meaning.TheVariants.{OfType, OfField, OfMethod, OfText, OfLocals}
use Rattle.il_opcodes.specs.declared.class.Class.{Class}
use Rattle.il_opcodes.specs.declared.class.Class.TheVariants as class
use Rattle.il_opcodes.specs.Opcodes.{class_of}
use Rattle.cil_semantics.specs.Words.{maybe}
use Rattle.cil_semantics.specs.declared.state.Cell.{Cell}
use Rattle.cil_semantics.specs.declared.state.Object.{Object}
use Rattle.cil_semantics.specs.declared.state.World.{World}
use Rattle.cil_semantics.specs.declared.state.Local.{Local}
use Rattle.cil_semantics.specs.declared.state.ProgramPoint.{ProgramPoint}
use Rattle.cil_semantics.specs.Tokens.{Here}
use Rattle.cil_semantics.specs.Contracted.{Plan}
use Rattle.cil_semantics.specs.declared.number.Numeric.{Numeric}
use Rattle.cil_semantics.specs.declared.number.Numeric.TheVariants.{Int4}
use Rattle.cil_semantics.specs.declared.number.Pair.{Pair}
use Rattle.cil_semantics.specs.declared.number.Pair.TheVariants.{Both4, Both8, BothNative, NoPair}
use Rattle.cil_semantics.specs.declared.number.Number.{Number}
use Rattle.cil_semantics.specs.declared.number.Number.TheVariants as result
use Rattle.il_opcodes.specs.declared.class.BinaryOp.{BinaryOp}
use Rattle.cil_semantics.specs.Acts
use Rattle.cil_semantics.specs.Core.{Name}
use Rattle.il_opcodes.specs.declared.class.Storage.{Storage}
use Rattle.cil_semantics.specs.declared.state.Access.{Access}
use Rattle.cil_semantics.specs.Acts.{Act, Jump, GoOn, on_top, on_two, if_some, goes_with, number_act, compute, branch, switch, if_pointer, cast, unboxed, unbox, box, on_field, load_field, point_to_field, store_field, on_static, made_array, on_array, at_index, on_item, put_item, store_item, load_argument, load_local, store_argument, store_local, point_to_argument, point_to_local, push_int, on_type, numeric, index_number, item_type, field_of_object, dynamic_type, is_null, fits_item}
use Rattle.cil_semantics.specs.Instructions.{act, act_of_class, throw_value, leave_to, push_function}
use Rattle.splice_facts.specs.Layout.{LeadsOn, AllCan, never_falls}
use Rattle.step_answers.specs.Leading.{CallsNothing, LedBy, ActsLedBy}

module _ (X : Type 0) (plan : Option Plan) (at : ProgramPoint) where
  record Led (a : Act) : Type 0 where
    pub by : LedBy X plan at a

  stuck : Led Acts.Stuck
  stuck = record { by = tt }

  goes : X → (made : List Object) (l : Local) → Led (GoOn made l)
  goes x0 made l = record { by = x0 }

  raises : (name : Name) → Led (Acts.Raise name)
  raises name = record { by = tt }

  throws : (n : ℕ) → Led (Acts.Throw n)
  throws n = record { by = tt }

  loads : X → (q : Pointer) (h : Storage) (l : Local) → Led (Acts.Load q h l)
  loads x0 q h l = record { by = x0 }

  stores : X → (q : Pointer) (v : Value) (l : Local) → Led (Acts.Store q v l)
  stores x0 q v l = record { by = x0 }

  copies : X → (q r : Pointer) (h : Storage) (l : Local) → Led (Acts.Copy q r h l)
  copies x0 q r h l = record { by = x0 }

  uses : X → (t : Ty) (a : Access) (l : Local) → Led (Acts.UseStatic t a l)
  uses x0 t a l = record { by = x0 }

  top : (s : List Value) (go : Value → List Value → Act) → ((v : Value) (rest : List Value) → Led (go v rest)) → Led (on_top s go)
  top [] go h = record { by = tt }
  top (v ∷ rest) go h = h v rest

  two : (s : List Value) (go : Value → Value → List Value → Act) → ((x y : Value) (rest : List Value) → Led (go x y rest)) → Led (on_two s go)
  two [] go h = record { by = tt }
  two (y ∷ []) go h = record { by = tt }
  two (y ∷ x ∷ rest) go h = h x y rest

  some : {X : Type 0} (o : Option X) (go : X → Act) → ((x : X) → Led (go x)) → Led (if_some o go)
  some None go h = record { by = tt }
  some (Some x) go h = h x

  typed : (m : Option Meaning) (go : Ty → Act) → ((t : Ty) → Led (go t)) → Led (on_type m go)
  typed None go h = record { by = tt }
  typed (Some (OfType t)) go h = h t
  typed (Some _) go h = record { by = tt }

  either : (b : Bool) (x y : Act) → Led x → Led y → Led (if b then x else y)
  either true x y hx hy = hx
  either false x y hx hy = hy

  pointed : (v : Value-F Value) (go : Pointer → Act) → ((q : Pointer) → Led (go q)) → Led (if_pointer v go)
  pointed (Value-F.Ptr q) go h = h q
  pointed _ go h = record { by = tt }

  ruleset parts = (stuck, goes, raises, throws, loads, stores, copies, uses, top, two, some, typed, either, pointed)

  numbered : (x0 : X) (back : ℤ → Value) (n : Number ℤ) (l : Local) → Led (number_act back n l)
  numbered x0 back (result.Is z) l = search parts
  numbered x0 back result.DividesByZero l = search parts
  numbered x0 back result.Overflows l = search parts

  computed : (x0 : X) (op : BinaryOp) (q : Pair) (l : Local) → Led (compute op q l)
  computed x0 op (Both4 x y) l = numbered x0 _ _ l
  computed x0 op (Both8 x y) l = numbered x0 _ _ l
  computed x0 op (BothNative x y) l = numbered x0 _ _ l
  computed x0 op NoPair l = search parts

  branched : (x0 : X) (o : Operand) (b : Bool) (l : Local) → LeadsOn plan at o → Led (branch o b l)
  branched x0 (Target t) b l h = either b (Jump t l) (GoOn [] l) (record { by = h }) (goes x0 [] l)
  branched x0 _ b l h = search parts

  jumped : (l : Local) (o : Operand) → LeadsOn plan at o → Led (branch o true l)
  jumped l (Target t) h = record { by = h }
  jumped l _ h = stuck

  a_case : (x0 : X) (ts : List ℕ) (n : ℕ) (l : Local) → AllCan plan at ts → Led (maybe (GoOn [] l) (λ t. Jump t l) (slice_get ts n))
  a_case x0 [] n l h = search parts
  a_case x0 (t ∷ ts) zero l h = record { by = h.0 }
  a_case x0 (t ∷ ts) (suc n) l h = a_case x0 ts n l h.1

  switched : (x0 : X) (o : Operand) (v : Numeric) (l : Local) → LeadsOn plan at o → Led (switch o v l)
  switched x0 (Targets ts) (Int4 z) l h = a_case x0 ts _ l h
  switched x0 (Targets ts) _ l h = search parts
  switched x0 _ v l h = search parts

  casts : (p : Program) (t : Ty) (v : Value) (x y : Act) (w : World) → Led x → Led y → Led (cast p t v x y w)
  casts p t v x y w hx hy = search parts

  unboxes : (w : World) (t : Ty) (v : Value-F Value) (go : ℕ → Cell → Act) → ((j : ℕ) (c : Cell) → Led (go j c)) → Led (unboxed w t v go)
  unboxes w t Value-F.Null go h = search parts
  unboxes w t (Value-F.Obj j) go h = search parts
  unboxes w t (Value-F.Text units) go h = search parts
  unboxes w t _ go h = search parts

  fielded : (p : Program) (w : World) (owner : Ty) (n : ℕ) (v : Value-F Value) (go : Pointer → Act) (other : Act) → ((q : Pointer) → Led (go q)) → Led other → Led (on_field p w owner n v go other)
  fielded p w owner n Value-F.Null go other h ho = search parts
  fielded p w owner n (Value-F.Obj j) go other h ho = search parts
  fielded p w owner n (Value-F.Ptr q) go other h ho = search parts
  fielded p w owner n _ go other h ho = search parts

  arrayed : (w : World) (v : Value-F Value) (go : ℕ → Object → Ty → Act) → ((j : ℕ) (o : Object) (t : Ty) → Led (go j o t)) → Led (on_array w v go)
  arrayed w Value-F.Null go h = search parts
  arrayed w (Value-F.Obj j) go h = search parts
  arrayed w _ go h = search parts

  indexed : (n : ℕ) (z : ℤ) (go : ℕ → Act) → ((j : ℕ) → Led (go j)) → Led (at_index n z go)
  indexed n (pos i) go h = search parts
  indexed n (negsuc i) go h = search parts

  item : (w : World) (a i : Value) (go : Pointer → Ty → Act) → ((q : Pointer) (t : Ty) → Led (go q t)) → Led (on_item w a i go)
  item w a i go h = search (parts, arrayed, indexed)

  puts : (x0 : X) (p : Program) (w : World) (l : Local) (store : Value → Option Value) (s : List Value) → Led (store_item p w l store s)
  puts x0 p w l store [] = search parts
  puts x0 p w l store (v ∷ []) = search parts
  puts x0 p w l store (v ∷ i ∷ []) = search parts
  puts x0 p w l store (v ∷ i ∷ a ∷ rest) = search (parts, item)

  static : (p : Program) (m : Option Meaning) (go : Ty → Pointer → Act) → ((t : Ty) (q : Pointer) → Led (go t q)) → Led (on_static p m go)
  static p (Some (OfField owner n)) go h = search (parts, by_set)
    where
      by_set : (o : Option (ℕ × List Ty)) → Led (maybe Acts.Stuck (λ (d : ℕ × List Ty). go owner (Rattle.cil_model.specs.declared.value.Pointer.TheVariants.Static owner n [])) o)
      by_set None = stuck
      by_set (Some d) = h owner _
  static p None go h = search parts
  static p (Some (OfType t)) go h = search parts
  static p (Some (OfMethod owner m args)) go h = search parts
  static p (Some (OfText units)) go h = search parts
  static p (Some (OfLocals ts)) go h = search parts

  ruleset steps = (parts, numbered, computed, branched, switched, casts, unboxes, fielded, arrayed, indexed, item, puts, static)

  module _ (p : Program) (here : Here) (i : Instr) (w : World) (l : Local) where
    at_index_of : (x0 : X) (o : Operand) → Led (load_argument o l)
    at_index_of x0 (Index n) = search steps
    at_index_of x0 _ = search steps

    local_loaded : (x0 : X) (o : Operand) → Led (load_local o l)
    local_loaded x0 (Index n) = search steps
    local_loaded x0 _ = search steps

    argument_stored : (x0 : X) (o : Operand) → Led (store_argument p o l)
    argument_stored x0 (Index n) = search steps
    argument_stored x0 _ = search steps

    local_stored : (x0 : X) (o : Operand) → Led (store_local p o l)
    local_stored x0 (Index n) = search steps
    local_stored x0 _ = search steps

    argument_pointed : (x0 : X) (o : Operand) → Led (point_to_argument here o l)
    argument_pointed x0 (Index n) = search steps
    argument_pointed x0 _ = search steps

    local_pointed : (x0 : X) (o : Operand) → Led (point_to_local here o l)
    local_pointed x0 (Index n) = search steps
    local_pointed x0 _ = search steps

    number_pushed : (x0 : X) (back : ℤ → Value) (o : Operand) → Led (push_int back o l)
    number_pushed x0 back (Int z) = search steps
    number_pushed x0 back _ = search steps

    function_pushed : (x0 : X) (m : Option Meaning) → Led (push_function m l)
    function_pushed x0 (Some (OfMethod owner m args)) = search steps
    function_pushed x0 None = search steps
    function_pushed x0 (Some (OfType t)) = search steps
    function_pushed x0 (Some (OfField owner n)) = search steps
    function_pushed x0 (Some (OfText units)) = search steps
    function_pushed x0 (Some (OfLocals ts)) = search steps

    field_loaded : (x0 : X) (m : Option Meaning) → Led (load_field p m w l)
    field_loaded x0 (Some (OfField owner n)) = search steps
    field_loaded x0 None = search steps
    field_loaded x0 (Some (OfType t)) = search steps
    field_loaded x0 (Some (OfMethod owner m args)) = search steps
    field_loaded x0 (Some (OfText units)) = search steps
    field_loaded x0 (Some (OfLocals ts)) = search steps

    field_pointed : (x0 : X) (m : Option Meaning) → Led (point_to_field p m w l)
    field_pointed x0 (Some (OfField owner n)) = search steps
    field_pointed x0 None = search steps
    field_pointed x0 (Some (OfType t)) = search steps
    field_pointed x0 (Some (OfMethod owner m args)) = search steps
    field_pointed x0 (Some (OfText units)) = search steps
    field_pointed x0 (Some (OfLocals ts)) = search steps

    field_stored : (x0 : X) (m : Option Meaning) → Led (store_field p m w l)
    field_stored x0 (Some (OfField owner n)) = search steps
    field_stored x0 None = search steps
    field_stored x0 (Some (OfType t)) = search steps
    field_stored x0 (Some (OfMethod owner m args)) = search steps
    field_stored x0 (Some (OfText units)) = search steps
    field_stored x0 (Some (OfLocals ts)) = search steps

    array_made : (x0 : X) (t : Ty) (z : ℤ) (rest : List Value) → Led (made_array p t z w l rest)
    array_made x0 t (pos n) rest = search steps
    array_made x0 t (negsuc n) rest = search steps

    boxes : (x0 : X) (t : Ty) (v : Value) (rest : List Value) → Led (box p t v rest w l)
    boxes x0 t v rest = search steps

    thrown : (v : Value-F Value) → Led (throw_value v)
    thrown Value-F.Null = search steps
    thrown (Value-F.Obj j) = search steps
    thrown _ = search steps

    left : (o : Operand) → LeadsOn plan at o → Led (leave_to o)
    left (Target t) h = record { by = h }
    left _ h = search steps

    ruleset whole = (steps, number_pushed, function_pushed, field_loaded, field_pointed, field_stored, array_made, boxes, thrown)

    led : (c : Class) → CallsNothing c → (never_falls c ≡ false → X) → LeadsOn plan at i.operand → Led (act_of_class p here i w l c)
    unfolding act_of_class
    led class.Nop n on h = let x0 : X = on refl in search whole
    led class.LoadArgument n on h = let x0 : X = on refl in at_index_of x0 i.operand
    led class.StoreArgument n on h = let x0 : X = on refl in argument_stored x0 i.operand
    led class.ArgumentAddress n on h = let x0 : X = on refl in argument_pointed x0 i.operand
    led class.LoadLocal n on h = let x0 : X = on refl in local_loaded x0 i.operand
    led class.StoreLocal n on h = let x0 : X = on refl in local_stored x0 i.operand
    led class.LocalAddress n on h = let x0 : X = on refl in local_pointed x0 i.operand
    led class.LoadNull n on h = let x0 : X = on refl in search whole
    led class.LoadInt n on h = let x0 : X = on refl in search whole
    led class.LoadLong n on h = let x0 : X = on refl in search whole
    led class.LoadString n on h = let x0 : X = on refl in search whole
    led class.LoadToken n on h = let x0 : X = on refl in search whole
    led class.SizeOf n on h = let x0 : X = on refl in search whole
    led class.LoadFunction n on h = let x0 : X = on refl in search whole
    led class.Duplicate n on h = let x0 : X = on refl in search whole
    led class.Pop n on h = let x0 : X = on refl in search whole
    led (class.Binary op) n on h = let x0 : X = on refl in search whole
    led (class.Shift s) n on h = let x0 : X = on refl in search whole
    led (class.Unary u) n on h = let x0 : X = on refl in search whole
    led (class.Convert t) n on h = let x0 : X = on refl in search whole
    led (class.ConvertChecked u t) n on h = let x0 : X = on refl in search whole
    led (class.Compare t) n on h = let x0 : X = on refl in search whole
    led class.Jump n on h = jumped l i.operand h
    led class.Switch n on h = let x0 : X = on refl in search whole
    led (class.Branch wanted) n on h = let x0 : X = on refl in search whole
    led (class.CompareBranch t wanted) n on h = let x0 : X = on refl in search whole
    led (class.LoadIndirect s) n on h = let x0 : X = on refl in search whole
    led (class.StoreIndirect s) n on h = let x0 : X = on refl in search whole
    led class.CopyObject n on h = let x0 : X = on refl in search whole
    led class.LoadObject n on h = let x0 : X = on refl in search whole
    led class.StoreObject n on h = let x0 : X = on refl in search whole
    led class.InitObject n on h = let x0 : X = on refl in search whole
    led class.CastClass n on h = let x0 : X = on refl in search whole
    led class.IsInstance n on h = let x0 : X = on refl in search whole
    led class.Unbox n on h = let x0 : X = on refl in search whole
    led class.Box n on h = let x0 : X = on refl in search whole
    led class.UnboxAny n on h = let x0 : X = on refl in search whole
    led class.Throw n on h = search whole
    led class.Rethrow n on h = search whole
    led class.LoadField n on h = let x0 : X = on refl in search whole
    led class.FieldAddress n on h = let x0 : X = on refl in search whole
    led class.StoreField n on h = let x0 : X = on refl in search whole
    led class.LoadStatic n on h = let x0 : X = on refl in search whole
    led class.StaticAddress n on h = let x0 : X = on refl in search whole
    led class.StoreStatic n on h = let x0 : X = on refl in search whole
    led class.NewArray n on h = let x0 : X = on refl in search whole
    led class.ArrayLength n on h = let x0 : X = on refl in search whole
    led class.ElementAddress n on h = let x0 : X = on refl in search whole
    led class.LoadTypedElement n on h = let x0 : X = on refl in search whole
    led class.StoreTypedElement n on h = let x0 : X = on refl in search whole
    led (class.LoadElement s) n on h = let x0 : X = on refl in search whole
    led (class.StoreElement s) n on h = let x0 : X = on refl in search whole
    led class.EndFinally n on h = search whole
    led class.Leave n on h = left i.operand h
    led class.Call n on h = absurd n
    led class.CallVirtual n on h = absurd n
    led class.NewObject n on h = absurd n
    led class.LoadVirtualFunction n on h = absurd n
    led class.Return n on h = absurd n
    led class.Unsupported n on h = search whole
    led class.Prefix n on h = let x0 : X = on refl in search whole

  pub acts_led : ActsLedBy X plan at
  unfolding act
  acts_led p here i w l n on h = (led p here i w l (class_of i.op) n on h).by
