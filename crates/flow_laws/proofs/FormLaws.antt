-- Of which form the act of an instruction is that control goes on behind, whatever the values on the stack.
use Rattle.std.proofs.Common.{◌≡◌, inl, inr, refl, ◌∙◌, zero, suc, ℕ, Bool, true, false, List, [], ◌∷◌, length, Option, Some, None}
use Rattle.std.specs.Prelude.{if◌then◌else◌, nat_lt, ℤ, pos, negsuc, slice_get, option_and_then, ◌&&◌, not, codes}
use Rattle.std.proofs.lemmas.List.{length-set}
use Rattle.cil_model.specs.declared.ty.Ty.{Ty, out-Ty}
use Rattle.cil_model.specs.declared.program.Program.{Program}
use Rattle.cil_model.specs.declared.program.Meaning.{Meaning}
use Rattle.cil_model.specs.declared.program.Meaning.TheVariants.{OfType, OfField, OfMethod}
use Rattle.cil_model.specs.declared.body.Instr.{Instr}
use Rattle.cil_model.specs.declared.body.Operand.{Operand}
use Rattle.cil_model.specs.declared.body.Operand.TheVariants.{Int, Index, Target, Targets}
use Rattle.cil_model.specs.declared.value.Value.{Value, out-Value, I4, I8, Native, Null, Ptr}
use Rattle.cil_model.specs.declared.value.Value.TheOpen.{Value-F}
use Rattle.cil_model.specs.declared.value.Pointer.{Pointer}
use Rattle.cil_model.specs.declared.value.Pointer.TheVariants.{Inside, Static}
use Rattle.il_opcodes.specs.declared.class.Storage.{Storage}
use Rattle.il_opcodes.specs.declared.class.Storage.TheVariants.{Anything}
use Rattle.il_opcodes.specs.declared.class.Class.{Class}
use Rattle.il_opcodes.specs.declared.class.Class.TheVariants as class
use Rattle.cil_semantics.specs.Words.{maybe}
use Rattle.cil_semantics.specs.declared.state.Cell.{Cell}
use Rattle.cil_semantics.specs.declared.number.Numeric.{Numeric}
use Rattle.cil_semantics.specs.declared.number.Numeric.TheVariants.{Int4}
use Rattle.cil_semantics.specs.declared.number.Pair.{Pair}
use Rattle.cil_semantics.specs.declared.number.Pair.TheVariants.{Both4, Both8, BothNative, NoPair}
use Rattle.cil_semantics.specs.declared.number.Number.{Number}
use Rattle.cil_semantics.specs.declared.number.Number.TheVariants as number
use Rattle.il_opcodes.specs.declared.class.BinaryOp.{BinaryOp}
use Rattle.cil_semantics.specs.declared.state.Local as state
use Rattle.cil_semantics.specs.declared.state.World.{World}
use Rattle.cil_semantics.specs.declared.state.Object.{Object}
use Rattle.cil_semantics.specs.declared.state.Access.{Access}
use Rattle.cil_semantics.specs.Core.{Name}
use Rattle.cil_semantics.specs.declared.state.Access.TheVariants.{Read, Write, PointTo}
use Rattle.cil_semantics.specs.State.{with_stack, object_at}
use Rattle.cil_semantics.specs.Types.{same_ty}
use Rattle.cil_semantics.specs.Lookups.{is_sub, field_of, in_set}
use Rattle.cil_semantics.specs.Places.{set_cell, new_cell, field_place, fields_in, is_reference, storage, stored, stored_in}
use Rattle.cil_semantics.specs.Numbers.{lies_in}
use Rattle.cil_semantics.specs.Tokens.{Here, meaning_here}
use Rattle.cil_semantics.specs.Instructions.{act_of_class, push_function}
use Rattle.cil_semantics.specs.Acts.{Act, Stuck, GoOn, Jump, Raise, Copy, invalid_cast, overflow, out_of_range, goes_with, goes_with_new, Store, Load, UseStatic, is_null, dynamic_type, field_of_object, field_of_value, extended, item_type, index_number, fits_item, text_in, handle_of, size_at, shift, shift_count, unary, convert, compare, truth, read_number, put_in, on_top, on_two, if_some, if_pointer, number_act, compute, paired, numeric, convert_checked, cast, unboxed, branch, switch, load_argument, load_local, store_argument, store_local, point_to_argument, point_to_local, push_int, on_field, load_field, point_to_field, store_field, on_static, made_array, on_array, at_index, on_item, store_item, on_type, is_wanted}
use Rattle.il_flow.specs.Successors.{targets}
use Rattle.il_flow.proofs.NoMapLaws.{In}

-- What holds of each form of act: one that goes on or uses a place with as many arguments, a jump to a target, one that throws, or is stuck. Calls are apart.
pub record Passes (n : ℕ) (o : Operand) (P : Act → Type 0) : Type 0 where
  pub stuck : P Stuck
  pub raised : (name : Name) → P (Raise name)
  pub on : (made : List Object) (l : state.Local) → length l.args ≡ n → P (GoOn made l)
  pub jump : (t : ℕ) (l : state.Local) → In t (targets o) → length l.args ≡ n → P (Jump t l)
  pub load : (q : Pointer) (h : Storage) (l : state.Local) → length l.args ≡ n → P (Load q h l)
  pub store : (q : Pointer) (v : Value) (l : state.Local) → length l.args ≡ n → P (Store q v l)
  pub copy : (to from : Pointer) (h : Storage) (l : state.Local) → length l.args ≡ n → P (Copy to from h l)
  pub uses : (t : Ty) (a : Access) (l : state.Local) → length l.args ≡ n → P (UseStatic t a l)

found_in : (ts : List ℕ) (k t : ℕ) → slice_get ts k ≡ Some t → In t ts
found_in [] k t e = absurd cc
found_in (u ∷ ts) zero t e = inl (same e)
  where
    same : Some u ≡ Some t → u ≡ t
    same f = cc
found_in (u ∷ ts) (suc k) t e = inr (found_in ts k t e)

module _ (n : ℕ) (o : Operand) (P : Act → Type 0) (ok : Passes n o P) where
  -- ---- the forms of acts

  top : (s : List Value) (go : Value → List Value → Act) → ((v : Value) (rest : List Value) → P (go v rest)) → P (on_top s go)
  top [] go f = ok.stuck
  top (v ∷ rest) go f = f v rest

  two : (s : List Value) (go : Value → Value → List Value → Act) → ((x y : Value) (rest : List Value) → P (go x y rest)) → P (on_two s go)
  two [] go f = ok.stuck
  two (y ∷ []) go f = ok.stuck
  two (y ∷ x ∷ rest) go f = f x y rest

  some : {X : Type 0} (x : Option X) (go : X → Act) → ((y : X) → P (go y)) → P (if_some x go)
  some None go f = ok.stuck
  some (Some x) go f = f x

  either : (b : Bool) (x y : Act) → P x → P y → P (if b then x else y)
  either true x y f g = f
  either false x y f g = g

  if_there : {X : Type 0} (x : Option X) (go : X → Act) → ((y : X) → P (go y)) → P (maybe Stuck go x)
  if_there None go f = ok.stuck
  if_there (Some x) go f = f x

  pointed : (v : Value-F Value) (go : Pointer → Act) → ((q : Pointer) → P (go q)) → P (if_pointer v go)
  pointed (Value-F.Ptr q) go f = f q
  pointed _ go f = ok.stuck

  typed : (x : Option Meaning) (go : Ty → Act) → ((t : Ty) → P (go t)) → P (on_type x go)
  typed (Some (OfType t)) go f = f t
  typed _ go f = ok.stuck

  branched : (x : Operand) → ((t : ℕ) → In t (targets x) → In t (targets o)) → (b : Bool) (l : state.Local) → length l.args ≡ n → P (branch x b l)
  branched (Target t) i true l e = ok.jump t l (i t (inl refl)) e
  branched (Target t) i false l e = ok.on [] l e
  branched _ i b l e = ok.stuck

  case_or_next : (x : Option ℕ) (l : state.Local) → ((t : ℕ) → x ≡ Some t → In t (targets o)) → length l.args ≡ n → P (maybe (GoOn [] l) (λ t. Jump t l) x)
  case_or_next None l i e = ok.on [] l e
  case_or_next (Some t) l i e = ok.jump t l (i t refl) e

  switched : (x : Operand) → ((t : ℕ) → In t (targets x) → In t (targets o)) → (v : Numeric) (l : state.Local) → length l.args ≡ n → P (switch x v l)
  switched (Targets ts) i (Int4 z) l e = case_or_next _ l (λ t f. i t (found_in ts _ t f)) e
  switched _ i _ l e = ok.stuck

  -- ---- numbers

  number' : (back : ℤ → Value) (x : Number ℤ) (l : state.Local) → length l.args ≡ n → P (number_act back x l)
  number' back (number.Is z) l e = ok.on [] _ e
  number' back number.DividesByZero l e = ok.raised _
  number' back number.Overflows l e = ok.raised _

  computed : (op : BinaryOp) (x : Pair) (l : state.Local) → length l.args ≡ n → P (compute op x l)
  computed op (Both4 x y) l e = number' _ _ l e
  computed op (Both8 x y) l e = number' _ _ l e
  computed op (BothNative x y) l e = number' _ _ l e
  computed op NoPair l e = ok.stuck

  -- ---- arguments and locals

  argument_loaded : (x : Operand) (l : state.Local) → length l.args ≡ n → P (load_argument x l)
  argument_loaded (Index k) l e = some (slice_get l.args k) _ (λ c. ok.on [] _ e)
  argument_loaded _ l e = ok.stuck

  local_loaded : (x : Operand) (l : state.Local) → length l.args ≡ n → P (load_local x l)
  local_loaded (Index k) l e = some (slice_get l.locals k) _ (λ c. ok.on [] _ e)
  local_loaded _ l e = ok.stuck

  argument_stored : (p : Program) (x : Operand) (l : state.Local) → length l.args ≡ n → P (store_argument p x l)
  argument_stored p (Index k) l e = top l.stack _ (λ v rest. some (option_and_then (set_cell p v) (slice_get l.args k)) _ (λ c. ok.on [] _ (length-set l.args k c ∙ e)))
  argument_stored p _ l e = ok.stuck

  local_stored : (p : Program) (x : Operand) (l : state.Local) → length l.args ≡ n → P (store_local p x l)
  local_stored p (Index k) l e = top l.stack _ (λ v rest. some (option_and_then (set_cell p v) (slice_get l.locals k)) _ (λ c. ok.on [] _ e))
  local_stored p _ l e = ok.stuck

  argument_pointed : (here : Here) (x : Operand) (l : state.Local) → length l.args ≡ n → P (point_to_argument here x l)
  argument_pointed here (Index k) l e = ok.on [] _ e
  argument_pointed here _ l e = ok.stuck

  local_pointed : (here : Here) (x : Operand) (l : state.Local) → length l.args ≡ n → P (point_to_local here x l)
  local_pointed here (Index k) l e = ok.on [] _ e
  local_pointed here _ l e = ok.stuck

  int_pushed : (back : ℤ → Value) (x : Operand) (l : state.Local) → length l.args ≡ n → P (push_int back x l)
  int_pushed back (Int z) l e = ok.on [] _ e
  int_pushed back _ l e = ok.stuck

  function_pushed : (x : Option Meaning) (l : state.Local) → length l.args ≡ n → P (push_function x l)
  function_pushed (Some (OfMethod owner m args)) l e = ok.on [] _ e
  function_pushed _ l e = ok.stuck

  -- ---- objects

  casted : (p : Program) (t : Ty) (v : Value) (passes other : Act) (w : World) → P passes → P other → P (cast p t v passes other w)
  casted p t v passes other w f g = either (is_null v) passes _ f (some (dynamic_type w v) _ (λ u. either (is_sub p u t) passes other f g))

  from_box : (w : World) (t : Ty) (v : Value-F Value) (go : ℕ → Cell → Act) → ((k : ℕ) (c : Cell) → P (go k c)) → P (unboxed w t v go)
  from_box w t (Value-F.Obj k) go f = some (object_at w k) _ (λ x. either (same_ty x.ty t) _ invalid_cast (some (slice_get x.cells 0) (go k) (λ c. f k c)) (ok.raised _))
  from_box w t Value-F.Null go f = ok.raised _
  from_box w t (Value-F.Text units) go f = ok.raised _
  from_box w t _ go f = ok.stuck

  in_field : (p : Program) (w : World) (owner : Ty) (k : ℕ) (v : Value-F Value) (go : Pointer → Act) (other : Act) → ((q : Pointer) → P (go q)) → P other → P (on_field p w owner k v go other)
  in_field p w owner k Value-F.Null go other f g = ok.raised _
  in_field p w owner k (Value-F.Obj x) go other f g = some (field_of_object p w x k) _ (λ i. f (Inside x (i ∷ [])))
  in_field p w owner k (Value-F.Ptr q) go other f g = some (field_place p owner k) _ (λ i. f (extended i q))
  in_field p w owner k _ go other f g = g

  field_loaded : (p : Program) (x : Option Meaning) (w : World) (l : state.Local) → length l.args ≡ n → P (load_field p x w l)
  field_loaded p (Some (OfField owner k)) w l e =
      top l.stack _ (λ v rest. in_field p w owner k (out-Value v) (λ q. Load q Anything (with_stack l rest)) (field_of_value p owner k v l rest) (λ q. ok.load q Anything _ e) (some (option_and_then (slice_get (fields_in (out-Value v))) (field_place p owner k)) _ (λ x. ok.on [] _ e)))
  field_loaded p _ w l e = ok.stuck

  field_pointed : (p : Program) (x : Option Meaning) (w : World) (l : state.Local) → length l.args ≡ n → P (point_to_field p x w l)
  field_pointed p (Some (OfField owner k)) w l e =
      top l.stack _ (λ v rest. in_field p w owner k (out-Value v) (λ q. goes_with l (Ptr q) rest) Stuck (λ q. ok.on [] _ e) ok.stuck)
  field_pointed p _ w l e = ok.stuck

  field_stored : (p : Program) (x : Option Meaning) (w : World) (l : state.Local) → length l.args ≡ n → P (store_field p x w l)
  field_stored p (Some (OfField owner k)) w l e =
      two l.stack _ (λ x v rest. in_field p w owner k (out-Value x) (λ q. Store q v (with_stack l rest)) Stuck (λ q. ok.store q v _ e) ok.stuck)
  field_stored p _ w l e = ok.stuck

  static : (p : Program) (x : Option Meaning) (go : Ty → Pointer → Act) → ((t : Ty) (q : Pointer) → P (go t q)) → P (on_static p x go)
  static p (Some (OfField owner k)) go f = either (field_of p k).is_static _ Stuck (if_there (in_set (out-Ty owner)) _ (λ d. f owner (Static owner k []))) ok.stuck
  static p _ go f = ok.stuck

  -- ---- arrays

  array_made : (p : Program) (t : Ty) (z : ℤ) (w : World) (l : state.Local) (rest : List Value) → length l.args ≡ n → P (made_array p t z w l rest)
  array_made p t (pos k) w l rest e = ok.on _ _ e
  array_made p t (negsuc k) w l rest e = ok.raised _

  array : (w : World) (v : Value-F Value) (go : ℕ → Object → Ty → Act) → ((k : ℕ) (x : Object) (t : Ty) → P (go k x t)) → P (on_array w v go)
  array w Value-F.Null go f = ok.raised _
  array w (Value-F.Obj k) go f = some (object_at w k) _ (λ x. some (item_type x) (go k x) (λ t. f k x t))
  array w _ go f = ok.stuck

  indexed : (count : ℕ) (z : ℤ) (go : ℕ → Act) → ((j : ℕ) → P (go j)) → P (at_index count z go)
  indexed count (pos j) go f = either (nat_lt j count) (go j) out_of_range (f j) (ok.raised _)
  indexed count (negsuc j) go f = ok.raised _

  item : (w : World) (a i : Value) (go : Pointer → Ty → Act) → ((q : Pointer) (t : Ty) → P (go q t)) → P (on_item w a i go)
  item w a i go f = some (index_number (numeric i)) _ (λ z. array w (out-Value a) (λ k x t. at_index (length x.cells) z (λ j. go (Inside k (j ∷ [])) t)) (λ k x t. indexed (length x.cells) z (λ j. go (Inside k (j ∷ [])) t) (λ j. f (Inside k (j ∷ [])) t)))

  abbrev mismatch : Act
  mismatch = Raise (codes "System.ArrayTypeMismatchException")

  item_stored : (p : Program) (w : World) (l : state.Local) (store : Value → Option Value) (s : List Value) → length l.args ≡ n → P (store_item p w l store s)
  item_stored p w l store (v ∷ i ∷ a ∷ rest) e =
      item w a i (λ q t. if_some (store v) (λ x. if is_reference (storage p t) && not (fits_item p w t x) then mismatch else Store q x (with_stack l rest))) (λ q t. some (store v) _ (λ x. either (is_reference (storage p t) && not (fits_item p w t x)) mismatch (Store q x (with_stack l rest)) (ok.raised _) (ok.store q x _ e)))
  item_stored p w l store (v ∷ i ∷ []) e = ok.stuck
  item_stored p w l store (v ∷ []) e = ok.stuck
  item_stored p w l store [] e = ok.stuck

-- calls, and what doesn't go on behind
abbrev pub is_apart : Class → Bool
is_apart class.Call = true
is_apart class.CallVirtual = true
is_apart class.NewObject = true
is_apart class.LoadVirtualFunction = true
is_apart class.Jump = true
is_apart class.Throw = true
is_apart class.Rethrow = true
is_apart class.Leave = true
is_apart class.EndFinally = true
is_apart class.Return = true
is_apart _ = false

module _ (p : Program) (here : Here) (i : Instr) (w : World) (l : state.Local) (n : ℕ) (P : Act → Type 0) (ok : Passes n i.operand P) where
  -- The act of each other class is of one of these forms.
  pub passes : (c : Class) → is_apart c ≡ false → length l.args ≡ n → P (act_of_class p here i w l c)
  unfolding act_of_class
  passes class.Nop a e = ok.on [] l e
  passes class.LoadArgument a e = argument_loaded n i.operand P ok i.operand l e
  passes class.StoreArgument a e = argument_stored n i.operand P ok p i.operand l e
  passes class.ArgumentAddress a e = argument_pointed n i.operand P ok here i.operand l e
  passes class.LoadLocal a e = local_loaded n i.operand P ok i.operand l e
  passes class.StoreLocal a e = local_stored n i.operand P ok p i.operand l e
  passes class.LocalAddress a e = local_pointed n i.operand P ok here i.operand l e
  passes class.LoadNull a e = ok.on [] _ e
  passes class.LoadInt a e = int_pushed n i.operand P ok I4 i.operand l e
  passes class.LoadLong a e = int_pushed n i.operand P ok I8 i.operand l e
  passes class.LoadString a e = some n i.operand P ok (text_in (meaning_here p here i)) _ (λ v. ok.on [] _ e)
  passes class.LoadToken a e = some n i.operand P ok (option_and_then (handle_of p) (meaning_here p here i)) _ (λ v. ok.on [] _ e)
  passes class.SizeOf a e = typed n i.operand P ok (meaning_here p here i) _ (λ t. some n i.operand P ok (size_at (out-Ty t)) _ (λ v. ok.on [] _ e))
  passes class.LoadFunction a e = function_pushed n i.operand P ok (meaning_here p here i) l e
  passes class.LoadVirtualFunction a e = absurd cc
  passes class.Duplicate a e = top n i.operand P ok l.stack _ (λ v rest. ok.on [] _ e)
  passes class.Pop a e = top n i.operand P ok l.stack _ (λ v rest. ok.on [] _ e)
  passes (class.Binary op) a e = two n i.operand P ok l.stack _ (λ x y rest. computed n i.operand P ok op (paired (numeric x) (numeric y)) (record l { stack = rest }) e)
  passes (class.Shift s) a e = two n i.operand P ok l.stack _ (λ x y rest. some n i.operand P ok (option_and_then (shift s (numeric x)) (shift_count (numeric y))) _ (λ v. ok.on [] _ e))
  passes (class.Unary u) a e = top n i.operand P ok l.stack _ (λ x rest. some n i.operand P ok (unary u (numeric x)) _ (λ v. ok.on [] _ e))
  passes (class.Convert t) a e = top n i.operand P ok l.stack _ (λ x rest. some n i.operand P ok (convert t (numeric x)) _ (λ v. ok.on [] _ e))
  passes (class.ConvertChecked u t) a e = top n i.operand P ok l.stack _ (λ x rest. some n i.operand P ok (read_number u (numeric x)) (λ z. convert_checked t z l rest) (λ z. either n i.operand P ok (lies_in t z) (goes_with l (put_in t z) rest) overflow (ok.on [] _ e) (ok.raised _)))
  passes (class.Compare t) a e = two n i.operand P ok l.stack _ (λ x y rest. some n i.operand P ok (compare t x y) _ (λ b. ok.on [] _ e))
  passes class.Jump a e = absurd cc
  passes class.Switch a e = top n i.operand P ok l.stack _ (λ v rest. switched n i.operand P ok i.operand (λ t m. m) (numeric v) (record l { stack = rest }) e)
  passes (class.Branch wanted) a e = top n i.operand P ok l.stack _ (λ v rest. some n i.operand P ok (truth v) _ (λ b. branched n i.operand P ok i.operand (λ t m. m) (is_wanted wanted b) (record l { stack = rest }) e))
  passes (class.CompareBranch t wanted) a e = two n i.operand P ok l.stack _ (λ x y rest. some n i.operand P ok (compare t x y) _ (λ b. branched n i.operand P ok i.operand (λ t m. m) (is_wanted wanted b) (record l { stack = rest }) e))
  passes (class.LoadIndirect h) a e = top n i.operand P ok l.stack _ (λ q rest. pointed n i.operand P ok (out-Value q) _ (λ r. ok.load r h _ e))
  passes (class.StoreIndirect h) a e = two n i.operand P ok l.stack _ (λ q v rest. pointed n i.operand P ok (out-Value q) _ (λ r. some n i.operand P ok (stored h v) _ (λ x. ok.store r x _ e)))
  passes class.CopyObject a e = typed n i.operand P ok (meaning_here p here i) _ (λ t. two n i.operand P ok l.stack _ (λ to from rest. pointed n i.operand P ok (out-Value to) _ (λ q. pointed n i.operand P ok (out-Value from) _ (λ r. ok.copy q r (storage p t) _ e))))
  passes class.LoadObject a e = typed n i.operand P ok (meaning_here p here i) _ (λ t. top n i.operand P ok l.stack _ (λ q rest. pointed n i.operand P ok (out-Value q) _ (λ r. ok.load r (storage p t) _ e)))
  passes class.StoreObject a e = typed n i.operand P ok (meaning_here p here i) _ (λ t. two n i.operand P ok l.stack _ (λ q v rest. pointed n i.operand P ok (out-Value q) _ (λ r. some n i.operand P ok (stored_in p t v) _ (λ x. ok.store r x _ e))))
  passes class.InitObject a e = typed n i.operand P ok (meaning_here p here i) _ (λ t. top n i.operand P ok l.stack _ (λ q rest. pointed n i.operand P ok (out-Value q) _ (λ r. ok.store r _ _ e)))
  passes class.CastClass a e = typed n i.operand P ok (meaning_here p here i) _ (λ t. top n i.operand P ok l.stack _ (λ v rest. casted n i.operand P ok p t v (goes_with l v rest) invalid_cast w (ok.on [] _ e) (ok.raised _)))
  passes class.IsInstance a e = typed n i.operand P ok (meaning_here p here i) _ (λ t. top n i.operand P ok l.stack _ (λ v rest. casted n i.operand P ok p t v (goes_with l v rest) (goes_with l Null rest) w (ok.on [] _ e) (ok.on [] _ e)))
  passes class.Unbox a e = typed n i.operand P ok (meaning_here p here i) _ (λ t. top n i.operand P ok l.stack _ (λ v rest. either n i.operand P ok (is_reference (storage p t)) Stuck _ ok.stuck (from_box n i.operand P ok w t (out-Value v) (λ k c. goes_with l (Ptr (Inside k (0 ∷ []))) rest) (λ k c. ok.on [] _ e))))
  passes class.Box a e = typed n i.operand P ok (meaning_here p here i) _ (λ t. top n i.operand P ok l.stack _ (λ v rest. either n i.operand P ok (is_reference (storage p t)) (goes_with l v rest) _ (ok.on [] _ e) (some n i.operand P ok (new_cell p t v) (λ c. goes_with_new w (record { ty = t; cells = c ∷ [] }) l rest) (λ c. ok.on _ _ e))))
  passes class.UnboxAny a e = typed n i.operand P ok (meaning_here p here i) _ (λ t. top n i.operand P ok l.stack _ (λ v rest. either n i.operand P ok (is_reference (storage p t)) (cast p t v (goes_with l v rest) invalid_cast w) _ (casted n i.operand P ok p t v (goes_with l v rest) invalid_cast w (ok.on [] _ e) (ok.raised _)) (from_box n i.operand P ok w t (out-Value v) (λ k (c : Cell). goes_with l c.value rest) (λ k c. ok.on [] _ e))))
  passes class.Throw a e = absurd cc
  passes class.Rethrow a e = absurd cc
  passes class.LoadField a e = field_loaded n i.operand P ok p (meaning_here p here i) w l e
  passes class.FieldAddress a e = field_pointed n i.operand P ok p (meaning_here p here i) w l e
  passes class.StoreField a e = field_stored n i.operand P ok p (meaning_here p here i) w l e
  passes class.LoadStatic a e = static n i.operand P ok p (meaning_here p here i) (λ t q. UseStatic t (Read q) l) (λ t q. ok.uses t (Read q) l e)
  passes class.StaticAddress a e = static n i.operand P ok p (meaning_here p here i) (λ t q. UseStatic t (PointTo q) l) (λ t q. ok.uses t (PointTo q) l e)
  passes class.StoreStatic a e = top n i.operand P ok l.stack _ (λ v rest. static n i.operand P ok p (meaning_here p here i) (λ t q. UseStatic t (Write q v) (record l { stack = rest })) (λ t q. ok.uses t (Write q v) _ e))
  passes class.NewArray a e = typed n i.operand P ok (meaning_here p here i) _ (λ t. top n i.operand P ok l.stack _ (λ x rest. some n i.operand P ok (index_number (numeric x)) _ (λ z. array_made n i.operand P ok p t z w l rest e)))
  passes class.ArrayLength a e = top n i.operand P ok l.stack _ (λ a rest. array n i.operand P ok w (out-Value a) (λ k (x : Object) t. goes_with l (Native (pos (length x.cells))) rest) (λ k x t. ok.on [] _ e))
  passes class.ElementAddress a e = two n i.operand P ok l.stack _ (λ a x rest. item n i.operand P ok w a x (λ q t. goes_with l (Ptr q) rest) (λ q t. ok.on [] _ e))
  passes class.LoadTypedElement a e = typed n i.operand P ok (meaning_here p here i) _ (λ t. two n i.operand P ok l.stack _ (λ a x rest. item n i.operand P ok w a x (λ q u. Load q (storage p t) (record l { stack = rest })) (λ q u. ok.load q (storage p t) _ e)))
  passes class.StoreTypedElement a e = typed n i.operand P ok (meaning_here p here i) _ (λ t. item_stored n i.operand P ok p w l (stored_in p t) l.stack e)
  passes (class.LoadElement h) a e = two n i.operand P ok l.stack _ (λ a x rest. item n i.operand P ok w a x (λ q u. Load q h (record l { stack = rest })) (λ q u. ok.load q h _ e))
  passes (class.StoreElement h) a e = item_stored n i.operand P ok p w l (stored h) l.stack e
  passes class.EndFinally a e = absurd cc
  passes class.Leave a e = absurd cc
  passes class.Call a e = absurd cc
  passes class.CallVirtual a e = absurd cc
  passes class.NewObject a e = absurd cc
  passes class.Return a e = absurd cc
  passes class.Unsupported a e = ok.stuck
  passes class.Prefix a e = ok.stuck
