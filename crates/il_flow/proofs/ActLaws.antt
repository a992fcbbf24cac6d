-- What the act of an instruction leaves on the stack, where the values that it takes are there.
use Rattle.std.proofs.Common.{◌≡◌, ◌+◌, ℕ, Bool, true, false, List, [], ◌∷◌, length, Option, Some, None, arith}
use Rattle.std.specs.Prelude.{if◌then◌else◌, nat_le, nat_lt, ℤ, pos, negsuc, slice_get, option_and_then, ◌&&◌, not, codes}
use Rattle.std.proofs.lemmas.List.{length-drop}
use Rattle.cil_model.specs.declared.ty.Ty.{Ty, out-Ty}
use Rattle.cil_model.specs.declared.program.Program.{Program}
use Rattle.cil_model.specs.declared.program.Meaning.{Meaning}
use Rattle.cil_model.specs.declared.program.Meaning.TheVariants.{OfType, OfField, OfMethod}
use Rattle.cil_model.specs.declared.body.Instr.{Instr}
use Rattle.cil_model.specs.declared.body.Operand.{Operand}
use Rattle.cil_model.specs.declared.body.Operand.TheVariants.{Int, Index, Target, Targets}
use Rattle.cil_model.specs.declared.value.Value.{Value, out-Value, I4, I8, Native, Null, Ptr}
use Rattle.cil_model.specs.declared.value.Value.TheOpen.{Value-F}
use Rattle.cil_model.specs.declared.value.Pointer.{Pointer}
use Rattle.cil_model.specs.declared.value.Pointer.TheVariants.{Inside, Static}
use Rattle.il_opcodes.specs.declared.class.Storage.TheVariants.{Anything}
use Rattle.il_opcodes.specs.declared.class.Class.{Class}
use Rattle.il_opcodes.specs.declared.class.Class.TheVariants as class
use Rattle.cil_semantics.specs.Words.{maybe}
use Rattle.cil_semantics.specs.declared.state.Cell.{Cell}
use Rattle.cil_semantics.specs.declared.number.Numeric.{Numeric}
use Rattle.cil_semantics.specs.declared.number.Numeric.TheVariants.{Int4}
use Rattle.cil_semantics.specs.declared.number.Pair.{Pair}
use Rattle.cil_semantics.specs.declared.number.Pair.TheVariants.{Both4, Both8, BothNative, NoPair}
use Rattle.cil_semantics.specs.declared.number.Number.{Number}
use Rattle.cil_semantics.specs.declared.number.Number.TheVariants as number
use Rattle.il_opcodes.specs.declared.class.BinaryOp.{BinaryOp}
use Rattle.cil_semantics.specs.declared.state.Local as state
use Rattle.cil_semantics.specs.declared.state.World.{World}
use Rattle.cil_semantics.specs.declared.state.Object.{Object}
use Rattle.cil_semantics.specs.declared.state.Access.TheVariants.{Read, Write, PointTo}
use Rattle.cil_semantics.specs.State.{with_stack, object_at}
use Rattle.cil_semantics.specs.Types.{same_ty}
use Rattle.cil_semantics.specs.Lookups.{is_sub, field_of, in_set}
use Rattle.cil_semantics.specs.Places.{set_cell, new_cell, field_place, fields_in, is_reference, storage, stored, stored_in}
use Rattle.cil_semantics.specs.Numbers.{lies_in}
use Rattle.cil_semantics.specs.Tokens.{Here, meaning_here}
use Rattle.cil_semantics.specs.Instructions.{act_of_class, throw_value, leave_to, push_function}
use Rattle.cil_semantics.specs.Acts.{Act, Stuck, GoOn, Jump, Raise, invalid_cast, overflow, out_of_range, goes_with, goes_with_new, Store, Load, UseStatic, is_null, dynamic_type, field_of_object, field_of_value, extended, item_type, index_number, fits_item, text_in, handle_of, size_at, shift, shift_count, unary, convert, compare, truth, read_number, put_in, LoadVirtualFunction, on_top, on_two, if_some, if_pointer, number_act, compute, paired, numeric, convert_checked, cast, unboxed, branch, switch, load_argument, load_local, store_argument, store_local, point_to_argument, point_to_local, push_int, on_field, load_field, point_to_field, store_field, on_static, made_array, on_array, at_index, on_item, store_item, on_type, taken, is_wanted}
use Rattle.il_flow.specs.Counts.{counts, Leaves, TakesAndLeaves}

-- the law of one act, as a record: so a proof's goal tells which act it is of
record Left (n : ℕ) (a : Act) : Type 0 where
  so : Leaves n a

-- ---- the forms of acts

top : (s : List Value) (go : Value → List Value → Act) (n m : ℕ) → length s ≡ 1 + m → ((v : Value) (rest : List Value) → length rest ≡ m → Left n (go v rest)) → Left n (on_top s go)
top [] go n m e f = absurd (omega arith)
top (v ∷ rest) go n m e f = f v rest (omega arith)

two : (s : List Value) (go : Value → Value → List Value → Act) (n m : ℕ) → length s ≡ 2 + m → ((x y : Value) (rest : List Value) → length rest ≡ m → Left n (go x y rest)) → Left n (on_two s go)
two [] go n m e f = absurd (omega arith)
two (y ∷ []) go n m e f = absurd (omega arith)
two (y ∷ x ∷ rest) go n m e f = f x y rest (omega arith)

some : {X : Type 0} (o : Option X) (go : X → Act) (n : ℕ) → ((x : X) → Left n (go x)) → Left n (if_some o go)
some None go n f = record { so = tt }
some (Some x) go n f = f x

either : (b : Bool) (x y : Act) (n : ℕ) → Left n x → Left n y → Left n (if b then x else y)
either true x y n f g = f
either false x y n f g = g

if_there : {X : Type 0} (o : Option X) (go : X → Act) (n : ℕ) → ((x : X) → Left n (go x)) → Left n (maybe Stuck go o)
if_there None go n f = record { so = tt }
if_there (Some x) go n f = f x

pointed : (v : Value-F Value) (go : Pointer → Act) (n : ℕ) → ((q : Pointer) → Left n (go q)) → Left n (if_pointer v go)
pointed (Value-F.Ptr q) go n f = f q
pointed _ go n f = record { so = tt }

typed : (o : Option Meaning) (go : Ty → Act) (n : ℕ) → ((t : Ty) → Left n (go t)) → Left n (on_type o go)
typed (Some (OfType t)) go n f = f t
typed _ go n f = record { so = tt }

branched : (o : Operand) (b : Bool) (l : state.Local) (n : ℕ) → length l.stack ≡ n → Left n (branch o b l)
branched (Target t) true l n e = record { so = e }
branched (Target t) false l n e = record { so = e }
branched _ b l n e = record { so = tt }

case_or_next : (o : Option ℕ) (l : state.Local) (n : ℕ) → length l.stack ≡ n → Left n (maybe (GoOn [] l) (λ t. Jump t l) o)
case_or_next None l n e = record { so = e }
case_or_next (Some t) l n e = record { so = e }

switched : (o : Operand) (v : Numeric) (l : state.Local) (n : ℕ) → length l.stack ≡ n → Left n (switch o v l)
switched (Targets ts) (Int4 z) l n e = case_or_next _ l n e
switched _ _ l n e = record { so = tt }

-- ---- numbers

number' : (back : ℤ → Value) (x : Number ℤ) (l : state.Local) (n : ℕ) → length l.stack + 1 ≡ n → Left n (number_act back x l)
number' back (number.Is z) l n e = record { so = omega arith }
number' back number.DividesByZero l n e = record { so = tt }
number' back number.Overflows l n e = record { so = tt }

computed : (op : BinaryOp) (x : Pair) (l : state.Local) (n : ℕ) → length l.stack + 1 ≡ n → Left n (compute op x l)
computed op (Both4 x y) l n e = number' _ _ l n e
computed op (Both8 x y) l n e = number' _ _ l n e
computed op (BothNative x y) l n e = number' _ _ l n e
computed op NoPair l n e = record { so = tt }

-- ---- arguments and locals

argument_loaded : (o : Operand) (l : state.Local) (n : ℕ) → length l.stack + 1 ≡ n → Left n (load_argument o l)
argument_loaded (Index k) l n e = some (slice_get l.args k) _ n (λ c. record { so = omega arith })
argument_loaded _ l n e = record { so = tt }

local_loaded : (o : Operand) (l : state.Local) (n : ℕ) → length l.stack + 1 ≡ n → Left n (load_local o l)
local_loaded (Index k) l n e = some (slice_get l.locals k) _ n (λ c. record { so = omega arith })
local_loaded _ l n e = record { so = tt }

argument_stored : (p : Program) (o : Operand) (l : state.Local) (n : ℕ) → length l.stack ≡ 1 + n → Left n (store_argument p o l)
argument_stored p (Index k) l n e = top l.stack _ n n e (λ v rest f. some (option_and_then (set_cell p v) (slice_get l.args k)) _ n (λ c. record { so = f }))
argument_stored p _ l n e = record { so = tt }

local_stored : (p : Program) (o : Operand) (l : state.Local) (n : ℕ) → length l.stack ≡ 1 + n → Left n (store_local p o l)
local_stored p (Index k) l n e = top l.stack _ n n e (λ v rest f. some (option_and_then (set_cell p v) (slice_get l.locals k)) _ n (λ c. record { so = f }))
local_stored p _ l n e = record { so = tt }

argument_pointed : (here : Here) (o : Operand) (l : state.Local) (n : ℕ) → length l.stack + 1 ≡ n → Left n (point_to_argument here o l)
argument_pointed here (Index k) l n e = record { so = omega arith }
argument_pointed here _ l n e = record { so = tt }

local_pointed : (here : Here) (o : Operand) (l : state.Local) (n : ℕ) → length l.stack + 1 ≡ n → Left n (point_to_local here o l)
local_pointed here (Index k) l n e = record { so = omega arith }
local_pointed here _ l n e = record { so = tt }

int_pushed : (back : ℤ → Value) (o : Operand) (l : state.Local) (n : ℕ) → length l.stack + 1 ≡ n → Left n (push_int back o l)
int_pushed back (Int z) l n e = record { so = omega arith }
int_pushed back _ l n e = record { so = tt }

function_pushed : (o : Option Meaning) (l : state.Local) (n : ℕ) → length l.stack + 1 ≡ n → Left n (push_function o l)
function_pushed (Some (OfMethod owner m args)) l n e = record { so = omega arith }
function_pushed _ l n e = record { so = tt }

-- ---- objects

casted : (p : Program) (t : Ty) (v : Value) (passes other : Act) (w : World) (n : ℕ) → Left n passes → Left n other → Left n (cast p t v passes other w)
casted p t v passes other w n f g = either (is_null v) passes _ n f (some (dynamic_type w v) _ n (λ u. either (is_sub p u t) passes other n f g))

from_box : (w : World) (t : Ty) (v : Value-F Value) (go : ℕ → Cell → Act) (n : ℕ) → ((k : ℕ) (c : Cell) → Left n (go k c)) → Left n (unboxed w t v go)
from_box w t (Value-F.Obj k) go n f = some (object_at w k) _ n (λ o. either (same_ty o.ty t) _ invalid_cast n (some (slice_get o.cells 0) (go k) n (λ c. f k c)) (record { so = tt }))
from_box w t Value-F.Null go n f = record { so = tt }
from_box w t (Value-F.Text units) go n f = record { so = tt }
from_box w t _ go n f = record { so = tt }

in_field : (p : Program) (w : World) (owner : Ty) (k : ℕ) (v : Value-F Value) (go : Pointer → Act) (other : Act) (n : ℕ) → ((q : Pointer) → Left n (go q)) → Left n other → Left n (on_field p w owner k v go other)
in_field p w owner k Value-F.Null go other n f g = record { so = tt }
in_field p w owner k (Value-F.Obj o) go other n f g = some (field_of_object p w o k) _ n (λ i. f (Inside o (i ∷ [])))
in_field p w owner k (Value-F.Ptr q) go other n f g = some (field_place p owner k) _ n (λ i. f (extended i q))
in_field p w owner k _ go other n f g = g

field_loaded : (p : Program) (o : Option Meaning) (w : World) (l : state.Local) (m : ℕ) → length l.stack ≡ 1 + m → Left (m + 1) (load_field p o w l)
field_loaded p (Some (OfField owner k)) w l m e =
    top l.stack _ (m + 1) m e (λ v rest f. in_field p w owner k (out-Value v) (λ q. Load q Anything (with_stack l rest)) (field_of_value p owner k v l rest) (m + 1) (λ q. record { so = omega arith }) (some (option_and_then (slice_get (fields_in (out-Value v))) (field_place p owner k)) _ (m + 1) (λ x. record { so = omega arith })))
field_loaded p _ w l m e = record { so = tt }

field_pointed : (p : Program) (o : Option Meaning) (w : World) (l : state.Local) (m : ℕ) → length l.stack ≡ 1 + m → Left (m + 1) (point_to_field p o w l)
field_pointed p (Some (OfField owner k)) w l m e =
    top l.stack _ (m + 1) m e (λ v rest f. in_field p w owner k (out-Value v) (λ q. goes_with l (Ptr q) rest) Stuck (m + 1) (λ q. record { so = omega arith }) (record { so = tt }))
field_pointed p _ w l m e = record { so = tt }

field_stored : (p : Program) (o : Option Meaning) (w : World) (l : state.Local) (m : ℕ) → length l.stack ≡ 2 + m → Left (m + 0) (store_field p o w l)
field_stored p (Some (OfField owner k)) w l m e =
    two l.stack _ (m + 0) m e (λ x v rest f. in_field p w owner k (out-Value x) (λ q. Store q v (with_stack l rest)) Stuck (m + 0) (λ q. record { so = omega arith }) (record { so = tt }))
field_stored p _ w l m e = record { so = tt }

static : (p : Program) (o : Option Meaning) (go : Ty → Pointer → Act) (n : ℕ) → ((t : Ty) (q : Pointer) → Left n (go t q)) → Left n (on_static p o go)
static p (Some (OfField owner k)) go n f = either (field_of p k).is_static _ Stuck n (if_there (in_set (out-Ty owner)) _ n (λ d. f owner (Static owner k []))) (record { so = tt })
static p _ go n f = record { so = tt }

-- ---- arrays

array_made : (p : Program) (t : Ty) (z : ℤ) (w : World) (l : state.Local) (rest : List Value) (n : ℕ) → length rest + 1 ≡ n → Left n (made_array p t z w l rest)
array_made p t (pos k) w l rest n e = record { so = omega arith }
array_made p t (negsuc k) w l rest n e = record { so = tt }

array : (w : World) (v : Value-F Value) (go : ℕ → Object → Ty → Act) (n : ℕ) → ((k : ℕ) (o : Object) (t : Ty) → Left n (go k o t)) → Left n (on_array w v go)
array w Value-F.Null go n f = record { so = tt }
array w (Value-F.Obj k) go n f = some (object_at w k) _ n (λ o. some (item_type o) (go k o) n (λ t. f k o t))
array w _ go n f = record { so = tt }

indexed : (count : ℕ) (z : ℤ) (go : ℕ → Act) (n : ℕ) → ((j : ℕ) → Left n (go j)) → Left n (at_index count z go)
indexed count (pos j) go n f = either (nat_lt j count) (go j) out_of_range n (f j) (record { so = tt })
indexed count (negsuc j) go n f = record { so = tt }

item : (w : World) (a i : Value) (go : Pointer → Ty → Act) (n : ℕ) → ((q : Pointer) (t : Ty) → Left n (go q t)) → Left n (on_item w a i go)
item w a i go n f = some (index_number (numeric i)) _ n (λ z. array w (out-Value a) (λ k o t. at_index (length o.cells) z (λ j. go (Inside k (j ∷ [])) t)) n (λ k o t. indexed (length o.cells) z (λ j. go (Inside k (j ∷ [])) t) n (λ j. f (Inside k (j ∷ [])) t)))

abbrev mismatch : Act
mismatch = Raise (codes "System.ArrayTypeMismatchException")

item_stored : (p : Program) (w : World) (l : state.Local) (store : Value → Option Value) (s : List Value) (m : ℕ) → length s ≡ 3 + m → Left (m + 0) (store_item p w l store s)
item_stored p w l store (v ∷ i ∷ a ∷ rest) m e =
    item w a i (λ q t. if_some (store v) (λ x. if is_reference (storage p t) && not (fits_item p w t x) then mismatch else Store q x (with_stack l rest))) (m + 0) (λ q t. some (store v) _ (m + 0) (λ x. either (is_reference (storage p t) && not (fits_item p w t x)) mismatch (Store q x (with_stack l rest)) (m + 0) (record { so = tt }) (record { so = omega arith })))
item_stored p w l store (v ∷ i ∷ []) m e = absurd (omega arith)
item_stored p w l store (v ∷ []) m e = absurd (omega arith)
item_stored p w l store [] m e = absurd (omega arith)

-- ---- functions

function_found : (p : Program) (i : Instr) (here : Here) (o : Option Meaning) (l : state.Local) (m : ℕ) → length l.stack ≡ 1 + m → Left (m + 1) (taken p i here 1 o l LoadVirtualFunction)
function_found p i here (Some (OfMethod owner k args)) l m e = either (nat_le 1 (length l.stack)) _ Stuck (m + 1) (record { so = omega (arith, length-drop 1 l.stack) }) (record { so = tt })
function_found p i here _ l m e = record { so = tt }

-- ---- each class

abbrev LeftBy : Option (ℕ × ℕ) → state.Local → Act → Type 0
LeftBy None l a = Unit {0}
LeftBy (Some c) l a = (m : ℕ) → length l.stack ≡ c.0 + m → Left (m + c.1) a

act_by_class : (p : Program) (here : Here) (i : Instr) (w : World) (l : state.Local) (c : Class) → LeftBy (counts c) l (act_of_class p here i w l c)
unfolding act_of_class
act_by_class p here i w l class.Nop = λ m e. record { so = omega arith }
act_by_class p here i w l class.LoadArgument = λ m e. argument_loaded i.operand l (m + 1) (omega arith)
act_by_class p here i w l class.StoreArgument = λ m e. argument_stored p i.operand l (m + 0) (omega arith)
act_by_class p here i w l class.ArgumentAddress = λ m e. argument_pointed here i.operand l (m + 1) (omega arith)
act_by_class p here i w l class.LoadLocal = λ m e. local_loaded i.operand l (m + 1) (omega arith)
act_by_class p here i w l class.StoreLocal = λ m e. local_stored p i.operand l (m + 0) (omega arith)
act_by_class p here i w l class.LocalAddress = λ m e. local_pointed here i.operand l (m + 1) (omega arith)
act_by_class p here i w l class.LoadNull = λ m e. record { so = omega arith }
act_by_class p here i w l class.LoadInt = λ m e. int_pushed I4 i.operand l (m + 1) (omega arith)
act_by_class p here i w l class.LoadLong = λ m e. int_pushed I8 i.operand l (m + 1) (omega arith)
act_by_class p here i w l class.LoadString = λ m e. some (text_in (meaning_here p here i)) _ (m + 1) (λ v. record { so = omega arith })
act_by_class p here i w l class.LoadToken = λ m e. some (option_and_then (handle_of p) (meaning_here p here i)) _ (m + 1) (λ v. record { so = omega arith })
act_by_class p here i w l class.SizeOf = λ m e. typed (meaning_here p here i) _ (m + 1) (λ t. some (size_at (out-Ty t)) _ (m + 1) (λ v. record { so = omega arith }))
act_by_class p here i w l class.LoadFunction = λ m e. function_pushed (meaning_here p here i) l (m + 1) (omega arith)
act_by_class p here i w l class.LoadVirtualFunction = λ m e. function_found p i here (meaning_here p here i) l m e
act_by_class p here i w l class.Duplicate = λ m e. top l.stack _ (m + 2) m e (λ v rest f. record { so = omega arith })
act_by_class p here i w l class.Pop = λ m e. top l.stack _ (m + 0) m e (λ v rest f. record { so = omega arith })
act_by_class p here i w l (class.Binary op) = λ m e. two l.stack _ (m + 1) m e (λ x y rest f. computed op (paired (numeric x) (numeric y)) (record l { stack = rest }) (m + 1) (omega arith))
act_by_class p here i w l (class.Shift s) = λ m e. two l.stack _ (m + 1) m e (λ x y rest f. some (option_and_then (shift s (numeric x)) (shift_count (numeric y))) _ (m + 1) (λ v. record { so = omega arith }))
act_by_class p here i w l (class.Unary u) = λ m e. top l.stack _ (m + 1) m e (λ x rest f. some (unary u (numeric x)) _ (m + 1) (λ v. record { so = omega arith }))
act_by_class p here i w l (class.Convert t) = λ m e. top l.stack _ (m + 1) m e (λ x rest f. some (convert t (numeric x)) _ (m + 1) (λ v. record { so = omega arith }))
act_by_class p here i w l (class.ConvertChecked u t) = λ m e. top l.stack _ (m + 1) m e (λ x rest f. some (read_number u (numeric x)) (λ z. convert_checked t z l rest) (m + 1) (λ z. either (lies_in t z) (goes_with l (put_in t z) rest) overflow (m + 1) (record { so = omega arith }) (record { so = tt })))
act_by_class p here i w l (class.Compare t) = λ m e. two l.stack _ (m + 1) m e (λ x y rest f. some (compare t x y) _ (m + 1) (λ b. record { so = omega arith }))
act_by_class p here i w l class.Jump = λ m e. branched i.operand true l (m + 0) (omega arith)
act_by_class p here i w l class.Switch = λ m e. top l.stack _ (m + 0) m e (λ v rest f. switched i.operand (numeric v) (record l { stack = rest }) (m + 0) (omega arith))
act_by_class p here i w l (class.Branch wanted) = λ m e. top l.stack _ (m + 0) m e (λ v rest f. some (truth v) _ (m + 0) (λ b. branched i.operand (is_wanted wanted b) (record l { stack = rest }) (m + 0) (omega arith)))
act_by_class p here i w l (class.CompareBranch t wanted) = λ m e. two l.stack _ (m + 0) m e (λ x y rest f. some (compare t x y) _ (m + 0) (λ b. branched i.operand (is_wanted wanted b) (record l { stack = rest }) (m + 0) (omega arith)))
act_by_class p here i w l (class.LoadIndirect h) = λ m e. top l.stack _ (m + 1) m e (λ q rest f. pointed (out-Value q) _ (m + 1) (λ r. record { so = omega arith }))
act_by_class p here i w l (class.StoreIndirect h) = λ m e. two l.stack _ (m + 0) m e (λ q v rest f. pointed (out-Value q) _ (m + 0) (λ r. some (stored h v) _ (m + 0) (λ x. record { so = omega arith })))
act_by_class p here i w l class.CopyObject = λ m e. typed (meaning_here p here i) _ (m + 0) (λ t. two l.stack _ (m + 0) m e (λ to from rest f. pointed (out-Value to) _ (m + 0) (λ q. pointed (out-Value from) _ (m + 0) (λ r. record { so = omega arith }))))
act_by_class p here i w l class.LoadObject = λ m e. typed (meaning_here p here i) _ (m + 1) (λ t. top l.stack _ (m + 1) m e (λ q rest f. pointed (out-Value q) _ (m + 1) (λ r. record { so = omega arith })))
act_by_class p here i w l class.StoreObject = λ m e. typed (meaning_here p here i) _ (m + 0) (λ t. two l.stack _ (m + 0) m e (λ q v rest f. pointed (out-Value q) _ (m + 0) (λ r. some (stored_in p t v) _ (m + 0) (λ x. record { so = omega arith }))))
act_by_class p here i w l class.InitObject = λ m e. typed (meaning_here p here i) _ (m + 0) (λ t. top l.stack _ (m + 0) m e (λ q rest f. pointed (out-Value q) _ (m + 0) (λ r. record { so = omega arith })))
act_by_class p here i w l class.CastClass = λ m e. typed (meaning_here p here i) _ (m + 1) (λ t. top l.stack _ (m + 1) m e (λ v rest f. casted p t v (goes_with l v rest) invalid_cast w (m + 1) (record { so = omega arith }) (record { so = tt })))
act_by_class p here i w l class.IsInstance = λ m e. typed (meaning_here p here i) _ (m + 1) (λ t. top l.stack _ (m + 1) m e (λ v rest f. casted p t v (goes_with l v rest) (goes_with l Null rest) w (m + 1) (record { so = omega arith }) (record { so = omega arith })))
act_by_class p here i w l class.Unbox = λ m e. typed (meaning_here p here i) _ (m + 1) (λ t. top l.stack _ (m + 1) m e (λ v rest f. either (is_reference (storage p t)) Stuck _ (m + 1) (record { so = tt }) (from_box w t (out-Value v) (λ k c. goes_with l (Ptr (Inside k (0 ∷ []))) rest) (m + 1) (λ k c. record { so = omega arith }))))
act_by_class p here i w l class.Box = λ m e. typed (meaning_here p here i) _ (m + 1) (λ t. top l.stack _ (m + 1) m e (λ v rest f. either (is_reference (storage p t)) (goes_with l v rest) _ (m + 1) (record { so = omega arith }) (some (new_cell p t v) (λ c. goes_with_new w (record { ty = t; cells = c ∷ [] }) l rest) (m + 1) (λ c. record { so = omega arith }))))
act_by_class p here i w l class.UnboxAny = λ m e. typed (meaning_here p here i) _ (m + 1) (λ t. top l.stack _ (m + 1) m e (λ v rest f. either (is_reference (storage p t)) (cast p t v (goes_with l v rest) invalid_cast w) _ (m + 1) (casted p t v (goes_with l v rest) invalid_cast w (m + 1) (record { so = omega arith }) (record { so = tt })) (from_box w t (out-Value v) (λ k (c : Cell). goes_with l c.value rest) (m + 1) (λ k c. record { so = omega arith }))))
act_by_class p here i w l class.Throw = λ m e. top l.stack _ (m + 0) m e (λ v rest f. thrown (out-Value v) (m + 0))
  where
    thrown : (v : Value-F Value) (n : ℕ) → Left n (throw_value v)
    thrown Value-F.Null n = (record { so = tt })
    thrown (Value-F.Obj k) n = (record { so = tt })
    thrown _ n = (record { so = tt })
act_by_class p here i w l class.Rethrow = λ m e. record { so = tt }
act_by_class p here i w l class.LoadField = λ m e. field_loaded p (meaning_here p here i) w l m e
act_by_class p here i w l class.FieldAddress = λ m e. field_pointed p (meaning_here p here i) w l m e
act_by_class p here i w l class.StoreField = λ m e. field_stored p (meaning_here p here i) w l m e
act_by_class p here i w l class.LoadStatic = λ m e. static p (meaning_here p here i) (λ t q. UseStatic t (Read q) l) (m + 1) (λ t q. record { so = omega arith })
act_by_class p here i w l class.StaticAddress = λ m e. static p (meaning_here p here i) (λ t q. UseStatic t (PointTo q) l) (m + 1) (λ t q. record { so = omega arith })
act_by_class p here i w l class.StoreStatic = λ m e. top l.stack _ (m + 0) m e (λ v rest f. static p (meaning_here p here i) (λ t q. UseStatic t (Write q v) (record l { stack = rest })) (m + 0) (λ t q. record { so = omega arith }))
act_by_class p here i w l class.NewArray = λ m e. typed (meaning_here p here i) _ (m + 1) (λ t. top l.stack _ (m + 1) m e (λ n rest f. some (index_number (numeric n)) _ (m + 1) (λ z. array_made p t z w l rest (m + 1) (omega arith))))
act_by_class p here i w l class.ArrayLength = λ m e. top l.stack _ (m + 1) m e (λ a rest f. array w (out-Value a) (λ k o t. goes_with l (Native (pos (length o.cells))) rest) (m + 1) (λ k o t. record { so = omega arith }))
act_by_class p here i w l class.ElementAddress = λ m e. two l.stack _ (m + 1) m e (λ a n rest f. item w a n (λ q t. goes_with l (Ptr q) rest) (m + 1) (λ q t. record { so = omega arith }))
act_by_class p here i w l class.LoadTypedElement = λ m e. typed (meaning_here p here i) _ (m + 1) (λ t. two l.stack _ (m + 1) m e (λ a n rest f. item w a n (λ q u. Load q (storage p t) (record l { stack = rest })) (m + 1) (λ q u. record { so = omega arith })))
act_by_class p here i w l class.StoreTypedElement = λ m e. typed (meaning_here p here i) _ (m + 0) (λ t. item_stored p w l (stored_in p t) l.stack m e)
act_by_class p here i w l (class.LoadElement h) = λ m e. two l.stack _ (m + 1) m e (λ a n rest f. item w a n (λ q u. Load q h (record l { stack = rest })) (m + 1) (λ q u. record { so = omega arith }))
act_by_class p here i w l (class.StoreElement h) = λ m e. item_stored p w l (stored h) l.stack m e
act_by_class p here i w l class.EndFinally = λ m e. record { so = tt }
act_by_class p here i w l class.Leave = λ m e. left i.operand (m + 0)
  where
    left : (o : Operand) (n : ℕ) → Left n (leave_to o)
    left (Target t) n = (record { so = tt })
    left _ n = (record { so = tt })
act_by_class p here i w l class.Call = tt
act_by_class p here i w l class.CallVirtual = tt
act_by_class p here i w l class.NewObject = tt
act_by_class p here i w l class.Return = tt
act_by_class p here i w l class.Unsupported = tt
act_by_class p here i w l class.Prefix = λ m e. record { so = tt }

opened : (c : Option (ℕ × ℕ)) (l : state.Local) (a : Act) → LeftBy c l a → TakesAndLeaves c l a
opened None l a f = tt
opened (Some c) l a f = λ m e. (f m e).so

pub act_leaves : (p : Program) (here : Here) (i : Instr) (w : World) (l : state.Local) (c : Class) → TakesAndLeaves (counts c) l (act_of_class p here i w l c)
act_leaves p here i w l c = opened (counts c) l (act_of_class p here i w l c) (act_by_class p here i w l c)
