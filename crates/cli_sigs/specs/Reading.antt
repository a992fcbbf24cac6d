-- How signatures are read, byte by byte.
use Rattle.std.specs.Prelude.{◌≡◌, ℕ, zero, suc, ◌+◌, ◌-◌, ◌*◌, ℤ, ◌%◌, Bool, true, false, ◌||◌, ◌&&◌, ◌==◌, nat_lt, if◌then◌else◌, List, [], ◌∷◌, Option, Some, None, Result, Ok, Err}
use Rattle.cli_sigs.specs.declared.elements.Element.{Element}
use Rattle.cli_sigs.specs.declared.elements.Element.TheVariants as e
use Rattle.cli_sigs.specs.declared.elements.Slot.{Slot}
use Rattle.cli_sigs.specs.declared.elements.Slot.TheVariants.{Plain, Pointed, Param}
use Rattle.cli_sigs.specs.declared.types.SigTy.{SigTy}
use Rattle.cli_sigs.specs.declared.types.SigTy.TheVariants as ty
use Rattle.cli_sigs.specs.declared.types.MethodSig.{MethodSig}
use Rattle.cli_sigs.specs.declared.numbers.Stop.{Stop}
use Rattle.cli_sigs.specs.declared.numbers.Stop.TheVariants as stop
use Rattle.cli_sigs.specs.Elements.{element_in, is_leaf, slot_behind}
use Rattle.cli_sigs.specs.Numbers.{unrotated, has_table}
use Rattle.cli_sigs.specs.Read.{Outcome, Reader, ◌>>=◌, pure, maps, byte_as, byte_where, many, marked}
use Rattle.cli_sigs.specs.declared.elements.MethodKind.{MethodKind}
use Rattle.cli_sigs.specs.declared.elements.MethodKind.TheVariants.{Pointer}
use Rattle.cli_sigs.specs.Methods.{may_begin, result_slot, is_generic, is_vararg}
use Rattle.cli_sigs.specs.Grammar.{method_of}

-- ---- numbers

abbrev pub is_head : ℕ → Bool
is_head b = nat_lt b 0xE0

abbrev pub is_byte : ℕ → Bool
is_byte b = nat_lt b 0x100

abbrev pub this_byte : ℕ → Reader ℕ
this_byte c = byte_where (λ b. b == c)

unfoldable pub packed_after : ℕ → Reader ℕ
packed_after a =
    if nat_lt a 0x80 then pure a
    else (if nat_lt a 0xC0 then maps (λ b. 0x100 * (a - 0x80) + b) (byte_where is_byte)
    else byte_where is_byte >>= (λ b. byte_where is_byte >>= (λ c. maps (λ d. 0x1000000 * (a - 0xC0) + 0x10000 * b + 0x100 * c + d) (byte_where is_byte))))

unfoldable pub packed : Reader ℕ
packed = byte_where is_head >>= packed_after

-- a coded index: its tag stands in its last byte
abbrev pub is_coded_head : ℕ → Bool
is_coded_head a = if nat_lt a 0x80 then has_table a else is_head a

abbrev pub is_tagged_byte : ℕ → Bool
is_tagged_byte b = is_byte b && has_table b

unfoldable pub coded_after : ℕ → Reader ℕ
coded_after a =
    if nat_lt a 0x80 then pure a
    else (if nat_lt a 0xC0 then maps (λ b. 0x100 * (a - 0x80) + b) (byte_where is_tagged_byte)
    else byte_where is_byte >>= (λ b. byte_where is_byte >>= (λ c. maps (λ d. 0x1000000 * (a - 0xC0) + 0x10000 * b + 0x100 * c + d) (byte_where is_tagged_byte))))

unfoldable pub coded_index : Reader ℕ
coded_index = byte_where is_coded_head >>= coded_after

abbrev pub head_half : ℕ → ℕ
head_half a = if nat_lt a 0x80 then 0x40 else if nat_lt a 0xC0 then 0x2000 else 0x10000000

unfoldable pub signed : Reader ℤ
signed = byte_where is_head >>= (λ a. maps (unrotated (head_half a)) (packed_after a))

unfoldable pub counted : {A : Type 0} → Reader A → Reader (List A)
counted r = packed >>= (λ n. many n r)

-- the number 0, in any of its three spellings
abbrev pub is_zero_head : ℕ → Bool
is_zero_head b = (b == 0x00) || (b == 0x80) || (b == 0xC0)

unfoldable pub nothing_after : ℕ → Reader ℕ
nothing_after a =
    if a == 0x00 then pure 0
    else (if a == 0x80 then this_byte 0
    else this_byte 0 >>= (λ b. this_byte 0 >>= (λ c. this_byte 0)))

unfoldable pub no_items : Reader ℕ
no_items = byte_where is_zero_head >>= nothing_after

-- ---- methods

unfoldable pub generics_after : Bool → Reader ℕ
generics_after true = packed
generics_after false = pure 0

-- so many parameters behind the first k, with a mark before the extra ones
unfoldable pub open_params : Reader SigTy → ℕ → ℕ → Reader (List SigTy × Option ℕ)
open_params r k zero = pure ([], None)
open_params r k (suc n) = marked 0x41 (maps (λ ts. (ts, Some k)) (many (suc n) r)) (r >>= (λ t. maps (λ p. (t ∷ p.0, p.1)) (open_params r (k + 1) n)))

unfoldable pub params_after : Bool → Reader SigTy → ℕ → Reader (List SigTy × Option ℕ)
params_after true r n = open_params r 0 n
params_after false r n = maps (λ ts. (ts, None)) (many n r)

unfoldable pub method_at : MethodKind → (Slot → Reader SigTy) → Reader MethodSig
method_at kind inner =
    byte_where (may_begin kind) >>= (λ flags. generics_after (is_generic flags) >>= (λ generics. packed >>= (λ n. inner (result_slot kind) >>= (λ result.
    maps (λ p. method_of flags generics result p.0 p.1) (params_after (is_vararg flags) (inner Param) n)))))

-- ---- types

abbrev pub named_value : ℕ → Option Bool
named_value b = if b == 0x11 then Some true else if b == 0x12 then Some false else None

unfoldable pub array_of : (Slot → Reader SigTy) → Reader SigTy
array_of inner = inner Plain >>= (λ t. packed >>= (λ rank. counted packed >>= (λ sizes. maps (λ lows. ty.Array t rank sizes lows) (counted signed))))

unfoldable pub inst_of : (Slot → Reader SigTy) → Reader SigTy
inst_of inner = byte_as named_value >>= (λ value. coded_index >>= (λ index. maps (λ args. ty.Inst value index args) (counted (inner Plain))))

unfoldable pub modified_of : Bool → Reader SigTy → Reader SigTy
modified_of required r = coded_index >>= (λ index. maps (λ t. ty.Modified required index t) r)

unfoldable pub type_after : (Slot → Reader SigTy) → Slot → Element → Reader SigTy
type_after inner slot (e.Prim b) = pure (ty.Prim b)
type_after inner slot e.Ptr = maps ty.Ptr (inner Pointed)
type_after inner slot e.ByRef = maps ty.ByRef (inner Plain)
type_after inner slot (e.Named value) = maps (λ c. ty.Named value c) coded_index
type_after inner slot e.Var = maps ty.Var packed
type_after inner slot e.MVar = maps ty.MVar packed
type_after inner slot e.Array = array_of inner
type_after inner slot e.Inst = inst_of inner
type_after inner slot e.Func = maps ty.Func (method_at Pointer inner)
type_after inner slot e.SzArray = maps ty.SzArray (inner Plain)
type_after inner slot (e.Modified required) = modified_of required (inner (slot_behind slot))
type_after inner slot e.Pinned = maps ty.Pinned (inner (slot_behind slot))

abbrev pub keep_leaf : Option Element → Option Element
keep_leaf (Some k) = if is_leaf k then Some k else None
keep_leaf None = None

abbrev pub leaf_in : Slot → ℕ → Option Element
leaf_in slot b = keep_leaf (element_in slot b)

unfoldable pub bare_inst : Reader SigTy
bare_inst = byte_as named_value >>= (λ value. coded_index >>= (λ index. maps (λ n. ty.Inst value index []) no_items))

unfoldable pub leaf_after : Element → Reader SigTy
leaf_after (e.Prim b) = pure (ty.Prim b)
leaf_after (e.Named value) = maps (λ c. ty.Named value c) coded_index
leaf_after e.Var = maps ty.Var packed
leaf_after e.MVar = maps ty.MVar packed
leaf_after _ = bare_inst

-- a type with at most so many further ones inside, one in another
unfoldable pub type_at : ℕ → Slot → Reader SigTy
type_at zero slot = byte_as (leaf_in slot) >>= leaf_after
type_at (suc d) slot = byte_as (element_in slot) >>= type_after (type_at d) slot

-- ---- blobs

unfoldable pub field_at : ℕ → Reader SigTy
field_at d = this_byte 0x06 >>= (λ b. type_at d Plain)

unfoldable pub list_at : ℕ → ℕ → Slot → Reader (List SigTy)
list_at first d slot = this_byte first >>= (λ b. counted (type_at d slot))

unfoldable pub attribute : Reader (List ℕ)
attribute = this_byte 0x01 >>= (λ a. this_byte 0x00 >>= (λ b. counted (byte_where is_byte) >>= (λ text. this_byte 0x00 >>= (λ c. maps (λ d. text) (this_byte 0x00)))))

-- the bare form: no arguments, and no named values, whose number is what is read
unfoldable pub bare_attribute : Reader ℕ
bare_attribute = this_byte 0x01 >>= (λ a. this_byte 0x00 >>= (λ b. this_byte 0x00 >>= (λ c. this_byte 0x00)))

-- ---- what a function of the program returned, seen by view

abbrev pub Stops : {Y : Type 0} → Stop → Outcome Y → Type 0
Stops (stop.At n) read = read ≡ Err n
Stops (stop.Memory e) read = Unit {0}

abbrev pub Gives : {X Y : Type 0} → (X → Y × List ℕ) → Result X Stop → Outcome Y → Type 0
Gives view (Ok x) read = read ≡ Ok (view x)
Gives view (Err e) read = Stops e read

-- what was read, where nothing is left
abbrev pub ended : {A : Type 0} → Outcome A → Option A
ended (Err e) = None
ended (Ok p) = at_end p.0 p.1
  where
    at_end : {A : Type 0} → A → List ℕ → Option A
    at_end v [] = Some v
    at_end v (b ∷ rest) = None
