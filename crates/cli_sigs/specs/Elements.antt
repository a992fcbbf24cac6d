-- Element types: what the first byte of a type says (ECMA-335, II.23.1.16), and where each may stand (II.23.2).
use Rattle.std.specs.Prelude.{ℕ, Bool, true, false, ◌||◌, ◌&&◌, ◌==◌, nat_lt, Option, Some, None, if◌then◌else◌}
use Rattle.cli_sigs.specs.declared.elements.Element.{Element}
use Rattle.cli_sigs.specs.declared.elements.Element.TheVariants as e
use Rattle.cli_sigs.specs.declared.elements.Slot.{Slot}
use Rattle.cli_sigs.specs.declared.elements.Slot.TheVariants.{Plain, Pointed, Param, Returned, Local, Constrained}

-- void, bool to string, TYPEDBYREF, native integers and object: types of one byte
abbrev pub is_prim : ℕ → Bool
is_prim b = (nat_lt 0 b && nat_lt b 0x0F) || (b == 0x16) || (b == 0x18) || (b == 0x19) || (b == 0x1C)

abbrev pub element_of : ℕ → Option Element
element_of b =
    if is_prim b then Some (e.Prim b)
    else if b == 0x0F then Some e.Ptr
    else if b == 0x10 then Some e.ByRef
    else if b == 0x11 then Some (e.Named true)
    else if b == 0x12 then Some (e.Named false)
    else if b == 0x13 then Some e.Var
    else if b == 0x14 then Some e.Array
    else if b == 0x15 then Some e.Inst
    else if b == 0x1B then Some e.Func
    else if b == 0x1D then Some e.SzArray
    else if b == 0x1E then Some e.MVar
    else if b == 0x1F then Some (e.Modified true)
    else if b == 0x20 then Some (e.Modified false)
    else if b == 0x45 then Some e.Pinned
    else None

abbrev pub allows_void : Slot → Bool
allows_void Pointed = true
allows_void Returned = true
allows_void _ = false

abbrev pub allows_by_ref : Slot → Bool
allows_by_ref Plain = false
allows_by_ref Pointed = false
allows_by_ref _ = true

abbrev pub allows_typed_by_ref : Slot → Bool
allows_typed_by_ref Param = true
allows_typed_by_ref Returned = true
allows_typed_by_ref Local = true
allows_typed_by_ref _ = false

abbrev pub allows_pinned : Slot → Bool
allows_pinned Local = true
allows_pinned Constrained = true
allows_pinned _ = false

-- all other bytes may stand where any type may
abbrev pub may_stand : Slot → ℕ → Bool
may_stand slot b =
    if b == 0x01 then allows_void slot
    else if b == 0x10 then allows_by_ref slot
    else if b == 0x16 then allows_typed_by_ref slot
    else if b == 0x45 then allows_pinned slot
    else true

-- the element type of a byte that may begin a type in the slot
abbrev pub element_in : Slot → ℕ → Option Element
element_in slot b = if may_stand slot b then element_of b else None

-- where the type behind a modifier or PINNED stands: TYPEDBYREF can't be a local there
abbrev pub slot_behind : Slot → Slot
slot_behind Local = Constrained
slot_behind slot = slot

-- such a type can have no types inside
abbrev pub is_leaf : Element → Bool
is_leaf (e.Prim b) = true
is_leaf (e.Named value) = true
is_leaf e.Var = true
is_leaf e.MVar = true
is_leaf e.Inst = true
is_leaf _ = false
