-- The first byte of a method's signature (ECMA-335, II.23.2.1 to II.23.2.3 and II.23.2.5).
use Rattle.std.specs.Prelude.{ℕ, Bool, ◌-◌, ◌||◌, ◌&&◌, ◌==◌, nat_lt, nat_le, not, bit_and}
use Rattle.cli_sigs.specs.declared.elements.Slot.{Slot}
use Rattle.cli_sigs.specs.declared.elements.Slot.TheVariants.{Param, Returned}
use Rattle.cli_sigs.specs.declared.elements.MethodKind.{MethodKind}
use Rattle.cli_sigs.specs.declared.elements.MethodKind.TheVariants.{Method, Pointer, Property}

-- DEFAULT, VARARG or GENERIC
abbrev pub is_call : ℕ → Bool
is_call b = (b == 0x00) || (b == 0x05) || (b == 0x10)

-- in FNPTR the unmanaged conventions too
abbrev pub is_pointer_call : ℕ → Bool
is_pointer_call b = nat_lt b 0x06 || (b == 0x10)

-- the convention alone, with HASTHIS, or with HASTHIS and EXPLICITTHIS
abbrev pub with_this : (ℕ → Bool) → ℕ → Bool
with_this is_convention b = is_convention b || (nat_le 0x20 b && is_convention (b - 0x20)) || (nat_le 0x60 b && is_convention (b - 0x60))

abbrev pub is_generic : ℕ → Bool
is_generic flags = not (bit_and flags 0x10 == 0)

abbrev pub is_vararg : ℕ → Bool
is_vararg flags = bit_and flags 0x0F == 0x05

-- PROPERTY, alone or with HASTHIS
abbrev pub is_property : ℕ → Bool
is_property b = (b == 0x08) || (b == 0x28)

abbrev pub may_begin : MethodKind → ℕ → Bool
may_begin Method b = with_this is_call b
may_begin Pointer b = with_this is_pointer_call b
may_begin Property b = is_property b

-- where the result stands: a property is not void
abbrev pub result_slot : MethodKind → Slot
result_slot Method = Returned
result_slot Pointer = Returned
result_slot Property = Param
