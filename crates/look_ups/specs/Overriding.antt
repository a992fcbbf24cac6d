-- Which methods override a slot, of an outside base too (ECMA-335, II.10.3.1).
use Rattle.std.specs.Prelude.{Bool, ◌&&◌, ◌||◌, not, Option, Some, None}
use Rattle.cil_model.specs.declared.program.Program.{Program}
use Rattle.cil_semantics.specs.Words.{any}
use Rattle.cil_semantics.specs.Types.{same_ty}
use Rattle.cil_semantics.specs.Lookups.{method_of}
use Rattle.cil_semantics.specs.Dispatch.{Seen, bases, hidden_by, is_virtual, overrides, overrides_outside, same_seen, same_shape, takes_new_slot}

-- the slot is what the method hides, or is outside, of its shape and in a base where it hides nothing
abbrev pub by_hidden : Program → Seen → Seen → Option Seen → Bool
by_hidden p x slot (Some h) = same_seen slot h
by_hidden p x slot None = (method_of p slot.1).outside && (any (same_ty slot.0) (bases p x.0) && same_shape p x slot)

abbrev pub overrides_by_name : Program → Seen → Seen → Bool
overrides_by_name p x slot = (is_virtual (method_of p x.1) && not (takes_new_slot (method_of p x.1))) && by_hidden p x slot (hidden_by p x)

abbrev pub overrides_either : Program → Seen → Seen → Bool
overrides_either p x slot = overrides p x slot || overrides_outside p x slot
