-- The slot of an interface's method, from a type that names the interface (ECMA-335, II.12.2).
use Rattle.std.specs.Prelude.{Option, option_and_then}
use Rattle.cil_model.specs.declared.ty.Ty.{Ty}
use Rattle.cil_model.specs.declared.program.Program.{Program}
use Rattle.cil_semantics.specs.Words.{first_some, or_else}
use Rattle.cil_semantics.specs.Lookups.{base_of}
use Rattle.cil_semantics.specs.Dispatch.{Seen, bases, implementing, public_like}

-- the method that implements it, else the base's slot, else the public virtual method of its shape in the nearest base
abbrev pub slot_from : Program → (Ty → Option Seen) → Seen → Ty → Option Seen
slot_from p again s u = or_else (implementing p s u) (or_else (option_and_then again (base_of p u)) (first_some (public_like p s) (bases p u)))
