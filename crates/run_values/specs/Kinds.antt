-- What a place of a type holds, told by parts of the type (ECMA-335, I.12.1 and II.14.3).
use Rattle.std.specs.Prelude.{ℕ, Bool, true, not, bytes_eq, if◌then◌else◌, List, slice_get}
use Rattle.cil_model.specs.declared.ty.Ty.{out-Ty}
use Rattle.cil_model.specs.declared.program.Program.{Program}
use Rattle.il_opcodes.specs.declared.class.Storage.{Storage}
use Rattle.il_opcodes.specs.declared.class.Storage.TheVariants as kept
use Rattle.il_opcodes.specs.declared.class.Bits.TheVariants.{B32}
use Rattle.cil_semantics.specs.Words.{maybe}
use Rattle.cil_semantics.specs.Core.{failure_kind}
use Rattle.cil_semantics.specs.Lookups.{field_of}
use Rattle.cil_semantics.specs.Places.{prim_at}

abbrev pub is_instance_field : Program → ℕ → Bool
is_instance_field p f = not (field_of p f).is_static

-- an enumeration with these instance fields
abbrev pub enumeration_storage : Program → List ℕ → Storage
enumeration_storage p fs = maybe kept.Opaque (λ f. prim_at (out-Ty (field_of p f).ty)) (slice_get fs 0)

-- a type outside of the set
abbrev pub outside_storage : List ℕ → Bool → Storage
outside_storage name value = if bytes_eq name failure_kind then kept.Truncated B32 true else if value then kept.Opaque else kept.Reference
