-- The static fields among those of a type (ECMA-335, II.22.15).
use Rattle.std.specs.Prelude.{ℕ, Bool}
use Rattle.cil_model.specs.declared.program.Program.{Program}
use Rattle.cil_semantics.specs.Lookups.{field_of}

abbrev pub is_static_field : Program → ℕ → Bool
is_static_field p f = (field_of p f).is_static
