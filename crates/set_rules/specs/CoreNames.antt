-- The names of the types that each program has (ECMA-335, II.23.1.16, and the base classes of the standard library).
use Rattle.std.specs.Prelude.{ℕ, Bool, false, nat_lt, List, map, Option, Some, None}
use Rattle.cil_model.specs.declared.ty.Ty.{Ty}
use Rattle.cil_semantics.specs.Core.{core_classes, prim_names}
use Rattle.set_names.specs.Names.{Name}

unfoldable pub class_names : List Name
class_names = map (λ (c : Name × Ty). c.0) core_classes

unfoldable pub byte_names : List Name
byte_names = map (λ (p : ℕ × Name). p.1) prim_names

-- a row was found, and stands before this one
abbrev pub is_before : Option ℕ → ℕ → Bool
is_before None row = false
is_before (Some k) row = nat_lt k row
