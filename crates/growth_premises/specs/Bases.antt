-- What stands above the types that a grown program has besides (ECMA-335, II.10.1.3).
use Rattle.std.specs.Prelude.{◌≡◌, ℕ, ◌<◌, ◌≤◌, length, Some}
use Rattle.cil_model.specs.declared.ty.Ty.{Ty, out-Ty}
use Rattle.cil_model.specs.declared.program.Program.{Program}
use Rattle.cil_semantics.specs.Lookups.{type_of}
use Rattle.machine_laws.specs.Answers.{IsAmong}

-- each has a base outside, or one of a lower number
abbrev pub BasesBelow : Program → Program → Type 0
BasesBelow p q = (k : ℕ) (t : Ty) → length p.types ≤ k → k < length q.types → (type_of q k).base ≡ Some t → IsAmong k (out-Ty t)
