-- Tests of rows by one rule.
use Rattle.std.specs.Prelude.{ℕ, ◌-◌, Bool, is_none, List, [], ◌∷◌, get_or, Option, None}
use Rattle.cil_base.specs.declared.rule.Rule.{Rule}
use Rattle.cil_base.specs.Refusals.{Test}
use Rattle.set_program.specs.declared.identity.TypeId.{TypeId}
use Rattle.set_program.specs.TypeRules.{test}

-- the one test of a row
abbrev pub row_test : Rule → ℕ → ℕ → (ℕ → Bool) → ℕ → List Test
row_test rule a table fails row = test rule a table row (fails row) ∷ []

-- a row names no type, where these are what the rows name
abbrev pub is_unnamed : List (Option TypeId) → ℕ → Bool
is_unnamed ids row = is_none (get_or ids (row - 1) None)
