-- The first of the refusals of many methods, by place and then by rule (own).
use Rattle.std.specs.Prelude.{ℕ, ◌<◌, List, [], ◌∷◌, Option, Some, None, if◌then◌else◌}
use Rattle.cil_base.specs.declared.refusal.Refusal.{Refusal}
use Rattle.cil_base.specs.Refusals.{key, is_less}
use Rattle.cil_base.specs.Rules.{rule_number}

-- the key of a refusal within its row
abbrev pub within : Refusal → List ℕ
within r = r.at ∷ rule_number r.rule ∷ []

abbrev pub earlier : Option Refusal → Refusal → Option Refusal
earlier None found = Some found
earlier (Some best) found = if is_less (key found) (key best) then Some found else Some best

abbrev pub earlier_of : Option Refusal → Option Refusal → Option Refusal
earlier_of best None = best
earlier_of best (Some found) = earlier best found

-- It is broken by one of so many, by number.
pub record BrokenByOne (At : ℕ → Refusal → Type 0) (count : ℕ) (r : Refusal) : Type 0 where
  pub number : ℕ
  pub there : number < count
  pub broken : At number r
