-- Where fields stand, looked for in one type of a chain after another (own).
use Rattle.std.specs.Prelude.{ℕ, ◌+◌, Option, Some, option_map}
use Rattle.run_values.specs.declared.layouts.Sought.{Sought}
use Rattle.run_values.specs.declared.layouts.Sought.TheVariants as sought

-- where a field stands, if it stands there among the fields yet to be looked at
abbrev pub placed : Sought → Option ℕ → Option ℕ
placed (sought.At place) rest = Some place
placed (sought.Behind count) rest = option_map (λ i. count + i) rest
