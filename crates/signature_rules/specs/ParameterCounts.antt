-- How many parameters the types have that coded types name, as lists by row (ECMA-335, II.22.20).
use Rattle.std.specs.Prelude.{ℕ, ◌-◌, ◌==◌, nat_lt, nat_le, ◌&&◌, List, length, get_or, if◌then◌else◌, Option, None}
use Rattle.set_types.specs.CodedIndexes.{tag, row_of}
use Rattle.signature_rules.specs.declared.parameter_counts.ParameterCounts.{ParameterCounts}

-- by row, from 1 on
abbrev pub count_at : List (Option ℕ) → ℕ → Option ℕ
count_at counts row = if nat_lt 0 row && nat_le row (length counts) then get_or counts (row - 1) None else None

abbrev pub count_of : ParameterCounts → ℕ → Option ℕ
count_of p coded = if tag coded == 0 then count_at p.defs.items (row_of coded) else if tag coded == 1 then count_at p.refs.items (row_of coded) else None
