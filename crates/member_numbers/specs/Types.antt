-- The types of a set in order, in the environment in which their bases are looked up.
use Rattle.std.specs.Prelude.{ℕ, ◌+◌, ◌-◌, List, [], ◌++◌, map, flat_map, None}
use Rattle.std.specs.List.{range_with_len}
use Rattle.cil_base.specs.declared.tables.TheConstants.{TYPE_DEF}
use Rattle.set_rows.specs.Sets.{rows_in, cell}
use Rattle.members.specs.declared.set_type.SetType.{SetType}
use Rattle.member_table.specs.Environments.{Environment, row_type}

abbrev pub type_at : Environment → ℕ → ℕ → SetType
type_at e a row = row_type (e.coded a) a row (cell (e.assembly a) TYPE_DEF row 3)

-- those of so many rows of an assembly from one on
abbrev pub types_from : Environment → ℕ → ℕ → ℕ → List SetType
types_from e a from n = map (type_at e a) (range_with_len from n)

abbrev pub types_in : Environment → ℕ → List SetType
types_in e a = map (type_at e a) (rows_in (e.assembly a) TYPE_DEF)

-- a type that isn't of the set, where that has so many assemblies
abbrev pub outside_type : ℕ → SetType
outside_type n = record { assembly = n; row = 0; base = None; args = [] }

abbrev pub outside_types : ℕ → ℕ → List SetType
outside_types n count = map (λ k. outside_type n) (range_with_len 0 count)

-- of so many assemblies: those of the others, TARGET's before its runtime class, outside, the rest of TARGET's
abbrev pub all_in : Environment → ℕ → ℕ → ℕ → ℕ → List SetType
all_in e n old outside new = ((flat_map (types_in e) (range_with_len 1 (n - 1)) ++ types_from e 0 1 old) ++ outside_types n outside) ++ types_from e 0 (old + 1) new
