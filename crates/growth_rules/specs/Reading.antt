-- An assembly that is read, and where its indexes lead (ECMA-335, II.22, II.24.2.6).
use Rattle.std.specs.Prelude.{ℕ, ◌+◌, ◌≤◌, ◌/◌, ◌%◌, ◌^◌, Option, Some, None}
use Rattle.cil_base.specs.Refusals.{NoneBroken}
use Rattle.cli_heaps.specs.Root.{tables}
use Rattle.cli_tables.specs.declared.schema.Column.{Column}
use Rattle.cli_tables.specs.declared.schema.Column.TheVariants.{Row, FirstRow, Coded}
use Rattle.cli_tables.specs.Schema.{table_of_tag, tag_bits}
use Rattle.cli_tables.specs.Tables.{AreIn}
use Rattle.cli_tables.specs.TableRules.{RowsBroken}
use Rattle.set_rows.specs.Sets.{Assembly, count_in}

-- its tables are those of its stream, and none of their rows breaks a rule (M4 to M7)
pub record IsRead (x : Assembly) : Type 0 where
  pub number : ℕ
  pub cells : AreIn (tables x.meta) x.tables
  pub rows : NoneBroken (RowsBroken x.meta number)

-- a row of the table of a tag, or 0; no unused tag
abbrev pub IsWithin : Assembly → Option ℕ → ℕ → Type 0
IsWithin x None row = ⊥
IsWithin x (Some table) row = row ≤ count_in x table

-- an index of a column: a row or 0, of a list one past the last at most
abbrev pub LeadsTo : Assembly → Column → ℕ → Type 0
LeadsTo x (Row table) value = value ≤ count_in x table
LeadsTo x (FirstRow table) value = value ≤ count_in x table + 1
LeadsTo x (Coded coded) value = IsWithin x (table_of_tag coded (value % 2 ^ tag_bits coded)) (value / 2 ^ tag_bits coded)
LeadsTo x _ value = Unit {0}
