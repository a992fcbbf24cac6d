-- The first rule that a cell breaks, by its number and that of the row before.
use Rattle.std.specs.Prelude.{◌≡◌, ℕ, ◌-◌, ◌<◌, ◌≤◌, ◌==◌, ◌&&◌, nat_lt, List, [], length, get_or, Option, Some, None, if◌then◌else◌}
use Rattle.cil_base.specs.declared.rule.Rule.{Rule}
use Rattle.cil_base.specs.declared.rule.Rule.TheVariants.{M6}
use Rattle.cil_base.specs.declared.refusal.Refusal.{Refusal}
use Rattle.cli_tables.specs.declared.schema.Column.{Column}
use Rattle.cli_tables.specs.declared.sizes.Sizes.{Sizes}
use Rattle.cli_tables.specs.Schema.{columns_of}
use Rattle.cli_tables.specs.Stream.{kind_of}
use Rattle.cli_tables.specs.TableRules.{names_nothing, naming_rule, is_list}

abbrev pub cell_rule : List ℕ → Sizes → Column → ℕ → ℕ → Option Rule
cell_rule meta sizes column before value =
    if names_nothing meta sizes column value then Some (naming_rule column)
    else if is_list column && nat_lt value before then Some M6
    else None

-- the number of the row before, and 0 before the first row
abbrev pub before : List ℕ → ℕ → ℕ
before cells k = if k == 0 then 0 else get_or cells (k - 1) 0

-- rows count from 0 here
abbrev pub rule_at : List ℕ → Sizes → ℕ → List (List ℕ) → ℕ → ℕ → Option Rule
rule_at meta sizes table columns k c = cell_rule meta sizes (kind_of table c) (before (get_or columns c []) k) (get_or (get_or columns c []) k 0)

-- No cell of the row breaks a rule, up to a column.
abbrev pub IsCleanRow : List ℕ → Sizes → ℕ → List (List ℕ) → ℕ → ℕ → Type 0
IsCleanRow meta sizes table columns k end = (c : ℕ) → c < end → rule_at meta sizes table columns k c ≡ None

-- No cell of the rows before breaks a rule.
abbrev pub AreClean : List ℕ → Sizes → ℕ → List (List ℕ) → ℕ → Type 0
AreClean meta sizes table columns rows = (k : ℕ) → k < rows → IsCleanRow meta sizes table columns k (length (columns_of table))

-- The first cell that breaks a rule, and which; rows count from 1.
pub record IsFirstIn (meta : List ℕ) (sizes : Sizes) (assembly table : ℕ) (columns : List (List ℕ)) (rows : ℕ) (r : Refusal) : Type 0 where
  pub assembly_is : r.assembly ≡ assembly
  pub table_is : r.table ≡ table
  pub row_above : 1 ≤ r.row
  pub row_within : r.row ≤ rows
  pub column_within : r.at < length (columns_of table)
  pub breaks : rule_at meta sizes table columns (r.row - 1) r.at ≡ Some r.rule
  pub row_clean : IsCleanRow meta sizes table columns (r.row - 1) r.at
  pub before_clean : AreClean meta sizes table columns (r.row - 1)
