-- The PropertyMap rows that own rows of Property, as a list by row from 0 (ECMA-335, II.22.35).
use Rattle.std.specs.Prelude.{◌≡◌, ℕ, ◌+◌, nat_lt, Bool, true, List, length, find, if◌then◌else◌}
use Rattle.cil_base.specs.declared.tables.TheConstants.{PROPERTY, PROPERTY_MAP}
use Rattle.set_rows.specs.Sets.{Assembly, count_in, is_row, rows_in, cell}
use Rattle.set_rows.specs.Owners.{row_in}
use Rattle.member_table.specs.MemberRules.{owns_property}

-- one past the last row that a PropertyMap row owns
abbrev pub property_end : Assembly → ℕ → ℕ
property_end x p = if nat_lt p (count_in x PROPERTY_MAP) then cell x PROPERTY_MAP (p + 1) 1 else count_in x PROPERTY + 1

-- Each row's owner; 0 where it has none.
pub record ArePropertyMaps (x : Assembly) (maps : List ℕ) : Type 0 where
  pub count : length maps ≡ count_in x PROPERTY
  pub rows : (k : ℕ) → is_row x PROPERTY k ≡ true → row_in maps k ≡ find (owns_property x k) (rows_in x PROPERTY_MAP)
