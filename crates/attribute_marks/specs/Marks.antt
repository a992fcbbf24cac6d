-- The rows that bear an attribute of a name, and the types around nested ones, as lists by row (ECMA-335, II.22.10, II.22.32, II.24.2.6).
use Rattle.std.specs.Prelude.{◌≡◌, ℕ, ◌+◌, ◌*◌, ◌/◌, ◌%◌, ◌≤◌, ◌==◌, ◌&&◌, Bool, if◌then◌else◌, List, length, get_or}
use Rattle.cil_base.specs.declared.tables.TheConstants.{CUSTOM_ATTRIBUTE, NESTED_CLASS, TYPE_DEF}
use Rattle.set_names.specs.Names.{Name}
use Rattle.set_rows.specs.Sets.{Assembly, Assemblies, count_in, cell}
use Rattle.set_rows.specs.Owners.{if_row}
use Rattle.set_program.specs.TypeNames.{enclosing}
use Rattle.set_program.specs.Attributes.{attribute_on}

-- the row on which a CustomAttribute row stands, where the type of the attribute has the wanted name and the row is of the table of this tag; else 0
abbrev pub marked_row : Assembly → Bool → ℕ → ℕ → ℕ
marked_row x is_wanted tag k = if is_wanted && (cell x CUSTOM_ATTRIBUTE k 0 % 32 == tag) then cell x CUSTOM_ATTRIBUTE k 0 / 32 else 0

-- by row of the table of this tag: the first attribute of this name on it; 0 where it bears none
pub record AreMarks (s : Assemblies) (a : ℕ) (name : Name) (tag count : ℕ) (marks : List ℕ) : Type 0 where
  pub size : length marks ≡ count + 1
  pub rows : (row : ℕ) → 1 ≤ row → row ≤ count → if_row (get_or marks row 0) ≡ attribute_on s a name (row * 32 + tag)

-- the type around that a NestedClass row names; 0 for no row
abbrev pub around : Assembly → ℕ → ℕ
around x k = if k == 0 then 0 else cell x NESTED_CLASS k 1

-- by TypeDef row: that of the type around it; 0 where it isn't nested
abbrev pub AreEnclosing : Assembly → List ℕ → Type 0
AreEnclosing x rows = (row : ℕ) → 1 ≤ row → row ≤ count_in x TYPE_DEF → if_row (get_or rows row 0) ≡ enclosing x row
