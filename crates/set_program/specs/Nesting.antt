-- The rows of the types around nested ones, as a list by row from 0, and the names by which forwarders are found (ECMA-335, II.22.14, II.22.32).
use Rattle.std.specs.Prelude.{◌≡◌, ℕ, ◌&&◌, ◌==◌, not, List, length, Option, None, Some, if◌then◌else◌}
use Rattle.set_names.specs.Names.{Name}
use Rattle.set_rows.specs.Sets.{Assembly, count_in, cell}
use Rattle.set_types.specs.CodedIndexes.{tag, row_of}
use Rattle.set_names.specs.Paths.{next_in}
use Rattle.set_program.specs.TypeNames.{enclosing}
use Rattle.set_program.specs.References.{exported_name}
use Rattle.cil_base.specs.declared.tables.TheConstants.{EXPORTED_TYPE, TYPE_DEF}

-- Each type's row leads to that of the type around it.
pub record AreOuter (x : Assembly) (outer : List ℕ) : Type 0 where
  pub count : length outer ≡ count_in x TYPE_DEF
  pub rows : (row : ℕ) → next_in outer row ≡ enclosing x row

-- the name by which an ExportedType row is found, if no type is around it
abbrev pub forwarder_name : Assembly → ℕ → Option Name
forwarder_name x e = if (tag (cell x EXPORTED_TYPE e 4) == 2) && not (row_of (cell x EXPORTED_TYPE e 4) == 0) then None else Some (exported_name x e)
