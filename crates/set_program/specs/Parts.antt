-- An assembly beside what is kept of its names.
use Rattle.std.specs.Prelude.{◌≡◌, ℕ, ◌+◌, ◌<◌, List, length, get_or, Option, None}
use Rattle.set_names.specs.Names.{Name, Noted, number_under}
use Rattle.set_rows.specs.Sets.{Assembly, count_in}
use Rattle.set_program.specs.TypeNames.{full_name, type_named}
use Rattle.set_program.specs.References.{exported_named}
use Rattle.cil_base.specs.declared.tables.TheConstants.{TYPE_DEF}

-- the full names of its types, by row from 0, and the rows by name
pub record IsIndexed (x : Assembly) (full : List (Option Name)) (types forwarders : Noted) : Type 0 where
  pub count : length full ≡ count_in x TYPE_DEF
  pub names : (k : ℕ) → k < length full → get_or full k None ≡ full_name x (k + 1)
  pub types_found : (name : Name) → number_under types name ≡ type_named x name
  pub forwarders_found : (name : Name) → number_under forwarders name ≡ exported_named x name
