-- How many parameters types and methods have, by row (ECMA-335, II.22.20).
use Rattle.std.specs.Prelude.{◌≡◌, ◌+◌, ◌*◌, map}
use Rattle.cil_base.specs.declared.tables.TheConstants.{METHOD_DEF, TYPE_DEF}
use Rattle.set_rows.specs.Sets.{Assembly, rows_in}
use Rattle.set_program.specs.Kinds.{generics}
use Rattle.coded_tables.specs.declared.counts.GenericCounts.{GenericCounts}

pub record AreCounts (x : Assembly) (c : GenericCounts) : Type 0 where
  pub types : c.types.items ≡ map (λ row. generics x (row * 2)) (rows_in x TYPE_DEF)
  pub methods : c.methods.items ≡ map (λ row. generics x (row * 2 + 1)) (rows_in x METHOD_DEF)
