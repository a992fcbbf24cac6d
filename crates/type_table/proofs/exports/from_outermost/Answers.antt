use Rattle.std.specs.Prelude.{map, reverse}
use Rattle.set_program.specs.References.{exported_name}
use Rattle.set_program.specs.TypeRules.{from_outermost_export}
use Rattle.set_program.proofs.ForwardLaws.{none_else}
use Rattle.type_table.proofs.ExportLaws.{inside_stops}
use Rattle.type_table.proofs.exports.from_outermost.Goals as goal

pub returns-in_default-found : goal.returns-in_default-found
returns-in_default-found c =
    inside_stops c.args.set.now c.loop-row.found (from_outermost_export c.args.set.now c.args.part.now (reverse c.args.path.items)) (map (exported_name c.args.part.now) (reverse c.loop-row.rows.items))
    (none_else c.loop-row.found c.in_default-found.not-Some) c.loop-row.invariant
