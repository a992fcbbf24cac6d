use Rattle.std.proofs.Common.{◌≡◌, length}
use Rattle.std.specs.Prelude.{map, reverse}
use Rattle.set_program.specs.References.{exported_name}
use Rattle.set_program.specs.Attributes.{inside_all}
use Rattle.set_program.specs.TypeRules.{from_outermost_export}
use Rattle.type_table.proofs.exports.from_outermost.Given as goal

-- what is found from here on, along what is left of the path
abbrev pub invariant-loop-row : goal.invariant-loop-row
invariant-loop-row l = inside_all l.set l.found (map (exported_name l.part) (reverse l.rows.items)) ≡ from_outermost_export l.set l.part (reverse l.fn.path.items)

abbrev pub decreases-loop-row : goal.decreases-loop-row
decreases-loop-row l = length l.rows.items
