use Rattle.std.specs.Prelude.{reverse}
use Rattle.set_program.specs.References.{from_outermost}
use Rattle.set_program.proofs.ForwardLaws.{none_else}
use Rattle.set_program.proofs.AlongLaws.{along_stops}
use Rattle.set_program.proofs.references.from_outermost.Goals as goal

pub returns-in_default-found : goal.returns-in_default-found
returns-in_default-found c =
    along_stops c.args.set.now c.args.part.now c.loop-row.found (from_outermost c.args.set.now c.args.a c.args.part.now (reverse c.args.path.items)) (reverse c.loop-row.rows.items)
    (none_else c.loop-row.found c.in_default-found.not-Some) c.loop-row.invariant
