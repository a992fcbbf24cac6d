use Rattle.std.proofs.Common.{drop}
use Rattle.set_program.specs.Attributes.{inside_all}
use Rattle.set_program.proofs.ForwardLaws.{none_else}
use Rattle.type_table.proofs.ExportLaws.{inside_stops}
use Rattle.type_table.proofs.texts.inside_all.Goals as goal

pub returns-in_default : goal.returns-in_default
returns-in_default c =
    inside_stops c.args.set.now c.loop-name.found (inside_all c.args.set.now c.args.outer c.args.names.now) (drop c.loop-name.name-index c.args.names.now)
    (none_else c.loop-name.found c.in_default.not-Some) c.loop-name.invariant
