use Rattle.std.proofs.Common.{◌≡◌, drop}
use Rattle.set_program.specs.Attributes.{inside_all}
use Rattle.type_table.proofs.texts.inside_all.Given as goal

abbrev pub invariant-loop-name : goal.invariant-loop-name
invariant-loop-name l = inside_all l.set l.found (drop l.name-index l.names) ≡ inside_all l.set l.fn.outer l.names
