use Rattle.std.proofs.Common.{◌≡◌, ◌++◌, [], drop}
use Rattle.set_program.specs.Attributes.{parted}
use Rattle.type_table.proofs.texts.parts_of.Given as goal

-- the names so far, and those of the rest of the text
abbrev pub invariant-loop-b : goal.invariant-loop-b
invariant-loop-b l = l.names.items ++ parted l.part (drop l.b-index l.text) ≡ parted [] l.text
