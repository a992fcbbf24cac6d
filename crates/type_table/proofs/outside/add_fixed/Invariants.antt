use Rattle.std.proofs.Common.{◌≡◌, drop}
use Rattle.std.specs.Prelude.{map}
use Rattle.set_names.specs.Distinct.{distinct}
use Rattle.set_program.specs.Numbering.{fixed_names}
use Rattle.type_table.proofs.outside.add_fixed.Given as goal

abbrev pub invariant-loop-name : goal.invariant-loop-name
invariant-loop-name l = distinct l.names (map (λ name. name.now) (drop l.name-index l.name-items)) ≡ distinct l.initial.names fixed_names
