use Rattle.std.proofs.Common.{◌≡◌, drop}
use Rattle.std.specs.Prelude.{filter_map}
use Rattle.set_names.specs.Distinct.{distinct}
use Rattle.value_types.specs.CodedValues.{coded_outside}
use Rattle.value_types.proofs.names.add_all_coded.Given as goal

-- the names so far with those of what is left
abbrev pub invariant-loop-value : goal.invariant-loop-value
invariant-loop-value l = distinct l.names (filter_map (coded_outside l.references) (drop l.value-index l.coded)) ≡ distinct l.initial.names (filter_map (coded_outside l.references) l.coded)
