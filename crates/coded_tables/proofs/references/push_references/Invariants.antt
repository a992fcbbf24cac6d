use Rattle.std.proofs.Common.{◌≡◌, ◌++◌, drop}
use Rattle.std.specs.Prelude.{map, option_map}
use Rattle.set_program.specs.Environment.{ty_by_id}
use Rattle.coded_tables.proofs.references.push_references.Given as goal

-- what is left of the list
abbrev pub invariant-loop-reference : goal.invariant-loop-reference
invariant-loop-reference l = l.out.items ++ map (option_map (ty_by_id l.table)) (drop l.reference-index l.references) ≡ l.initial.out.items ++ map (option_map (ty_by_id l.table)) l.references
