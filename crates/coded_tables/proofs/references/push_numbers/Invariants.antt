use Rattle.std.proofs.Common.{◌≡◌, ◌++◌, drop}
use Rattle.std.specs.Prelude.{map, option_and_then}
use Rattle.set_program.specs.Environment.{number_of}
use Rattle.coded_tables.proofs.references.push_numbers.Given as goal

-- what is left of the list
abbrev pub invariant-loop-reference : goal.invariant-loop-reference
invariant-loop-reference l = l.out.items ++ map (option_and_then (number_of l.table)) (drop l.reference-index l.references) ≡ l.initial.out.items ++ map (option_and_then (number_of l.table)) l.references
