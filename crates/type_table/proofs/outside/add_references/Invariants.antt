use Rattle.std.proofs.Common.{◌≡◌, ◌+◌, ℕ}
use Rattle.std.specs.Prelude.{filter_map}
use Rattle.std.specs.List.{range_with_len}
use Rattle.set_names.specs.Distinct.{distinct}
use Rattle.set_program.specs.References.{reference}
use Rattle.set_program.specs.Numbering.{outside_name, names_outside}
use Rattle.type_table.proofs.outside.add_references.Given as goal

-- the names so far with those of the rows that are left
abbrev pub invariant-loop-k : goal.invariant-loop-k
invariant-loop-k l =
    (n : ℕ) → l.k + n ≡ l.count → distinct l.names (filter_map (λ row. outside_name (reference l.set l.a row)) (range_with_len (l.k + 1) n)) ≡ distinct l.initial.names (names_outside l.set l.a)
