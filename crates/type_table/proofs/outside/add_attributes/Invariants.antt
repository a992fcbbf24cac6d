use Rattle.std.proofs.Common.{◌≡◌, ◌+◌, ℕ, length}
use Rattle.std.specs.Prelude.{filter, filter_map}
use Rattle.std.specs.List.{range_with_len}
use Rattle.set_names.specs.Distinct.{distinct}
use Rattle.set_program.specs.Numbering.{outside_name}
use Rattle.set_program.specs.Attributes.{names_type, attribute_type}
use Rattle.type_table.specs.Outside.{outside_by_attributes}
use Rattle.type_table.proofs.outside.add_attributes.Given as goal

-- the names so far with those of the rows that are left
abbrev pub invariant-loop-k : goal.invariant-loop-k
invariant-loop-k l =
    (n : ℕ) → l.k + n ≡ length l.types
    → distinct l.names (filter_map (λ row. outside_name (attribute_type l.set l.a row)) (filter (names_type l.set l.a) (range_with_len (l.k + 1) n))) ≡ distinct l.initial.names (outside_by_attributes l.set l.a)
