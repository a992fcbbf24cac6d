use Rattle.std.proofs.Common.{◌≡◌, ◌+◌, ◌++◌, ℕ, length}
use Rattle.std.specs.Prelude.{flat_map}
use Rattle.std.specs.List.{range_with_len}
use Rattle.set_names.specs.Distinct.{distinct}
use Rattle.type_table.specs.Outside.{outside_by_attributes}
use Rattle.set_program.specs.Attributes.{attribute_outside}
use Rattle.type_table.proofs.outside.add_all_attributes.Given as goal

-- the names so far with those of the assemblies that are left, TARGET's last
abbrev pub invariant-loop-a : goal.invariant-loop-a
invariant-loop-a l = (n : ℕ) → l.a + n ≡ length l.set → distinct l.names (flat_map (outside_by_attributes l.set) (range_with_len l.a n) ++ (outside_by_attributes l.set) 0) ≡ distinct l.initial.names (attribute_outside l.set)
