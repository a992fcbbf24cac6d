use Rattle.std.proofs.Common.{◌≡◌, ◌+◌, ◌++◌, ℕ, length}
use Rattle.std.specs.Prelude.{flat_map}
use Rattle.std.specs.List.{range_with_len}
use Rattle.set_names.specs.Distinct.{distinct}
use Rattle.set_program.specs.Numbering.{names_outside, order}
use Rattle.type_table.proofs.outside.add_all_references.Given as goal

-- the names so far with those of the assemblies that are left, TARGET's last
abbrev pub invariant-loop-a : goal.invariant-loop-a
invariant-loop-a l = (n : ℕ) → l.a + n ≡ length l.set → distinct l.names (flat_map (names_outside l.set) (range_with_len l.a n) ++ (names_outside l.set) 0) ≡ distinct l.initial.names (flat_map (names_outside l.set) (order l.set))
