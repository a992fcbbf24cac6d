use Rattle.std.proofs.Common.{◌≡◌, ◌+◌, ◌++◌, ℕ, length}
use Rattle.std.specs.Prelude.{flat_map}
use Rattle.std.specs.List.{range_with_len}
use Rattle.set_names.specs.Distinct.{distinct}
use Rattle.set_program.specs.Numbering.{order}
use Rattle.set_program.specs.Environment.{values_in}
use Rattle.value_types.proofs.names.add_all_values.Given as goal

-- the names so far with those of the assemblies that are left, TARGET's last
abbrev pub invariant-loop-a : goal.invariant-loop-a
invariant-loop-a l = (n : ℕ) → l.a + n ≡ length l.set → distinct l.names (flat_map (values_in l.set) (range_with_len l.a n) ++ (values_in l.set) 0) ≡ distinct l.initial.names (flat_map (values_in l.set) (order l.set))
