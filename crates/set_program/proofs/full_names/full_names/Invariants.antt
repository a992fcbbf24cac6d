use Rattle.std.proofs.Common.{◌≡◌}
use Rattle.std.specs.Prelude.{map}
use Rattle.std.specs.List.{range_with_len}
use Rattle.set_program.specs.TypeNames.{full_name}
use Rattle.set_program.proofs.full_names.full_names.Given as goal

abbrev pub invariant-loop-k : goal.invariant-loop-k
invariant-loop-k l = l.names.items ≡ map (full_name l.rows) (range_with_len 1 l.k)
