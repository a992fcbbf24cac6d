use Rattle.std.proofs.Common.{◌≡◌, [], ◌++◌}
use Rattle.std.specs.Prelude.{flat_map}
use Rattle.std.specs.List.{range_with_len}
use Rattle.member_table.specs.Environments.{environment_in}
use Rattle.member_numbers.specs.Types.{types_in}
use Rattle.member_numbers.proofs.types.push_others.Given as goal

-- those of the assemblies so far
abbrev pub invariant-loop-k : goal.invariant-loop-k
invariant-loop-k l = l.types.items ≡ l.fn.types.items ++ flat_map (types_in (environment_in l.assemblies [])) (range_with_len 1 l.k)
