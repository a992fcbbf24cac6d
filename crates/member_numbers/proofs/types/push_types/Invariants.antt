use Rattle.std.proofs.Common.{◌≡◌, ◌+◌, [], ◌++◌}
use Rattle.member_table.specs.Environments.{environment_in}
use Rattle.member_numbers.specs.Types.{types_from}
use Rattle.member_numbers.proofs.types.push_types.Given as goal

-- those of the rows so far
abbrev pub invariant-loop-k : goal.invariant-loop-k
invariant-loop-k l = l.types.items ≡ l.fn.types.items ++ types_from (environment_in l.assemblies []) l.a (l.before + 1) l.k
