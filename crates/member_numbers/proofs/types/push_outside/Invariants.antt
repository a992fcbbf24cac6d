use Rattle.std.proofs.Common.{◌≡◌, ◌++◌}
use Rattle.member_numbers.specs.Types.{outside_types}
use Rattle.member_numbers.proofs.types.push_outside.Given as goal

-- so many so far
abbrev pub invariant-loop-k : goal.invariant-loop-k
invariant-loop-k l = l.types.items ≡ l.fn.types.items ++ outside_types l.assemblies l._k
