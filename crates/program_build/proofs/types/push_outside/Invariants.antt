use Rattle.std.proofs.Common.{◌≡◌, ◌++◌, take}
use Rattle.std.specs.Prelude.{map}
use Rattle.descriptions.specs.Descriptions.{outside_type}
use Rattle.program_build.proofs.types.push_outside.Given as goal

-- those so far
abbrev pub invariant-loop-k : goal.invariant-loop-k
invariant-loop-k l = l.out ≡ l.initial.out ++ map outside_type (take l.k l.names)
