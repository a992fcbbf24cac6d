use Rattle.std.proofs.Common.{◌≡◌, ◌++◌, drop}
use Rattle.set_check.specs.Sets.{assemblies_of, bytes_of}
use Rattle.set_check.proofs.check.parts.Given as goal

-- what is left of the assemblies
abbrev pub invariant-loop-assembly : goal.invariant-loop-assembly
invariant-loop-assembly l = l.parts.items ++ assemblies_of (bytes_of (drop l.assembly-index l.set)) ≡ assemblies_of (bytes_of l.set)
