use Rattle.std.proofs.Common.{◌≡◌, take}
use Rattle.set_program.specs.Files.{assemblies_of}
use Rattle.set_program.proofs.set.Set.parts.Given as goal

abbrev pub invariant-loop-assembly : goal.invariant-loop-assembly
invariant-loop-assembly l = l.parts.items ≡ assemblies_of (take l.assembly-index l.assembly-items)
