use Rattle.program_build.proofs.KnownLaws.{KnownUpTo}
use Rattle.program_build.proofs.facts.all_known.Given as goal

-- of the first assemblies
abbrev pub invariant-loop-a : goal.invariant-loop-a
invariant-loop-a l = KnownUpTo l.tables l.a l.all.items
