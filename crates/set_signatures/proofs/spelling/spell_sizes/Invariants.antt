use Rattle.std.proofs.Common.{◌≡◌, ◌++◌, drop}
use Rattle.set_signatures.specs.Spelling.{spelled_sizes}
use Rattle.set_signatures.proofs.spelling.spell_sizes.Given as goal

-- what is left of the list
abbrev pub invariant-loop-size : goal.invariant-loop-size
invariant-loop-size l = l.initial.out ++ spelled_sizes l.sizes ≡ l.out ++ spelled_sizes (drop l.size-index l.sizes)
