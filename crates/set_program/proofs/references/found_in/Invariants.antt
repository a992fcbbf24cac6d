use Rattle.std.proofs.Common.{◌≡◌, ◌+◌, ℕ, length}
use Rattle.set_program.specs.References.{found_within, found_in}
use Rattle.set_program.proofs.references.found_in.Given as goal

-- what is found from the assembly on that is asked next
abbrev pub invariant-loop-k : goal.invariant-loop-k
invariant-loop-k l = (n : ℕ) → l._k + n ≡ length l.set → found_within l.set l.name n l.at ≡ found_in l.set l.name l.a
