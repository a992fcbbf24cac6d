use Rattle.std.proofs.Common.{◌≡◌, ◌+◌, ℕ, [], length}
use Rattle.members.specs.Bases.{in_bases}
use Rattle.members.proofs.bases.in_bases.Given as goal

-- what is found from here on
abbrev pub invariant-loop-n : goal.invariant-loop-n
invariant-loop-n l = (n : ℕ) → l._n + n ≡ length l.types → in_bases l.assemblies l.types l.x n l.args.items l.number ≡ in_bases l.assemblies l.types l.x (length l.types) [] l.k
