use Rattle.std.proofs.Common.{◌≡◌, ◌+◌, ℕ}
use Rattle.member_table.specs.Environments.{environment_in, seen_within}
use Rattle.member_table.proofs.bases.seen_within.Given as goal

-- what is found from here on
abbrev pub invariant-loop-i : goal.invariant-loop-i
invariant-loop-i l = (m : ℕ) → l._i + m ≡ l.n → seen_within (environment_in l.assemblies l.types) l.k m l.here ≡ seen_within (environment_in l.assemblies l.types) l.k l.n l.ty
