use Rattle.std.proofs.Common.{◌≡◌, ℕ, drop}
use Rattle.std.specs.Prelude.{◌==◌}
use Rattle.cil_semantics.specs.Words.{any}
use Rattle.look_ups.proofs.implemented.has_number.Given as goal

abbrev pub invariant-loop-n : goal.invariant-loop-n
invariant-loop-n l = any (λ (n : ℕ). n == l.number) (drop l.n-index l.numbers) ≡ any (λ (n : ℕ). n == l.number) l.numbers
