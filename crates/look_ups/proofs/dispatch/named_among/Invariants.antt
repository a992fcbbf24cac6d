use Rattle.std.proofs.Common.{◌≡◌, ◌++◌, ℕ, drop}
use Rattle.std.specs.Prelude.{◌==◌, filter}
use Rattle.cil_semantics.specs.Words.{any}
use Rattle.cil_semantics.specs.Dispatch.{Seen}
use Rattle.look_ups.proofs.dispatch.named_among.Given as goal

abbrev pub invariant-loop-one : goal.invariant-loop-one
invariant-loop-one l = l.found ++ filter (λ (z : Seen). any (λ (m : ℕ). m == z.1) l.numbers) (drop l.one-index l.seen) ≡ filter (λ (z : Seen). any (λ (m : ℕ). m == z.1) l.numbers) l.seen
