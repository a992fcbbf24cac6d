-- What a pass has found so far.
use Rattle.std.specs.Prelude.{ℕ, ◌<◌}
use Rattle.cil_base.specs.declared.refusal.Refusal.{Refusal}

-- nothing is broken before a step
abbrev pub NoneBelow : (Refusal → Type 0) → (Refusal → ℕ) → ℕ → Type 0
NoneBelow Broken at k = (q : Refusal) → Broken q → at q < k → ⊥
