-- Things that lead to things: what leads back to itself, and what leads on for so many steps (own).
use Rattle.std.specs.Prelude.{ℕ, zero, suc, ◌||◌, ◌==◌, Bool, true, false, List, [], ◌∷◌}

abbrev pub any : {A : Type 0} → (A → Bool) → List A → Bool
any test [] = false
any test (x ∷ xs) = test x || any test xs

-- in one to so many steps
unfoldable pub reaches : (ℕ → List ℕ) → ℕ → ℕ → ℕ → Bool
reaches next zero k to = false
reaches next (suc n) k to = any (λ j. (j == to) || reaches next n j to) (next k)

-- so many steps lead from it
unfoldable pub is_deep : (ℕ → List ℕ) → ℕ → ℕ → Bool
is_deep next zero k = true
is_deep next (suc n) k = any (is_deep next n) (next k)
