-- What is reached in one step more.
use Rattle.std.proofs.Common.{◌≡◌, ◌∙◌, ap, arith, ℕ, zero, suc, ◌+◌, ◌-◌, ◌≤◌, List, Bool, true}
use Rattle.std.specs.Prelude.{◌||◌, ◌==◌}
use Rattle.std.proofs.lemmas.Bool.{eqb-true}
use Rattle.set_names.specs.Cycles.{any, reaches}
use Rattle.type_graphs.proofs.AnyLaws.{or_true, or_either, any_implies}

abbrev pub is_among : List ℕ → ℕ → Bool
is_among xs k = any (λ j. j == k) xs

or_left : (a b : Bool) → a ≡ true → (a || b) ≡ true
or_left a b e = ap (λ (c : Bool). c || b) e

or_right : (a b : Bool) → b ≡ true → (a || b) ≡ true
or_right a b e = ap (λ (c : Bool). a || c) e ∙ or_true a

module _ (next : ℕ → List ℕ) where
  one_more : (n a b : ℕ) → reaches next n a b ≡ true → reaches next (suc n) a b ≡ true
  unfolding reaches
  one_more zero a b e = absurd cc
  one_more (suc n) a b e =
      any_implies (λ j. (j == b) || reaches next n j b) (λ j. (j == b) || reaches next (suc n) j b)
      (λ j h. or_either (j == b) (reaches next n j b) (or_left (j == b) (reaches next (suc n) j b)) (λ r. or_right (j == b) (reaches next (suc n) j b) (one_more n j b r)) h)
      (next a) e

  more : (m n a b : ℕ) → reaches next n a b ≡ true → reaches next (m + n) a b ≡ true
  more zero n a b e = let s : zero + n ≡ n = omega arith in ap (λ (i : ℕ). reaches next i a b) s ∙ e
  more (suc m) n a b e = let s : suc m + n ≡ suc (m + n) = omega arith in ap (λ (i : ℕ). reaches next i a b) s ∙ one_more (m + n) a b (more m n a b e)

  pub in_more : (m n a b : ℕ) → m ≤ n → reaches next m a b ≡ true → reaches next n a b ≡ true
  in_more m n a b le e = let s : n ≡ (n - m) + m = omega (arith, le) in ap (λ (i : ℕ). reaches next i a b) s ∙ more (n - m) m a b e

  pub next_reached : (n a b : ℕ) → is_among (next a) b ≡ true → reaches next (suc n) a b ≡ true
  unfolding reaches
  next_reached n a b e = any_implies (λ j. j == b) (λ j. (j == b) || reaches next n j b) (λ j h. or_left (j == b) (reaches next n j b) h) (next a) e

  pub reached_next : (n a p b : ℕ) → reaches next n a p ≡ true → is_among (next p) b ≡ true → reaches next (suc n) a b ≡ true
  unfolding reaches
  reached_next zero a p b r e = absurd cc
  reached_next (suc n) a p b r e =
      any_implies (λ j. (j == p) || reaches next n j p) (λ j. (j == b) || reaches next (suc n) j b)
      (λ j h. or_right (j == b) (reaches next (suc n) j b)
      (or_either (j == p) (reaches next n j p)
      (λ same. next_reached n j b (ap (λ (i : ℕ). is_among (next i) b) (eqb-true j p same) ∙ e))
      (λ further. reached_next n j p b further e) h))
      (next a) r
