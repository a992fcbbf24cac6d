-- How far steps lead from a node of a graph without long chains: less far from each node that it leads to.
use Rattle.std.proofs.Common.{◌≡◌, ◌∙◌, sym, ap, refl, arith, ℕ, zero, suc, ◌<◌, ◌≤◌, List, [], ◌∷◌, Bool, true, false, ◌⊎◌, inl, inr}
use Rattle.std.specs.Prelude.{◌==◌, if◌then◌else◌}
use Rattle.std.proofs.lemmas.Bool.{cases_eq, eqb-true}
use Rattle.set_names.specs.Cycles.{any, is_deep}
use Rattle.type_graphs.proofs.AnyLaws.{any_here, any_behind, or_either}
use Rattle.type_graphs.proofs.StepLaws.{is_among}

-- one more than the last number below n that passes
abbrev past_last : (ℕ → Bool) → ℕ → ℕ
past_last f zero = 0
past_last f (suc m) = if f m then suc m else past_last f m

past_last_few : (f : ℕ → Bool) (n : ℕ) → past_last f n ≤ n
past_last_few f zero = omega arith
past_last_few f (suc m) = go (f m) (past_last_few f m)
  where
    go : (b : Bool) → past_last f m ≤ m → (if b then suc m else past_last f m) ≤ suc m
    go true h = omega arith
    go false h = omega (arith, h)

below_suc : (m k : ℕ) → m < suc k → (m ≡ k → ⊥) → m < k
below_suc zero zero h apart = absurd (apart refl)
below_suc zero (suc k) h apart = omega arith
below_suc (suc m) zero h apart = absurd (omega (arith, h))
below_suc (suc m) (suc k) h apart =
    let r : m < k = below_suc m k (omega (arith, h)) (λ e. apart (ap (λ (i : ℕ). suc i) e)) in
    omega (arith, r)

past_last_above : (f : ℕ → Bool) (n m : ℕ) → m < n → f m ≡ true → m < past_last f n
past_last_above f zero m h e = absurd (omega (arith, h))
past_last_above f (suc k) m h e = go (f k) refl (cases_eq m k) (λ l. past_last_above f k m l e)
  where
    go : (b : Bool) → f k ≡ b → (m ≡ k) ⊎ (m ≡ k → ⊥) → (m < k → m < past_last f k) → m < (if b then suc k else past_last f k)
    go true g o later = omega (arith, h)
    go false g (inl same) later = absurd (let wrong : true ≡ false = sym e ∙ ap f same ∙ g in cc)
    go false g (inr other) later = later (below_suc m k h other)

past_last_passes : (f : ℕ → Bool) (n m : ℕ) → past_last f n ≡ suc m → f m ≡ true
past_last_passes f zero m e = absurd (omega (arith, e))
past_last_passes f (suc k) m e = go (f k) refl (λ g. past_last_passes f k m g) e
  where
    go : (b : Bool) → f k ≡ b → (past_last f k ≡ suc m → f m ≡ true) → (if b then suc k else past_last f k) ≡ suc m → f m ≡ true
    go true g later h = let same : m ≡ k = omega (arith, h) in ap f same ∙ g
    go false g later h = later h

any_among : (f : ℕ → Bool) (xs : List ℕ) (j : ℕ) → is_among xs j ≡ true → f j ≡ true → any f xs ≡ true
any_among f [] j e g = absurd cc
any_among f (x ∷ xs) j e g =
    or_either (x == j) (any (λ i. i == j) xs)
    (λ same. any_here f x xs (ap f (eqb-true x j same) ∙ g))
    (λ later. any_behind f x xs (any_among f xs j later g))
    e

module _ (next : ℕ → List ℕ) (n : ℕ) where
  -- how many steps lead from a node, as far as n
  abbrev pub height : ℕ → ℕ
  height k = past_last (λ d. is_deep next d k) n

  pub height_few : (k : ℕ) → height k ≤ n
  height_few k = past_last_few (λ d. is_deep next d k) n

  deep_zero : (k : ℕ) → is_deep next 0 k ≡ true
  unfolding is_deep
  deep_zero k = refl

  one_deeper : (d k j : ℕ) → is_among (next k) j ≡ true → is_deep next d j ≡ true → is_deep next (suc d) k ≡ true
  unfolding is_deep
  one_deeper d k j a e = any_among (is_deep next d) (next k) j a e

  pub height_falls : (k j : ℕ) → k < n → is_deep next n k ≡ false → is_among (next k) j ≡ true → height j < height k
  height_falls k j low shallow a = go (height j) refl (height_few j)
    where
      go : (h : ℕ) → height j ≡ h → h ≤ n → h < height k
      go zero e few = past_last_above (λ d. is_deep next d k) n 0 (omega (arith, low)) (deep_zero k)
      go (suc m) e few =
          let deeper : is_deep next (suc m) k ≡ true = one_deeper m k j a (past_last_passes (λ d. is_deep next d j) n m e) in
          past_last_above (λ d. is_deep next d k) n (suc m) (below_suc (suc m) n (omega (arith, few)) (λ same. absurd (let wrong : true ≡ false = sym deeper ∙ ap (λ (d : ℕ). is_deep next d k) same ∙ shallow in cc))) deeper
