-- The first refusal of all methods, found one after another.
use Rattle.std.proofs.Common.{◌≡◌, ◌⊎◌, ℕ, ◌+◌, ◌<◌, ◌≤◌, Bool, true, false, Option, Some, None, refl, sym, ap, ◌∙◌, subst, inl, inr, arith, rules, List, [], ◌∷◌}
use Rattle.std.specs.Prelude.{MatchOption, ◌==◌, ◌||◌, ◌&&◌, nat_lt, if◌then◌else◌}
use Rattle.std.proofs.lemmas.Bool.{cases_lt}
use Rattle.cil_base.specs.declared.refusal.Refusal.{Refusal}
use Rattle.cil_base.specs.Refusals.{First, NoneBroken, is_less, key}
use Rattle.cil_base.proofs.RefusalLaws.{less_refl, less_trans, not_less}
use Rattle.own_contracts.specs.Order.{earlier, earlier_of, BrokenByOne}

-- ---- of two lists one alone comes first

below : (x y : ℕ) (t : Bool) → (x < y) ⊎ (y ≤ x) → nat_lt x y || ((x == y) && t) ≡ true → (x < y) ⊎ ((x ≡ y) × (t ≡ true))
below x y t (inl l) h = inl l
below x y t (inr le) h = go (nat_lt x y) (x == y) t refl refl h
  where
    go : (a b c : Bool) → nat_lt x y ≡ a → (x == y) ≡ b → a || (b && c) ≡ true → (x < y) ⊎ ((x ≡ y) × (c ≡ true))
    go true b c e f g = let l : x < y = search (rules, e) in inl l
    go false true c e f g = let same : x ≡ y = search (rules, f) in inr (same, g)
    go false false c e f g = absurd cc

not_after : (xs ys : List ℕ) → is_less xs ys ≡ true → is_less ys xs ≡ false
not_after [] [] h = absurd cc
not_after [] (y ∷ ys) h = refl
not_after (x ∷ xs) [] h = absurd cc
not_after (x ∷ xs) (y ∷ ys) h = go (not_after xs ys) (below x y (is_less xs ys) (cases_lt x y) h)
  where
    go : (is_less xs ys ≡ true → is_less ys xs ≡ false) → (x < y) ⊎ ((x ≡ y) × (is_less xs ys ≡ true)) → is_less (y ∷ ys) (x ∷ xs) ≡ false
    go again (inl l) = not_less y x ys xs (omega (arith, l)) (λ same. absurd (omega (arith, l, same)))
    go again (inr (same, more)) = not_less y x ys xs (omega (arith, same)) (λ e. again more)

-- ---- the first

-- one that alone is broken is the first
pub only_is_first : (Broken : Refusal → Type 0) (r : Refusal) → Broken r → ((s : Refusal) → Broken s → s ≡ r) → First Broken r
only_is_first Broken r h only = record {
  broken = h;
  none_before = λ s k. ap (λ (x : Refusal). is_less (key x) (key r)) (only s k) ∙ less_refl (key r);
}

module _ (At : ℕ → Refusal → Type 0) where
  -- the first of so many, if anything is broken
  abbrev pub Best : ℕ → Option Refusal → Type 0
  Best k o = MatchOption o (NoneBroken (BrokenByOne At k)) (First (BrokenByOne At k))

  none_of_none : NoneBroken (BrokenByOne At 0)
  none_of_none r h = let l : h.number < 0 = h.there in absurd (omega (arith, l))

  pub best_of_none : Best 0 None
  best_of_none = none_of_none

  wider : (k : ℕ) (r : Refusal) → BrokenByOne At k r → BrokenByOne At (k + 1) r
  wider k r h = let l : h.number < k = h.there in record { number = h.number; there = omega (arith, l); broken = h.broken }

  last : (k : ℕ) (r : Refusal) → At k r → BrokenByOne At (k + 1) r
  last k r h = record { number = k; there = omega arith; broken = h }

  -- what is broken by one of so many and one more
  split : (k : ℕ) (r : Refusal) → BrokenByOne At (k + 1) r → BrokenByOne At k r ⊎ At k r
  split k r h = go (cases_lt h.number k)
    where
      go : (h.number < k) ⊎ (k ≤ h.number) → BrokenByOne At k r ⊎ At k r
      go (inl l) = inl (record { number = h.number; there = l; broken = h.broken })
      go (inr le) =
          let l : h.number < k + 1 = h.there in
          let same : h.number ≡ k = omega (arith, le, l) in
          inr (subst (λ (m : ℕ). At m r) same h.broken)

  either : (k : ℕ) (r : Refusal) (P : Type 0) → BrokenByOne At (k + 1) r → (BrokenByOne At k r → P) → (At k r → P) → P
  either k r P h f g = go (split k r h)
    where
      go : BrokenByOne At k r ⊎ At k r → P
      go (inl x) = f x
      go (inr x) = g x

  pub best_on : (k : ℕ) (o : Option Refusal) → Best k o → NoneBroken (At k) → Best (k + 1) o
  best_on k None none here = λ r h. either k r ⊥ h (none r) (here r)
  best_on k (Some b) best here = record {
    broken = wider k b best.broken;
    none_before = λ s h. either k s (is_less (key s) (key b) ≡ false) h (best.none_before s) (λ x. absurd (here s x));
  }

  module _ (k : ℕ) (b r : Refusal) (best : First (BrokenByOne At k) b) (here : First (At k) r) where
    by_test : (x : Bool) → is_less (key r) (key b) ≡ x → MatchOption (if x then Some r else Some b) (NoneBroken (BrokenByOne At (k + 1))) (First (BrokenByOne At (k + 1)))
    by_test true e = record {
      broken = last k r here.broken;
      none_before = λ s h. either k s (is_less (key s) (key r) ≡ false) h (λ x. less_trans (key s) (key b) (key r) (best.none_before s x) (not_after (key r) (key b) e)) (here.none_before s);
    }
    by_test false e = record {
      broken = wider k b best.broken;
      none_before = λ s h. either k s (is_less (key s) (key b) ≡ false) h (best.none_before s) (λ x. less_trans (key s) (key r) (key b) (here.none_before s x) e);
    }

  pub best_found : (k : ℕ) (o : Option Refusal) (r : Refusal) → Best k o → First (At k) r → Best (k + 1) (earlier o r)
  best_found k None r none here = record {
    broken = last k r here.broken;
    none_before = λ s h. either k s (is_less (key s) (key r) ≡ false) h (λ x. absurd (none s x)) (here.none_before s);
  }
  best_found k (Some b) r best here = by_test k b r best here (is_less (key r) (key b)) refl

  best_with : (k : ℕ) (o found : Option Refusal) → Best k o → MatchOption found (NoneBroken (At k)) (First (At k)) → Best (k + 1) (earlier_of o found)
  best_with k o None best here = best_on k o best here
  best_with k o (Some r) best here = best_found k o r best here

  pub best_step : (k n : ℕ) (o found new : Option Refusal) → Best k o → n ≡ k → MatchOption found (NoneBroken (At n)) (First (At n)) → new ≡ earlier_of o found → Best (k + 1) new
  best_step k n o found new best e here is =
      subst (Best (k + 1)) (sym is) (best_with k o found best (subst (λ (j : ℕ). MatchOption found (NoneBroken (At j)) (First (At j))) e here))

  pub best_of_all : (k n : ℕ) (o : Option Refusal) → k ≡ n → Best k o → Best n o
  best_of_all k n o e best = subst (λ (j : ℕ). Best j o) e best
