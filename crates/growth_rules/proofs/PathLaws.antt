-- A path of rows ends where no row leads back to itself.
use Rattle.std.proofs.Common.{◌≡◌, ◌∙◌, sym, ap, refl, subst, inl, inr, arith, ℕ, zero, suc, ◌+◌, ◌<◌, ◌≤◌, Bool, true, false, List, [], ◌∷◌, length, ◌⊎◌}
use Rattle.std.specs.Prelude.{Option, Some, None, is_some, option_map, option_and_then, ◌||◌, ◌==◌}
use Rattle.std.specs.List.{AllByRecursion, IsDistinct, list_any}
use Rattle.std.proofs.lemmas.Bool.{eqb-true}
use Rattle.std.proofs.lemmas.Map.Steps.{length-le_from_distinct_below}
use Rattle.set_names.specs.Paths.{onwards, path_within}

-- what stands so many steps on
abbrev pub ahead : (ℕ → Option ℕ) → ℕ → ℕ → Option ℕ
ahead next zero row = Some row
ahead next (suc d) row = option_and_then next (ahead next d row)

mapped : {A B : Type 0} (f : A → B) (o : Option A) → is_some o ≡ true → is_some (option_map f o) ≡ true
mapped f None h = absurd cc
mapped f (Some v) h = refl

all_below : (c : ℕ) (xs : List ℕ) → AllByRecursion (λ q. q ≤ c) xs → (q : ℕ) → list_any (λ y. q == y) xs ≡ true → q < c + 1
all_below c [] all q e = absurd cc
all_below c (x ∷ xs) all q e = go (q == x) refl (all_below c xs all.1 q) e
  where
    go : (b : Bool) → (q == x) ≡ b → (list_any (λ y. q == y) xs ≡ true → q < c + 1) → (b || list_any (λ y. q == y) xs) ≡ true → q < c + 1
    go true f again g = let same : q ≡ x = eqb-true q x f in let low : x ≤ c = all.0 in omega (arith, same, low)
    go false f again g = again g

module _ (next : ℕ → Option ℕ) (c : ℕ) (closed : (row k : ℕ) → next row ≡ Some k → (1 ≤ k) × (k ≤ c)) (no_circle : (d row : ℕ) → 1 ≤ row → row ≤ c → suc d ≤ c → ahead next (suc d) row ≡ Some row → ⊥) where
  abbrev Leads : ℕ → ℕ → ℕ → Type 0
  Leads m row q = (q ≡ 0) ⊎ ((d : ℕ) × (d + 1 < m) × (ahead next (suc d) q ≡ Some row))

  -- rows before this one, each once, and 0
  record Seen (row : ℕ) (xs : List ℕ) : Type 0 where
    some : 1 ≤ length xs
    distinct : IsDistinct (λ a b. a == b) xs
    low : AllByRecursion (λ q. q ≤ c) xs
    leads : AllByRecursion (Leads (length xs) row) xs

  apart : (m row : ℕ) (xs : List ℕ) → 1 ≤ row → row ≤ c → m ≤ c + 1 → AllByRecursion (Leads m row) xs → AllByRecursion (λ y. (row == y) ≡ false) xs
  apart m row [] low high h all = tt
  apart m row (q ∷ xs) low high h all = (go (row == q) refl all.0, apart m row xs low high h all.1)
    where
      back : row ≡ q → Leads m row q → ⊥
      back same (inl z) = omega (arith, same, z, low)
      back same (inr (d, l, e)) = no_circle d row low high (omega (arith, l, h)) (subst (λ (k : ℕ). ahead next (suc d) k ≡ Some row) (sym same) e)

      go : (b : Bool) → (row == q) ≡ b → Leads m row q → b ≡ false
      go true e l = absurd (back (eqb-true row q e) l)
      go false e l = refl

  further : (m row k : ℕ) (xs : List ℕ) → next row ≡ Some k → AllByRecursion (Leads m row) xs → AllByRecursion (Leads (suc m) k) xs
  further m row k [] e all = tt
  further m row k (q ∷ xs) e all = (go all.0, further m row k xs e all.1)
    where
      go : Leads m row q → Leads (suc m) k q
      go (inl z) = inl z
      go (inr (d, l, f)) = inr (suc d, omega (arith, l), ap (option_and_then next) f ∙ e)

  seen_more : (row k : ℕ) (xs : List ℕ) → 1 ≤ row → row ≤ c → length xs ≤ c + 1 → next row ≡ Some k → Seen row xs → Seen k (row ∷ xs)
  unfolding IsDistinct
  seen_more row k xs low high h e seen = record {
    some = omega arith;
    distinct = (apart (length xs) row xs low high h seen.leads, seen.distinct);
    low = (high, seen.low);
    leads = (inr (0, omega (arith, seen.some), e), further (length xs) row k xs e seen.leads);
  }

  ends_from : (n row : ℕ) (xs : List ℕ) → 1 ≤ row → row ≤ c → Seen row xs → length xs + n ≡ c + 1 → is_some (path_within next n row) ≡ true
  unfolding path_within IsDistinct
  ends_from zero row xs low high seen e =
      let many : suc (length xs) ≤ c + 1 =
      length-le_from_distinct_below (row ∷ xs) (c + 1) (apart (length xs) row xs low high (omega (arith, e)) seen.leads, seen.distinct) (all_below c (row ∷ xs) (high, seen.low)) in
      absurd (omega (arith, many, e))
  ends_from (suc n) row xs low high seen e =
      go (next row) refl
      (λ k f. let at : (1 ≤ k) × (k ≤ c) = closed row k f in ends_from n k (row ∷ xs) at.0 at.1 (seen_more row k xs low high (omega (arith, e)) f seen) (omega (arith, e)))
    where
      go : (o : Option ℕ) → next row ≡ o → ((k : ℕ) → next row ≡ Some k → is_some (path_within next n k) ≡ true) → is_some (option_map (λ rest. row ∷ rest) (onwards (path_within next n) o)) ≡ true
      go None f again = refl
      go (Some k) f again = mapped (λ rest. row ∷ rest) (path_within next n k) (again k f)

  pub path_ends : (row : ℕ) → 1 ≤ row → row ≤ c → is_some (path_within next c row) ≡ true
  unfolding IsDistinct
  path_ends row low high = ends_from c row (0 ∷ []) low high (record { some = omega arith; distinct = (tt, tt); low = (omega arith, tt); leads = (inl refl, tt) }) (omega arith)
