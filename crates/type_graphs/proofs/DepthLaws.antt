-- Where no node leads back to itself, no more steps lead from a node than there are nodes.
use Rattle.std.proofs.Common.{◌≡◌, ◌∙◌, sym, ap, refl, arith, ℕ, zero, suc, ◌+◌, ◌<◌, ◌≤◌, List, [], ◌∷◌, length, get_or, replicate, Bool, true, false, ⊎_elim}
use Rattle.std.specs.Prelude.{◌==◌, set, cond}
use Rattle.std.specs.List.{count_by}
use Rattle.std.proofs.lemmas.Bool.{cases_eq, cases_lt}
use Rattle.std.proofs.lemmas.List.{length-set, get_or-set_other, get_or_default, get_or-replicate, get_or_past, length-replicate}
use Rattle.std.proofs.lemmas.List.Sums.{sum_by-set, count_by-le-length}
use Rattle.cil_base.proofs.Small.{decide}
use Rattle.set_names.specs.Cycles.{any, reaches, is_deep}
use Rattle.type_graphs.proofs.AnyLaws.{any_here, any_behind, or_either, same_number}
use Rattle.type_graphs.proofs.StepLaws.{is_among, in_more, next_reached, reached_next}

record Has (f : ℕ → Bool) (xs : List ℕ) : Type 0 where
  at : ℕ
  there : is_among xs at ≡ true
  passes : f at ≡ true

found : (f : ℕ → Bool) (xs : List ℕ) → any f xs ≡ true → Has f xs
found f [] e = absurd cc
found f (x ∷ xs) e =
    or_either (f x) (any f xs)
    (λ h. record { at = x; there = any_here (λ (j : ℕ). j == x) x xs (same_number x); passes = h })
    (λ h. let r : Has f xs = found f xs h in record { at = r.at; there = any_behind (λ (j : ℕ). j == r.at) x xs r.there; passes = r.passes })
    e

abbrev one : Bool → ℕ
one b = cond b 1 0

counted : (seen : List Bool) (k : ℕ) → k < length seen → get_or seen k true ≡ false → count_by (λ b. b) (set seen k true) ≡ count_by (λ b. b) seen + 1
counted seen k low e =
    let h : count_by (λ b. b) (set seen k true) + one (get_or seen k true) ≡ count_by (λ b. b) seen + 1 = sum_by-set one seen k true true low in
    let z : one (get_or seen k true) ≡ 0 = ap one e in
    omega (arith, h, z)

none_counted : (n : ℕ) → count_by (λ b. b) (replicate n false) ≡ 0
none_counted zero = refl
none_counted (suc n) = none_counted n

apart : true ≡ false → ⊥
apart h = cc

module _ (next : ℕ → List ℕ) (n : ℕ) (low : (k j : ℕ) → is_among (next k) j ≡ true → j < n) (free : (k : ℕ) → reaches next n k k ≡ false) where
  abbrev count : List Bool → ℕ
  count seen = count_by (λ b. b) seen

  -- each node seen leads to this one
  abbrev LeadsTo : List Bool → ℕ → Type 0
  LeadsTo seen k = (i : ℕ) → get_or seen i false ≡ true → reaches next (count seen) i k ≡ true

  not_seen : (seen : List Bool) (k : ℕ) → length seen ≡ n → k < n → LeadsTo seen k → get_or seen k true ≡ false
  not_seen seen k size high lead =
      decide (get_or seen k true)
      (λ e.
      let same : get_or seen k false ≡ get_or seen k true = get_or_default seen k false true (omega (arith, size, high)) in
      let few : count seen ≤ length seen = count_by-le-length (λ b. b) seen in
      absurd (apart (sym (in_more next (count seen) n k k (omega (arith, few, size)) (lead k (same ∙ e))) ∙ free k)))
      (λ f. f)

  leads_on : (seen : List Bool) (k j : ℕ) → length seen ≡ n → k < n → LeadsTo seen k → is_among (next k) j ≡ true → LeadsTo (set seen k true) j
  leads_on seen k j size high lead a i e =
      ap (λ (m : ℕ). reaches next m i j) (counted seen k (omega (arith, size, high)) (not_seen seen k size high lead) ∙ more (count seen))
      ∙ ⊎_elim
      (λ (same : i ≡ k). ap (λ (m : ℕ). reaches next (suc (count seen)) m j) same ∙ next_reached next (count seen) k j a)
      (λ (ne : i ≡ k → ⊥). reached_next next (count seen) i k j (lead i (sym (get_or-set_other seen k i true false ne) ∙ e)) a)
      (cases_eq i k)
    where
      more : (m : ℕ) → m + 1 ≡ suc m
      more m = omega arith

  room : (d k : ℕ) (seen : List Bool) → length seen ≡ n → k < n → LeadsTo seen k → is_deep next d k ≡ true → d + count seen < n
  unfolding is_deep
  room zero k seen size high lead e =
      let more : count (set seen k true) ≡ count seen + 1 = counted seen k (omega (arith, size, high)) (not_seen seen k size high lead) in
      let few : count (set seen k true) ≤ length (set seen k true) = count_by-le-length (λ b. b) (set seen k true) in
      omega (arith, more, few, length-set seen k true, size)
  room (suc d) k seen size high lead e =
      let r : Has (is_deep next d) (next k) = found (is_deep next d) (next k) e in
      let more : count (set seen k true) ≡ count seen + 1 = counted seen k (omega (arith, size, high)) (not_seen seen k size high lead) in
      let rest : d + count (set seen k true) < n = room d r.at (set seen k true) (length-set seen k true ∙ size) (low k r.at r.there) (leads_on seen k r.at size high lead r.there) r.passes in
      omega (arith, more, rest)

  none_seen : (i : ℕ) → get_or (replicate n false) i false ≡ false
  none_seen i = ⊎_elim
      (λ (h : i < n). get_or-replicate n i false false h)
      (λ (h : n ≤ i). get_or_past (replicate n false) i false (omega (arith, h, length-replicate n false)))
      (cases_lt i n)

  pub shallow : (k : ℕ) → k < n → is_deep next n k ≡ false
  shallow k high =
      decide (is_deep next n k)
      (λ e.
      let wrong : n + count (replicate n false) < n = room n k (replicate n false) (length-replicate n false) high (λ i s. absurd (apart (sym s ∙ none_seen i))) e in
      absurd (omega (arith, wrong)))
      (λ f. f)
