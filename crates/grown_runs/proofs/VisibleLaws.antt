-- Whether a method is visible stays: the types around a type of the input are of the input, and looking further out than there are types finds no other.
use Rattle.std.proofs.Common.{◌≡◌, ◌∙◌, sym, ap, refl, subst, arith, ℕ, zero, suc, ◌+◌, ◌-◌, ◌<◌, ◌≤◌, length, Bool, true, false, ◌⊎◌, inl, inr}
use Rattle.std.specs.Prelude.{◌&&◌, if◌then◌else◌, Option, Some, None}
use Rattle.std.proofs.lemmas.Bool.{cases_lt}
use Rattle.cil_model.specs.declared.program.Program.{Program}
use Rattle.cil_semantics.specs.Words.{maybe}
use Rattle.cil_semantics.specs.Lookups.{type_of, method_of}
use Rattle.cil_semantics.specs.Contracted.{is_seen_method, is_seen_type, are_seen_within, is_visible}
use Rattle.machine_laws.specs.Growth.{Extends}

-- the types around a type of the program are of the program
abbrev pub NestsInside : Program → Type 0
NestsInside p = (k u : ℕ) → k < length p.types → (type_of p k).enclosing ≡ Some u → u < length p.types

-- ---- how far out is far enough

module _ (p : Program) (nests : NestsInside p) where
  abbrev n : ℕ
  n = length p.types

  abbrev is_seen : ℕ → ℕ → Bool
  is_seen f t = are_seen_within f p t

  seen_is : (f t : ℕ) → is_seen (suc f) t ≡ (is_seen_type (type_of p t).flags && maybe true (is_seen f) (type_of p t).enclosing)
  seen_is f t = refl

  -- a step further out adds no type that is seen
  fewer : (f t : ℕ) → is_seen (suc f) t ≡ true → is_seen f t ≡ true
  fewer zero t e = first (is_seen_type (type_of p t).flags) (maybe true (is_seen zero) (type_of p t).enclosing) e
    where
      first : (a b : Bool) → (a && b) ≡ true → a ≡ true
      first true b e = refl
      first false b e = e
  fewer (suc f) t e = go (λ u g. fewer f u g) (is_seen_type (type_of p t).flags) (type_of p t).enclosing e
    where
      go : ((u : ℕ) → is_seen (suc f) u ≡ true → is_seen f u ≡ true) → (a : Bool) (o : Option ℕ) → (a && maybe true (is_seen (suc f)) o) ≡ true → (a && maybe true (is_seen f) o) ≡ true
      go again true None g = g
      go again true (Some u) g = again u g
      go again false o g = g

  -- of the first m types the same are seen
  abbrev Settles : ℕ → ℕ → Type 0
  Settles m f = (t : ℕ) → t < m → is_seen (suc f) t ≡ is_seen f t

  abbrev as_number : Bool → ℕ
  as_number b = if b then 1 else 0

  -- how many of the first m types are seen
  abbrev count : ℕ → ℕ → ℕ
  count zero f = 0
  count (suc m) f = as_number (is_seen f m) + count m f

  count_small : (m f : ℕ) → count m f ≤ m
  count_small zero f = omega arith
  count_small (suc m) f = let less : count m f ≤ m = count_small m f in by_value (is_seen f m) less
    where
      by_value : (b : Bool) → count m f ≤ m → as_number b + count m f ≤ suc m
      by_value true l = omega (arith, l)
      by_value false l = omega (arith, l)

  -- a step further out either changes nothing, or fewer are seen
  abbrev Falls : ℕ → ℕ → Type 0
  Falls m f = Settles m f ⊎ (count m (suc f) < count m f)

  no_more : (m f : ℕ) → count m (suc f) ≤ count m f
  no_more zero f = omega arith
  no_more (suc m) f = by_values (is_seen (suc f) m) (is_seen f m) (λ e. fewer f m e) (no_more m f)
    where
      by_values : (a b : Bool) → (a ≡ true → b ≡ true) → count m (suc f) ≤ count m f → as_number a + count m (suc f) ≤ as_number b + count m f
      by_values true true h l = omega (arith, l)
      by_values true false h l = let z : false ≡ true = h refl in absurd (cc z)
      by_values false true h l = omega (arith, l)
      by_values false false h l = omega (arith, l)

  falls : (m f : ℕ) → Falls m f
  falls zero f = inl (λ t l. absurd (omega (arith, l)))
  falls (suc m) f = by_values (is_seen (suc f) m) (is_seen f m) refl refl (λ e. fewer f m e) (no_more m f) (falls m f)
    where
      extended : is_seen (suc f) m ≡ is_seen f m → Settles m f → Settles (suc m) f
      extended e s t l = by_side (cases_lt t m)
        where
          by_side : (t < m) ⊎ (m ≤ t) → is_seen (suc f) t ≡ is_seen f t
          by_side (inl k) = s t k
          by_side (inr k) = let same : m ≡ t = omega (arith, l, k) in subst (λ u. is_seen (suc f) u ≡ is_seen f u) same e

      by_values : (a b : Bool) → is_seen (suc f) m ≡ a → is_seen f m ≡ b → (a ≡ true → b ≡ true) → count m (suc f) ≤ count m f → Falls m f → Settles (suc m) f ⊎ (as_number a + count m (suc f) < as_number b + count m f)
      by_values true true c d h l (inl s) = inl (extended (c ∙ sym d) s)
      by_values true true c d h l (inr k) = inr (omega (arith, k))
      by_values true false c d h l x = let z : false ≡ true = h refl in absurd (cc z)
      by_values false true c d h l x = inr (omega (arith, l))
      by_values false false c d h l (inl s) = inl (extended (c ∙ sym d) s)
      by_values false false c d h l (inr k) = inr (omega (arith, k))

  -- once nothing changes, nothing does further out
  stays : (f : ℕ) → Settles n f → Settles n (suc f)
  stays f s t l = go (type_of p t).enclosing (λ u e. nests t u l e)
    where
      go : (o : Option ℕ) → ((u : ℕ) → o ≡ Some u → u < n) → (is_seen_type (type_of p t).flags && maybe true (is_seen (suc f)) o) ≡ (is_seen_type (type_of p t).flags && maybe true (is_seen f) o)
      go None h = refl
      go (Some u) h = ap (λ (b : Bool). is_seen_type (type_of p t).flags && b) (s u (h u refl))

  soon : (f : ℕ) → Settles n f ⊎ (count n f + f ≤ n)
  soon zero = inr (let l : count n 0 ≤ n = count_small n 0 in omega (arith, l))
  soon (suc f) = go (soon f) (falls n f)
    where
      go : Settles n f ⊎ (count n f + f ≤ n) → Falls n f → Settles n (suc f) ⊎ (count n (suc f) + suc f ≤ n)
      go (inl s) x = inl (stays f s)
      go (inr l) (inl s) = inl (stays f s)
      go (inr l) (inr k) = inr (omega (arith, l, k))

  none_seen : (m f : ℕ) → count m f ≤ 0 → (t : ℕ) → t < m → is_seen f t ≡ false
  none_seen zero f c t l = absurd (omega (arith, l))
  none_seen (suc m) f c t l = by_value (is_seen f m) refl c (λ d k. none_seen m f d t k)
    where
      by_value : (b : Bool) → is_seen f m ≡ b → as_number b + count m f ≤ 0 → (count m f ≤ 0 → t < m → is_seen f t ≡ false) → is_seen f t ≡ false
      by_value true e d again = absurd (omega (arith, d))
      by_value false e d again = by_side (cases_lt t m)
        where
          by_side : (t < m) ⊎ (m ≤ t) → is_seen f t ≡ false
          by_side (inl k) = again (omega (arith, d)) k
          by_side (inr k) = let same : m ≡ t = omega (arith, l, k) in subst (λ u. is_seen f u ≡ false) same e

  settled : Settles n n
  settled = go (soon n)
    where
      go : Settles n n ⊎ (count n n + n ≤ n) → Settles n n
      go (inl s) = s
      go (inr l) = λ t k. both (is_seen (suc n) t) (is_seen n t) (λ e. fewer n t e) (none_seen n n (omega (arith, l)) t k)
        where
          both : (a b : Bool) → (a ≡ true → b ≡ true) → b ≡ false → a ≡ b
          both true true h e = refl
          both true false h e = sym (h refl)
          both false true h e = sym e
          both false false h e = refl

  settles_from : (d : ℕ) → Settles n (d + n)
  settles_from zero = let e : n ≡ 0 + n = omega arith in subst (Settles n) e settled
  settles_from (suc d) = let e : suc (d + n) ≡ suc d + n = omega arith in subst (Settles n) e (stays (d + n) (settles_from d))

  further : (d t : ℕ) → t < n → is_seen (d + n) t ≡ is_seen n t
  further zero t l = let e : 0 + n ≡ n = omega arith in ap (λ f. is_seen f t) e
  further (suc d) t l = let e : suc d + n ≡ suc (d + n) = omega arith in ap (λ f. is_seen f t) e ∙ settles_from d t l ∙ further d t l

-- ---- in the grown program

module _ (p0 p : Program) (kept : Extends p0 p) (nests : NestsInside p0) where
  within_same : (f t : ℕ) → t < length p0.types → are_seen_within f p t ≡ are_seen_within f p0 t
  within_same zero t l = (kept.types t l).seen
  within_same (suc f) t l =
      ap (λ (b : Bool). b && maybe true (are_seen_within f p) (type_of p t).enclosing) (kept.types t l).seen
      ∙ ap (λ (o : Option ℕ). is_seen_type (type_of p0 t).flags && maybe true (are_seen_within f p) o) (kept.types t l).enclosing
      ∙ go (λ u k. within_same f u k) (type_of p0 t).enclosing (λ u e. nests t u l e)
    where
      go : ((u : ℕ) → u < length p0.types → are_seen_within f p u ≡ are_seen_within f p0 u) → (o : Option ℕ) → ((u : ℕ) → o ≡ Some u → u < length p0.types)
          → (is_seen_type (type_of p0 t).flags && maybe true (are_seen_within f p) o) ≡ (is_seen_type (type_of p0 t).flags && maybe true (are_seen_within f p0) o)
      go again None h = refl
      go again (Some u) h = ap (λ (b : Bool). is_seen_type (type_of p0 t).flags && b) (again u (h u refl))

  around_same : (t : ℕ) → t < length p0.types → are_seen_within (length p.types) p t ≡ are_seen_within (length p0.types) p0 t
  around_same t l =
      let d : ℕ = length p.types - length p0.types in
      let e : length p.types ≡ d + length p0.types = omega (arith, kept.more_types) in
      ap (λ (f : ℕ). are_seen_within f p t) e ∙ within_same (d + length p0.types) t l ∙ further p0 nests d t l

  -- a method of a type of the input
  pub visible_same : (m : ℕ) → m < length p0.methods → (method_of p0 m).owner < length p0.types → is_visible p m ≡ is_visible p0 m
  unfolding is_visible
  visible_same m l o =
      ap (λ (b : Bool). b && are_seen_within (length p.types) p (method_of p m).owner) (kept.methods m l).seen
      ∙ ap (λ (k : ℕ). is_seen_method (method_of p0 m).flags && are_seen_within (length p.types) p k) (kept.methods m l).owner
      ∙ ap (λ (b : Bool). is_seen_method (method_of p0 m).flags && b) (around_same (method_of p0 m).owner o)
