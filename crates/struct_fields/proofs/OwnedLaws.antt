-- The rows that a type owns by a list column, as a range.
use Rattle.std.proofs.Common.{◌≡◌, ◌∙◌, sym, ap, refl, arith, rules, ℕ, zero, suc, ◌+◌, ◌-◌, ◌<◌, ◌≤◌, List, ◌∷◌, ◌++◌, Bool, true, false, ⊎_elim}
use Rattle.std.specs.Prelude.{cond, filter, max, min, nat_le, nat_lt, ◌&&◌}
use Rattle.std.specs.List.{range_with_len, flat_map}
use Rattle.std.proofs.lemmas.Bool.{cases_lt}
use Rattle.std.proofs.lemmas.List.{append_assoc}
use Rattle.cil_base.specs.declared.tables.TheConstants.{FIELD, TYPE_DEF}
use Rattle.set_rows.specs.Sets.{Assembly, cell, count_in, rows_in}
use Rattle.set_rows.specs.Owners.{owned_end, owns}

le_from : (a b : ℕ) → nat_le a b ≡ true → a ≤ b
le_from a b h = search (rules, h)

lt_from : (a b : ℕ) → nat_lt a b ≡ true → a < b
lt_from a b h = search (rules, h)

le_true : (a b : ℕ) → a ≤ b → nat_le a b ≡ true
le_true a b h = search (rules, h)

lt_true : (a b : ℕ) → a < b → nat_lt a b ≡ true
lt_true a b h = search (rules, h)

first_true : (a b : Bool) → (a && b) ≡ true → a ≡ true
first_true true b e = refl
first_true false b e = e

second_true : (a b : Bool) → (a && b) ≡ true → b ≡ true
second_true true b e = e
second_true false b e = absurd cc

both_true : (a b : Bool) → a ≡ true → b ≡ true → (a && b) ≡ true
both_true true b e f = f
both_true false b e f = e

same_range : (a c n m : ℕ) → a ≡ c → n ≡ m → range_with_len a n ≡ range_with_len c m
same_range a c n m e h = ap (λ (k : ℕ). range_with_len k n) e ∙ ap (range_with_len c) h

-- no row of either
no_range : (a c n m : ℕ) → n ≡ 0 → m ≡ 0 → range_with_len a n ≡ range_with_len c m
no_range a c n m e h = ap (range_with_len a) e ∙ sym (ap (range_with_len c) h)

module _ (from to : ℕ) where
  abbrev is_between : ℕ → Bool
  is_between k = nat_le from k && nat_lt k to

  -- the places from one up to another, of so many behind a place
  between : (at n : ℕ) → filter is_between (range_with_len at n) ≡ range_with_len (max from at) (min to (at + n) - max from at)
  between at zero =
      let none : min to (at + zero) - max from at ≡ 0 = omega arith in
      sym (ap (range_with_len (max from at)) none)
  between at (suc n) = go (is_between at) refl (between (at + 1) n)
    where
      rest : List ℕ
      rest = filter is_between (range_with_len (at + 1) n)

      go : (b : Bool) → is_between at ≡ b → rest ≡ range_with_len (max from (at + 1)) (min to (at + 1 + n) - max from (at + 1)) → cond b (at ∷ rest) rest ≡ range_with_len (max from at) (min to (at + suc n) - max from at)
      go true e later =
          let low : from ≤ at = le_from from at (first_true (nat_le from at) (nat_lt at to) e) in
          let high : at < to = lt_from at to (second_true (nat_le from at) (nat_lt at to) e) in
          ap (λ (l : List ℕ). at ∷ l) later
          ∙ ap (λ (l : List ℕ). at ∷ l) (same_range (max from (at + 1)) (at + 1) (min to (at + 1 + n) - max from (at + 1)) (min to (at + 1 + n) - (at + 1)) (omega (arith, low)) (omega (arith, low)))
          ∙ same_range at (max from at) (suc (min to (at + 1 + n) - (at + 1))) (min to (at + suc n) - max from at) (omega (arith, low)) (omega (arith, low, high))
      go false e later =
          later
          ∙ ⊎_elim
          (λ (h : at < from). same_range (max from (at + 1)) (max from at) (min to (at + 1 + n) - max from (at + 1)) (min to (at + suc n) - max from at) (omega (arith, h)) (omega (arith, h)))
          (λ (h : from ≤ at).
          let past : to ≤ at = ends h e in
          no_range (max from (at + 1)) (max from at) (min to (at + 1 + n) - max from (at + 1)) (min to (at + suc n) - max from at) (omega (arith, past)) (omega (arith, past)))
          (cases_lt at from)
        where
          ends : from ≤ at → is_between at ≡ false → to ≤ at
          ends h f = ⊎_elim
              (λ (w : at < to).
              let wrong : true ≡ false = sym (both_true (nat_le from at) (nat_lt at to) (le_true from at h) (lt_true at to w)) ∙ f in
              absurd cc)
              (λ (w : to ≤ at). w)
              (cases_lt at to)

pub owned_range : (x : Assembly) (row from to : ℕ) → from ≡ cell x TYPE_DEF row 4 - 1 → to ≡ min (owned_end x 4 FIELD row - 1) (count_in x FIELD) → filter (λ f. owns x 4 FIELD f row) (rows_in x FIELD) ≡ range_with_len (from + 1) (to - from)
owned_range x row from to e h =
    let first : ℕ = cell x TYPE_DEF row 4 in
    let end : ℕ = owned_end x 4 FIELD row in
    let n : ℕ = count_in x FIELD in
    between (max 1 first) end 1 n
    ∙ same_range (max (max 1 first) 1) (from + 1) (min end (1 + n) - max (max 1 first) 1) (to - from) (omega (arith, e)) (omega (arith, e, h))

-- what one row more gives
pub range_on : (f : ℕ → List ℕ) (out out' p whole : List ℕ) (row n m : ℕ) → n ≡ suc m → out' ≡ out ++ p → p ≡ f row → out ++ flat_map f (range_with_len row n) ≡ whole → out' ++ flat_map f (range_with_len (row + 1) m) ≡ whole
range_on f out out' p whole row n m e h q w =
    ap (λ (l : List ℕ). l ++ flat_map f (range_with_len (row + 1) m)) h
    ∙ append_assoc out p (flat_map f (range_with_len (row + 1) m))
    ∙ ap (λ (l : List ℕ). out ++ (l ++ flat_map f (range_with_len (row + 1) m))) q
    ∙ sym (ap (λ (k : ℕ). out ++ flat_map f (range_with_len row k)) e)
    ∙ w
