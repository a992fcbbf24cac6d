-- Owners of rows, with the types gone through from the last on.
use Rattle.std.proofs.Common.{◌≡◌, ◌∙◌, sym, ap, refl, arith, rules, ℕ, zero, suc, ◌+◌, ◌-◌, ◌≤◌, ◌<◌, List, length, get_or, replicate, Bool, true, false}
use Rattle.std.specs.Prelude.{cond, set, ◌==◌, ◌&&◌, max, min, nat_lt, nat_le, find, Some, None, if◌then◌else◌}
use Rattle.std.specs.List.{range_with_len}
use Rattle.std.proofs.lemmas.List.{length-replicate, get_or-set_same, get_or-set_other}
use Rattle.std.proofs.lemmas.Bool.{eqb-true}
use Rattle.set_rows.specs.Sets.{Assembly, cell, count_in, rows_in}
use Rattle.set_rows.specs.Owners.{if_row}
use Rattle.set_rows.specs.Owners.{owned_end, owns, owner}
use Rattle.set_rows.specs.Owners.{AreOwners, IsFilled}

-- by the types that were gone through
pub record Owned (x : Assembly) (column table types r : ℕ) (owners : List ℕ) : Type 0 where
  pub count : length owners ≡ count_in x table
  pub rows : (k from : ℕ) → 1 ≤ k → k ≤ count_in x table → from + r ≡ types + 1
      → if_row (get_or owners (k - 1) 0) ≡ find (owns x column table k) (range_with_len from r)

zeros : (n k : ℕ) → ◌≡◌ {A = ℕ} (get_or (replicate n 0) k 0) 0
zeros zero k = refl
zeros (suc n) zero = refl
zeros (suc n) (suc k) = zeros n k

-- two tests that hold together
same_test : (a b : Bool) → (a ≡ true → b ≡ true) → (b ≡ true → a ≡ true) → a ≡ b
same_test true true f g = refl
same_test true false f g = sym (f refl)
same_test false true f g = g refl
same_test false false f g = refl

lt_from : (a b : ℕ) → nat_lt a b ≡ true → a < b
lt_from a b h = search (rules, h)

le_from : (a b : ℕ) → nat_le a b ≡ true → a ≤ b
le_from a b h = search (rules, h)

lt_true : (a b : ℕ) → a < b → nat_lt a b ≡ true
lt_true a b h = search (rules, h)

le_true : (a b : ℕ) → a ≤ b → nat_le a b ≡ true
le_true a b h = search (rules, h)

both_true : (a b : Bool) → a ≡ true → b ≡ true → (a && b) ≡ true
both_true true b e f = f
both_true false b e f = e

first_true : (a b : Bool) → (a && b) ≡ true → a ≡ true
first_true true b e = refl
first_true false b e = e

second_true : (a b : Bool) → (a && b) ≡ true → b ≡ true
second_true true b e = e
second_true false b e = absurd cc

max_le : (c k : ℕ) → 1 ≤ k → c - 1 ≤ k - 1 → max 1 c ≤ k
max_le c k low h = omega (arith, low, h)

le_max : (c k : ℕ) → max 1 c ≤ k → c - 1 ≤ k - 1
le_max c k h = omega (arith, h)

-- a place is filled just where the type owns the row
fills : (c e n k : ℕ) → 1 ≤ k → k ≤ n → (nat_le (c - 1) (k - 1) && nat_lt (k - 1) (min (e - 1) n)) ≡ (nat_le (max 1 c) k && nat_lt k e)
fills c e n k low high =
    same_test (nat_le (c - 1) (k - 1) && nat_lt (k - 1) (min (e - 1) n)) (nat_le (max 1 c) k && nat_lt k e)
    (λ h.
    let from : c - 1 ≤ k - 1 = le_from (c - 1) (k - 1) (first_true (nat_le (c - 1) (k - 1)) (nat_lt (k - 1) (min (e - 1) n)) h) in
    let to : k - 1 < min (e - 1) n = lt_from (k - 1) (min (e - 1) n) (second_true (nat_le (c - 1) (k - 1)) (nat_lt (k - 1) (min (e - 1) n)) h) in
    both_true (nat_le (max 1 c) k) (nat_lt k e) (le_true (max 1 c) k (max_le c k low from)) (lt_true k e (omega (arith, to, low))))
    (λ h.
    let from : max 1 c ≤ k = le_from (max 1 c) k (first_true (nat_le (max 1 c) k) (nat_lt k e) h) in
    let to : k < e = lt_from k e (second_true (nat_le (max 1 c) k) (nat_lt k e) h) in
    both_true (nat_le (c - 1) (k - 1)) (nat_lt (k - 1) (min (e - 1) n)) (le_true (c - 1) (k - 1) (le_max c k from)) (lt_true (k - 1) (min (e - 1) n) (omega (arith, to, low, high))))

module _ (x : Assembly) (column table types r : ℕ) (old new : List ℕ) (o : Owned x column table types r old) (at : ℕ) (here : at + suc r ≡ types + 1) (low : 1 ≤ at) where
  one : (k from : ℕ) → (b : Bool) → from ≡ at → b ≡ owns x column table k at → if_row (get_or old (k - 1) 0) ≡ find (owns x column table k) (range_with_len (at + 1) r)
      → if_row (if b then at else get_or old (k - 1) 0) ≡ find (owns x column table k) (range_with_len from (suc r))
  one k from b e h before = go b h ∙ ap (λ (f : ℕ). find (owns x column table k) (range_with_len f (suc r))) (sym e)
    where
      row_is : (a : ℕ) → 1 ≤ a → if_row a ≡ Some a
      row_is a l = search (rules, l)

      go : (b : Bool) → b ≡ owns x column table k at → if_row (if b then at else get_or old (k - 1) 0) ≡ find (owns x column table k) (range_with_len at (suc r))
      go true f = row_is at low ∙ ap (λ (c : Bool). cond c (Some at) (find (owns x column table k) (range_with_len (at + 1) r))) f
      go false f = before ∙ ap (λ (c : Bool). cond c (Some at) (find (owns x column table k) (range_with_len (at + 1) r))) f

  pub owned_more : (from to : ℕ) → from ≡ cell x 0x02 at column - 1 → to ≡ min (owned_end x column table at - 1) (count_in x table) → IsFilled old new from to at → Owned x column table types (suc r) new
  owned_more from to ef et f = record {
    count = f.count ∙ o.count;
    rows = λ k start below above e.
        let test : (nat_le from (k - 1) && nat_lt (k - 1) to) ≡ owns x column table k at =
        ap (λ (n : ℕ). nat_le n (k - 1) && nat_lt (k - 1) to) ef
        ∙ ap (λ (n : ℕ). nat_le (cell x 0x02 at column - 1) (k - 1) && nat_lt (k - 1) n) et
        ∙ fills (cell x 0x02 at column) (owned_end x column table at) (count_in x table) k below above in
        ap if_row (f.items (k - 1))
        ∙ one k start (nat_le from (k - 1) && nat_lt (k - 1) to) (omega (arith, e, here)) test (o.rows k (at + 1) below above (omega (arith, here)));
  }

pub owned_none : (x : Assembly) (column table types : ℕ) (owners : List ℕ) → owners ≡ replicate (count_in x table) 0 → Owned x column table types 0 owners
owned_none x column table types owners e = record {
  count = ap length e ∙ length-replicate (count_in x table) 0;
  rows = λ k from low high f. ap (λ (l : List ℕ). if_row (get_or l (k - 1) 0)) e ∙ ap if_row (zeros (count_in x table) (k - 1));
}

pub owned_all : (x : Assembly) (column table : ℕ) (owners : List ℕ) → Owned x column table (count_in x 0x02) (count_in x 0x02) owners → AreOwners x column table owners
unfolding owner
owned_all x column table owners o = record {
  count = o.count;
  rows = λ k. ap (λ (n : ℕ). if nat_lt 0 k && nat_le k n then if_row (get_or owners (k - 1) 0) else None) o.count ∙ go k (nat_lt 0 k && nat_le k (count_in x table)) refl;
}
  where
    go : (k : ℕ) → (b : Bool) → (nat_lt 0 k && nat_le k (count_in x table)) ≡ b
        → (if b then if_row (get_or owners (k - 1) 0) else None) ≡ (if b then find (owns x column table k) (rows_in x 0x02) else None)
    go k true f =
        o.rows k 1 (lt_from 0 k (first_true (nat_lt 0 k) (nat_le k (count_in x table)) f)) (le_from k (count_in x table) (second_true (nat_lt 0 k) (nat_le k (count_in x table)) f)) (omega arith)
    go k false f = refl

-- ---- filled places

unequal : (a b : Bool) → (a ≡ true → ⊥) → a ≡ false
unequal true b h = absurd (h refl)
unequal false b h = refl

none_within : (from to i : ℕ) → to ≤ from → (nat_le from i && nat_lt i to) ≡ false
none_within from to i h =
    unequal (nat_le from i && nat_lt i to) true
    (λ e.
    let low : from ≤ i = le_from from i (first_true (nat_le from i) (nat_lt i to) e) in
    let high : i < to = lt_from i to (second_true (nat_le from i) (nat_lt i to) e) in
    omega (arith, low, high, h))

pub filled_none : (old : List ℕ) (from to row : ℕ) → to ≤ from → IsFilled old old from to row
filled_none old from to row h = record { count = refl; items = λ i. ap (λ (b : Bool). if b then row else get_or old i 0) (sym (none_within from to i h)) }

length-set : {A : Type 0} (xs : List A) (i : ℕ) (a : A) → length (set xs i a) ≡ length xs
length-set xs i a = search rules

pub filled_more : (old new : List ℕ) (from at row : ℕ) → from ≤ at → at < length new → IsFilled old new from at row → IsFilled old (set new at row) from (at + 1) row
filled_more old new from at row low within f = record { count = length-set new at row ∙ f.count; items = λ i. go i (i == at) refl }
  where
    next : (i : ℕ) → (i ≡ at → ⊥) → (nat_le from i && nat_lt i at) ≡ (nat_le from i && nat_lt i (at + 1))
    next i h =
        same_test (nat_le from i && nat_lt i at) (nat_le from i && nat_lt i (at + 1))
        (λ e.
        let f : nat_le from i ≡ true = first_true (nat_le from i) (nat_lt i at) e in
        let g : i < at = lt_from i at (second_true (nat_le from i) (nat_lt i at) e) in
        both_true (nat_le from i) (nat_lt i (at + 1)) f (lt_true i (at + 1) (omega (arith, g))))
        (λ e.
        let f : nat_le from i ≡ true = first_true (nat_le from i) (nat_lt i (at + 1)) e in
        let g : i < at + 1 = lt_from i (at + 1) (second_true (nat_le from i) (nat_lt i (at + 1)) e) in
        both_true (nat_le from i) (nat_lt i at) f (lt_true i at (omega (arith, g, h))))

    here : (i : ℕ) → i ≡ at → (nat_le from i && nat_lt i (at + 1)) ≡ true
    here i e = both_true (nat_le from i) (nat_lt i (at + 1)) (le_true from i (omega (arith, e, low))) (lt_true i (at + 1) (omega (arith, e)))

    differ : (i : ℕ) → (i == at) ≡ false → i ≡ at → ⊥
    differ i e g = search (rules, e, g)

    go : (i : ℕ) (b : Bool) → (i == at) ≡ b → get_or (set new at row) i 0 ≡ (if nat_le from i && nat_lt i (at + 1) then row else get_or old i 0)
    go i true e =
        let same : i ≡ at = eqb-true i at e in
        ap (λ (j : ℕ). get_or (set new at row) j 0) same
        ∙ get_or-set_same new at row 0 within
        ∙ ap (λ (b : Bool). if b then row else get_or old i 0) (sym (here i same))
    go i false e =
        get_or-set_other new at i row 0 (differ i e) ∙ f.items i ∙ ap (λ (b : Bool). if b then row else get_or old i 0) (next i (differ i e))
