-- Owners of rows of Property, with the rows of PropertyMap gone through from the last on.
use Rattle.std.proofs.Common.{◌≡◌, ◌∙◌, sym, ap, refl, arith, rules, ℕ, zero, suc, ◌+◌, ◌-◌, ◌≤◌, ◌<◌, List, length, get_or, replicate, Bool, true, false}
use Rattle.std.specs.Prelude.{cond, ◌&&◌, max, min, nat_lt, nat_le, find, Option, Some, None, option_map, if◌then◌else◌}
use Rattle.std.specs.List.{range_with_len}
use Rattle.std.proofs.lemmas.List.{length-replicate}
use Rattle.cil_base.specs.declared.tables.TheConstants.{PROPERTY, PROPERTY_MAP}
use Rattle.set_rows.specs.Sets.{Assembly, cell, count_in, is_row, rows_in}
use Rattle.set_rows.specs.Owners.{if_row, row_in, IsFilled}
use Rattle.member_table.specs.MemberRules.{owns_property, property_owner}
use Rattle.member_tests.specs.PropertyMaps.{ArePropertyMaps, property_end}

-- by the owners that were gone through
pub record Mapped (x : Assembly) (owners r : ℕ) (maps : List ℕ) : Type 0 where
  pub count : length maps ≡ count_in x PROPERTY
  pub rows : (k from : ℕ) → 1 ≤ k → k ≤ count_in x PROPERTY → from + r ≡ owners + 1
      → if_row (get_or maps (k - 1) 0) ≡ find (owns_property x k) (range_with_len from r)

zeros : (n k : ℕ) → ◌≡◌ {A = ℕ} (get_or (replicate n 0) k 0) 0
zeros zero k = refl
zeros (suc n) zero = refl
zeros (suc n) (suc k) = zeros n k

-- two tests that hold together
same_test : (a b : Bool) → (a ≡ true → b ≡ true) → (b ≡ true → a ≡ true) → a ≡ b
same_test true true f g = refl
same_test true false f g = sym (f refl)
same_test false true f g = g refl
same_test false false f g = refl

lt_from : (a b : ℕ) → nat_lt a b ≡ true → a < b
lt_from a b h = search (rules, h)

le_from : (a b : ℕ) → nat_le a b ≡ true → a ≤ b
le_from a b h = search (rules, h)

pub lt_true : (a b : ℕ) → a < b → nat_lt a b ≡ true
lt_true a b h = search (rules, h)

pub le_true : (a b : ℕ) → a ≤ b → nat_le a b ≡ true
le_true a b h = search (rules, h)

pub both_true : (a b : Bool) → a ≡ true → b ≡ true → (a && b) ≡ true
both_true true b e f = f
both_true false b e f = e

first_true : (a b : Bool) → (a && b) ≡ true → a ≡ true
first_true true b e = refl
first_true false b e = e

second_true : (a b : Bool) → (a && b) ≡ true → b ≡ true
second_true true b e = e
second_true false b e = absurd cc

max_le : (c k : ℕ) → 1 ≤ k → c - 1 ≤ k - 1 → max 1 c ≤ k
max_le c k low h = omega (arith, low, h)

le_max : (c k : ℕ) → max 1 c ≤ k → c - 1 ≤ k - 1
le_max c k h = omega (arith, h)

-- a place is filled just where the owner owns the row
fills : (c e n k : ℕ) → 1 ≤ k → k ≤ n → (nat_le (c - 1) (k - 1) && nat_lt (k - 1) (min (e - 1) n)) ≡ (nat_le (max 1 c) k && nat_lt k e)
fills c e n k low high =
    same_test (nat_le (c - 1) (k - 1) && nat_lt (k - 1) (min (e - 1) n)) (nat_le (max 1 c) k && nat_lt k e)
    (λ h.
    let from : c - 1 ≤ k - 1 = le_from (c - 1) (k - 1) (first_true (nat_le (c - 1) (k - 1)) (nat_lt (k - 1) (min (e - 1) n)) h) in
    let to : k - 1 < min (e - 1) n = lt_from (k - 1) (min (e - 1) n) (second_true (nat_le (c - 1) (k - 1)) (nat_lt (k - 1) (min (e - 1) n)) h) in
    both_true (nat_le (max 1 c) k) (nat_lt k e) (le_true (max 1 c) k (max_le c k low from)) (lt_true k e (omega (arith, to, low))))
    (λ h.
    let from : max 1 c ≤ k = le_from (max 1 c) k (first_true (nat_le (max 1 c) k) (nat_lt k e) h) in
    let to : k < e = lt_from k e (second_true (nat_le (max 1 c) k) (nat_lt k e) h) in
    both_true (nat_le (c - 1) (k - 1)) (nat_lt (k - 1) (min (e - 1) n)) (le_true (c - 1) (k - 1) (le_max c k from)) (lt_true (k - 1) (min (e - 1) n) (omega (arith, to, low, high))))

row_is : (a : ℕ) → 1 ≤ a → if_row a ≡ Some a
row_is a l = search (rules, l)

module _ (x : Assembly) (owners r : ℕ) (old new : List ℕ) (o : Mapped x owners r old) (at : ℕ) (here : at + suc r ≡ owners + 1) (low : 1 ≤ at) where
  one : (k from : ℕ) → (b : Bool) → from ≡ at → b ≡ owns_property x k at → if_row (get_or old (k - 1) 0) ≡ find (owns_property x k) (range_with_len (at + 1) r)
      → if_row (if b then at else get_or old (k - 1) 0) ≡ find (owns_property x k) (range_with_len from (suc r))
  one k from b e h before = go b h ∙ ap (λ (f : ℕ). find (owns_property x k) (range_with_len f (suc r))) (sym e)
    where
      go : (b : Bool) → b ≡ owns_property x k at → if_row (if b then at else get_or old (k - 1) 0) ≡ find (owns_property x k) (range_with_len at (suc r))
      go true f = row_is at low ∙ ap (λ (c : Bool). cond c (Some at) (find (owns_property x k) (range_with_len (at + 1) r))) f
      go false f = before ∙ ap (λ (c : Bool). cond c (Some at) (find (owns_property x k) (range_with_len (at + 1) r))) f

  pub mapped_more : (from to : ℕ) → from ≡ cell x PROPERTY_MAP at 1 - 1 → to ≡ min (property_end x at - 1) (count_in x PROPERTY) → IsFilled old new from to at → Mapped x owners (suc r) new
  mapped_more from to ef et f = record {
    count = f.count ∙ o.count;
    rows = λ k start below above e.
        let test : (nat_le from (k - 1) && nat_lt (k - 1) to) ≡ owns_property x k at =
        ap (λ (n : ℕ). nat_le n (k - 1) && nat_lt (k - 1) to) ef
        ∙ ap (λ (n : ℕ). nat_le (cell x PROPERTY_MAP at 1 - 1) (k - 1) && nat_lt (k - 1) n) et
        ∙ fills (cell x PROPERTY_MAP at 1) (property_end x at) (count_in x PROPERTY) k below above in
        ap if_row (f.items (k - 1))
        ∙ one k start (nat_le from (k - 1) && nat_lt (k - 1) to) (omega (arith, e, here)) test (o.rows k (at + 1) below above (omega (arith, here)));
  }

pub mapped_none : (x : Assembly) (owners n : ℕ) (maps : List ℕ) → maps ≡ replicate n 0 → n ≡ count_in x PROPERTY → Mapped x owners 0 maps
mapped_none x owners n maps e m = record {
  count = ap length e ∙ length-replicate n 0 ∙ m;
  rows = λ k from low high f. ap (λ (l : List ℕ). if_row (get_or l (k - 1) 0)) e ∙ ap if_row (zeros n (k - 1));
}

pub mapped_all : (x : Assembly) (maps : List ℕ) → Mapped x (count_in x PROPERTY_MAP) (count_in x PROPERTY_MAP) maps → ArePropertyMaps x maps
mapped_all x maps o = record {
  count = o.count;
  rows = λ k h. ap (λ (n : ℕ). if nat_lt 0 k && nat_le k n then if_row (get_or maps (k - 1) 0) else None) o.count ∙ go k (nat_lt 0 k && nat_le k (count_in x PROPERTY)) refl h;
}
  where
    go : (k : ℕ) → (b : Bool) → (nat_lt 0 k && nat_le k (count_in x PROPERTY)) ≡ b → b ≡ true
        → (if b then if_row (get_or maps (k - 1) 0) else None) ≡ find (owns_property x k) (rows_in x PROPERTY_MAP)
    go k true f h =
        o.rows k 1 (lt_from 0 k (first_true (nat_lt 0 k) (nat_le k (count_in x PROPERTY)) f)) (le_from k (count_in x PROPERTY) (second_true (nat_lt 0 k) (nat_le k (count_in x PROPERTY)) f)) (omega arith)
    go k false f h = absurd cc

-- ---- the type of a row

abbrev parent : Assembly → ℕ → ℕ
parent x p = cell x PROPERTY_MAP p 0

pub owner_by_map : (x : Assembly) (maps : List ℕ) (row : ℕ) → ArePropertyMaps x maps → is_row x PROPERTY row ≡ true → option_map (parent x) (row_in maps row) ≡ property_owner x row
owner_by_map x maps row h e = ap (option_map (parent x)) (h.rows row e)
