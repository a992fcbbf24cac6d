-- Rows of types around nested ones, gone through from the last on.
use Rattle.std.proofs.Common.{◌≡◌, ◌∙◌, sym, ap, refl, arith, rules, ℕ, zero, suc, ◌+◌, ◌-◌, ◌≤◌, ◌<◌, List, length, get_or, replicate, Bool, true, false}
use Rattle.std.specs.Prelude.{cond, ◌==◌, ◌&&◌, nat_lt, nat_le, find, set, Option, Some, None, if◌then◌else◌}
use Rattle.std.specs.List.{range_with_len}
use Rattle.std.proofs.lemmas.List.{get_or-set_same, get_or-set_other, length-replicate}
use Rattle.std.proofs.lemmas.Bool.{eqb-true}
use Rattle.set_rows.specs.Sets.{Assembly, cell, count_in, rows_in}
use Rattle.set_names.specs.Paths.{if_row, with_next}
use Rattle.set_program.specs.TypeNames.{enclosing_in, enclosing}
use Rattle.set_program.specs.Nesting.{AreOuter}
use Rattle.cil_base.specs.declared.tables.TheConstants.{NESTED_CLASS, TYPE_DEF}

-- by the rows that were gone through
pub record Outer (count nestings k : ℕ) (x : Assembly) (outer : List ℕ) : Type 0 where
  pub count_is : length outer ≡ count
  pub rows : (row from : ℕ) → 1 ≤ row → row ≤ count → from + k ≡ nestings + 1
      → if_row (get_or outer (row - 1) 0) ≡ enclosing_in x (find (λ j. cell x NESTED_CLASS j 0 == row) (range_with_len from k))

lt_true : (a b : ℕ) → a < b → nat_lt a b ≡ true
lt_true a b h = search (rules, h)

le_true : (a b : ℕ) → a ≤ b → nat_le a b ≡ true
le_true a b h = search (rules, h)

lt_from : (a b : ℕ) → nat_lt a b ≡ true → a < b
lt_from a b h = search (rules, h)

le_from : (a b : ℕ) → nat_le a b ≡ true → a ≤ b
le_from a b h = search (rules, h)

both_true : (a b : Bool) → a ≡ true → b ≡ true → (a && b) ≡ true
both_true true b e f = f
both_true false b e f = e

first_true : (a b : Bool) → (a && b) ≡ true → a ≡ true
first_true true b e = refl
first_true false b e = e

second_true : (a b : Bool) → (a && b) ≡ true → b ≡ true
second_true true b e = e
second_true false b e = absurd cc

not_itself : (a b : ℕ) → (a == b) ≡ false → a ≡ b → ⊥
not_itself a b e f = search (rules, e, f)

zeros : (n k : ℕ) → ◌≡◌ {A = ℕ} (get_or (replicate n 0) k 0) 0
zeros zero k = refl
zeros (suc n) zero = refl
zeros (suc n) (suc k) = zeros n k

length-set : {A : Type 0} (xs : List A) (i : ℕ) (a : A) → length (set xs i a) ≡ length xs
length-set xs i a = search rules

module _ (count nestings k : ℕ) (x : Assembly) (outer : List ℕ) (o : Outer count nestings k x outer) (at : ℕ) (here : at + suc k ≡ nestings + 1) where
  abbrev nested : ℕ
  nested = cell x NESTED_CLASS at 0

  abbrev first : ℕ → Bool → Option ℕ
  first row b = cond b (Some at) (find (λ j. cell x NESTED_CLASS j 0 == row) (range_with_len (at + 1) k))

  -- a row that this one isn't about
  other : (row : ℕ) → 1 ≤ row → row ≤ count → (nested == row) ≡ false → if_row (get_or outer (row - 1) 0) ≡ enclosing_in x (first row (nested == row))
  other row low high e = o.rows row (at + 1) low high (omega (arith, here)) ∙ ap (λ (b : Bool). enclosing_in x (first row b)) (sym e)

  same_from : (from : ℕ) → from + suc k ≡ nestings + 1 → from ≡ at
  same_from from e = omega (arith, e, here)

  apart : (row n : ℕ) → 1 ≤ row → row ≤ count → n ≡ nested → (nat_lt 0 n && nat_le n (length outer)) ≡ false → (b : Bool) → (nested == row) ≡ b → b ≡ false
  apart row n low high en out false e = refl
  apart row n low high en out true e =
      let is : n ≡ row = en ∙ eqb-true nested row e in
      let within : n ≤ length outer = omega (arith, is, high, o.count_is) in
      let above : 0 < n = omega (arith, is, low) in
      let both : (nat_lt 0 n && nat_le n (length outer)) ≡ true = both_true (nat_lt 0 n) (nat_le n (length outer)) (lt_true 0 n above) (le_true n (length outer) within) in
      sym both ∙ out

  pub outer_more : (n v : ℕ) → n ≡ cell x NESTED_CLASS at 0 → v ≡ cell x NESTED_CLASS at 1 → Outer count nestings (suc k) x (with_next outer n v)
  outer_more n v en ev = go (nat_lt 0 n && nat_le n (length outer)) refl
    where
      from_here : (row from : ℕ) (now : List ℕ) → from + suc k ≡ nestings + 1 → if_row (get_or now (row - 1) 0) ≡ enclosing_in x (first row (nested == row))
          → if_row (get_or now (row - 1) 0) ≡ enclosing_in x (find (λ j. cell x NESTED_CLASS j 0 == row) (range_with_len from (suc k)))
      from_here row from now e h = h ∙ ap (λ (f : ℕ). enclosing_in x (find (λ j. cell x NESTED_CLASS j 0 == row) (range_with_len f (suc k)))) (sym (same_from from e))

      put : (row : ℕ) → 1 ≤ row → row ≤ count → 1 ≤ n → n ≤ count → (b : Bool) → (nested == row) ≡ b → if_row (get_or (set outer (n - 1) v) (row - 1) 0) ≡ enclosing_in x (first row (nested == row))
      put row low high nlow nhigh true e =
          let is : n ≡ row = en ∙ eqb-true nested row e in
          let place : row - 1 ≡ n - 1 = omega (arith, is) in
          let inside : n - 1 < length outer = omega (arith, nlow, nhigh, o.count_is) in
          ap (λ (j : ℕ). if_row (get_or (set outer (n - 1) v) j 0)) place
          ∙ ap if_row (get_or-set_same outer (n - 1) v 0 inside ∙ ev)
          ∙ ap (λ (b : Bool). enclosing_in x (first row b)) (sym e)
      put row low high nlow nhigh false e =
          let differ : row - 1 ≡ n - 1 → ⊥ = λ same. not_itself nested row e (sym en ∙ omega (arith, same, low, nlow)) in
          ap if_row (get_or-set_other outer (n - 1) (row - 1) v 0 differ) ∙ other row low high e

      go : (b : Bool) → (nat_lt 0 n && nat_le n (length outer)) ≡ b → Outer count nestings (suc k) x (if b then set outer (n - 1) v else outer)
      go true e =
          let nlow : 1 ≤ n = lt_from 0 n (first_true (nat_lt 0 n) (nat_le n (length outer)) e) in
          let nhigh : n ≤ count = omega (arith, le_from n (length outer) (second_true (nat_lt 0 n) (nat_le n (length outer)) e), o.count_is) in
          record {
            count_is = length-set outer (n - 1) v ∙ o.count_is;
            rows = λ row from low high f. from_here row from (set outer (n - 1) v) f (put row low high nlow nhigh (nested == row) refl);
          }
      go false e = record {
        count_is = o.count_is;
        rows = λ row from low high f. from_here row from outer f (other row low high (apart row n low high en e (nested == row) refl));
      }

-- nothing was gone through yet
pub outer_none : (count nestings : ℕ) (x : Assembly) (outer : List ℕ) → outer ≡ replicate count 0 → Outer count nestings 0 x outer
outer_none count nestings x outer e = record {
  count_is = ap length e ∙ length-replicate count 0;
  rows = λ row from low high f. ap (λ (l : List ℕ). if_row (get_or l (row - 1) 0)) e ∙ ap if_row (zeros count (row - 1));
}

-- all were
pub outer_all : (nestings : ℕ) (x : Assembly) (outer : List ℕ) → nestings ≡ count_in x NESTED_CLASS → Outer (count_in x TYPE_DEF) nestings nestings x outer → AreOuter x outer
unfolding enclosing
outer_all nestings x outer e o = record {
  count = o.count_is;
  rows = λ row. ap (λ (n : ℕ). if nat_lt 0 row && nat_le row n then if_row (get_or outer (row - 1) 0) else None) o.count_is ∙ go row (nat_lt 0 row && nat_le row (count_in x TYPE_DEF)) refl;
}
  where
    go : (row : ℕ) → (b : Bool) → (nat_lt 0 row && nat_le row (count_in x TYPE_DEF)) ≡ b
        → (if b then if_row (get_or outer (row - 1) 0) else None) ≡ (if b then enclosing_in x (find (λ j. cell x NESTED_CLASS j 0 == row) (rows_in x NESTED_CLASS)) else None)
    go row true f =
        o.rows row 1 (lt_from 0 row (first_true (nat_lt 0 row) (nat_le row (count_in x TYPE_DEF)) f)) (le_from row (count_in x TYPE_DEF) (second_true (nat_lt 0 row) (nat_le row (count_in x TYPE_DEF)) f)) (omega arith)
        ∙ ap (λ (n : ℕ). enclosing_in x (find (λ j. cell x NESTED_CLASS j 0 == row) (range_with_len 1 n))) e
    go row false f = refl
