-- The first row of each number.
use Rattle.std.proofs.Common.{◌≡◌, ◌∙◌, sym, ap, refl, arith, rules, ℕ, zero, suc, ◌+◌, ◌-◌, ◌≤◌, ◌<◌, List, [], ◌∷◌, ◌++◌, length, get_or, Bool, true, false}
use Rattle.std.specs.Prelude.{cond, map, filter, find, ◌==◌, Option, Some, Result, Ok, Err, IfOk}
use Rattle.std.specs.List.{range_with_len}
use Rattle.std.proofs.lemmas.List.{get_or-map, length-map}
use Rattle.std.proofs.lemmas.List.FromFn.{map-range_with_len_more}
use Rattle.set_rows.specs.Owners.{if_row}
use Rattle.row_descriptions.specs.RowLists.{AreListed, rows_under}
use Rattle.attribute_marks.specs.Firsts.{AreFirst, first_or_none}

row_is : (g : ℕ) → 1 ≤ g → if_row g ≡ Some g
row_is g low = search (rules, low)

-- the first row that passes a test
first_passes : (test : ℕ → Bool) (a n : ℕ) → 1 ≤ a → if_row (first_or_none (filter test (range_with_len a n))) ≡ find test (range_with_len a n)
first_passes test a zero low = refl
first_passes test a (suc n) low = go (test a) (first_passes test (a + 1) n (omega arith))
  where
    go : (b : Bool) → if_row (first_or_none (filter test (range_with_len (a + 1) n))) ≡ find test (range_with_len (a + 1) n)
        → if_row (first_or_none (cond b (a ∷ filter test (range_with_len (a + 1) n)) (filter test (range_with_len (a + 1) n)))) ≡ cond b (Some a) (find test (range_with_len (a + 1) n))
    go true h = row_is a low
    go false h = h

-- tests that agree on the rows
pub find_same : (f g : ℕ → Bool) (a n : ℕ) → ((r : ℕ) → a ≤ r → r < a + n → f r ≡ g r) → find f (range_with_len a n) ≡ find g (range_with_len a n)
find_same f g a zero h = refl
find_same f g a (suc n) h =
    ap (λ (b : Bool). cond b (Some a) (find f (range_with_len (a + 1) n))) (h a (omega arith) (omega arith))
    ∙ ap (λ (o : Option ℕ). cond (g a) (Some a) o) (find_same f g (a + 1) n (λ r low high. h r (omega (arith, low)) (omega (arith, high))))

pub firsts_of : (numbers : List ℕ) (count : ℕ) (lists : List (List ℕ)) (firsts : List ℕ) → AreListed (rows_under numbers) (count + 1) lists → firsts ≡ map first_or_none lists → AreFirst numbers count firsts
firsts_of numbers count lists firsts l e = record {
  size = ap length e ∙ length-map lists first_or_none ∙ l.count;
  rows = λ n low high.
      ap (λ (xs : List ℕ). if_row (get_or xs n 0)) e
      ∙ ap if_row (get_or-map first_or_none lists n [] 0 (omega (arith, high, l.count)))
      ∙ ap (λ (rows : List ℕ). if_row (first_or_none rows)) (l.items n (omega (arith, high)))
      ∙ first_passes (λ row. get_or numbers (row - 1) 0 == n) 1 (length numbers) (omega arith);
}

-- one row more
pub row_more : {A : Type 0} (f : ℕ → A) (k : ℕ) (xs xs' : List A) (x : A) → xs' ≡ xs ++ x ∷ [] → x ≡ f (k + 1) → xs ≡ map f (range_with_len 1 k) → xs' ≡ map f (range_with_len 1 (k + 1))
row_more {A} f k xs xs' x e n h =
    e ∙ ap (λ (l : List A). l ++ x ∷ []) h ∙ ap (λ (o : A). map f (range_with_len 1 k) ++ o ∷ []) n
    ∙ sym (map-range_with_len_more f 1 k (k + 1) (omega arith))

-- what follows for the value of each that is made
pub if_ok_of : {V E : Type 0} (items : V → List ℕ) (result : Result V E) (P Q : List ℕ → Type 0) → ((l : List ℕ) → P l → Q l) → IfOk result (λ v. P (items v)) → IfOk result (λ v. Q (items v))
if_ok_of items (Ok v) P Q f h = f (items v) h
if_ok_of items (Err e) P Q f h = h
