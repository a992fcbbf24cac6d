-- Lists by row.
use Rattle.std.proofs.Common.{◌≡◌, ◌∙◌, sym, ap, refl, arith, rules, append_assoc, ℕ, zero, suc, ◌+◌, ◌-◌, ◌≤◌, ◌<◌, List, [], ◌∷◌, ◌++◌, get_or, Bool, true, false}
use Rattle.std.specs.Prelude.{◌==◌, ◌&&◌, nat_lt, nat_le, map, slice_get, if◌then◌else◌, Option, Some, None}
use Rattle.std.specs.List.{range_with_len}
use Rattle.std.proofs.lemmas.List.FromFn.{map-range_with_len_more}

-- a value more behind some
pub row_pushed : {B : Type 0} (f : ℕ → B) (k : ℕ) (old xs xs' : List B) (x : B) → xs' ≡ xs ++ x ∷ [] → x ≡ f (k + 1) → xs ≡ old ++ map f (range_with_len 1 k) → xs' ≡ old ++ map f (range_with_len 1 (k + 1))
row_pushed {B} f k old xs xs' x e n h =
    e ∙ ap (λ (l : List B). l ++ x ∷ []) h ∙ append_assoc old (map f (range_with_len 1 k)) (x ∷ [])
    ∙ ap (λ (o : B). old ++ (map f (range_with_len 1 k) ++ o ∷ [])) n
    ∙ ap (λ (l : List B). old ++ l) (sym (map-range_with_len_more f 1 k (k + 1) (omega arith)))

pub map_twice : {A B C : Type 0} (f : B → C) (g : A → B) (xs : List A) → map f (map g xs) ≡ map (λ x. f (g x)) xs
map_twice f g [] = refl
map_twice {A} {B} {C} f g (x ∷ xs) = ap (λ (l : List C). f (g x) ∷ l) (map_twice f g xs)

module _ {B : Type 0} (f : ℕ → B) where
  within : (n a k : ℕ) → k < n → slice_get (map f (range_with_len a n)) k ≡ Some (f (a + k))
  within zero a k low = absurd (omega (arith, low))
  within (suc n) a zero low = let at : a ≡ a + 0 = omega arith in ap (λ (m : ℕ). Some (f m)) at
  within (suc n) a (suc k) low = let at : (a + 1) + k ≡ a + suc k = omega arith in within n (a + 1) k (omega (arith, low)) ∙ ap (λ (m : ℕ). Some (f m)) at

  past : (n a k : ℕ) → n ≤ k → slice_get (map f (range_with_len a n)) k ≡ None
  past zero a k high = refl
  past (suc n) a zero high = absurd (omega (arith, high))
  past (suc n) a (suc k) high = past n (a + 1) k (omega (arith, high))

  -- the value of a row, where there is one
  pub at_row : (n row : ℕ) → (if row == 0 then None else slice_get (map f (range_with_len 1 n)) (row - 1)) ≡ (if nat_lt 0 row && nat_le row n then Some (f row) else None)
  at_row n zero = refl
  at_row n (suc k) =
      let isnt : (suc k == 0) ≡ false = search rules in
      let place : suc k - 1 ≡ k = omega arith in
      let some : nat_lt 0 (suc k) ≡ true = search rules in
      ap (λ (b : Bool). if b then None else slice_get (map f (range_with_len 1 n)) (suc k - 1)) isnt ∙ ap (slice_get (map f (range_with_len 1 n))) place
      ∙ go (nat_le (suc k) n) refl ∙ ap (λ (b : Bool). if b && nat_le (suc k) n then Some (f (suc k)) else None) (sym some)
    where
      go : (b : Bool) → nat_le (suc k) n ≡ b → slice_get (map f (range_with_len 1 n)) k ≡ (if true && b then Some (f (suc k)) else None)
      go true test =
          let low : suc k ≤ n = search (rules, test) in
          let at : 1 + k ≡ suc k = omega arith in
          within n 1 k (omega (arith, low)) ∙ ap (λ (m : ℕ). Some (f m)) at
      go false test =
          let over : suc k ≤ n → ⊥ = λ l. search (rules, test, l) in
          past n 1 k (omega (arith, over))

abbrev or_none : {B : Type 0} → Option (Option B) → Option B
or_none None = None
or_none (Some o) = o

get_is : {B : Type 0} (xs : List (Option B)) (k : ℕ) → get_or xs k None ≡ or_none (slice_get xs k)
get_is [] k = refl
get_is (x ∷ xs) zero = refl
get_is (x ∷ xs) (suc k) = get_is xs k

-- the same, where rows may have none
pub at_some_row : {B : Type 0} (f : ℕ → Option B) (n row : ℕ) → (if row == 0 then None else get_or (map f (range_with_len 1 n)) (row - 1) None) ≡ (if nat_lt 0 row && nat_le row n then f row else None)
at_some_row {B} f n row =
    ap (λ (o : Option B). if row == 0 then None else o) (get_is (map f (range_with_len 1 n)) (row - 1))
    ∙ inner (row == 0) (slice_get (map f (range_with_len 1 n)) (row - 1)) ∙ ap or_none (at_row f n row) ∙ outer (nat_lt 0 row && nat_le row n)
  where
    inner : (b : Bool) (o : Option (Option B)) → (if b then None else or_none o) ≡ or_none (if b then None else o)
    inner true o = refl
    inner false o = refl

    outer : (b : Bool) → or_none (if b then Some (f row) else None) ≡ (if b then f row else None)
    outer true = refl
    outer false = refl
