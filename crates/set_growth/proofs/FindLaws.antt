-- The first of some rows, where rows are appended.
use Rattle.std.proofs.Common.{◌≡◌, ◌∙◌, sym, ap, refl, arith, rules, zero-add, suc-add, add-zero, ℕ, zero, suc, ◌+◌, ◌-◌, ◌<◌, ◌≤◌, List, [], ◌∷◌, ◌++◌, Bool, true, false}
use Rattle.std.specs.Prelude.{cond, find, filter, filter_map, flat_map, ◌==◌, nat_lt, nat_le, Option, Some, None}
use Rattle.std.specs.List.{range_with_len, position_from, cons_option}
use Rattle.std.specs.Option.{option_or}
use Rattle.std.proofs.lemmas.List.Folds.{find-append}
use Rattle.std.proofs.lemmas.List.Elements.{filter-append}
use Rattle.std.proofs.lemmas.List.{append-nil}

pub lt_true : (a b : ℕ) → a < b → nat_lt a b ≡ true
lt_true a b h = search (rules, h)

pub le_true : (a b : ℕ) → a ≤ b → nat_le a b ≡ true
le_true a b h = search (rules, h)

pub lt_false : (a b : ℕ) → b ≤ a → nat_lt a b ≡ false
lt_false a b h = search (rules, h)

pub le_false : (a b : ℕ) → b < a → nat_le a b ≡ false
le_false a b h = search (rules, h)

pub le_from : (a b : ℕ) → nat_le a b ≡ true → a ≤ b
le_from a b h = search (rules, h)

pub lt_from : (a b : ℕ) → nat_lt a b ≡ true → a < b
lt_from a b h = search (rules, h)

pub differs : (a b : ℕ) → (a ≡ b → ⊥) → (a == b) ≡ false
differs a b h = search (rules, h)

pub range_split : (a n k : ℕ) → range_with_len a (n + k) ≡ range_with_len a n ++ range_with_len (a + n) k
range_split a zero k = rw (zero-add k, add-zero a)
range_split a (suc n) k =
    let shift : (a + 1) + n ≡ a + suc n = omega arith in
    ap (range_with_len a) (suc-add n k) ∙ ap (λ (l : List ℕ). a ∷ l) (range_split (a + 1) n k ∙ ap (λ (b : ℕ). range_with_len (a + 1) n ++ range_with_len b k) shift)

-- the rows up to a count, where there are more
pub rows_split : (n n' : ℕ) → n ≤ n' → range_with_len 1 n' ≡ range_with_len 1 n ++ range_with_len (1 + n) (n' - n)
rows_split n n' h = let total : n' ≡ n + (n' - n) = omega (arith, h) in ap (range_with_len 1) total ∙ range_split 1 n (n' - n)

pub find_same : (f g : ℕ → Bool) (a n : ℕ) → ((r : ℕ) → a ≤ r → r < a + n → f r ≡ g r) → find f (range_with_len a n) ≡ find g (range_with_len a n)
find_same f g a zero h = refl
find_same f g a (suc n) h =
    ap (λ (b : Bool). cond b (Some a) (find f (range_with_len (a + 1) n))) (h a (omega arith) (omega arith))
    ∙ ap (λ (o : Option ℕ). cond (g a) (Some a) o) (find_same f g (a + 1) n (λ r low high. h r (omega (arith, low)) (omega (arith, high))))

pub find_none : (f : ℕ → Bool) (a n : ℕ) → ((r : ℕ) → a ≤ r → r < a + n → f r ≡ false) → find f (range_with_len a n) ≡ None
find_none f a zero h = refl
find_none f a (suc n) h =
    ap (λ (b : Bool). cond b (Some a) (find f (range_with_len (a + 1) n))) (h a (omega arith) (omega arith))
    ∙ find_none f (a + 1) n (λ r low high. h r (omega (arith, low)) (omega (arith, high)))

pub record Among (a n k : ℕ) : Type 0 where
  pub low : a ≤ k
  pub high : k < a + n

pub found_among : (f : ℕ → Bool) (a n k : ℕ) → find f (range_with_len a n) ≡ Some k → Among a n k
found_among f a zero k e = absurd cc
found_among f a (suc n) k e = go (f a) (λ h. found_among f (a + 1) n k h) e
  where
    go : (b : Bool) → (find f (range_with_len (a + 1) n) ≡ Some k → Among (a + 1) n k) → cond b (Some a) (find f (range_with_len (a + 1) n)) ≡ Some k → Among a (suc n) k
    go true again e = let is : a ≡ k = search (rules, e) in record { low = omega (arith, is); high = omega (arith, is) }
    go false again e = let l : a + 1 ≤ k = (again e).low in let h : k < (a + 1) + n = (again e).high in record { low = omega (arith, l); high = omega (arith, h) }

-- the first row stays the first, where the tests of old rows stay
pub find_stays : (f g : ℕ → Bool) (n n' k : ℕ) → n ≤ n' → ((r : ℕ) → 1 ≤ r → r ≤ n → g r ≡ f r) → find f (range_with_len 1 n) ≡ Some k → find g (range_with_len 1 n') ≡ Some k
find_stays f g n n' k h same e =
    ap (find g) (rows_split n n' h)
    ∙ find-append g (range_with_len 1 n) (range_with_len (1 + n) (n' - n))
    ∙ ap (λ (o : Option ℕ). option_or o (find g (range_with_len (1 + n) (n' - n)))) (find_same g f 1 n (λ r low high. same r low (omega (arith, high))) ∙ e)

-- and where no new row passes, there is none where there was none
pub find_grown : (f g : ℕ → Bool) (n n' : ℕ) → n ≤ n' → ((r : ℕ) → 1 ≤ r → r ≤ n → g r ≡ f r) → ((r : ℕ) → n < r → r ≤ n' → g r ≡ false) → find g (range_with_len 1 n') ≡ find f (range_with_len 1 n)
find_grown f g n n' h same none =
    ap (find g) (rows_split n n' h)
    ∙ find-append g (range_with_len 1 n) (range_with_len (1 + n) (n' - n))
    ∙ ap (λ (o : Option ℕ). option_or o (find g (range_with_len (1 + n) (n' - n)))) (find_same g f 1 n (λ r low high. same r low (omega (arith, high))))
    ∙ ap (option_or (find f (range_with_len 1 n))) (find_none g (1 + n) (n' - n) (λ r low high. none r (omega (arith, low)) (omega (arith, high, h))))
    ∙ or_none (find f (range_with_len 1 n))
  where
    or_none : (o : Option ℕ) → option_or o None ≡ o
    or_none None = refl
    or_none (Some k) = refl

-- the first new row passes
pub first_past : (g : ℕ → Bool) (n n' : ℕ) → n + 1 ≤ n' → find g (range_with_len 1 n) ≡ None → g (n + 1) ≡ true → find g (range_with_len 1 n') ≡ Some (n + 1)
first_past g n n' h none passes =
    let le : n ≤ n' = omega (arith, h) in
    let more : n' - n ≡ suc (n' - n - 1) = omega (arith, h) in
    let at : 1 + n ≡ n + 1 = omega arith in
    ap (find g) (rows_split n n' le)
    ∙ find-append g (range_with_len 1 n) (range_with_len (1 + n) (n' - n))
    ∙ ap (λ (o : Option ℕ). option_or o (find g (range_with_len (1 + n) (n' - n)))) none
    ∙ ap (λ (k : ℕ). find g (range_with_len (1 + n) k)) more
    ∙ ap (λ (k : ℕ). find g (range_with_len k (suc (n' - n - 1)))) at
    ∙ ap (λ (b : Bool). cond b (Some (n + 1)) (find g (range_with_len (n + 1 + 1) (n' - n - 1)))) passes

pub filter_map_on : {B : Type 0} (f g : ℕ → Option B) (a n : ℕ) → ((r : ℕ) → a ≤ r → r < a + n → f r ≡ g r) → filter_map f (range_with_len a n) ≡ filter_map g (range_with_len a n)
filter_map_on f g a zero h = refl
filter_map_on {B} f g a (suc n) h =
    ap (λ (o : Option B). cons_option o (filter_map f (range_with_len (a + 1) n))) (h a (omega arith) (omega arith))
    ∙ ap (cons_option (g a)) (filter_map_on f g (a + 1) n (λ r low high. h r (omega (arith, low)) (omega (arith, high))))

pub flat_map_on : {B : Type 0} (f g : ℕ → List B) (a n : ℕ) → ((r : ℕ) → a ≤ r → f r ≡ g r) → flat_map f (range_with_len a n) ≡ flat_map g (range_with_len a n)
flat_map_on f g a zero h = refl
flat_map_on {B} f g a (suc n) h =
    ap (λ (l : List B). l ++ flat_map f (range_with_len (a + 1) n)) (h a (omega arith)) ∙ ap (λ (l : List B). g a ++ l) (flat_map_on f g (a + 1) n (λ r low. h r (omega (arith, low))))

pub found_before : {A : Type 0} (test : A → Bool) (i k : ℕ) (xs more : List A) → position_from test i xs ≡ Some k → position_from test i (xs ++ more) ≡ Some k
found_before test i k [] more e = absurd cc
found_before test i k (x ∷ xs) more e = go (test x) (λ h. found_before test (i + 1) k xs more h) e
  where
    go : (b : Bool) → (position_from test (i + 1) xs ≡ Some k → position_from test (i + 1) (xs ++ more) ≡ Some k)
        → cond b (Some i) (position_from test (i + 1) xs) ≡ Some k → cond b (Some i) (position_from test (i + 1) (xs ++ more)) ≡ Some k
    go true again e = e
    go false again e = again e

-- where no old row passes, what is found is past them
pub found_past : (g : ℕ → Bool) (n n' k : ℕ) → n ≤ n' → find g (range_with_len 1 n) ≡ None → find g (range_with_len 1 n') ≡ Some k → n < k
found_past g n n' k h none e =
    let later : find g (range_with_len 1 n') ≡ find g (range_with_len (1 + n) (n' - n)) =
    ap (find g) (rows_split n n' h)
    ∙ find-append g (range_with_len 1 n) (range_with_len (1 + n) (n' - n))
    ∙ ap (λ (o : Option ℕ). option_or o (find g (range_with_len (1 + n) (n' - n)))) none in
    let low : 1 + n ≤ k = (found_among g (1 + n) (n' - n) k (sym later ∙ e)).low in
    omega (arith, low)

pub filter_same : (f g : ℕ → Bool) (a n : ℕ) → ((r : ℕ) → a ≤ r → r < a + n → f r ≡ g r) → filter f (range_with_len a n) ≡ filter g (range_with_len a n)
filter_same f g a zero h = refl
filter_same f g a (suc n) h =
    ap (λ (b : Bool). cond b (a ∷ filter f (range_with_len (a + 1) n)) (filter f (range_with_len (a + 1) n))) (h a (omega arith) (omega arith))
    ∙ ap (λ (l : List ℕ). cond (g a) (a ∷ l) l) (filter_same f g (a + 1) n (λ r low high. h r (omega (arith, low)) (omega (arith, high))))

filter_none : (f : ℕ → Bool) (a n : ℕ) → ((r : ℕ) → a ≤ r → r < a + n → f r ≡ false) → filter f (range_with_len a n) ≡ []
filter_none f a zero h = refl
filter_none f a (suc n) h =
    ap (λ (b : Bool). cond b (a ∷ filter f (range_with_len (a + 1) n)) (filter f (range_with_len (a + 1) n))) (h a (omega arith) (omega arith))
    ∙ filter_none f (a + 1) n (λ r low high. h r (omega (arith, low)) (omega (arith, high)))

-- of rows that pass none is new
pub filter_grown : (f g : ℕ → Bool) (n n' : ℕ) → n ≤ n' → ((r : ℕ) → 1 ≤ r → r ≤ n → g r ≡ f r) → ((r : ℕ) → n < r → r ≤ n' → g r ≡ false) → filter g (range_with_len 1 n') ≡ filter f (range_with_len 1 n)
filter_grown f g n n' h same none =
    ap (filter g) (rows_split n n' h)
    ∙ filter-append g (range_with_len 1 n) (range_with_len (1 + n) (n' - n))
    ∙ ap (λ (l : List ℕ). l ++ filter g (range_with_len (1 + n) (n' - n))) (filter_same g f 1 n (λ r low high. same r low (omega (arith, high))))
    ∙ ap (λ (l : List ℕ). filter f (range_with_len 1 n) ++ l) (filter_none g (1 + n) (n' - n) (λ r low high. none r (omega (arith, low)) (omega (arith, high, h))))
    ∙ append-nil (filter f (range_with_len 1 n))
