-- Sets of locals: whether one is among those that instructions use, and its number.
use Rattle.std.proofs.Common.{◌≡◌, ℕ, zero, suc, ◌+◌, Bool, true, false, ◌||◌, cond, List, [], ◌∷◌, ◌++◌, ◌<◌, length, get_or, take, refl, sym, ap, ◌∙◌, arith}
use Rattle.std.specs.Prelude.{◌==◌, nat_eq, not, nat_lt, ◌≤◌, Option, Some, None, position, slice_get, unwrap_or, if◌then◌else◌}
use Rattle.std.specs.List.{list_any, filter_map, cons_option, prefix_len, position_or_len}
use Rattle.std.proofs.lemmas.Bool.Decides.{nat_tests}
use Rattle.std.proofs.lemmas.List.{take_more}
use Rattle.std.proofs.lemmas.List.Folds.{list_any-append}
use Rattle.cil_model.specs.declared.body.Instr.{Instr}
use Rattle.contract_parts.specs.Flow.{Code}
use Rattle.contract_parts.specs.Parts.{is_it, stored}
use Rattle.contract_extract.specs.declared.locals.Use.{Use}
use Rattle.contract_extract.specs.declared.locals.Use.TheVariants as how
use Rattle.contract_extract.specs.Clauses.{with_local, distinct_behind, number_in}
use Rattle.contract_extract.specs.Rules.{lead_stores, rest_stores}
use Rattle.contract_extract.specs.Locals.{used, locals_used, locals_outside, lead_code, rest_code}

turned : (k j : ℕ) → nat_eq k j ≡ (j == k)
turned k j = grind (arith, nat_tests)

pub any_turned : (k : ℕ) (ks : List ℕ) → list_any (nat_eq k) ks ≡ list_any (λ j. j == k) ks
any_turned k [] = refl
any_turned k (j ∷ ks) = ap (λ (b : Bool). b || list_any (nat_eq k) ks) (turned k j) ∙ ap (λ (b : Bool). (j == k) || b) (any_turned k ks)

pub added : (k : ℕ) (ks : List ℕ) → (if list_any (nat_eq k) ks then ks else ks ++ k ∷ []) ≡ with_local ks k
added k ks = ap (λ (b : Bool). if b then ks else ks ++ k ∷ []) (any_turned k ks)

-- ---- whether a local is among them

or_none : (a : Bool) → a ≡ (a || false)
or_none true = refl
or_none false = refl

or_first : (a b c : Bool) → ((a || b) || c) ≡ (a || (b || c))
or_first true b c = refl
or_first false b c = refl

-- a local that is there is added to no effect
there : (seen : List ℕ) (j k : ℕ) → list_any (λ i. i == j) seen ≡ true → list_any (λ i. i == k) seen ≡ (list_any (λ i. i == k) seen || (j == k))
there [] j k h = absurd cc
there (i ∷ seen) j k h = one (i == j) (list_any (λ i. i == j) seen) refl refl h (λ e. there seen j k e)
  where
    one : (a b : Bool) → (i == j) ≡ a → list_any (λ i. i == j) seen ≡ b → (a || b) ≡ true
        → (list_any (λ i. i == j) seen ≡ true → list_any (λ i. i == k) seen ≡ (list_any (λ i. i == k) seen || (j == k)))
        → ((i == k) || list_any (λ i. i == k) seen) ≡ (((i == k) || list_any (λ i. i == k) seen) || (j == k))
    one true b ea eb t more = same (i == k) (j == k) (list_any (λ i. i == k) seen) (it i j k ea)
      where
        it : (i j k : ℕ) → (i == j) ≡ true → (i == k) ≡ (j == k)
        it i j k e = grind (arith, nat_tests)

        same : (a c b : Bool) → a ≡ c → (a || b) ≡ ((a || b) || c)
        same true c b e = refl
        same false true b e = absurd cc
        same false false b e = or_none b
    one false true ea eb t more = ap (λ (x : Bool). (i == k) || x) (more eb) ∙ sym (or_first (i == k) (list_any (λ i. i == k) seen) (j == k))
    one false false ea eb t more = absurd cc

one_more : (seen : List ℕ) (j k : ℕ) → list_any (λ i. i == k) (with_local seen j) ≡ (list_any (λ i. i == k) seen || (j == k))
one_more seen j k = go (list_any (λ i. i == j) seen) refl
  where
    go : (b : Bool) → list_any (λ i. i == j) seen ≡ b → list_any (λ i. i == k) (if b then seen else seen ++ j ∷ []) ≡ (list_any (λ i. i == k) seen || (j == k))
    go true e = there seen j k e
    go false e = list_any-append (λ i. i == k) seen (j ∷ []) ∙ ap (λ (x : Bool). list_any (λ i. i == k) seen || x) (sym (or_none (j == k)))

pub any_distinct : (seen ks : List ℕ) (k : ℕ) → list_any (λ i. i == k) (distinct_behind seen ks) ≡ (list_any (λ i. i == k) seen || list_any (λ i. i == k) ks)
any_distinct seen [] k = or_none (list_any (λ i. i == k) seen)
any_distinct seen (j ∷ ks) k =
    any_distinct (with_local seen j) ks k
    ∙ ap (λ (x : Bool). x || list_any (λ i. i == k) ks) (one_more seen j k)
    ∙ or_first (list_any (λ i. i == k) seen) (j == k) (list_any (λ i. i == k) ks)

any_among : (f : Instr → Option ℕ) (is : List Instr) (k : ℕ) → list_any (λ i. i == k) (filter_map f is) ≡ list_any (λ i. is_it k (f i)) is
any_among f [] k = refl
any_among f (i ∷ is) k = one (f i) ∙ ap (λ (x : Bool). is_it k (f i) || x) (any_among f is k)
  where
    one : (o : Option ℕ) → list_any (λ i. i == k) (cons_option o (filter_map f is)) ≡ (is_it k o || list_any (λ i. i == k) (filter_map f is))
    one None = refl
    one (Some j) = refl

-- one of the instructions uses the local so
pub is_used : (u : Use) (is : List Instr) (k : ℕ) → list_any (λ j. j == k) (locals_used u is) ≡ list_any (λ i. is_it k (used u i)) is
is_used u is k = any_distinct [] (filter_map (used u) is) k ∙ any_among (used u) is k

pub is_stored_outside : (c : Code) (k : ℕ) → list_any (λ j. j == k) (locals_outside c) ≡ (lead_stores c k || rest_stores c k)
is_stored_outside c k =
    any_distinct (locals_used how.Stores (lead_code c)) (filter_map (used how.Stores) (rest_code c)) k
    ∙ ap (λ (x : Bool). x || list_any (λ j. j == k) (filter_map (used how.Stores) (rest_code c))) (is_used how.Stores (lead_code c) k)
    ∙ ap (λ (x : Bool). lead_stores c k || x) (any_among (used how.Stores) (rest_code c) k)

-- ---- the number of a local

number_is : (k : ℕ) (ks : List ℕ) → number_in k ks ≡ position_or_len (nat_eq k) ks
number_is k [] = refl
number_is k (j ∷ ks) =
    ap (λ (n : ℕ). if j == k then 0 else n + 1) (number_is k ks)
    ∙ one (j == k) (position_or_len (nat_eq k) ks)
    ∙ ap (λ (b : Bool). cond (not b) (1 + position_or_len (nat_eq k) ks) 0) (sym (turned k j))
  where
    one : (b : Bool) (n : ℕ) → (if b then 0 else n + 1) ≡ cond (not b) (1 + n) 0
    one true n = refl
    one false n = omega arith

within : (p : ℕ → Bool) (ks : List ℕ) → prefix_len p ks ≤ length ks
within p [] = omega arith
within p (k ∷ ks) = one (p k) (within p ks)
  where
    one : (b : Bool) → prefix_len p ks ≤ length ks → cond b (1 + prefix_len p ks) 0 ≤ suc (length ks)
    one true h = omega arith
    one false h = omega arith

pub number_found : (k n : ℕ) (ks : List ℕ) → position (nat_eq k) ks ≡ Some n → number_in k ks ≡ n
number_found k n ks e = number_is k ks ∙ go (nat_lt (position_or_len (nat_eq k) ks) (length ks)) e
  where
    go : (b : Bool) → cond b (Some (position_or_len (nat_eq k) ks)) None ≡ Some n → position_or_len (nat_eq k) ks ≡ n
    go true h = cc
    go false h = absurd cc

pub number_past : (k : ℕ) (ks : List ℕ) → position (nat_eq k) ks ≡ None → number_in k ks ≡ length ks
number_past k ks e = number_is k ks ∙ go (nat_lt (position_or_len (nat_eq k) ks) (length ks)) refl e
  where
    go : (b : Bool) → nat_lt (position_or_len (nat_eq k) ks) (length ks) ≡ b → cond b (Some (position_or_len (nat_eq k) ks)) None ≡ None → position_or_len (nat_eq k) ks ≡ length ks
    go true t h = absurd cc
    go false t h = all (position_or_len (nat_eq k) ks) (length ks) t (within (λ j. not (nat_eq k j)) ks)
      where
        all : (a b : ℕ) → nat_lt a b ≡ false → a ≤ b → a ≡ b
        all a b t h = grind (arith, nat_tests)

pub listed_more : (xs old new : List ℕ) (n x : ℕ) → n < length xs → x ≡ get_or xs n 0 → old ≡ take n xs → new ≡ old ++ x ∷ [] → new ≡ take (n + 1) xs
listed_more xs old new n x h e o m =
    m ∙ ap (λ (l : List ℕ). l ++ x ∷ []) o ∙ ap (λ (y : ℕ). take n xs ++ y ∷ []) e ∙ sym (take_more xs n 0 h)

read_or : (l : List ℕ) (k : ℕ) → unwrap_or (slice_get l k) 0 ≡ get_or l k 0
read_or [] k = refl
read_or (y ∷ l) zero = refl
read_or (y ∷ l) (suc k) = read_or l k

pub read_at : (xs ys : List ℕ) (n x : ℕ) (o : Option ℕ) → o ≡ slice_get ys n → ys ≡ xs → x ≡ unwrap_or o 0 → x ≡ get_or xs n 0
read_at xs ys n x o g e u = u ∙ ap (λ (q : Option ℕ). unwrap_or q 0) (g ∙ ap (λ (l : List ℕ). slice_get l n) e) ∙ read_or xs n
