-- Rows by number, one row more.
use Rattle.std.proofs.Common.{◌≡◌, ◌∙◌, sym, ap, subst, refl, arith, rules, ℕ, zero, suc, ◌+◌, ◌-◌, ◌≤◌, ◌<◌, List, [], ◌∷◌, ◌++◌, length, get_or, Bool, true, false, replicate}
use Rattle.std.specs.Prelude.{cond, map, set, filter, ◌==◌, nat_lt, Option, Some, None, Result, Ok, Err, IfOk, if◌then◌else◌}
use Rattle.std.specs.List.{range_with_len}
use Rattle.std.proofs.lemmas.List.{append_assoc, append-nil, map-id, get_or-set_same, get_or-set_other, get_or-replicate, length-replicate}
use Rattle.std.proofs.lemmas.List.FromFn.{map-range_with_len_more, filter_of_map_range_with_len_more}
use Rattle.std.proofs.lemmas.Bool.{eqb-true}
use Rattle.std.proofs.lemmas.List.FromFn.{get_or-map-range_with_len, length-map-range_with_len}
use Rattle.cil_base.specs.declared.tables.TheConstants.{TYPE_DEF}
use Rattle.set_rows.specs.Sets.{Assembly, count_in, rows_in, cell}
use Rattle.set_rows.specs.Owners.{AreOwners, if_row, row_in, owner}
use Rattle.row_descriptions.specs.RowLists.{AreListed, AreOwned, rows_under, rows_with, with_row, is_owner, owned}

pub one_more : {A : Type 0} (f : ℕ → A) (k : ℕ) (xs xs' : List A) (x : A) → xs' ≡ xs ++ x ∷ [] → x ≡ f (k + 1) → xs ≡ map f (range_with_len 1 k) → xs' ≡ map f (range_with_len 1 (k + 1))
one_more {A} f k xs xs' x e n h =
    e ∙ ap (λ (l : List A). l ++ x ∷ []) h ∙ ap (λ (o : A). map f (range_with_len 1 k) ++ o ∷ []) n
    ∙ sym (map-range_with_len_more f 1 k (k + 1) (omega arith))

-- one item more of a list over a range
pub item_on : {A : Type 0} (f : ℕ → A) (out out' : List A) (x : A) (row m n : ℕ) → m ≡ suc n → out' ≡ out ++ x ∷ [] → x ≡ f row → out' ++ map f (range_with_len (row + 1) n) ≡ out ++ map f (range_with_len row m)
item_on {A} f out out' x row m n e p q =
    ap (λ (l : List A). l ++ map f (range_with_len (row + 1) n)) p
    ∙ append_assoc out (x ∷ []) (map f (range_with_len (row + 1) n))
    ∙ ap (λ (y : A). out ++ y ∷ map f (range_with_len (row + 1) n)) q
    ∙ ap (λ (j : ℕ). out ++ map f (range_with_len row j)) (sym e)

pub filter_more : (test : ℕ → Bool) (n : ℕ) → filter test (range_with_len 1 (n + 1)) ≡ filter test (range_with_len 1 n) ++ cond (test (n + 1)) ((n + 1) ∷ []) []
filter_more test n =
    ap (filter test) (sym (map-id (range_with_len 1 (n + 1))))
    ∙ filter_of_map_range_with_len_more test (λ (r : ℕ). r) 1 n (n + 1) (omega arith)
    ∙ ap (λ (l : List ℕ). filter test l ++ cond (test (n + 1)) ((n + 1) ∷ []) []) (map-id (range_with_len 1 n))

-- tests that agree on the rows
pub filter_same : (f g : ℕ → Bool) (a n : ℕ) → ((r : ℕ) → a ≤ r → r < a + n → f r ≡ g r) → filter f (range_with_len a n) ≡ filter g (range_with_len a n)
filter_same f g a zero h = refl
filter_same f g a (suc n) h =
    ap (λ (b : Bool). cond b (a ∷ filter f (range_with_len (a + 1) n)) (filter f (range_with_len (a + 1) n))) (h a (omega arith) (omega arith))
    ∙ ap (λ (l : List ℕ). cond (g a) (a ∷ l) l) (filter_same f g (a + 1) n (λ r low high. h r (omega (arith, low)) (omega (arith, high))))

-- the rows so far
pub record Listed (numbers : List ℕ) (bound rows : ℕ) (lists : List (List ℕ)) : Type 0 where
  pub count : length lists ≡ bound
  pub items : (n : ℕ) → n < bound → get_or lists n [] ≡ filter (λ row. get_or numbers (row - 1) 0 == n) (range_with_len 1 rows)

pub listed_none : (numbers : List ℕ) (bound : ℕ) (lists : List (List ℕ)) → lists ≡ replicate bound [] → Listed numbers bound 0 lists
listed_none numbers bound lists e = record {
  count = ap length e ∙ length-replicate bound [];
  items = λ n within. ap (λ (l : List (List ℕ)). get_or l n []) e ∙ get_or-replicate bound n [] [] within;
}

length-set : {A : Type 0} (xs : List A) (i : ℕ) (a : A) → length (set xs i a) ≡ length xs
length-set xs i a = search rules

module _ (numbers : List ℕ) (bound k number : ℕ) (lists : List (List ℕ)) (is : number ≡ get_or numbers k 0) (so_far : Listed numbers bound k lists) where
  here : (k + 1) - 1 ≡ k
  here = omega arith

  number_at : get_or numbers ((k + 1) - 1) 0 ≡ number
  number_at = ap (λ (j : ℕ). get_or numbers j 0) here ∙ sym is

  differ : (n : ℕ) → (n ≡ number → ⊥) → (get_or numbers ((k + 1) - 1) 0 == n) ≡ false
  differ n other = go (get_or numbers ((k + 1) - 1) 0 == n) refl
    where
      go : (b : Bool) → (get_or numbers ((k + 1) - 1) 0 == n) ≡ b → (get_or numbers ((k + 1) - 1) 0 == n) ≡ false
      go true e = absurd (other (sym (eqb-true (get_or numbers ((k + 1) - 1) 0) n e) ∙ number_at))
      go false e = e

  agree : (n : ℕ) → n ≡ number → (get_or numbers ((k + 1) - 1) 0 == n) ≡ true
  agree n e = search (rules, number_at, e)

  -- the lists of the other numbers
  others : (n : ℕ) → n < bound → (n ≡ number → ⊥) → get_or lists n [] ≡ filter (λ row. get_or numbers (row - 1) 0 == n) (range_with_len 1 (k + 1))
  others n within other =
      so_far.items n within
      ∙ sym (append-nil (filter (λ row. get_or numbers (row - 1) 0 == n) (range_with_len 1 k)))
      ∙ sym (filter_more (λ row. get_or numbers (row - 1) 0 == n) k ∙ ap (λ (b : Bool). filter (λ row. get_or numbers (row - 1) 0 == n) (range_with_len 1 k) ++ cond b ((k + 1) ∷ []) []) (differ n other))

  pub listed_past : bound ≤ number → Listed numbers bound (k + 1) lists
  listed_past past = record { count = so_far.count; items = λ n within. others n within (λ e. omega (arith, past, within, e)) }

  pub listed_more : (lists' : List (List ℕ)) → number < bound → lists' ≡ set lists number (get_or lists number [] ++ (k + 1) ∷ []) → Listed numbers bound (k + 1) lists'
  listed_more lists' within e = record {
    count = ap length e ∙ length-set lists number (get_or lists number [] ++ (k + 1) ∷ []) ∙ so_far.count;
    items = λ n below. ap (λ (l : List (List ℕ)). get_or l n []) e ∙ go n below (n == number) refl;
  }
    where
      short : number < length lists
      short = omega (arith, within, so_far.count)

      unequal : (n : ℕ) → (n == number) ≡ false → n ≡ number → ⊥
      unequal n f g = search (rules, f, g)

      go : (n : ℕ) → n < bound → (b : Bool) → (n == number) ≡ b → get_or (set lists number (get_or lists number [] ++ (k + 1) ∷ [])) n [] ≡ filter (λ row. get_or numbers (row - 1) 0 == n) (range_with_len 1 (k + 1))
      go n below true f =
          let same : n ≡ number = eqb-true n number f in
          ap (λ (j : ℕ). get_or (set lists number (get_or lists number [] ++ (k + 1) ∷ [])) j []) same
          ∙ get_or-set_same lists number (get_or lists number [] ++ (k + 1) ∷ []) [] short
          ∙ ap (λ (j : ℕ). get_or lists j [] ++ (k + 1) ∷ []) (sym same)
          ∙ ap (λ (l : List ℕ). l ++ (k + 1) ∷ []) (so_far.items n below)
          ∙ sym (filter_more (λ row. get_or numbers (row - 1) 0 == n) k ∙ ap (λ (b : Bool). filter (λ row. get_or numbers (row - 1) 0 == n) (range_with_len 1 k) ++ cond b ((k + 1) ∷ []) []) (agree n same))
      go n below false f = get_or-set_other lists number n (get_or lists number [] ++ (k + 1) ∷ []) [] (unequal n f) ∙ others n below (unequal n f)

  lt_from : (a b : ℕ) → nat_lt a b ≡ true → a < b
  lt_from a b h = search (rules, h)

  le_from : (a b : ℕ) → nat_lt a b ≡ false → b ≤ a
  le_from a b h = search (rules, h)

  pub listed_step : (lists' : List (List ℕ)) → lists' ≡ with_row lists number (k + 1) → Listed numbers bound (k + 1) lists'
  listed_step lists' e = go (nat_lt number (length lists)) refl e
    where
      go : (b : Bool) → nat_lt number (length lists) ≡ b → lists' ≡ (if b then set lists number (get_or lists number [] ++ (k + 1) ∷ []) else lists) → Listed numbers bound (k + 1) lists'
      go true h f = let low : number < length lists = lt_from number (length lists) h in listed_more lists' (omega (arith, low, so_far.count)) f
      go false h f = let high : length lists ≤ number = le_from number (length lists) h in subst (λ l. Listed numbers bound (k + 1) l) (sym f) (listed_past (omega (arith, high, so_far.count)))

pub listed_all : (numbers : List ℕ) (bound k : ℕ) (lists : List (List ℕ)) → k ≡ length numbers → Listed numbers bound k lists → AreListed (rows_under numbers) bound lists
listed_all numbers bound k lists e l = record {
  count = l.count;
  items = λ n within. l.items n within ∙ ap (λ (j : ℕ). filter (λ row. get_or numbers (row - 1) 0 == n) (range_with_len 1 j)) e;
}

-- ---- the numbers of a column

pub under_with : (x : Assembly) (table column : ℕ) (numbers : List ℕ) (n : ℕ) → numbers ≡ map (λ row. cell x table row column) (rows_in x table) → rows_under numbers n ≡ rows_with x table column n
under_with x table column numbers n e =
    let count : length numbers ≡ count_in x table = ap length e ∙ length-map-range_with_len (λ row. cell x table row column) 1 (count_in x table) in
    ap (λ (j : ℕ). filter (λ row. get_or numbers (row - 1) 0 == n) (range_with_len 1 j)) count
    ∙ filter_same (λ row. get_or numbers (row - 1) 0 == n) (λ row. cell x table row column == n) 1 (count_in x table)
    (λ r low high.
    ap (λ (m : ℕ). m == n)
    (ap (λ (l : List ℕ). get_or l (r - 1) 0) e
    ∙ get_or-map-range_with_len (λ row. cell x table row column) 1 (count_in x table) (r - 1) r 0 (omega (arith, low, high)) (omega (arith, low))))

pub listed_as : {V E : Type 0} (items : V → List (List ℕ)) (result : Result V E) (f g : ℕ → List ℕ) (bound : ℕ) → ((n : ℕ) → f n ≡ g n) → IfOk result (λ v. AreListed f bound (items v)) → IfOk result (λ v. AreListed g bound (items v))
listed_as items (Ok v) f g bound h l = record { count = l.count; items = λ n within. l.items n within ∙ h n }
listed_as items (Err e) f g bound h l = tt

-- ---- the rows of owners

is_some_row : (g : ℕ) → 1 ≤ g → if_row g ≡ Some g
is_some_row g low = search (rules, low)

owner_test : (g row : ℕ) → 1 ≤ row → (g == row) ≡ is_owner row (if_row g)
owner_test zero row low = search (rules, low)
owner_test (suc g) row low = ap (is_owner row) (sym (is_some_row (suc g) (omega arith)))

in_rows : (owners : List ℕ) (k : ℕ) → 1 ≤ k → k ≤ length owners → row_in owners k ≡ if_row (get_or owners (k - 1) 0)
in_rows owners k low high = search (rules, low, high)

module _ (x : Assembly) (column table : ℕ) (owners : List ℕ) (o : AreOwners x column table owners) where
  under_owned : (row : ℕ) → 1 ≤ row → rows_under owners row ≡ owned x column table row
  under_owned row low =
      ap (λ (j : ℕ). filter (λ k. get_or owners (k - 1) 0 == row) (range_with_len 1 j)) o.count
      ∙ filter_same (λ k. get_or owners (k - 1) 0 == row) (λ k. is_owner row (owner x column table k)) 1 (count_in x table)
      (λ k from to.
      owner_test (get_or owners (k - 1) 0) row low
      ∙ ap (is_owner row) (sym (in_rows owners k from (omega (arith, to, o.count))) ∙ o.rows k))

  pub owned_listed : {V E : Type 0} (items : V → List (List ℕ)) (result : Result V E) (bound : ℕ) → bound ≡ count_in x TYPE_DEF + 1 → IfOk result (λ v. AreListed (rows_under owners) bound (items v)) → IfOk result (λ v. AreOwned x column table (items v))
  owned_listed items (Ok v) bound e l = λ row low high. l.items row (omega (arith, high, e)) ∙ under_owned row low
  owned_listed items (Err f) bound e l = tt
