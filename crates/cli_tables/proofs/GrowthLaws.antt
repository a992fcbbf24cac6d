-- Tables to which a row is appended, or in which a cell is written.
use Rattle.std.proofs.Common.{◌≡◌, ◌⊎◌, ℕ, zero, suc, ◌+◌, ◌-◌, ◌^◌, ◌<◌, ◌≤◌, Bool, true, false, cond, eqb, ◌&&◌, List, [], ◌∷◌, ◌++◌, length, get_or, take, set, Option, Some, None, refl, sym, ap, ◌∙◌, subst, inl, inr, arith, add-zero}
use Rattle.std.proofs.lemmas.List.{ext_get_or, take_at, length_push, set-get_or, get_or-set_same, get_or-set_other, get_or_past, get_or_push, get_or_append_left, get_or_read}
use Rattle.std.proofs.lemmas.Bool.{cases_lt, cases_eq, cases_order, eq-eqb, ne_eqb, and_parts, ltb-true}
use Rattle.std.proofs.lemmas.Option.{slice_get-get_or, slice_get_past}
use Rattle.std.specs.Prelude.{slice_get, Result, Ok, Err, OnOk, OnErr}
use Rattle.lane_cols.specs.Places.{places, places_from}
use Rattle.lane_cols.proofs.PlaceLaws.{all_places}
use Rattle.cli_tables.proofs.FitLaws.{some_limit}
use Rattle.cli_tables.specs.declared.schema.Column.{Column}
use Rattle.cli_tables.specs.declared.schema.Column.TheVariants.{U8, U16, U32, StringIndex, GuidIndex, BlobIndex, Row, FirstRow, Coded}
use Rattle.cli_tables.specs.Schema.{columns_of}
use Rattle.cli_tables.specs.Stream.{kind_of}
use Rattle.cli_tables.specs.Tables.{column_of, rows_of, cell_of, limit_of, IsShaped, IsRow, IsAppended, fits_row, fits_column}
use Rattle.cli_tables.specs.Growth.{IsPushed, IsPopped}

-- a number for each column of the table, and each fits
pub record FitsRow (table : ℕ) (cells : List ℕ) : Type 0 where
  pub is_read : 0 < length (columns_of table)
  pub all : length cells ≡ length (columns_of table)
  pub fits : (column : ℕ) → get_or cells column 0 < limit_of (kind_of table column)

row_all : (ks : List Column) (vs : List ℕ) → fits_row ks vs ≡ true → length vs ≡ length ks
row_all [] [] h = refl
row_all [] (v ∷ vs) h = absurd cc
row_all (k ∷ ks) [] h = absurd cc
row_all (k ∷ ks) (v ∷ vs) h = ap suc (row_all ks vs (and_parts (fits_column k v) (fits_row ks vs) h).1)

pub column_small : (k : Column) (v : ℕ) → fits_column k v ≡ true → v < 2 ^ 32 → v < limit_of k
column_small U8 v h small = ltb-true v (2 ^ 8) h
column_small U16 v h small = ltb-true v (2 ^ 16) h
column_small U32 v h small = small
column_small StringIndex v h small = small
column_small GuidIndex v h small = small
column_small BlobIndex v h small = small
column_small (Row t) v h small = small
column_small (FirstRow t) v h small = small
column_small (Coded k) v h small = small

row_small : (ks : List Column) (vs : List ℕ) (c : ℕ) → fits_row ks vs ≡ true → ((i : ℕ) → get_or vs i 0 < 2 ^ 32) → get_or vs c 0 < limit_of (get_or ks c U8)
row_small [] [] c h small = omega arith
row_small [] (v ∷ vs) c h small = absurd cc
row_small (k ∷ ks) [] c h small = absurd cc
row_small (k ∷ ks) (v ∷ vs) zero h small = column_small k v (and_parts (fits_column k v) (fits_row ks vs) h).0 (small 0)
row_small (k ∷ ks) (v ∷ vs) (suc c) h small = row_small ks vs c (and_parts (fits_column k v) (fits_row ks vs) h).1 (λ i. small (suc i))

pub row_is : (t : ℕ) (row : List ℕ) → IsRow t row → ((i : ℕ) → get_or row i 0 < 2 ^ 32) → FitsRow t row
row_is t row h small = record {
  is_read = h.is_read;
  all = row_all (columns_of t) row h.fits;
  fits = λ c. row_small (columns_of t) row c h.fits small;
}

-- the last number that was pushed is taken away again
pub undone : (old mid new : List (List ℕ)) (cells : List ℕ) (count : ℕ) → IsPushed old cells count mid → IsPopped mid count new → new ≡ old
undone old mid new cells count push pop =
    ext_get_or [] new old (pop.many ∙ push.many) (λ c lt. elim (cases_lt c count) [
      | inl less ↦ pop.popped c less ∙ ap (λ (l : List ℕ). take (length l - 1) l) (push.pushed c less) ∙ last (get_or old c []) (get_or cells c 0)
      | inr le ↦ pop.others c le ∙ push.others c le
    ])
  where
    last : (l : List ℕ) (v : ℕ) → take (length (l ++ v ∷ []) - 1) (l ++ v ∷ []) ≡ l
    last l v = take_at l (v ∷ []) (length (l ++ v ∷ []) - 1) (omega (arith, length_push l v))

-- the same, where the column whose push failed was written back
pub undone_at : (old mid new : List (List ℕ)) (cells : List ℕ) (k : ℕ) (x y : List ℕ) → IsPushed old cells k mid → x ≡ y → y ≡ get_or mid k y → IsPopped (set mid k x) k new → new ≡ old
undone_at old mid new cells k x y push same read pop =
    undone old mid new cells k push (subst (λ (l : List (List ℕ)). IsPopped l k new) (ap (λ (z : List ℕ). set mid k z) (same ∙ read) ∙ set-get_or mid k y) pop)

-- ---- tables

module _ (old : List (List (List ℕ))) (t : ℕ) (in_range : t < length old) (table : List (List ℕ)) where
  pub column_changed : (c : ℕ) → column_of (set old t table) t c ≡ get_or table c []
  column_changed c = ap (λ (cs : List (List ℕ)). get_or cs c []) (get_or-set_same old t table [] in_range)

  pub column_other : (u c : ℕ) → (u ≡ t → ⊥) → column_of (set old t table) u c ≡ column_of old u c
  column_other u c ne = ap (λ (cs : List (List ℕ)). get_or cs c []) (get_or-set_other old t u table [] ne)

-- a table with rows is among those that are kept
pub has_table_at : (old : List (List (List ℕ))) (t : ℕ) → IsShaped old → 0 < length (columns_of t) → t < length old
has_table_at old t shape some =
    elim (cases_lt t (length old)) [
      | inl lt ↦ lt
      | inr past ↦
          let e : length (get_or old t []) ≡ 0 = ap (λ (cs : List (List ℕ)). length cs) (get_or_past old t [] past) in
          absurd (omega (arith, e, shape.columns t, some))
    ]

pub cell_suc : (ts : List (List (List ℕ))) (t k c : ℕ) → cell_of ts t (suc k) c ≡ slice_get (column_of ts t c) k
cell_suc ts t k c =
    ap (λ (b : Bool). cond b None (slice_get (column_of ts t c) (suc k - 1))) (ne_eqb (suc k) 0 (λ z. absurd (omega (arith, z))))
    ∙ ap (λ (j : ℕ). slice_get (column_of ts t c) j) (omega arith)

get_pushed_before : (xs : List ℕ) (v k : ℕ) → k < length xs → slice_get (xs ++ v ∷ []) k ≡ slice_get xs k
get_pushed_before xs v k lt =
    slice_get-get_or (xs ++ v ∷ []) k 0 (omega (arith, length_push xs v)) ∙ ap (λ (x : ℕ). Some x) (get_or_append_left xs (v ∷ []) 0 k lt) ∙ sym (slice_get-get_or xs k 0 lt)

get_pushed_at : (xs : List ℕ) (v k : ℕ) → length xs ≡ k → slice_get (xs ++ v ∷ []) k ≡ Some v
get_pushed_at xs v k e = slice_get-get_or (xs ++ v ∷ []) k 0 (omega (arith, length_push xs v)) ∙ ap (λ (x : ℕ). Some x) (get_or_push xs v 0 k e)

get_pushed_past : (xs : List ℕ) (v k : ℕ) → length xs < k → slice_get (xs ++ v ∷ []) k ≡ slice_get xs k
get_pushed_past xs v k lt = slice_get_past (xs ++ v ∷ []) k (omega (arith, length_push xs v)) ∙ sym (slice_get_past xs k (omega arith))

no_column_old : (old : List (List (List ℕ))) (t c : ℕ) → IsShaped old → length (columns_of t) ≤ c → column_of old t c ≡ []
no_column_old old t c shape le = get_or_past (get_or old t []) c [] (omega (arith, le, shape.columns t))

module _ (old : List (List (List ℕ))) (t : ℕ) (shape : IsShaped old) (row : List ℕ) (is_row : FitsRow t row) (table : List (List ℕ)) (pushed : IsPushed (get_or old t []) row (length row) table) where
  in_old : t < length old
  in_old = has_table_at old t shape is_row.is_read

  one_more : (c : ℕ) → c < length (columns_of t) → column_of (set old t table) t c ≡ column_of old t c ++ get_or row c 0 ∷ []
  one_more c lt = column_changed old t in_old table c ∙ pushed.pushed c (omega (arith, is_row.all, lt))

  no_more : (c : ℕ) → length (columns_of t) ≤ c → column_of (set old t table) t c ≡ column_of old t c
  no_more c le = column_changed old t in_old table c ∙ pushed.others c (omega (arith, is_row.all, le))

  rows_same : (u : ℕ) → u ≡ t → rows_of (set old t table) u ≡ rows_of old t + 1
  rows_same u e = ap (λ (v : ℕ). rows_of (set old t table) v) e ∙ ap (λ (l : List ℕ). length l) (one_more 0 is_row.is_read) ∙ length_push (column_of old t 0) (get_or row 0 0)

  rows_other : (u : ℕ) → (u ≡ t → ⊥) → rows_of (set old t table) u ≡ rows_of old u
  rows_other u ne = ap (λ (l : List ℕ). length l) (column_other old t in_old table u 0 ne)

  appended_rows : (u : ℕ) → rows_of (set old t table) u ≡ rows_of old u + cond (eqb u t) 1 0
  appended_rows u = elim (cases_eq u t) [
    | inl e ↦ rows_same u e ∙ sym (ap (λ (b : Bool). rows_of old u + cond b 1 0) (eq-eqb u t e) ∙ ap (λ (v : ℕ). rows_of old v + 1) e)
    | inr ne ↦ rows_other u ne ∙ sym (ap (λ (b : Bool). rows_of old u + cond b 1 0) (ne_eqb u t ne) ∙ add-zero (rows_of old u))
  ]

  -- the cell of row k + 1 in the table that grew
  grown_cell : (k c : ℕ) → slice_get (column_of (set old t table) t c) k ≡ cond (eqb (suc k) (rows_of old t + 1)) (slice_get row c) (slice_get (column_of old t c) k)
  grown_cell k c = go (cases_lt c (length (columns_of t))) (cases_order k (rows_of old t))
    where
      no : (b : Bool) → b ≡ false → slice_get (column_of old t c) k ≡ cond b (slice_get row c) (slice_get (column_of old t c) k)
      no b e = sym (ap (λ (x : Bool). cond x (slice_get row c) (slice_get (column_of old t c) k)) e)

      yes : (b : Bool) → b ≡ true → slice_get row c ≡ cond b (slice_get row c) (slice_get (column_of old t c) k)
      yes b e = sym (ap (λ (x : Bool). cond x (slice_get row c) (slice_get (column_of old t c) k)) e)

      go : (c < length (columns_of t)) ⊎ (length (columns_of t) ≤ c) → (k ≡ rows_of old t) ⊎ ((k < rows_of old t) ⊎ (rows_of old t < k))
          → slice_get (column_of (set old t table) t c) k ≡ cond (eqb (suc k) (rows_of old t + 1)) (slice_get row c) (slice_get (column_of old t c) k)
      go (inl lt) (inl e) =
          ap (λ (l : List ℕ). slice_get l k) (one_more c lt) ∙ get_pushed_at (column_of old t c) (get_or row c 0) k (shape.rows t c lt ∙ sym e)
          ∙ sym (slice_get-get_or row c 0 (omega (arith, lt, is_row.all))) ∙ yes (eqb (suc k) (rows_of old t + 1)) (eq-eqb (suc k) (rows_of old t + 1) (omega (arith, e)))
      go (inl lt) (inr (inl less)) =
          ap (λ (l : List ℕ). slice_get l k) (one_more c lt) ∙ get_pushed_before (column_of old t c) (get_or row c 0) k (omega (arith, less, shape.rows t c lt))
          ∙ no (eqb (suc k) (rows_of old t + 1)) (ne_eqb (suc k) (rows_of old t + 1) (λ z. absurd (omega (arith, z, less))))
      go (inl lt) (inr (inr more)) =
          ap (λ (l : List ℕ). slice_get l k) (one_more c lt) ∙ get_pushed_past (column_of old t c) (get_or row c 0) k (omega (arith, more, shape.rows t c lt))
          ∙ no (eqb (suc k) (rows_of old t + 1)) (ne_eqb (suc k) (rows_of old t + 1) (λ z. absurd (omega (arith, z, more))))
      go (inr le) h = out (eqb (suc k) (rows_of old t + 1))
        where
          none_old : slice_get (column_of old t c) k ≡ None
          none_old = ap (λ (l : List ℕ). slice_get l k) (no_column_old old t c shape le)

          none_row : slice_get row c ≡ None
          none_row = slice_get_past row c (omega (arith, le, is_row.all))

          out : (b : Bool) → slice_get (column_of (set old t table) t c) k ≡ cond b (slice_get row c) (slice_get (column_of old t c) k)
          out true = ap (λ (l : List ℕ). slice_get l k) (no_more c le) ∙ none_old ∙ sym none_row
          out false = ap (λ (l : List ℕ). slice_get l k) (no_more c le)

  appended_cells : (u r c : ℕ) → cell_of (set old t table) u r c ≡ cond (eqb u t && eqb r (rows_of old t + 1)) (slice_get row c) (cell_of old u r c)
  appended_cells u r c = elim (cases_eq u t) [
    | inl e ↦ ap (λ (v : ℕ). cell_of (set old t table) v r c) e ∙ here r ∙ sym (ap (λ (b : Bool). cond (b && eqb r (rows_of old t + 1)) (slice_get row c) (cell_of old u r c)) (eq-eqb u t e) ∙ ap (λ (v : ℕ). cond (eqb r (rows_of old t + 1)) (slice_get row c) (cell_of old v r c)) e)
    | inr ne ↦ ap (λ (l : List ℕ). cond (eqb r 0) None (slice_get l (r - 1))) (column_other old t in_old table u c ne) ∙ sym (ap (λ (b : Bool). cond (b && eqb r (rows_of old t + 1)) (slice_get row c) (cell_of old u r c)) (ne_eqb u t ne))
  ]
    where
      here : (q : ℕ) → cell_of (set old t table) t q c ≡ cond (eqb q (rows_of old t + 1)) (slice_get row c) (cell_of old t q c)
      here zero = sym (ap (λ (b : Bool). cond b (slice_get row c) None) (ne_eqb 0 (rows_of old t + 1) (λ z. absurd (omega (arith, z)))))
      here (suc k) = cell_suc (set old t table) t k c ∙ grown_cell k c ∙ ap (λ (o : Option ℕ). cond (eqb (suc k) (rows_of old t + 1)) (slice_get row c) o) (sym (cell_suc old t k c))

  pub appended : IsAppended old t row (set old t table)
  appended = record { rows = appended_rows; cells = appended_cells }

  pushed_fits : (xs : List ℕ) (v k limit : ℕ) → 0 < limit → v < limit → get_or xs k 0 < limit → get_or (xs ++ v ∷ []) k 0 < limit
  pushed_fits xs v k limit some small old_fits = elim (cases_order k (length xs)) [
    | inl e ↦ subst (λ (n : ℕ). n < limit) (sym (get_or_push xs v 0 k (sym e))) small
    | inr o ↦ elim o [
      | inl less ↦ subst (λ (n : ℕ). n < limit) (sym (get_or_append_left xs (v ∷ []) 0 k less)) old_fits
      | inr more ↦ subst (λ (n : ℕ). n < limit) (sym (get_or_past (xs ++ v ∷ []) k 0 (omega (arith, more, length_push xs v)))) some
    ]
  ]

  here_fits : (c k : ℕ) → get_or (column_of (set old t table) t c) k 0 < limit_of (kind_of t c)
  here_fits c k = elim (cases_lt c (length (columns_of t))) [
    | inl lt ↦ subst (λ (l : List ℕ). get_or l k 0 < limit_of (kind_of t c)) (sym (one_more c lt)) (pushed_fits (column_of old t c) (get_or row c 0) k (limit_of (kind_of t c)) (some_limit (kind_of t c)) (is_row.fits c) (shape.fits t c k))
    | inr le ↦ subst (λ (l : List ℕ). get_or l k 0 < limit_of (kind_of t c)) (sym (no_more c le)) (shape.fits t c k)
  ]

  here_rows : (c : ℕ) → c < length (columns_of t) → length (column_of (set old t table) t c) ≡ rows_of (set old t table) t
  here_rows c lt =
      ap (λ (l : List ℕ). length l) (one_more c lt) ∙ length_push (column_of old t c) (get_or row c 0) ∙ ap (λ (n : ℕ). n + 1) (shape.rows t c lt) ∙ sym (rows_same t refl)

  pub appended_shape : rows_of old t + 1 < 2 ^ 32 → IsShaped (set old t table)
  appended_shape few = record {
    columns = λ u. elim (cases_eq u t) [
      | inl e ↦ subst (λ (v : ℕ). length (get_or (set old t table) v []) ≡ length (columns_of v)) (sym e) (ap (λ (cs : List (List ℕ)). length cs) (get_or-set_same old t table [] in_old) ∙ pushed.many ∙ shape.columns t)
      | inr ne ↦ ap (λ (cs : List (List ℕ)). length cs) (get_or-set_other old t u table [] ne) ∙ shape.columns u
    ];
    rows = λ u c lt. elim (cases_eq u t) [
      | inl e ↦ subst (λ (v : ℕ). length (column_of (set old t table) v c) ≡ rows_of (set old t table) v) (sym e) (here_rows c (subst (λ (v : ℕ). c < length (columns_of v)) e lt))
      | inr ne ↦ ap (λ (l : List ℕ). length l) (column_other old t in_old table u c ne) ∙ shape.rows u c lt ∙ sym (rows_other u ne)
    ];
    few = λ u. elim (cases_eq u t) [
      | inl e ↦ omega (arith, rows_same u e, few)
      | inr ne ↦ omega (arith, rows_other u ne, shape.few u)
    ];
    fits = λ u c k. elim (cases_eq u t) [
      | inl e ↦ subst (λ (v : ℕ). get_or (column_of (set old t table) v c) k 0 < limit_of (kind_of v c)) (sym e) (here_fits c k)
      | inr ne ↦ subst (λ (l : List ℕ). get_or l k 0 < limit_of (kind_of u c)) (sym (column_other old t in_old table u c ne)) (shape.fits u c k)
    ];
  }

-- the table at its place, at any default
pub read_back : (old : List (List (List ℕ))) (t : ℕ) (y : List (List ℕ)) → t < length old → y ≡ get_or old t y → y ≡ get_or old t []
read_back old t y lt e = get_or_read old t y lt e []

pub pushed_shape : {T E : Type 0} (r : Result T E) (old : List (List (List ℕ))) (t : ℕ) (row : List ℕ) (y new : List (List ℕ)) → IsShaped old → FitsRow t row → rows_of old t + 1 < 2 ^ 32 → y ≡ get_or old t y
    → OnOk r (IsPushed y row (length row) new) → OnErr r (new ≡ y) → IsShaped (set old t new)
pushed_shape (Ok u) old t row y new shape is_row few read ok err =
    appended_shape old t shape row is_row new (subst (λ (z : List (List ℕ)). IsPushed z row (length row) new) (read_back old t y (has_table_at old t shape is_row.is_read) read) ok) few
pushed_shape (Err e) old t row y new shape is_row few read ok err = subst IsShaped (sym (ap (λ (z : List (List ℕ)). set old t z) (err ∙ read) ∙ set-get_or old t y)) shape

pub pushed_table : {T E : Type 0} (r : Result T E) (old : List (List (List ℕ))) (t : ℕ) (row : List ℕ) (y new : List (List ℕ)) → IsShaped old → FitsRow t row → y ≡ get_or old t y
    → OnOk r (IsPushed y row (length row) new) → OnOk r (IsAppended old t row (set old t new))
pushed_table (Ok u) old t row y new shape is_row read ok =
    appended old t shape row is_row new (subst (λ (z : List (List ℕ)). IsPushed z row (length row) new) (read_back old t y (has_table_at old t shape is_row.is_read) read) ok)
pushed_table (Err e) old t row y new shape is_row read ok = tt

-- there is a number for each column of the table
pub one_each : (old : List (List (List ℕ))) (t : ℕ) (row : List ℕ) (y : List (List ℕ)) → IsShaped old → FitsRow t row → y ≡ get_or old t y → length row ≡ length y
one_each old t row y shape is_row read =
    is_row.all ∙ sym (shape.columns t) ∙ sym (ap (λ (cs : List (List ℕ)). length cs) (read_back old t y (has_table_at old t shape is_row.is_read) read))

-- ---- rows that hold a number

place_below : (at v : ℕ) (xs : List ℕ) (k : ℕ) → k < length (places_from at v xs) → get_or (places_from at v xs) k 0 < at + length xs
place_below at v [] k lt = absurd (omega arith)
place_below at v (x ∷ xs) k lt = go (λ j l. place_below (at + 1) v xs j l) (eqb x v) k lt
  where
    go : ((j : ℕ) → j < length (places_from (at + 1) v xs) → get_or (places_from (at + 1) v xs) j 0 < (at + 1) + length xs) → (b : Bool) (j : ℕ)
        → j < length (cond b (at ∷ places_from (at + 1) v xs) (places_from (at + 1) v xs)) → get_or (cond b (at ∷ places_from (at + 1) v xs) (places_from (at + 1) v xs)) j 0 < at + suc (length xs)
    go rest true zero l = omega arith
    go rest true (suc j) l = let e = rest j (omega arith) in omega (arith, e)
    go rest false j l = let e = rest j l in omega (arith, e)

pub row_below : (v : ℕ) (xs : List ℕ) (k : ℕ) → k < length (places v xs) → get_or (places v xs) k 0 < length xs
row_below v xs k lt = subst (λ (l : List ℕ). k < length l → get_or l k 0 < length xs) (all_places v xs) (λ l. let e = place_below 0 v xs k l in omega (arith, e)) lt

-- a row number fits its type
pub row_fits : (tables : List (List (List ℕ))) (t c v k : ℕ) (column found out : List ℕ) → IsShaped tables → c < length (columns_of t) → column ≡ column_of tables t c → found ≡ places v column → out ≡ found → k < length out → get_or out k 0 + 1 < 2 ^ 32
row_fits tables t c v k column found out shape lt e f g less =
    let all : out ≡ places v (column_of tables t c) = g ∙ f ∙ ap (places v) e in
    let at : get_or (places v (column_of tables t c)) k 0 < length (column_of tables t c) = row_below v (column_of tables t c) k (subst (λ (l : List ℕ). k < length l) all less) in
    let same : get_or out k 0 ≡ get_or (places v (column_of tables t c)) k 0 = ap (λ (l : List ℕ). get_or l k 0) all in
    omega (arith, at, same, shape.rows t c lt, shape.few t)
