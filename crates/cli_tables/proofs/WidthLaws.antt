-- Tables that were read fit the widths in which they are written again.
use Rattle.std.proofs.Common.{◌≡◌, ◌⊎◌, ℕ, zero, suc, ◌+◌, ◌-◌, ◌*◌, ◌/◌, ◌%◌, ◌^◌, ◌<◌, ◌≤◌, eqb, ltb, leb, ◌&&◌, ◌||◌, not, Bool, true, false, cond, List, [], ◌∷◌, ◌++◌, length, get_or, take, drop, map, replicate, Option, Some, None, refl, sym, ap, ◌∙◌, subst, inl, inr, arith}
use Rattle.std.specs.Prelude.{slice_get, is_some}
use Rattle.std.specs.List.{list_all, range_with_len}
use Rattle.std.proofs.lemmas.List.{drop_all, length-append}
use Rattle.std.proofs.lemmas.List.FromFn.{fill_by_all, length-map-range_with_len}
use Rattle.std.proofs.lemmas.Bool.{cases_lt, cases_Bool, and_parts, eqb-true, leb-true, ltb-true, ltb-false, lt-ltb, ne_eqb}
use Rattle.cil_base.specs.Numbers.{num}
use Rattle.cil_base.specs.Packed.{packed_at}
use Rattle.cil_base.specs.Refusals.{NoneBroken}
use Rattle.cli_heaps.specs.Root.{strings, blobs, guids}
use Rattle.cli_heaps.specs.Entries.{until_zero, string_at, bytes_at, counted_at, blob_at, is_guid_index}
use Rattle.heap_writer.specs.Growth.{HeapGrowths}
use Rattle.cil_base.specs.Bytes.{padded}
use Rattle.cli_tables.specs.declared.schema.Column.{Column}
use Rattle.cli_tables.specs.declared.schema.Column.TheVariants.{U8, U16, U32, StringIndex, GuidIndex, BlobIndex, Row, FirstRow, Coded}
use Rattle.cli_tables.specs.declared.sizes.Sizes.{Sizes}
use Rattle.cli_tables.specs.Schema.{columns_of, coded_tables, tag_bits}
use Rattle.cli_tables.specs.Stream.{count_of, sizes_of, counts_in, row_count, index_width, has_few, width_of, row_width, offset_of, kind_of, bytes_below, rows_start, cell}
use Rattle.cli_tables.specs.Layout.{tables_in}
use Rattle.cli_tables.specs.TableRules.{names_nothing, naming_rule, Broken}
use Rattle.cli_tables.specs.Tables.{column_of, rows_of, rows_in, cell_of, limit_of, IsShaped, IsAppended, AreIn}
use Rattle.cli_tables.specs.Written.{counts_to, is_many, is_index, sizes_to, column_fits, table_fits, indexes_fit, cell_fits, row_fits, Grows}
use Rattle.cli_tables.proofs.FitLaws.{AreBytes, num_fits, column_fits as fits_limit}
use Rattle.cli_tables.proofs.WrittenLaws.{past_fits, all_fit}
use Rattle.cli_tables.proofs.ShapeLaws.{rows_read, cell_in_table}
use Rattle.cli_tables.proofs.PieceLaws.{all_below, all_range}
use Rattle.cli_tables.proofs.GrowthLaws.{cell_suc}
use Rattle.std.proofs.lemmas.Option.{slice_get-get_or}
use Rattle.std.proofs.Math.Nat.{pow-le-pow_right}

-- ---- places of entries

taken : (b : Bool) (x : List ℕ) → is_some (cond b (Some x) None) ≡ true → b ≡ true
taken true x h = refl
taken false x h = absurd cc

nonzero : (v : ℕ) → eqb (suc v) 0 ≡ false
nonzero v = ne_eqb (suc v) 0 (λ z. absurd (omega (arith, z)))

string_within : (heap : List ℕ) (v : ℕ) → is_some (string_at heap v) ≡ true → v ≤ length heap
string_within heap zero h = omega arith
string_within heap (suc v) h = elim (cases_lt (length heap) (suc v)) [
  | inl lt ↦ absurd (apart (sym h ∙ ap (λ (b : Bool). is_some (cond b (Some []) (until_zero (drop (suc v) heap)))) (nonzero v) ∙ ap (λ (l : List ℕ). is_some (until_zero l)) (drop_all (suc v) heap (omega (arith, lt)))))
  | inr le ↦ le
]
  where
    apart : true ≡ false → ⊥
    apart e = cc

blob_within : (heap : List ℕ) (v : ℕ) → is_some (blob_at heap v) ≡ true → v ≤ length heap
blob_within heap zero h = omega arith
blob_within heap (suc v) h = go (packed_at heap (suc v)) (sym (ap (λ (b : Bool). is_some (cond b (Some []) (counted_at heap (suc v) (packed_at heap (suc v))))) (nonzero v)) ∙ h)
  where
    go : (o : Option (ℕ × ℕ)) → is_some (counted_at heap (suc v) o) ≡ true → suc v ≤ length heap
    go None e = absurd cc
    go (Some (n, w)) e = omega (arith, leb-true (suc v + w + n) (length heap) (taken (leb (suc v + w + n) (length heap)) (take n (drop (suc v + w) heap)) e))

guid_within : (heap : List ℕ) (v : ℕ) → is_guid_index heap v ≡ true → v ≤ length heap / 16
guid_within heap zero h = omega arith
guid_within heap (suc v) h =
    omega (arith, leb-true (16 * (suc v - 1) + 16) (length heap) (taken (leb (16 * (suc v - 1) + 16) (length heap)) (take 16 (drop (16 * (suc v - 1)) heap)) (sym (ap (λ (b : Bool). b || is_some (cond b None (bytes_at heap (16 * (suc v - 1)) 16))) (nonzero v)) ∙ h)))

-- ---- widths

-- a place is below 2^16, or the index is wide
place_fits : (v n : ℕ) → v ≤ n → v < 2 ^ 32 → v < 256 ^ index_width (not (is_many n))
place_fits v n le small = go (is_many n) refl
  where
    go : (b : Bool) → is_many n ≡ b → v < 256 ^ index_width (not b)
    go true e = small
    go false e = omega (arith, le, ltb-false (2 ^ 16 - 1) n e)

longer : (heap added : List ℕ) → length heap ≤ length (padded 4 (heap ++ added))
longer heap added =
    omega (arith, length-append heap added, length-append (heap ++ added) (replicate ((4 - length (heap ++ added) % 4) % 4) 0))

some_not : (b : Bool) → not b ≡ false → b ≡ true
some_not true h = refl
some_not false h = absurd cc

few_same : (s z : Sizes) (bits : ℕ) (os : List (Option ℕ)) → s.counts ≡ z.counts → list_all (has_few s bits) os ≡ list_all (has_few z bits) os
few_same s z bits [] e = refl
few_same s z bits (None ∷ os) e = few_same s z bits os e
few_same s z bits (Some t ∷ os) e =
    ap (λ (l : List ℕ). ltb (get_or l t 0) (2 ^ (16 - bits)) && list_all (has_few s bits) os) e ∙ ap (λ (b : Bool). ltb (get_or z.counts t 0) (2 ^ (16 - bits)) && b) (few_same s z bits os e)

-- the number in a column that names something
index_fits : (meta stream : List ℕ) (grown : HeapGrowths) (ts : List (List (List ℕ))) (at : ℕ) (k : Column) → counts_to ts ≡ counts_in stream → AreBytes stream
    → names_nothing meta (sizes_of stream) k (num stream at (width_of (sizes_of stream) k)) ≡ false → num stream at (width_of (sizes_of stream) k) < limit_of k
    → num stream at (width_of (sizes_of stream) k) < 256 ^ width_of (sizes_to meta grown ts) k
index_fits meta stream grown ts at U8 same h named small = small
index_fits meta stream grown ts at U16 same h named small = small
index_fits meta stream grown ts at U32 same h named small = small
index_fits meta stream grown ts at StringIndex same h named small =
    let le = string_within (strings meta) (num stream at (width_of (sizes_of stream) StringIndex)) (some_not (is_some (string_at (strings meta) (num stream at (width_of (sizes_of stream) StringIndex)))) named) in
    place_fits (num stream at (width_of (sizes_of stream) StringIndex)) (length (padded 4 (strings meta ++ grown.strings.added))) (omega (arith, le, longer (strings meta) grown.strings.added)) small
index_fits meta stream grown ts at GuidIndex same h named small =
    place_fits (num stream at (width_of (sizes_of stream) GuidIndex)) (length (guids meta) / 16)
    (guid_within (guids meta) (num stream at (width_of (sizes_of stream) GuidIndex)) (some_not (is_guid_index (guids meta) (num stream at (width_of (sizes_of stream) GuidIndex))) named)) small
index_fits meta stream grown ts at BlobIndex same h named small =
    let le = blob_within (blobs meta) (num stream at (width_of (sizes_of stream) BlobIndex)) (some_not (is_some (blob_at (blobs meta) (num stream at (width_of (sizes_of stream) BlobIndex)))) named) in
    place_fits (num stream at (width_of (sizes_of stream) BlobIndex)) (length (padded 4 (blobs meta ++ grown.blobs.added))) (omega (arith, le, longer (blobs meta) grown.blobs.added)) small
index_fits meta stream grown ts at (Row t) same h named small =
    subst (λ (l : List ℕ). num stream at (width_of (sizes_of stream) (Row t)) < 256 ^ index_width (ltb (get_or l t 0) (2 ^ (16 - 0)))) (sym same) (num_fits stream at (width_of (sizes_of stream) (Row t)) h)
index_fits meta stream grown ts at (FirstRow t) same h named small =
    subst (λ (l : List ℕ). num stream at (width_of (sizes_of stream) (FirstRow t)) < 256 ^ index_width (ltb (get_or l t 0) (2 ^ (16 - 0)))) (sym same) (num_fits stream at (width_of (sizes_of stream) (FirstRow t)) h)
index_fits meta stream grown ts at (Coded k) same h named small =
    subst (λ (b : Bool). num stream at (width_of (sizes_of stream) (Coded k)) < 256 ^ index_width b) (sym (few_same (sizes_to meta grown ts) (sizes_of stream) (tag_bits k) (coded_tables k) same))
    (num_fits stream at (width_of (sizes_of stream) (Coded k)) h)

-- ---- tables

each_range : (p : ℕ → Bool) (a n : ℕ) → ((k : ℕ) → a ≤ k → k < a + n → p k ≡ true) → list_all p (range_with_len a n) ≡ true
each_range p a zero h = refl
each_range p a (suc n) h =
    ap (λ (b : Bool). b && list_all p (range_with_len (a + 1) n)) (h a (omega arith) (omega arith)) ∙ each_range p (a + 1) n (λ k le lt. h k (omega (arith, le)) (omega (arith, lt)))

same_counts : (stream : List ℕ) (ts : List (List (List ℕ))) → AreIn stream ts → counts_to ts ≡ counts_in stream
unfolding counts_to counts_in
same_counts stream ts h = sym (fill_by_all (rows_of ts) (map (row_count stream) (range_with_len 0 64)) 64 0 (length-map-range_with_len (row_count stream) 0 64) (λ k lt. sym (in_counts k)))
  where
    in_counts : (k : ℕ) → rows_of ts k ≡ get_or (map (row_count stream) (range_with_len 0 64)) k 0
    in_counts k = h.rows k

-- the tables of a stream that breaks no rule
module _ (meta stream : List ℕ) (a : ℕ) (grown : HeapGrowths) (ts : List (List (List ℕ))) (none : NoneBroken (Broken meta stream a)) (bytes : AreBytes stream) (read : ts ≡ tables_in stream) (are : AreIn stream ts) where
  names : (t c k : ℕ) → c < length (columns_of t) → k < rows_in stream t → names_nothing meta (sizes_of stream) (kind_of t c) (cell stream t (k + 1) c) ≡ false
  names t c k lt below = elim (cases_Bool (names_nothing meta (sizes_of stream) (kind_of t c) (cell stream t (k + 1) c))) [
    | inl e ↦ absurd (none (record { rule = naming_rule (kind_of t c); assembly = a; table = t; row = k + 1; at = c })
        (record { assembly_is = refl; place = (omega arith, omega (arith, below), lt); breaks = inr (inl (refl, e)) }))
    | inr e ↦ e
  ]

  number_fits : (t c k : ℕ) → c < length (columns_of t) → k < rows_in stream t → get_or (column_of ts t c) k 0 < 256 ^ width_of (sizes_to meta grown ts) (kind_of t c)
  number_fits t c k lt below =
      let here : get_or (column_of ts t c) k 0 ≡ cell stream t (k + 1) c = ap (λ (l : List (List (List ℕ))). get_or (column_of l t c) k 0) read ∙ cell_in_table stream t c k lt below in
      subst (λ (v : ℕ). v < 256 ^ width_of (sizes_to meta grown ts) (kind_of t c)) (sym here)
      (index_fits meta stream grown ts (rows_start stream + bytes_below (sizes_of stream) t + (k + 1 - 1) * row_width (sizes_of stream) t + offset_of (sizes_of stream) t c) (kind_of t c)
      (same_counts stream ts are) bytes (names t c k lt below)
      (fits_limit stream (rows_start stream + bytes_below (sizes_of stream) t + (k + 1 - 1) * row_width (sizes_of stream) t + offset_of (sizes_of stream) t c) (sizes_of stream) (kind_of t c) bytes))

  column_is : (t c : ℕ) → c < length (columns_of t) → column_fits (sizes_to meta grown ts) ts t c ≡ true
  column_is t c lt = either (not (is_index (kind_of t c))) (list_all (λ (v : ℕ). ltb v (256 ^ width_of (sizes_to meta grown ts) (kind_of t c))) (column_of ts t c))
      (all_below (column_of ts t c) (256 ^ width_of (sizes_to meta grown ts) (kind_of t c)) (λ k. elim (cases_lt k (length (column_of ts t c))) [
        | inl below ↦ number_fits t c k lt (omega (arith, below, ap (λ (l : List (List (List ℕ))). length (column_of l t c)) read, rows_read stream t c lt))
        | inr past ↦ past_fits (sizes_to meta grown ts) ts t c k past
      ]))
    where
      either : (x y : Bool) → y ≡ true → (x || y) ≡ true
      either true y e = refl
      either false y e = e

  pub read_fits : indexes_fit (sizes_to meta grown ts) ts ≡ true
  unfolding indexes_fit
  read_fits = each_range (table_fits (sizes_to meta grown ts) ts) 0 45 (λ t _ _. each_range (column_fits (sizes_to meta grown ts) ts t) 0 (length (columns_of t)) (λ c _ lt. column_is t c (omega (arith, lt))))

-- ---- a row more, in sizes that may have grown

narrower : (p q : Bool) → (q ≡ true → p ≡ true) → index_width p ≤ index_width q
narrower true true h = omega arith
narrower true false h = omega arith
narrower false true h = absurd (apart (h refl))
  where
    apart : false ≡ true → ⊥
    apart e = cc
narrower false false h = omega arith

turned : (p q : Bool) → (p ≡ true → q ≡ true) → not q ≡ true → not p ≡ true
turned true true h e = absurd cc
turned true false h e = absurd (apart (h refl))
  where
    apart : false ≡ true → ⊥
    apart f = cc
turned false q h e = refl

few_before : (s z : Sizes) (bits : ℕ) → Grows s z → (o : Option ℕ) → has_few z bits o ≡ true → has_few s bits o ≡ true
few_before s z bits g None e = refl
few_before s z bits g (Some t) e = lt-ltb (count_of s t) (2 ^ (16 - bits)) (omega (arith, g.counts t, ltb-true (count_of z t) (2 ^ (16 - bits)) e))

all_few : (s z : Sizes) (bits : ℕ) → Grows s z → (os : List (Option ℕ)) → list_all (has_few z bits) os ≡ true → list_all (has_few s bits) os ≡ true
all_few s z bits g [] e = refl
all_few s z bits g (o ∷ os) e =
    let both = and_parts (has_few z bits o) (list_all (has_few z bits) os) e in
    ap (λ (b : Bool). b && list_all (has_few s bits) os) (few_before s z bits g o both.0) ∙ all_few s z bits g os both.1

width_grows : (s z : Sizes) → Grows s z → (k : Column) → width_of s k ≤ width_of z k
width_grows s z g U8 = omega arith
width_grows s z g U16 = omega arith
width_grows s z g U32 = omega arith
width_grows s z g StringIndex = narrower (not s.wide_strings) (not z.wide_strings) (turned s.wide_strings z.wide_strings g.strings)
width_grows s z g GuidIndex = narrower (not s.wide_guids) (not z.wide_guids) (turned s.wide_guids z.wide_guids g.guids)
width_grows s z g BlobIndex = narrower (not s.wide_blobs) (not z.wide_blobs) (turned s.wide_blobs z.wide_blobs g.blobs)
width_grows s z g (Row t) = narrower (has_few s 0 (Some t)) (has_few z 0 (Some t)) (few_before s z 0 g (Some t))
width_grows s z g (FirstRow t) = narrower (has_few s 0 (Some t)) (has_few z 0 (Some t)) (few_before s z 0 g (Some t))
width_grows s z g (Coded k) = narrower (list_all (has_few s (tag_bits k)) (coded_tables k)) (list_all (has_few z (tag_bits k)) (coded_tables k)) (all_few s z (tag_bits k) g (coded_tables k))

slice_value : (l : List ℕ) (k x : ℕ) → slice_get l k ≡ Some x → get_or l k 0 ≡ x
slice_value [] k x e = absurd cc
slice_value (y ∷ ys) zero x e = cc
slice_value (y ∷ ys) (suc k) x e = slice_value ys k x e

module _ (s z : Sizes) (old new : List (List (List ℕ))) (table : ℕ) (row : List ℕ) (shape : IsShaped old) (more : IsAppended old table row new) (grows : Grows s z) (fit : indexes_fit s old ≡ true) (row_fit : row_fits z table row ≡ true) where
  old_fits : (t c k : ℕ) → get_or (column_of old t c) k 0 < 256 ^ width_of z (kind_of t c)
  old_fits t c k =
      let le : 256 ^ width_of s (kind_of t c) ≤ 256 ^ width_of z (kind_of t c) = pow-le-pow_right {n = 256} (omega arith) {i = width_of s (kind_of t c)} {j = width_of z (kind_of t c)} (width_grows s z grows (kind_of t c)) in
      omega (arith, le, all_fit s old t c k shape fit)

  row_fits_at : (c : ℕ) → c < length (columns_of table) → is_index (kind_of table c) ≡ true → get_or row c 0 < 256 ^ width_of z (kind_of table c)
  row_fits_at c lt index =
      ltb-true (get_or row c 0) (256 ^ width_of z (kind_of table c))
      (sym (ap (λ (b : Bool). not b || ltb (get_or row c 0) (256 ^ width_of z (kind_of table c))) index) ∙ all_range (cell_fits z table row) (length (columns_of table)) c row_fit lt)

  new_fits : (t c k : ℕ) → c < length (columns_of t) → is_index (kind_of t c) ≡ true → get_or (column_of new t c) k 0 < 256 ^ width_of z (kind_of t c)
  new_fits t c k lt index = elim (cases_lt k (length (column_of new t c))) [
    | inl below ↦ go (cases_Bool (eqb t table && eqb (suc k) (rows_of old table + 1)))
        (sym (cell_suc new t k c ∙ slice_get-get_or (column_of new t c) k 0 below) ∙ more.cells t (suc k) c)
    | inr past ↦ past_fits z new t c k past
  ]
    where
      go : ((eqb t table && eqb (suc k) (rows_of old table + 1)) ≡ true) ⊎ ((eqb t table && eqb (suc k) (rows_of old table + 1)) ≡ false)
          → Some (get_or (column_of new t c) k 0) ≡ cond (eqb t table && eqb (suc k) (rows_of old table + 1)) (slice_get row c) (cell_of old t (suc k) c)
          → get_or (column_of new t c) k 0 < 256 ^ width_of z (kind_of t c)
      go (inl e) f =
          let here : t ≡ table = eqb-true t table (and_parts (eqb t table) (eqb (suc k) (rows_of old table + 1)) e).0 in
          let value : get_or row c 0 ≡ get_or (column_of new t c) k 0 = slice_value row c (get_or (column_of new t c) k 0) (sym (f ∙ ap (λ (b : Bool). cond b (slice_get row c) (cell_of old t (suc k) c)) e)) in
          subst (λ (v : ℕ). v < 256 ^ width_of z (kind_of t c)) value
          (subst (λ (u : ℕ). get_or row c 0 < 256 ^ width_of z (kind_of u c)) (sym here)
          (row_fits_at c (subst (λ (u : ℕ). c < length (columns_of u)) here lt) (subst (λ (u : ℕ). is_index (kind_of u c) ≡ true) here index)))
      go (inr e) f =
          let value : get_or (column_of old t c) k 0 ≡ get_or (column_of new t c) k 0 =
          slice_value (column_of old t c) k (get_or (column_of new t c) k 0) (sym (f ∙ ap (λ (b : Bool). cond b (slice_get row c) (cell_of old t (suc k) c)) e ∙ cell_suc old t k c)) in
          subst (λ (v : ℕ). v < 256 ^ width_of z (kind_of t c)) value (old_fits t c k)

  pub still_fits : indexes_fit z new ≡ true
  unfolding indexes_fit
  still_fits = each_range (table_fits z new) 0 45 (λ t _ _. each_range (column_fits z new t) 0 (length (columns_of t)) (λ c _ lt. column t c (omega (arith, lt))))
    where
      either : (x y : Bool) → (x ≡ true → y ≡ true) → (not x || y) ≡ true
      either true y h = h refl
      either false y h = refl

      column : (t c : ℕ) → c < length (columns_of t) → column_fits z new t c ≡ true
      column t c lt = either (is_index (kind_of t c)) (list_all (λ (v : ℕ). ltb v (256 ^ width_of z (kind_of t c))) (column_of new t c))
          (λ index. all_below (column_of new t c) (256 ^ width_of z (kind_of t c)) (λ k. new_fits t c k lt index))
