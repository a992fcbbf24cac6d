-- Tables that are written, read back.
use Rattle.std.proofs.Common.{◌≡◌, ◌⊎◌, ℕ, zero, suc, ◌+◌, ◌-◌, ◌*◌, ◌/◌, ◌%◌, ◌^◌, ◌<◌, ◌≤◌, eqb, ltb, ◌&&◌, ◌||◌, not, Bool, true, false, cond, List, [], ◌∷◌, ◌++◌, length, get_or, take, drop, map, refl, sym, ap, ◌∙◌, subst, inl, inr, arith, add-one, append_assoc}
use Rattle.std.specs.Prelude.{sum_by, count_ones, Result, Ok, Err, IfOk, OnOk}
use Rattle.std.proofs.lemmas.Result.{IfOk-weaker}
use Rattle.std.specs.List.{list_all, range_with_len}
use Rattle.std.proofs.Math.Nat.{pow-suc}
use Rattle.std.proofs.lemmas.List.{append-nil, length-append, length-drop, length-take-le, take_all, get_or_past, nil_from_length}
use Rattle.std.proofs.lemmas.List.FromFn.{get_or-map-range_with_len, length-map-range_with_len}
use Rattle.std.proofs.lemmas.Bool.{cases_lt, cases_Bool, ltb-true, ltb-false, eq-eqb, ne_eqb}
use Rattle.cil_base.specs.Numbers.{num}
use Rattle.cil_base.specs.declared.refusal.Refusal.{Refusal}
use Rattle.cil_base.specs.declared.refusal.Fault.{Fault}
use Rattle.cil_base.specs.declared.refusal.Fault.TheVariants.{Refused, Memory}
use Rattle.cil_base.specs.Refusals.{NoneBroken, Fails, OnRefused, OnMemory}
use Rattle.cli_heaps.specs.Root as root
use Rattle.heap_writer.specs.Growth.{HeapGrowths}
use Rattle.cil_base.specs.Bytes.{IsAt, number_bytes, zeros, padding, padded}
use Rattle.cil_base.proofs.PieceLaws.{at_first, at_last, at_in, at_moved, at_equal, at_within, at_number, at_byte, part_at, length_number, length_padded}
use Rattle.heap_writer.specs.Written.{parts, written_root, IsWritten, limit_tests, IsTooLong}
use Rattle.heap_writer.proofs.PieceLaws.{padded_word}
use Rattle.cli_tables.specs.declared.schema.Column.TheVariants.{U8, U16, U32, StringIndex, GuidIndex, BlobIndex, Row, FirstRow, Coded}
use Rattle.cli_tables.specs.declared.schema.Column.{Column}
use Rattle.cli_tables.specs.declared.sizes.Sizes.{Sizes}
use Rattle.cli_tables.specs.Schema.{columns_of}
use Rattle.cli_tables.specs.Stream.{has_bit, has_table, tables_below, row_count, rows_start, counts_in, sizes_of, count_of, width_of, row_width, offset_of, bytes_below, kind_of, cell_in}
use Rattle.cli_tables.specs.Layout.{row_end}
use Rattle.cli_tables.specs.TableRules.{has_unread, is_unread, is_one_assembly, HeaderBroken}
use Rattle.cli_tables.specs.Tables.{column_of, rows_of, rows_in, limit_of, IsShaped, AreIn}
use Rattle.cli_tables.specs.Written.{pieces, counts_to, has_rows, bits_of, heap_bits, header_bytes, count_bytes, cell_bytes, row_bytes, table_bytes, stream_to, Fit, Holds, is_index, column_fits, table_fits, indexes_fit, NoneFull, IsOverfull, AreOfOne, sizes_to, stream_in, size_to, unpadded_size, IsRefused}
use Rattle.cli_tables.proofs.StreamLaws.{byte_at, counts_all, start_ones}
use Rattle.cli_tables.proofs.LayoutLaws.{offset_more}
use Rattle.cli_tables.proofs.HeaderLaws.{none_range}
use Rattle.cli_tables.proofs.ShapeLaws.{no_columns, is_read, cells_match}
use Rattle.cli_tables.proofs.PieceLaws.{pieces_none, pieces_suc, at_piece, all_at, all_range, bits_small, bits_bit}

-- ---- counts

no_rows : (tables : List (List (List ℕ))) (t : ℕ) → IsShaped tables → length (columns_of t) ≡ 0 → rows_of tables t ≡ 0
no_rows tables t shape none =
    ap (λ (cs : List (List ℕ)). length (get_or cs 0 [])) (nil_from_length (get_or tables t []) (shape.columns t ∙ none))

pub rows_counted : (sizes : Sizes) (tables : List (List (List ℕ))) (t : ℕ) → IsShaped tables → Fit sizes tables → count_of sizes t ≡ rows_of tables t
unfolding counts_to
rows_counted sizes tables t shape fit = elim (cases_lt t 64) [
  | inl lt ↦ ap (λ (l : List ℕ). get_or l t 0) fit.counts ∙ get_or-map-range_with_len (rows_of tables) 0 64 t t 0 lt (omega arith)
  | inr past ↦
      ap (λ (l : List ℕ). get_or l t 0) fit.counts ∙ get_or_past (map (rows_of tables) (range_with_len 0 64)) t 0 (omega (arith, past, length-map-range_with_len (rows_of tables) 0 64))
      ∙ sym (no_rows tables t shape (ap (λ (ks : List Column). length ks) (no_columns t (omega (arith, past)))))
]

length_counts : (sizes : Sizes) (tables : List (List (List ℕ))) → Fit sizes tables → length sizes.counts ≡ 64
unfolding counts_to
length_counts sizes tables fit = ap (λ (l : List ℕ). length l) fit.counts ∙ length-map-range_with_len (rows_of tables) 0 64

-- ---- lengths of rows

length_cells : (s : Sizes) (t : ℕ) (columns : List (List ℕ)) (row n : ℕ) → n ≤ length (columns_of t) → length (pieces (cell_bytes s t columns row) n) ≡ offset_of s t n
length_cells s t columns row zero le = ap (λ (l : List ℕ). length l) (pieces_none (cell_bytes s t columns row))
length_cells s t columns row (suc n) le =
    let more : offset_of s t (suc n) ≡ offset_of s t n + width_of s (kind_of t n) = ap (offset_of s t) (sym (add-one n)) ∙ offset_more s t n (omega (arith, le)) in
    omega (
      arith,
      more,
      ap (λ (l : List ℕ). length l) (pieces_suc (cell_bytes s t columns row) n),
      length-append (pieces (cell_bytes s t columns row) n) (cell_bytes s t columns row n),
      length_cells s t columns row n (omega (arith, le)),
      length_number (width_of s (kind_of t n)) (get_or (get_or columns n []) row 0),
    )

length_row : (s : Sizes) (t : ℕ) (columns : List (List ℕ)) (row : ℕ) → length (row_bytes s t columns row) ≡ row_width s t
length_row s t columns row =
    length_cells s t columns row (length (columns_of t)) (omega arith)
    ∙ ap (λ (ks : List Column). sum_by (width_of s) ks) (take_all (length (columns_of t)) (columns_of t) (omega arith))

length_rows : (s : Sizes) (t : ℕ) (columns : List (List ℕ)) (n : ℕ) → length (pieces (row_bytes s t columns) n) ≡ n * row_width s t
length_rows s t columns zero = ap (λ (l : List ℕ). length l) (pieces_none (row_bytes s t columns)) ∙ omega arith
length_rows s t columns (suc n) =
    omega (
      arith,
      ap (λ (l : List ℕ). length l) (pieces_suc (row_bytes s t columns) n),
      length-append (pieces (row_bytes s t columns) n) (row_bytes s t columns n),
      length_rows s t columns n,
      length_row s t columns n,
    )

length_tables : (s : Sizes) (tables : List (List (List ℕ))) (n : ℕ) → length (pieces (table_bytes s tables) n) ≡ bytes_below s n
unfolding bytes_below
length_tables s tables zero = ap (λ (l : List ℕ). length l) (pieces_none (table_bytes s tables))
length_tables s tables (suc n) =
    omega (
      arith,
      ap (λ (l : List ℕ). length l) (pieces_suc (table_bytes s tables) n),
      length-append (pieces (table_bytes s tables) n) (table_bytes s tables n),
      length_tables s tables n,
      length_rows s n (get_or tables n []) (count_of s n),
    )

-- ---- HeapSizes

heap_bit : (a b c : Bool)
    → (has_bit (cond a 1 0 + cond b 2 0 + cond c 4 0) 0 ≡ a) × (has_bit (cond a 1 0 + cond b 2 0 + cond c 4 0) 1 ≡ b) × (has_bit (cond a 1 0 + cond b 2 0 + cond c 4 0) 2 ≡ c)
    × (not (eqb ((cond a 1 0 + cond b 2 0 + cond c 4 0) / 2 ^ 3) 0) ≡ false)
heap_bit true true true = (refl, refl, refl, refl)
heap_bit true true false = (refl, refl, refl, refl)
heap_bit true false true = (refl, refl, refl, refl)
heap_bit true false false = (refl, refl, refl, refl)
heap_bit false true true = (refl, refl, refl, refl)
heap_bit false true false = (refl, refl, refl, refl)
heap_bit false false true = (refl, refl, refl, refl)
heap_bit false false false = (refl, refl, refl, refl)

same_sizes : (s : Sizes) (counts : List ℕ) (a b c : Bool) → counts ≡ s.counts → a ≡ s.wide_strings → b ≡ s.wide_guids → c ≡ s.wide_blobs
    → record { counts = counts; wide_strings = a; wide_guids = b; wide_blobs = c } ≡ s
same_sizes s counts a b c e f g h =
    let made : List ℕ → Bool → Bool → Bool → Sizes = λ l x y z. record { counts = l; wide_strings = x; wide_guids = y; wide_blobs = z } in
    ap (λ (l : List ℕ). made l a b c) e ∙ ap (λ (x : Bool). made s.counts x b c) f ∙ ap (λ (x : Bool). made s.counts s.wide_strings x c) g ∙ ap (λ (x : Bool). made s.counts s.wide_strings s.wide_guids x) h

-- ---- the stream

at_padded : (bytes : List ℕ) → IsAt (padded 4 bytes) 0 bytes
at_padded bytes = at_first bytes (zeros (padding 4 (length bytes)))

stream_is : (old : List ℕ) (sizes : Sizes) (tables : List (List (List ℕ)))
    → stream_to old sizes tables ≡ padded 4 (header_bytes old sizes ++ pieces (count_bytes sizes) 64 ++ pieces (table_bytes sizes tables) 45)
unfolding stream_to
stream_is old sizes tables = refl

module _ (old : List ℕ) (sizes : Sizes) (tables : List (List (List ℕ))) (whole : 24 ≤ length old) (shape : IsShaped tables) (fit : Fit sizes tables) where
  abbrev stream : List ℕ
  stream = stream_to old sizes tables

  abbrev head : List ℕ
  head = header_bytes old sizes

  abbrev counts : List ℕ
  counts = pieces (count_bytes sizes) 64

  abbrev rows : List ℕ
  rows = pieces (table_bytes sizes tables) 45

  first_six : length (take 6 old) ≡ 6
  first_six = length-take-le 6 old (omega (arith, whole))

  last_eight : length (take 8 (drop 16 old)) ≡ 8
  last_eight = length-take-le 8 (drop 16 old) (omega (arith, whole, length-drop 16 old))

  length_head : length (header_bytes old sizes) ≡ 24
  unfolding header_bytes
  length_head =
      omega (
        arith,
        length-append (take 6 old) (heap_bits sizes ∷ get_or old 7 0 ∷ (number_bytes 8 (bits_of (has_rows sizes) 64) ++ take 8 (drop 16 old))),
        length-append (number_bytes 8 (bits_of (has_rows sizes) 64)) (take 8 (drop 16 old)),
        length_number 8 (bits_of (has_rows sizes) 64),
        first_six,
        last_eight,
      )

  front_at : IsAt stream 0 (head ++ counts)
  front_at =
      at_moved stream (head ++ counts) (0 + 0) 0
      (at_in stream (head ++ counts ++ rows) (head ++ counts) 0 0 (subst (λ (l : List ℕ). IsAt l 0 (head ++ counts ++ rows)) (sym (stream_is old sizes tables)) (at_padded (head ++ counts ++ rows))) (at_first (head ++ counts) rows))
      (omega arith)

  head_at : IsAt stream 0 head
  head_at = at_moved stream head (0 + 0) 0 (at_in stream (head ++ counts) head 0 0 front_at (at_first head counts)) (omega arith)

  counts_at : IsAt stream 24 counts
  counts_at = at_moved stream counts (0 + length head) 24 (at_in stream (head ++ counts) counts 0 (length head) front_at (at_last head counts)) (omega (arith, length_head))

  rows_at : IsAt stream (24 + length counts) rows
  rows_at =
      at_moved stream rows (0 + length (head ++ counts)) (24 + length counts)
      (at_in stream (head ++ counts ++ rows) rows 0 (length (head ++ counts)) (subst (λ (l : List ℕ). IsAt l 0 (head ++ counts ++ rows)) (sym (stream_is old sizes tables)) (at_padded (head ++ counts ++ rows))) (at_last (head ++ counts) rows))
      (omega (arith, length_head, length-append head counts))

  in_head : (p : List ℕ) (a : ℕ) → IsAt head a p → IsAt stream a p
  in_head p a x = at_moved stream p (0 + a) a (at_in stream head p 0 a head_at x) (omega arith)

  versions_at : IsAt stream 0 (take 6 old)
  unfolding header_bytes
  versions_at = in_head (take 6 old) 0 (at_first (take 6 old) (heap_bits sizes ∷ get_or old 7 0 ∷ (number_bytes 8 (bits_of (has_rows sizes) 64) ++ take 8 (drop 16 old))))

  heaps_at : IsAt stream 6 (heap_bits sizes ∷ [])
  unfolding header_bytes
  heaps_at = in_head (heap_bits sizes ∷ []) 6 (record {
    before = take 6 old;
    after = get_or old 7 0 ∷ (number_bytes 8 (bits_of (has_rows sizes) 64) ++ take 8 (drop 16 old));
    offset = first_six;
    split = refl;
  })

  reserved_at : IsAt stream 7 (get_or old 7 0 ∷ [])
  unfolding header_bytes
  reserved_at = in_head (get_or old 7 0 ∷ []) 7 (record {
    before = take 6 old ++ heap_bits sizes ∷ [];
    after = number_bytes 8 (bits_of (has_rows sizes) 64) ++ take 8 (drop 16 old);
    offset = omega (arith, length-append (take 6 old) (heap_bits sizes ∷ []), first_six);
    split = sym (append_assoc (take 6 old) (heap_bits sizes ∷ []) (get_or old 7 0 ∷ (number_bytes 8 (bits_of (has_rows sizes) 64) ++ take 8 (drop 16 old))));
  })

  ends_at : IsAt stream 8 (number_bytes 8 (bits_of (has_rows sizes) 64) ++ take 8 (drop 16 old))
  unfolding header_bytes
  ends_at = in_head (number_bytes 8 (bits_of (has_rows sizes) 64) ++ take 8 (drop 16 old)) 8 (record {
    before = take 6 old ++ heap_bits sizes ∷ get_or old 7 0 ∷ [];
    after = [];
    offset = omega (arith, length-append (take 6 old) (heap_bits sizes ∷ get_or old 7 0 ∷ []), first_six);
    split =
        ap (λ (l : List ℕ). take 6 old ++ heap_bits sizes ∷ get_or old 7 0 ∷ l) (sym (append-nil (number_bytes 8 (bits_of (has_rows sizes) 64) ++ take 8 (drop 16 old))))
        ∙ sym (append_assoc (take 6 old) (heap_bits sizes ∷ get_or old 7 0 ∷ []) ((number_bytes 8 (bits_of (has_rows sizes) 64) ++ take 8 (drop 16 old)) ++ []));
  })

  valid_is : num stream 8 8 ≡ bits_of (has_rows sizes) 64
  valid_is =
      at_number stream 8 8 (bits_of (has_rows sizes) 64)
      (at_moved stream (number_bytes 8 (bits_of (has_rows sizes) 64)) (8 + 0) 8
      (at_in stream (number_bytes 8 (bits_of (has_rows sizes) 64) ++ take 8 (drop 16 old)) (number_bytes 8 (bits_of (has_rows sizes) 64)) 8 0 ends_at
      (at_first (number_bytes 8 (bits_of (has_rows sizes) 64)) (take 8 (drop 16 old)))) (omega arith))
      (bits_small (has_rows sizes) 64)

  sorted_at : IsAt stream 16 (take 8 (drop 16 old))
  sorted_at =
      at_moved stream (take 8 (drop 16 old)) (8 + length (number_bytes 8 (bits_of (has_rows sizes) 64))) 16
      (at_in stream (number_bytes 8 (bits_of (has_rows sizes) 64) ++ take 8 (drop 16 old)) (take 8 (drop 16 old)) 8 (length (number_bytes 8 (bits_of (has_rows sizes) 64))) ends_at
      (at_last (number_bytes 8 (bits_of (has_rows sizes) 64)) (take 8 (drop 16 old))))
      (omega (arith, length_number 8 (bits_of (has_rows sizes) 64)))

  table_is : (k : ℕ) → k < 64 → has_table stream k ≡ has_rows sizes k
  table_is k lt = ap (λ (v : ℕ). has_bit v k) valid_is ∙ bits_bit (has_rows sizes) 64 k lt

  counts_before : (n : ℕ) → n ≤ 64 → length (pieces (count_bytes sizes) n) ≡ 4 * tables_below stream n
  unfolding tables_below
  counts_before zero le = ap (λ (l : List ℕ). length l) (pieces_none (count_bytes sizes))
  counts_before (suc n) le =
      let one : length (count_bytes sizes n) ≡ 4 * cond (has_table stream n) 1 0 = go (has_rows sizes n) ∙ ap (λ (b : Bool). 4 * cond b 1 0) (sym (table_is n (omega (arith, le)))) in
      omega (arith, ap (λ (l : List ℕ). length l) (pieces_suc (count_bytes sizes) n), length-append (pieces (count_bytes sizes) n) (count_bytes sizes n), counts_before n (omega (arith, le)), one)
    where
      go : (b : Bool) → length (cond b (number_bytes 4 (count_of sizes n)) []) ≡ 4 * cond b 1 0
      go true = length_number 4 (count_of sizes n)
      go false = refl

  start_is : rows_start stream ≡ 24 + length counts
  start_is = omega (arith, counts_before 64 (omega arith))

  few : (k : ℕ) → count_of sizes k < 2 ^ 32
  few k = omega (arith, rows_counted sizes tables k shape fit, shape.few k)

  count_is : (k : ℕ) → k < 64 → count_of sizes k ≡ row_count stream k
  count_is k lt = go (cases_Bool (has_rows sizes k))
    where
      go : (has_rows sizes k ≡ true) ⊎ (has_rows sizes k ≡ false) → count_of sizes k ≡ row_count stream k
      go (inl e) =
          let here : IsAt stream (24 + length (pieces (count_bytes sizes) k)) (count_bytes sizes k) = at_in stream counts (count_bytes sizes k) 24 (length (pieces (count_bytes sizes) k)) counts_at (at_piece (count_bytes sizes) 64 k lt) in
          let place : 24 + length (pieces (count_bytes sizes) k) ≡ 24 + 4 * tables_below stream k = omega (arith, counts_before k (omega (arith, lt))) in
          let piece : count_bytes sizes k ≡ number_bytes 4 (count_of sizes k) = ap (λ (b : Bool). cond b (number_bytes 4 (count_of sizes k)) []) e in
          sym (ap (λ (b : Bool). cond b (num stream (24 + 4 * tables_below stream k) 4) 0) (table_is k lt ∙ e)
          ∙ at_number stream (24 + 4 * tables_below stream k) 4 (count_of sizes k) (at_equal stream (count_bytes sizes k) (number_bytes 4 (count_of sizes k)) (24 + 4 * tables_below stream k) (at_moved stream (count_bytes sizes k) (24 + length (pieces (count_bytes sizes) k)) (24 + 4 * tables_below stream k) here place) piece) (few k))
      go (inr e) =
          let none : count_of sizes k ≤ 0 = ltb-false 0 (count_of sizes k) e in
          let zero_rows : count_of sizes k ≡ 0 = omega (arith, none) in
          zero_rows ∙ sym (ap (λ (b : Bool). cond b (num stream (24 + 4 * tables_below stream k) 4) 0) (table_is k lt ∙ e))

  heaps_are : num stream 6 1 ≡ heap_bits sizes
  heaps_are = at_byte stream 6 (heap_bits sizes) heaps_at

  sizes_same : sizes_of stream ≡ sizes
  sizes_same =
      let bit = heap_bit sizes.wide_strings sizes.wide_guids sizes.wide_blobs in
      same_sizes sizes (counts_in stream) (has_bit (num stream 6 1) 0) (has_bit (num stream 6 1) 1) (has_bit (num stream 6 1) 2)
      (sym (counts_all stream sizes.counts (length_counts sizes tables fit) count_is))
      (ap (λ (n : ℕ). has_bit n 0) heaps_are ∙ bit.0) (ap (λ (n : ℕ). has_bit n 1) heaps_are ∙ bit.1) (ap (λ (n : ℕ). has_bit n 2) heaps_are ∙ bit.2)

  -- the rows of a table stand behind those of the tables before
  table_at : (t : ℕ) → t < 45 → IsAt stream (rows_start stream + bytes_below sizes t) (table_bytes sizes tables t)
  table_at t lt =
      at_moved stream (table_bytes sizes tables t) (24 + length counts + length (pieces (table_bytes sizes tables) t)) (rows_start stream + bytes_below sizes t)
      (at_in stream rows (table_bytes sizes tables t) (24 + length counts) (length (pieces (table_bytes sizes tables) t)) rows_at (at_piece (table_bytes sizes tables) 45 t lt))
      (omega (arith, start_is, length_tables sizes tables t))

  cell_written : (t c k : ℕ) → c < length (columns_of t) → k < count_of sizes t → cell_in stream sizes (rows_start stream) t (k + 1) c ≡ get_or (column_of tables t c) k 0
  cell_written t c k lt below =
      let cell_at : IsAt (row_bytes sizes t (get_or tables t []) k) (length (pieces (cell_bytes sizes t (get_or tables t []) k) c)) (cell_bytes sizes t (get_or tables t []) k c) = at_piece (cell_bytes sizes t (get_or tables t []) k) (length (columns_of t)) c lt in
      let row_at : IsAt (table_bytes sizes tables t) (length (pieces (row_bytes sizes t (get_or tables t [])) k)) (row_bytes sizes t (get_or tables t []) k) = at_piece (row_bytes sizes t (get_or tables t [])) (count_of sizes t) k below in
      let all = at_in stream (table_bytes sizes tables t) (cell_bytes sizes t (get_or tables t []) k c) (rows_start stream + bytes_below sizes t) (length (pieces (row_bytes sizes t (get_or tables t [])) k) + length (pieces (cell_bytes sizes t (get_or tables t []) k) c)) (table_at t (is_read t c lt))
      (at_in (table_bytes sizes tables t) (row_bytes sizes t (get_or tables t []) k) (cell_bytes sizes t (get_or tables t []) k c) (length (pieces (row_bytes sizes t (get_or tables t [])) k)) (length (pieces (cell_bytes sizes t (get_or tables t []) k) c)) row_at cell_at) in
      let less : k + 1 - 1 ≡ k = omega arith in
      let place : rows_start stream + bytes_below sizes t + (length (pieces (row_bytes sizes t (get_or tables t [])) k) + length (pieces (cell_bytes sizes t (get_or tables t []) k) c)) ≡ rows_start stream + bytes_below sizes t + (k + 1 - 1) * row_width sizes t + offset_of sizes t c =
      rw less (omega (arith, length_rows sizes t (get_or tables t []) k, length_cells sizes t (get_or tables t []) k c (omega (arith, lt)))) in
      at_number stream (rows_start stream + bytes_below sizes t + (k + 1 - 1) * row_width sizes t + offset_of sizes t c) (width_of sizes (kind_of t c)) (get_or (column_of tables t c) k 0)
      (at_moved stream (cell_bytes sizes t (get_or tables t []) k c) (rows_start stream + bytes_below sizes t + (length (pieces (row_bytes sizes t (get_or tables t [])) k) + length (pieces (cell_bytes sizes t (get_or tables t []) k) c))) (rows_start stream + bytes_below sizes t + (k + 1 - 1) * row_width sizes t + offset_of sizes t c) all place)
      (fit.cells t c k)

  rows_are : (t : ℕ) → rows_of tables t ≡ rows_in stream t
  rows_are t = sym (ap (λ (s : Sizes). count_of s t) sizes_same ∙ rows_counted sizes tables t shape fit)

  cells_are : AreIn stream tables
  cells_are = record {
    rows = rows_are;
    cells = cells_match tables stream (λ t c lt. shape.rows t c lt ∙ rows_are t)
        (λ t c past. get_or_past (get_or tables t []) c [] (omega (arith, past, shape.columns t)))
        (λ t c k lt below. sym (subst (λ (s : Sizes). cell_in stream s (rows_start stream) t (k + 1) c ≡ get_or (column_of tables t c) k 0) (sym sizes_same)
        (cell_written t c k lt (omega (arith, below, ap (λ (s : Sizes). count_of s t) sizes_same)))));
  }

  table_within : (t : ℕ) → 0 < length (columns_of t) → row_end stream t (rows_in stream t) ≤ length stream
  table_within t some =
      subst (λ (s : Sizes). rows_start stream + bytes_below s t + count_of s t * row_width s t ≤ length stream) (sym sizes_same)
      (omega (arith, at_within stream (table_bytes sizes tables t) (rows_start stream + bytes_below sizes t) (table_at t (is_read t 0 some)), length_rows sizes t (get_or tables t []) (count_of sizes t)))

  none_unread : has_unread stream ≡ false
  unfolding has_unread
  none_unread = none_range (is_unread stream) 0 64 (λ k _ lt. go k (omega (arith, lt)) (cases_Bool (has_rows sizes k)))
    where
      go : (k : ℕ) → k < 64 → (has_rows sizes k ≡ true) ⊎ (has_rows sizes k ≡ false) → is_unread stream k ≡ false
      go k lt (inl e) =
          let some : 0 < count_of sizes k = ltb-true 0 (count_of sizes k) e in
          ap (λ (b : Bool). b && eqb (length (columns_of k)) 0) (table_is k lt ∙ e)
          ∙ ne_eqb (length (columns_of k)) 0 (λ z. absurd (omega (arith, some, rows_counted sizes tables k shape fit, no_rows tables k shape z)))
      go k lt (inr e) = ap (λ (b : Bool). b && eqb (length (columns_of k)) 0) (table_is k lt ∙ e)

  fills : length stream % 4 ≡ 0
  fills = ap (λ (l : List ℕ). length l % 4) (stream_is old sizes tables) ∙ padded_word (head ++ counts ++ rows)

  pub holds : Holds old sizes tables (stream_to old sizes tables)
  holds = record {
    bits = start_ones stream (omega (arith, valid_is, bits_small (has_rows sizes) 64));
    header = omega (arith, start_is, at_within stream rows (24 + length counts) rows_at);
    rows_whole = table_within;
    full = fills;
    sizes_are = sizes_same;
    cells = cells_are;
    versions = part_at stream (take 6 old) 0 6 versions_at first_six;
    reserved = byte_at stream 7 ∙ at_byte stream 7 (get_or old 7 0) reserved_at;
    sorted = part_at stream (take 8 (drop 16 old)) 16 8 sorted_at last_eight;
    heaps = ap (λ (n : ℕ). not (eqb (n / 2 ^ 3) 0)) heaps_are ∙ (heap_bit sizes.wide_strings sizes.wide_guids sizes.wide_blobs).3;
    all_read = none_unread;
  }

  pub stream_length : length (stream_to old sizes tables) ≡ size_to sizes
  stream_length =
      let ones : rows_start stream ≡ 24 + 4 * count_ones (bits_of (has_rows sizes) 64) = holds.bits ∙ ap (λ (n : ℕ). 24 + 4 * count_ones n) valid_is in
      let all : length (head ++ counts ++ rows) ≡ unpadded_size sizes =
      omega (arith, length-append (head ++ counts) rows, length-append head counts, length_head, start_is, ones, length_tables sizes tables 45) in
      ap (λ (l : List ℕ). length l) (stream_is old sizes tables) ∙ length_padded 4 (head ++ counts ++ rows) ∙ ap (λ (n : ℕ). n + padding 4 n) all

  -- what is appended in turn
  pub holds_written : (first second third written : List ℕ) → first ≡ header_bytes old sizes → second ≡ first ++ pieces (count_bytes sizes) 64 → third ≡ second ++ pieces (table_bytes sizes tables) 45 → written ≡ padded 4 third → Holds old sizes tables written
  holds_written first second third written e f g h =
      let body : third ≡ header_bytes old sizes ++ pieces (count_bytes sizes) 64 ++ pieces (table_bytes sizes tables) 45 =
      g ∙ ap (λ (l : List ℕ). l ++ pieces (table_bytes sizes tables) 45) (f ∙ ap (λ (l : List ℕ). l ++ pieces (count_bytes sizes) 64) e) in
      subst (λ (l : List ℕ). Holds old sizes tables l) (sym (h ∙ ap (λ (l : List ℕ). padded 4 l) body ∙ sym (stream_is old sizes tables))) holds

-- ---- the whole metadata

cell_fits : (s : Sizes) (k : Column) (v : ℕ) → v < limit_of k → (is_index k ≡ true → v < 256 ^ width_of s k) → v < 256 ^ width_of s k
cell_fits s U8 v small h = small
cell_fits s U16 v small h = small
cell_fits s U32 v small h = small
cell_fits s StringIndex v small h = h refl
cell_fits s GuidIndex v small h = h refl
cell_fits s BlobIndex v small h = h refl
cell_fits s (Row t) v small h = h refl
cell_fits s (FirstRow t) v small h = h refl
cell_fits s (Coded k) v small h = h refl

some_power : (w : ℕ) → 0 < 256 ^ w
some_power zero = omega arith
some_power (suc w) = omega (arith, some_power w, pow-suc 256 w)

-- behind the end there is no number
pub past_fits : (s : Sizes) (ts : List (List (List ℕ))) (t c k : ℕ) → length (column_of ts t c) ≤ k → get_or (column_of ts t c) k 0 < 256 ^ width_of s (kind_of t c)
past_fits s ts t c k past = omega (arith, get_or_past (column_of ts t c) k 0 past, some_power (width_of s (kind_of t c)))

here_fits : (s : Sizes) (ts : List (List (List ℕ))) (t c k : ℕ) → column_fits s ts t c ≡ true → k < length (column_of ts t c) → get_or (column_of ts t c) k 0 < limit_of (kind_of t c) → get_or (column_of ts t c) k 0 < 256 ^ width_of s (kind_of t c)
here_fits s ts t c k h lt small =
    cell_fits s (kind_of t c) (get_or (column_of ts t c) k 0) small (λ index.
    ltb-true (get_or (column_of ts t c) k 0) (256 ^ width_of s (kind_of t c))
    (all_at (λ (v : ℕ). ltb v (256 ^ width_of s (kind_of t c))) (column_of ts t c) k (sym (ap (λ (b : Bool). not b || list_all (λ (v : ℕ). ltb v (256 ^ width_of s (kind_of t c))) (column_of ts t c)) index) ∙ h) lt))

pub all_fit : (s : Sizes) (ts : List (List (List ℕ))) (t c k : ℕ) → IsShaped ts → indexes_fit s ts ≡ true → get_or (column_of ts t c) k 0 < 256 ^ width_of s (kind_of t c)
unfolding indexes_fit
all_fit s ts t c k shape h = elim (cases_lt k (length (column_of ts t c))) [
  | inl lt ↦ elim (cases_lt c (length (columns_of t))) [
    | inl here ↦ here_fits s ts t c k (all_range (column_fits s ts t) (length (columns_of t)) c (all_range (table_fits s ts) 45 t h (is_read t c here)) here) lt (shape.fits t c k)
    | inr out ↦
        let none : length (column_of ts t c) ≡ 0 = ap (λ (l : List ℕ). length l) (get_or_past (get_or ts t []) c [] (omega (arith, out, shape.columns t))) in
        absurd (omega (arith, none, lt))
  ]
  | inr past ↦ past_fits s ts t c k past
]

pub fit_of : (meta : List ℕ) (grown : HeapGrowths) (ts us : List (List (List ℕ))) (s : Sizes) → IsShaped ts → indexes_fit (sizes_to meta grown ts) ts ≡ true → s ≡ sizes_to meta grown ts → us ≡ ts → Fit s us
fit_of meta grown ts us s shape h e f =
    subst (λ (z : Sizes). Fit z us) (sym e) (subst (λ (l : List (List (List ℕ))). Fit (sizes_to meta grown ts) l) (sym f)
    (record { counts = refl; cells = λ t c k. all_fit (sizes_to meta grown ts) ts t c k shape h }))

-- how long the stream will be
pub size_written : (meta old : List ℕ) (grown : HeapGrowths) (ts : List (List (List ℕ))) (s : Sizes) (n : ℕ) → old ≡ root.tables meta → 24 ≤ length old → IsShaped ts → indexes_fit (sizes_to meta grown ts) ts ≡ true → s ≡ sizes_to meta grown ts → n ≡ size_to s → length (stream_in meta grown ts) ≡ n
size_written meta old grown ts s n o whole shape fit e f =
    let long : 24 ≤ length (root.tables meta) = subst (λ (l : List ℕ). 24 ≤ length l) o whole in
    stream_length (root.tables meta) (sizes_to meta grown ts) ts long shape (fit_of meta grown ts ts (sizes_to meta grown ts) shape fit refl refl) ∙ ap size_to (sym e) ∙ sym f

pub none_full : (ts : List (List (List ℕ))) → IsShaped ts → ((t : ℕ) → t < 45 → rows_of ts t ≤ 2 ^ 24 - 1) → NoneFull ts
none_full ts shape h t = elim (cases_lt t 45) [
  | inl lt ↦ h t lt
  | inr past ↦ omega (arith, no_rows ts t shape (ap (λ (ks : List Column). length ks) (no_columns t past)))
]

-- no rule of the header is broken where there is one Module and one Assembly row
one_assembly : (meta old : List ℕ) (sizes : Sizes) (ts : List (List (List ℕ))) (a : ℕ) → Holds old sizes ts (root.tables meta) → AreOfOne ts → NoneBroken (HeaderBroken meta a)
unfolding HeaderBroken
one_assembly meta old sizes ts a h one r (inl (fails, e)) = absurd (apart (sym fails ∙ h.heaps))
  where
    apart : true ≡ false → ⊥
    apart cc_is = cc
one_assembly meta old sizes ts a h one r (inr (inl (fails, e))) =
    absurd (apart (sym fails ∙ ap (λ (b : Bool). b || not (is_one_assembly (root.tables meta))) h.all_read ∙ ap (λ (b : Bool). not (b && eqb (rows_in (root.tables meta) 0x20) 1)) (eq-eqb (rows_in (root.tables meta) 0x00) 1 (sym (h.cells.rows 0x00) ∙ one.0))
    ∙ ap (λ (b : Bool). not b) (eq-eqb (rows_in (root.tables meta) 0x20) 1 (sym (h.cells.rows 0x20) ∙ one.1))))
  where
    apart : true ≡ false → ⊥
    apart cc_is = cc
one_assembly meta old sizes ts a h one r (inr (inr none)) = none

refused_also : (r : Result (List ℕ) Fault) (P Q : Refusal → Type 0) → OnRefused r Q → OnRefused r (λ x. P x ⊎ Q x)
refused_also (Ok x) P Q h = tt
refused_also (Err (Refused x)) P Q h = inr h
refused_also (Err (Memory e)) P Q h = tt

pub memory_only : (r : Result (List ℕ) Fault) {P : Type 0} → P → OnMemory r P
memory_only (Ok x) h = tt
memory_only (Err (Refused x)) h = tt
memory_only (Err (Memory e)) h = h

pub stream_same : (meta : List ℕ) (old : List ℕ) (grown : HeapGrowths) (sizes : Sizes) (ts us : List (List (List ℕ))) (stream : List ℕ) → old ≡ root.tables meta → sizes ≡ sizes_to meta grown ts → us ≡ ts → stream ≡ stream_to old sizes us → stream ≡ stream_in meta grown ts
stream_same meta old grown sizes ts us stream o s u b =
    b ∙ ap (λ (l : List ℕ). stream_to l sizes us) o ∙ ap (λ (z : Sizes). stream_to (root.tables meta) z us) s
    ∙ ap (λ (l : List (List (List ℕ))). stream_to (root.tables meta) (sizes_to meta grown ts) l) u

-- what the writer of the metadata answers for the stream of these tables
module _ (r : Result (List ℕ) Fault) (meta old : List ℕ) (grown : HeapGrowths) (sizes : Sizes) (ts us : List (List (List ℕ))) (stream : List ℕ)
    (o : old ≡ root.tables meta) (s : sizes ≡ sizes_to meta grown ts) (u : us ≡ ts) (b : stream ≡ stream_to old sizes us) where
  same : stream ≡ stream_in meta grown ts
  same = stream_same meta old grown sizes ts us stream o s u b

  pub header_kept : IfOk r (λ new. IsWritten meta grown stream new) → Holds old sizes us stream → IfOk r (λ new. AreOfOne ts → (assembly : ℕ) → NoneBroken (HeaderBroken new assembly))
  header_kept ok h = IfOk-weaker r (λ new. IsWritten meta grown stream new) (λ new. AreOfOne ts → (assembly : ℕ) → NoneBroken (HeaderBroken new assembly))
      (λ new w one a. one_assembly new old sizes us a (subst (λ (l : List ℕ). Holds old sizes us l) (sym w.tables_are) h) (subst AreOfOne (sym u) one)) ok

  pub limits_kept : OnOk r (NoneBroken (Fails (limit_tests meta grown stream))) → OnOk r (NoneBroken (Fails (limit_tests meta grown (stream_in meta grown ts))))
  limits_kept h = subst (λ (l : List ℕ). OnOk r (NoneBroken (Fails (limit_tests meta grown l)))) same h

  pub short_kept : OnOk r (length (written_root meta (parts meta grown stream)) ≤ 2 ^ 27) → OnOk r (length (written_root meta (parts meta grown (stream_in meta grown ts))) ≤ 2 ^ 27)
  short_kept h = subst (λ (l : List ℕ). OnOk r (length (written_root meta (parts meta grown l)) ≤ 2 ^ 27)) same h

  pub refused_kept : OnRefused r (λ x. Fails (limit_tests meta grown stream) x ⊎ IsTooLong meta grown stream x) → OnRefused r (IsRefused meta grown ts)
  refused_kept h =
      refused_also r (IsOverfull ts) (λ x. Fails (limit_tests meta grown (stream_in meta grown ts)) x ⊎ IsTooLong meta grown (stream_in meta grown ts) x)
      (subst (λ (l : List ℕ). OnRefused r (λ x. Fails (limit_tests meta grown l) x ⊎ IsTooLong meta grown l x)) same h)

  pub bytes_kept : IfOk r (λ new. new ≡ written_root meta (parts meta grown stream)) → IfOk r (λ new. new ≡ written_root meta (parts meta grown (stream_in meta grown ts)))
  bytes_kept h = subst (λ (l : List ℕ). IfOk r (λ new. new ≡ written_root meta (parts meta grown l))) same h
