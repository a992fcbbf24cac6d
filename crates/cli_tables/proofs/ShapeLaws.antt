-- The tables of a stream as a list of lists.
use Rattle.std.proofs.Common.{◌≡◌, ◌⊎◌, ℕ, zero, suc, ◌+◌, ◌-◌, ◌*◌, ◌^◌, ◌<◌, ◌≤◌, Bool, true, false, not, cond, ltb, leb, ◌&&◌, List, [], ◌∷◌, length, get_or, Some, None, refl, sym, ap, ◌∙◌, subst, inl, inr, arith, add-one}
use Rattle.std.specs.Prelude.{slice_get, sum_by}
use Rattle.std.proofs.lemmas.List.{get_or_past, nil_from_length}
use Rattle.std.proofs.lemmas.List.FromFn.{get_or-map-range_with_len, length-map-range_with_len}
use Rattle.std.proofs.lemmas.Bool.{cases_lt, ne_eqb, lt-ltb, le-ltb, le-leb, lt-leb}
use Rattle.cil_base.specs.declared.rule.Rule.TheVariants.{M4}
use Rattle.std.proofs.lemmas.Option.{slice_get-get_or, slice_get_past}
use Rattle.cil_base.specs.declared.refusal.Fault.{Fault}
use Rattle.cil_base.specs.declared.refusal.Fault.TheVariants.{Refused, Memory}
use Rattle.cil_base.specs.Refusals.{First, NoneBroken, Fails, InTurn, IfRefused}
use Rattle.cli_heaps.specs.Root.{tables, tables_offset}
use Rattle.std.specs.List.{list_all}
use Rattle.std.proofs.lemmas.List.Sums.{sum_by-cons}
use Rattle.std.proofs.Math.Nat.{mul-le-mul_left}
use Rattle.cli_tables.specs.declared.schema.Column.{Column}
use Rattle.cli_tables.specs.declared.schema.Column.TheVariants.{U8, U16, U32, StringIndex, GuidIndex, BlobIndex, Row, FirstRow, Coded}
use Rattle.cli_tables.specs.declared.sizes.Sizes.{Sizes}
use Rattle.cli_tables.specs.Schema.{the_tables, columns_of, tag_bits, coded_tables}
use Rattle.cli_tables.specs.Stream.{sizes_of, row_width, width_of, index_width, has_few, kind_of, cell}
use Rattle.cli_tables.specs.Layout.{column_in, table_start, row_end, tables_in, whole_table}
use Rattle.cli_tables.specs.Tables.{column_of, rows_of, cell_of, limit_of, IsShaped, rows_in, cell_at, AreIn}
use Rattle.cli_tables.specs.TableRules.{Broken, header_tests, HeaderBroken, RowsBroken}
use Rattle.cli_tables.proofs.HeaderLaws.{unread_rows, header_fails}
use Rattle.cli_tables.proofs.CellLaws.{column_at, length_column, cell_read}
use Rattle.cli_tables.proofs.FitLaws.{AreBytes, strided_fits, some_limit}

pub no_columns : (t : ℕ) → 45 ≤ t → columns_of t ≡ []
unfolding the_tables
no_columns t past = get_or_past the_tables t [] past

pub is_read : (t c : ℕ) → c < length (columns_of t) → t < 45
is_read t c lt =
    elim (cases_lt t 45) [
      | inl less ↦ less
      | inr past ↦ let none : length (columns_of t) ≡ 0 = ap (λ (ks : List Column). length ks) (no_columns t past) in absurd (omega (arith, none, lt))
    ]

pub table_at : (bytes : List ℕ) (t : ℕ) → t < 45 → get_or (tables_in bytes) t [] ≡ whole_table bytes t
table_at bytes t lt = get_or-map-range_with_len (whole_table bytes) 0 45 t t [] lt (omega arith)

pub table_past : (bytes : List ℕ) (t : ℕ) → 45 ≤ t → get_or (tables_in bytes) t [] ≡ []
table_past bytes t past = get_or_past (tables_in bytes) t [] (omega (arith, length-map-range_with_len (whole_table bytes) 0 45))

pub rows_read : (bytes : List ℕ) (t c : ℕ) → c < length (columns_of t) → length (column_of (tables_in bytes) t c) ≡ rows_in bytes t
rows_read bytes t c lt =
    ap (λ (cs : List (List ℕ)). length (get_or cs c [])) (table_at bytes t (is_read t c lt))
    ∙ length_column bytes (sizes_of bytes) (table_start bytes t) t (rows_in bytes t) c lt

-- all rows of an unbroken stream lie in it
pub all_within : (meta bytes : List ℕ) (a t : ℕ) → NoneBroken (Broken meta bytes a) → 0 < length (columns_of t) → 1 ≤ rows_in bytes t → row_end bytes t (rows_in bytes t) ≤ length bytes
all_within meta bytes a t none some rows =
    elim (cases_lt (length bytes) (row_end bytes t (rows_in bytes t))) [
      | inl past ↦ absurd (none (record { rule = M4; assembly = a; table = t; row = rows_in bytes t; at = 0 })
          (record { assembly_is = refl; place = (rows, omega arith, some); breaks = inl (refl, refl, past) }))
      | inr le ↦ le
    ]

some_index : (b : Bool) → 1 ≤ index_width b
some_index true = omega arith
some_index false = omega arith

some_width : (s : Sizes) (k : Column) → 1 ≤ width_of s k
some_width s U8 = omega arith
some_width s U16 = omega arith
some_width s U32 = omega arith
some_width s StringIndex = some_index (not s.wide_strings)
some_width s GuidIndex = some_index (not s.wide_guids)
some_width s BlobIndex = some_index (not s.wide_blobs)
some_width s (Row t) = some_index (has_few s 0 (Some t))
some_width s (FirstRow t) = some_index (has_few s 0 (Some t))
some_width s (Coded k) = some_index (list_all (has_few s (tag_bits k)) (coded_tables k))

some_row : (s : Sizes) (ks : List Column) → 0 < length ks → 1 ≤ sum_by (width_of s) ks
some_row s [] lt = absurd (omega arith)
some_row s (k ∷ ks) lt = omega (arith, sum_by-cons (width_of s) k ks, some_width s k)

few_rows : (meta bytes : List ℕ) (a t : ℕ) → NoneBroken (Broken meta bytes a) → length bytes < 2 ^ 32 → 0 < length (columns_of t) → rows_in bytes t < 2 ^ 32
few_rows meta bytes a t none short some =
    elim (cases_lt 0 (rows_in bytes t)) [
      | inl lt ↦
          let w : ℕ = row_width (sizes_of bytes) t in
          let end : row_end bytes t (rows_in bytes t) ≤ length bytes = all_within meta bytes a t none some lt in
          let wide : 1 ≤ row_width (sizes_of bytes) t = some_row (sizes_of bytes) (columns_of t) some in
          let more : rows_in bytes t * 1 ≤ rows_in bytes t * row_width (sizes_of bytes) t = mul-le-mul_left (rows_in bytes t) wide in
          omega (arith, end, more, short)
      | inr le ↦ omega (arith, le)
    ]

no_cells : (bytes : List ℕ) (t : ℕ) → length (columns_of t) ≡ 0 → get_or (tables_in bytes) t [] ≡ []
no_cells bytes t none =
    elim (cases_lt t 45) [
      | inl lt ↦ nil_from_length (get_or (tables_in bytes) t []) (ap (λ (cs : List (List ℕ)). length cs) (table_at bytes t lt) ∙ length-map-range_with_len (column_in bytes (sizes_of bytes) (table_start bytes t) t (rows_in bytes t)) 0 (length (columns_of t)) ∙ none)
      | inr past ↦ table_past bytes t past
    ]

width_of_table : (bytes : List ℕ) (t : ℕ) → length (get_or (tables_in bytes) t []) ≡ length (columns_of t)
width_of_table bytes t =
    elim (cases_lt t 45) [
      | inl lt ↦ ap (λ (cs : List (List ℕ)). length cs) (table_at bytes t lt) ∙ length-map-range_with_len (column_in bytes (sizes_of bytes) (table_start bytes t) t (rows_in bytes t)) 0 (length (columns_of t))
      | inr past ↦ ap (λ (cs : List (List ℕ)). length cs) (table_past bytes t past) ∙ sym (ap (λ (ks : List Column). length ks) (no_columns t past))
    ]

-- each number fits its column, also past the end
all_fit : (bytes : List ℕ) (t c k : ℕ) → AreBytes bytes → get_or (column_of (tables_in bytes) t c) k 0 < limit_of (kind_of t c)
all_fit bytes t c k h =
    elim (cases_lt c (length (columns_of t))) [
      | inl lt ↦
          let e : column_of (tables_in bytes) t c ≡ column_in bytes (sizes_of bytes) (table_start bytes t) t (rows_in bytes t) c =
          ap (λ (cs : List (List ℕ)). get_or cs c []) (table_at bytes t (is_read t c lt)) ∙ column_at bytes (sizes_of bytes) (table_start bytes t) t (rows_in bytes t) c lt in
          subst (λ (l : List ℕ). get_or l k 0 < limit_of (kind_of t c)) (sym e) (strided_fits bytes (sizes_of bytes) (table_start bytes t) t (rows_in bytes t) c k h)
      | inr out ↦
          let e : column_of (tables_in bytes) t c ≡ [] = get_or_past (get_or (tables_in bytes) t []) c [] (omega (arith, out, width_of_table bytes t)) in
          subst (λ (l : List ℕ). get_or l k 0 < limit_of (kind_of t c)) (sym e) (some_limit (kind_of t c))
    ]

pub shaped : (meta bytes : List ℕ) (a : ℕ) → NoneBroken (Broken meta bytes a) → length bytes < 2 ^ 32 → AreBytes bytes → IsShaped (tables_in bytes)
shaped meta bytes a none short h = record {
  fits = λ t c k. all_fit bytes t c k h;
  columns = width_of_table bytes;
  rows = λ t c lt. rows_read bytes t c lt ∙ sym (rows_read bytes t 0 (omega (arith, lt)));
  few = λ t. elim (cases_lt 0 (length (columns_of t))) [
    | inl some ↦ omega (arith, rows_read bytes t 0 some, few_rows meta bytes a t none short some)
    | inr le ↦ let e : rows_of (tables_in bytes) t ≡ 0 = ap (λ (cs : List (List ℕ)). length (get_or cs 0 [])) (no_cells bytes t (omega (arith, le))) in omega (arith, e)
  ];
}

no_column : (bytes : List ℕ) (t c : ℕ) → length (columns_of t) ≤ c → column_of (tables_in bytes) t c ≡ []
no_column bytes t c past = get_or_past (get_or (tables_in bytes) t []) c [] (omega (arith, width_of_table bytes t))

-- tables whose columns hold the cells of the stream
pub cells_match : (ts : List (List (List ℕ))) (bytes : List ℕ)
    → ((t c : ℕ) → c < length (columns_of t) → length (column_of ts t c) ≡ rows_in bytes t)
    → ((t c : ℕ) → length (columns_of t) ≤ c → column_of ts t c ≡ [])
    → ((t c k : ℕ) → c < length (columns_of t) → k < rows_in bytes t → get_or (column_of ts t c) k 0 ≡ cell bytes t (k + 1) c)
    → (t r c : ℕ) → cell_of ts t r c ≡ cell_at bytes t r c
cells_match ts bytes many none here t zero c = refl
cells_match ts bytes many none here t (suc k) c =
    ap (λ (b : Bool). cond b None (slice_get (column_of ts t c) (suc k - 1))) (ne_eqb (suc k) 0 (λ z. absurd (omega (arith, z))))
    ∙ ap (λ (j : ℕ). slice_get (column_of ts t c) j) less ∙ go (cases_lt c (length (columns_of t))) (cases_lt k (rows_in bytes t))
  where
    less : suc k - 1 ≡ k
    less = omega arith

    yes : (p q s : Bool) (v : ℕ) → p ≡ true → q ≡ true → s ≡ true → Some v ≡ cond (p && (q && s)) (Some v) None
    yes p q s v e f g = sym (ap (λ (b : Bool). cond (b && (q && s)) (Some v) None) e ∙ ap (λ (b : Bool). cond (b && s) (Some v) None) f ∙ ap (λ (b : Bool). cond b (Some v) None) g)

    no_row : (p q s : Bool) (v : ℕ) → q ≡ false → None ≡ cond (p && (q && s)) (Some v) None
    no_row true q s v f = sym (ap (λ (b : Bool). cond (b && s) (Some v) None) f)
    no_row false q s v f = refl

    no_col : (p q s : Bool) (v : ℕ) → s ≡ false → None ≡ cond (p && (q && s)) (Some v) None
    no_col true true s v f = sym (ap (λ (b : Bool). cond b (Some v) None) f)
    no_col true false s v f = refl
    no_col false q s v f = refl

    go : (c < length (columns_of t)) ⊎ (length (columns_of t) ≤ c) → (k < rows_in bytes t) ⊎ (rows_in bytes t ≤ k) → slice_get (column_of ts t c) k ≡ cell_at bytes t (suc k) c
    go (inl lt) (inl below) =
        slice_get-get_or (column_of ts t c) k 0 (omega (arith, many t c lt)) ∙ ap (λ (v : ℕ). Some v) (here t c k lt below) ∙ ap (λ (j : ℕ). Some (cell bytes t j c)) (add-one k)
        ∙ yes (leb 1 (suc k)) (leb (suc k) (rows_in bytes t)) (ltb c (length (columns_of t))) (cell bytes t (suc k) c) (le-leb 1 (suc k) (omega arith)) (le-leb (suc k) (rows_in bytes t) (omega arith)) (lt-ltb c (length (columns_of t)) lt)
    go (inl lt) (inr past) =
        slice_get_past (column_of ts t c) k (omega (arith, many t c lt))
        ∙ no_row (leb 1 (suc k)) (leb (suc k) (rows_in bytes t)) (ltb c (length (columns_of t))) (cell bytes t (suc k) c) (lt-leb (suc k) (rows_in bytes t) (omega arith))
    go (inr out) h =
        ap (λ (l : List ℕ). slice_get l k) (none t c out)
        ∙ no_col (leb 1 (suc k)) (leb (suc k) (rows_in bytes t)) (ltb c (length (columns_of t))) (cell bytes t (suc k) c) (le-ltb c (length (columns_of t)) out)

pub cell_in_table : (bytes : List ℕ) (t c k : ℕ) → c < length (columns_of t) → k < rows_in bytes t → get_or (column_of (tables_in bytes) t c) k 0 ≡ cell bytes t (k + 1) c
cell_in_table bytes t c k lt below =
    ap (λ (cs : List (List ℕ)). get_or (get_or cs c []) k 0) (table_at bytes t (is_read t c lt)) ∙ cell_read bytes (table_start bytes t) t (rows_in bytes t) c k lt below refl

cells_in : (bytes : List ℕ) (t r c : ℕ) → cell_of (tables_in bytes) t r c ≡ cell_at bytes t r c
cells_in bytes = cells_match (tables_in bytes) bytes (rows_read bytes) (no_column bytes) (cell_in_table bytes)

pub are_in : (bytes : List ℕ) (offset a : ℕ) → NoneBroken (Fails (header_tests bytes offset a)) → AreIn bytes (tables_in bytes)
are_in bytes offset a none = record {
  rows = λ t. elim (cases_lt 0 (length (columns_of t))) [
    | inl some ↦ rows_read bytes t 0 some
    | inr le ↦
        let empty : length (columns_of t) ≡ 0 = omega (arith, le) in
        ap (λ (cs : List (List ℕ)). length (get_or cs 0 [])) (no_cells bytes t empty) ∙ sym (unread_rows bytes offset a t none empty)
  ];
  cells = cells_in bytes;
}

pub read_cells : (meta stream : List ℕ) (a : ℕ) (ts : List (List (List ℕ))) → stream ≡ tables meta → NoneBroken (HeaderBroken meta a) → ts ≡ tables_in stream → AreIn (tables meta) ts
read_cells meta stream a ts s none e =
    subst (λ (l : List (List (List ℕ))). AreIn (tables meta) l) (sym (e ∙ ap tables_in s)) (are_in (tables meta) (tables_offset meta) a (header_fails meta a none))

pub read_shape : (meta stream : List ℕ) (a : ℕ) (ts : List (List (List ℕ))) → NoneBroken (Broken meta stream a) → length stream < 2 ^ 32 → AreBytes stream → ts ≡ tables_in stream → IsShaped ts
read_shape meta stream a ts none short h e = subst IsShaped (sym e) (shaped meta stream a none short h)

pub sound_rows : (meta stream : List ℕ) (a : ℕ) → stream ≡ tables meta → NoneBroken (Broken meta stream a) → NoneBroken (RowsBroken meta a)
sound_rows meta stream a s none = subst (λ (b : List ℕ). NoneBroken (Broken meta b a)) s none

pub refused_rows : (meta stream : List ℕ) (a : ℕ) (fault : Fault) → stream ≡ tables meta → NoneBroken (HeaderBroken meta a) → IfRefused fault (First (Broken meta stream a)) → IfRefused fault (InTurn (HeaderBroken meta a) (First (RowsBroken meta a)))
refused_rows meta stream a (Refused r) s none first = inr (none, subst (λ (b : List ℕ). First (Broken meta b a) r) s first)
refused_rows meta stream a (Memory e) s none first = tt
