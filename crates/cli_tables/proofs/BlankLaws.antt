-- Tables without rows.
use Rattle.std.proofs.Common.{◌≡◌, ℕ, zero, suc, ◌+◌, ◌<◌, ◌≤◌, Bool, true, false, leb, List, [], ◌∷◌, ◌++◌, map, length, get_or, refl, sym, ap, ◌∙◌, arith}
use Rattle.std.specs.Prelude.{replicate}
use Rattle.std.specs.List.{range_with_len}
use Rattle.std.proofs.lemmas.Bool.{leb-true, leb-false}
use Rattle.std.proofs.lemmas.List.{length-replicate, get_or_past}
use Rattle.std.proofs.lemmas.List.FromFn.{get_or-map-range_with_len, map-range_with_len_more}
use Rattle.cli_tables.specs.declared.schema.Column.{Column}
use Rattle.cli_tables.specs.declared.schema.Column.TheVariants.{U8, U16, U32, StringIndex, GuidIndex, BlobIndex, Row, FirstRow, Coded}
use Rattle.cli_tables.specs.Schema.{the_tables, columns_of}
use Rattle.cli_tables.specs.Stream.{kind_of}
use Rattle.cli_tables.specs.Tables.{column_of, rows_of, limit_of, IsShaped, blank_table, blank_tables}

pub blank_push : (tables : List (List (List ℕ))) (t : ℕ) (table : List (List ℕ)) → tables ≡ map blank_table (range_with_len 0 t) → table ≡ blank_table t → tables ++ table ∷ [] ≡ map blank_table (range_with_len 0 (t + 1))
blank_push tables t table e f =
    ap (λ (l : List (List (List ℕ))). l ++ table ∷ []) e
    ∙ ap (λ (x : List (List ℕ)). map blank_table (range_with_len 0 t) ++ x ∷ []) f
    ∙ sym (map-range_with_len_more blank_table 0 t t (omega arith))

pub blank_done : (tables : List (List (List ℕ))) (t : ℕ) → t ≡ 45 → tables ≡ map blank_table (range_with_len 0 t) → tables ≡ blank_tables
unfolding blank_tables
blank_done tables t e f = f ∙ ap (λ (n : ℕ). map blank_table (range_with_len 0 n)) e

-- no table is read from the 45th on
none_past : (t : ℕ) → 45 ≤ t → columns_of t ≡ []
unfolding the_tables
none_past t le = get_or_past the_tables t [] le

blank_at : (t : ℕ) → get_or blank_tables t [] ≡ blank_table t
unfolding blank_tables
blank_at t = go (leb 45 t) refl
  where
    go : (b : Bool) → leb 45 t ≡ b → get_or (map blank_table (range_with_len 0 45)) t [] ≡ blank_table t
    go true e =
        let le : 45 ≤ t = leb-true 45 t e in
        get_or_past (map blank_table (range_with_len 0 45)) t [] le ∙ ap (λ (l : List Column). replicate (length l) []) (sym (none_past t le))
    go false e = let lt : t < 45 = leb-false 45 t e in get_or-map-range_with_len blank_table 0 45 t t [] lt (omega arith)

abbrev nothing : List ℕ
nothing = []

nothing_in : (n c : ℕ) → get_or (replicate n nothing) c nothing ≡ nothing
nothing_in zero c = refl
nothing_in (suc n) zero = refl
nothing_in (suc n) (suc c) = nothing_in n c

pub no_column : (t c : ℕ) → column_of blank_tables t c ≡ []
no_column t c = ap (λ (table : List (List ℕ)). get_or table c []) (blank_at t) ∙ nothing_in (length (columns_of t)) c

pub no_rows : (t : ℕ) → rows_of blank_tables t ≡ 0
no_rows t = ap length (no_column t 0)

small : (k : Column) → 0 < limit_of k
small U8 = omega arith
small U16 = omega arith
small U32 = omega arith
small StringIndex = omega arith
small GuidIndex = omega arith
small BlobIndex = omega arith
small (Row t) = omega arith
small (FirstRow t) = omega arith
small (Coded c) = omega arith

pub blank_shape : IsShaped blank_tables
blank_shape = record {
  columns = λ t. ap length (blank_at t) ∙ length-replicate {A = List ℕ} (length (columns_of t)) [];
  rows = λ t c lt. ap length (no_column t c) ∙ sym (no_rows t);
  few = λ t. rw (no_rows t) (omega arith);
  fits = λ t c k. rw (no_column t c) (small (kind_of t c));
}
