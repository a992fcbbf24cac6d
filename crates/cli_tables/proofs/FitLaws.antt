-- Numbers that are read fit their columns.
use Rattle.std.proofs.Common.{◌≡◌, ℕ, zero, suc, ◌+◌, ◌*◌, ◌^◌, ◌<◌, Bool, true, false, not, List, get_or, drop, Some, sym, subst, inl, inr, arith}
use Rattle.std.specs.List.{list_all}
use Rattle.std.proofs.lemmas.List.{get_or_past, get_or-drop}
use Rattle.std.proofs.lemmas.List.FromFn.{get_or-map-range_with_len, length-map-range_with_len}
use Rattle.std.proofs.lemmas.Bool.{cases_lt}
use Rattle.std.proofs.Math.Nat.{pow-suc}
use Rattle.byteorder.specs.Endian.{little_from}
use Rattle.cil_base.specs.Numbers.{num}
use Rattle.cli_tables.specs.declared.schema.Column.{Column}
use Rattle.cli_tables.specs.declared.schema.Column.TheVariants.{U8, U16, U32, StringIndex, GuidIndex, BlobIndex, Row, FirstRow, Coded}
use Rattle.cli_tables.specs.declared.sizes.Sizes.{Sizes}
use Rattle.cli_tables.specs.Schema.{tag_bits, coded_tables}
use Rattle.cli_tables.specs.Stream.{width_of, row_width, offset_of, kind_of, index_width, has_few}
use Rattle.cli_tables.specs.Layout.{column_in}
use Rattle.cli_tables.specs.Tables.{limit_of}

-- bytes are below 256
abbrev pub AreBytes : List ℕ → Type 0
AreBytes bytes = (i : ℕ) → get_or bytes i 0 < 256

from_fits : (xs : List ℕ) (i n : ℕ) → AreBytes xs → little_from i n xs < 256 ^ n
from_fits xs i zero h = omega arith
from_fits xs i (suc n) h =
    let rest : little_from (suc i) n xs < 256 ^ n = from_fits xs (suc i) n h in
    let first = h i in
    let p : 256 ^ suc n ≡ 256 ^ n * 256 = pow-suc 256 n in
    omega (arith, rest, first, p)

pub num_fits : (bytes : List ℕ) (at width : ℕ) → AreBytes bytes → num bytes at width < 256 ^ width
unfolding num
num_fits bytes at width h = from_fits (drop at bytes) 0 width (λ i. rw get_or-drop (h (at + i)))

index_fits : (bytes : List ℕ) (at : ℕ) (b : Bool) → AreBytes bytes → num bytes at (index_width b) < 2 ^ 32
index_fits bytes at true h = let e = num_fits bytes at 2 h in omega (arith, e)
index_fits bytes at false h = num_fits bytes at 4 h

pub column_fits : (bytes : List ℕ) (at : ℕ) (s : Sizes) (k : Column) → AreBytes bytes → num bytes at (width_of s k) < limit_of k
column_fits bytes at s U8 h = num_fits bytes at 1 h
column_fits bytes at s U16 h = num_fits bytes at 2 h
column_fits bytes at s U32 h = num_fits bytes at 4 h
column_fits bytes at s StringIndex h = index_fits bytes at (not s.wide_strings) h
column_fits bytes at s GuidIndex h = index_fits bytes at (not s.wide_guids) h
column_fits bytes at s BlobIndex h = index_fits bytes at (not s.wide_blobs) h
column_fits bytes at s (Row t) h = index_fits bytes at (has_few s 0 (Some t)) h
column_fits bytes at s (FirstRow t) h = index_fits bytes at (has_few s 0 (Some t)) h
column_fits bytes at s (Coded k) h = index_fits bytes at (list_all (has_few s (tag_bits k)) (coded_tables k)) h

pub some_limit : (k : Column) → 0 < limit_of k
some_limit U8 = omega arith
some_limit U16 = omega arith
some_limit U32 = omega arith
some_limit StringIndex = omega arith
some_limit GuidIndex = omega arith
some_limit BlobIndex = omega arith
some_limit (Row t) = omega arith
some_limit (FirstRow t) = omega arith
some_limit (Coded k) = omega arith

pub strided_fits : (bytes : List ℕ) (s : Sizes) (start table rows c k : ℕ) → AreBytes bytes → get_or (column_in bytes s start table rows c) k 0 < limit_of (kind_of table c)
strided_fits bytes s start table rows c k h =
    elim (cases_lt k rows) [
      | inl lt ↦
          let e : get_or (column_in bytes s start table rows c) k 0 ≡ num bytes ((start + offset_of s table c) + k * row_width s table) (width_of s (kind_of table c)) =
          get_or-map-range_with_len (λ (j : ℕ). num bytes ((start + offset_of s table c) + j * row_width s table) (width_of s (kind_of table c))) 0 rows k k 0 lt (omega arith) in
          subst (λ (v : ℕ). v < limit_of (kind_of table c)) (sym e) (column_fits bytes ((start + offset_of s table c) + k * row_width s table) s (kind_of table c) h)
      | inr past ↦
          let e : get_or (column_in bytes s start table rows c) k 0 ≡ 0 = get_or_past (column_in bytes s start table rows c) k 0
          (omega (arith, past, length-map-range_with_len (λ (j : ℕ). num bytes ((start + offset_of s table c) + j * row_width s table) (width_of s (kind_of table c))) 0 rows)) in
          subst (λ (v : ℕ). v < limit_of (kind_of table c)) (sym e) (some_limit (kind_of table c))
    ]
