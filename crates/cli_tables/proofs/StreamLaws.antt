-- Counts of tables and places of rows.
use Rattle.std.proofs.Common.{◌≡◌, ℕ, zero, suc, ◌+◌, ◌*◌, ◌/◌, ◌%◌, ◌^◌, ◌<◌, ◌≤◌, eqb, Bool, true, false, cond, List, length, get_or, drop, refl, sym, ap, ◌∙◌, inl, inr, arith, add-one}
use Rattle.std.proofs.lemmas.List.{get_or-drop}
use Rattle.std.proofs.lemmas.Bool.{cases_eq}
use Rattle.std.proofs.lemmas.Nat.{ones_cat, pow_pos}
use Rattle.std.specs.Int.RustNames.{count_ones}
use Rattle.std.proofs.Math.Arith.{mod-mul}
use Rattle.std.proofs.Math.Nat.{pow-succ', mod-lt, mod-eq_of_lt}
use Rattle.std.specs.Int.Count.{ones-ones}
use Rattle.cil_base.specs.Numbers.{num}
use Rattle.std.proofs.lemmas.List.FromFn.{fill_by_all}
use Rattle.cli_tables.specs.declared.sizes.Sizes.{Sizes}
use Rattle.cli_tables.specs.Stream.{has_table, tables_below, row_count, rows_start, counts_in, bytes_below, count_of, row_width}

pub tables_below_more : (bytes : List ℕ) (table : ℕ) → tables_below bytes (table + 1) ≡ tables_below bytes table + cond (has_table bytes table) 1 0
unfolding tables_below
tables_below_more bytes table = rw add-one refl

pub tables_below_le : (bytes : List ℕ) (n m : ℕ) → n ≤ m → tables_below bytes n ≤ tables_below bytes m
tables_below_le bytes n zero le = let e : n ≡ 0 = omega arith in rw e (omega arith)
tables_below_le bytes n (suc m) le =
    elim (cases_eq n (suc m)) [
      | inl e ↦ rw e (omega arith)
      | inr ne ↦ let before : tables_below bytes n ≤ tables_below bytes m = tables_below_le bytes n m (omega arith) in
          let more : tables_below bytes (suc m) ≡ tables_below bytes m + cond (has_table bytes m) 1 0 = ap (tables_below bytes) (sym (add-one m)) ∙ tables_below_more bytes m in
          omega arith
    ]

pub byte_at : (bytes : List ℕ) (at : ℕ) → get_or bytes at 0 ≡ num bytes at 1
unfolding num
byte_at bytes at =
    let e : get_or (drop at bytes) 0 0 ≡ get_or bytes (at + 0) 0 = get_or-drop at bytes 0 0 in
    let f : get_or bytes (at + 0) 0 ≡ get_or bytes at 0 = ap (λ (k : ℕ). get_or bytes k 0) (omega arith) in
    grind (arith, e, f)

-- a count whose bit of Valid is set stands before the rows
pub count_fits : (bytes : List ℕ) (table at : ℕ) → table < 64 → at ≡ 24 + 4 * tables_below bytes table → rows_start bytes ≤ length bytes → has_table bytes table ≡ true → at + 4 ≤ length bytes
count_fits bytes table at lt place whole there =
    let more : tables_below bytes (table + 1) ≡ tables_below bytes table + 1 = tables_below_more bytes table ∙ ap (λ (b : Bool). tables_below bytes table + cond b 1 0) there in
    let le : tables_below bytes (table + 1) ≤ tables_below bytes 64 = tables_below_le bytes (table + 1) 64 (omega arith) in
    omega arith

pub counts_all : (bytes counts : List ℕ) → length counts ≡ 64 → ((k : ℕ) → k < 64 → get_or counts k 0 ≡ row_count bytes k) → counts ≡ counts_in bytes
unfolding counts_in
counts_all bytes counts many all = fill_by_all (row_count bytes) counts 64 0 many all

pub tables_below_small : (bytes : List ℕ) (table : ℕ) → tables_below bytes table ≤ table
unfolding tables_below
tables_below_small bytes zero = omega arith
tables_below_small bytes (suc table) = go (has_table bytes table) (tables_below_small bytes table)
  where
    go : (b : Bool) → tables_below bytes table ≤ table → tables_below bytes table + cond b 1 0 ≤ suc table
    go true h = omega arith
    go false h = omega arith

pub place_yes : (bytes : List ℕ) (table at next : ℕ) → at ≡ 24 + 4 * tables_below bytes table → has_table bytes table ≡ true → next ≡ at + 4 → next ≡ 24 + 4 * tables_below bytes (table + 1)
place_yes bytes table at next place there e =
    let more : tables_below bytes (table + 1) ≡ tables_below bytes table + 1 = tables_below_more bytes table ∙ ap (λ (b : Bool). tables_below bytes table + cond b 1 0) there in
    omega arith

pub place_no : (bytes : List ℕ) (table at next : ℕ) → at ≡ 24 + 4 * tables_below bytes table → has_table bytes table ≡ false → next ≡ at → next ≡ 24 + 4 * tables_below bytes (table + 1)
place_no bytes table at next place there e =
    let more : tables_below bytes (table + 1) ≡ tables_below bytes table + 0 = tables_below_more bytes table ∙ ap (λ (b : Bool). tables_below bytes table + cond b 1 0) there in
    omega arith

bit_ones : (v t : ℕ) → count_ones (v / 2 ^ t % 2) ≡ cond (eqb (v / 2 ^ t % 2) 1) 1 0
bit_ones v t = go (v / 2 ^ t % 2) (mod-lt (v / 2 ^ t) (omega arith))
  where
    go : (b : ℕ) → b < 2 → count_ones b ≡ cond (eqb b 1) 1 0
    go zero lt = ones-ones 0
    go (suc zero) lt = ones-ones 1
    go (suc (suc b)) lt = absurd (omega arith)

-- the tables with a lower number are the bits of Valid below
below_ones : (bytes : List ℕ) (t : ℕ) → tables_below bytes t ≡ count_ones (num bytes 8 8 % 2 ^ t)
unfolding tables_below
below_ones bytes zero = let e : num bytes 8 8 % 1 ≡ 0 = omega arith in sym (ap count_ones e ∙ ones-ones 0)
below_ones bytes (suc t) =
    let v = num bytes 8 8 in
    let parts : v % 2 ^ suc t ≡ (v / 2 ^ t % 2) * 2 ^ t + v % 2 ^ t = ap (λ (p : ℕ). v % p) (pow-succ' 2 t) ∙ mod-mul v {m = 2} {c = 2 ^ t} (omega arith) (pow_pos t) in
    ap (λ (n : ℕ). n + cond (has_table bytes t) 1 0) (below_ones bytes t)
    ∙ omega (arith, bit_ones v t, ap count_ones parts, ones_cat t (v / 2 ^ t % 2) (v % 2 ^ t) (mod-lt v (pow_pos t)))

pub start_ones : (bytes : List ℕ) → num bytes 8 8 < 2 ^ 64 → rows_start bytes ≡ 24 + 4 * count_ones (num bytes 8 8)
start_ones bytes small = ap (λ (n : ℕ). 24 + 4 * n) (below_ones bytes 64 ∙ ap count_ones (mod-eq_of_lt small))

pub bytes_below_more : (s : Sizes) (table : ℕ) → bytes_below s (table + 1) ≡ bytes_below s table + count_of s table * row_width s table
unfolding bytes_below
bytes_below_more s table = rw add-one refl

pub bytes_below_none : (s : Sizes) → bytes_below s 0 ≡ 0
unfolding bytes_below
bytes_below_none s = refl
