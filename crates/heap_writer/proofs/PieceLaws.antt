-- Pieces of a written root, read again: numbers, names and one stream header.
use Rattle.std.proofs.Common.{◌≡◌, ℕ, suc, ◌+◌, ◌-◌, ◌%◌, ◌^◌, ◌≤◌, ◌<◌, eqb, not, Bool, true, false, cond, ◌||◌, List, [], ◌∷◌, ◌++◌, length, take, drop, refl, sym, ap, ap₂, ◌∙◌, arith, append_assoc, append-nil, length-append}
use Rattle.std.specs.List.{list_any, position_or_len, before_first}
use Rattle.std.proofs.Math.Seq.{drop-append_seam, take-append_seam}
use Rattle.std.proofs.lemmas.List.{length-replicate}
use Rattle.cil_base.specs.Numbers.{num}
use Rattle.cil_base.specs.Bytes.{number_bytes, zeros, padding, padded}
use Rattle.cil_base.proofs.PieceLaws.{length_number, length_padded, num_back}
use Rattle.cli_heaps.specs.Root.{Stream, is_zero, name_at, name_width, header_end, stream_at}
use Rattle.heap_writer.specs.Written.{name_field}

-- ---- numbers and padding

pub num_behind : (width : ℕ) (pre rest : List ℕ) (n : ℕ) → n < 256 ^ width → num (pre ++ (number_bytes width n ++ rest)) (length pre) width ≡ n
num_behind width pre rest n lt = num_back width (pre ++ (number_bytes width n ++ rest)) (length pre) n rest (drop-append_seam pre (number_bytes width n ++ rest)) lt

pub padded_word : (bytes : List ℕ) → length (padded 4 bytes) % 4 ≡ 0
padded_word bytes = let n = length_padded 4 bytes in omega (arith, n)

-- behind a whole number of words the padding is that of what comes
pub padded_behind : (out bytes : List ℕ) → length out % 4 ≡ 0 → padded 4 (out ++ bytes) ≡ out ++ padded 4 bytes
padded_behind out bytes word =
    let same : padding 4 (length (out ++ bytes)) ≡ padding 4 (length bytes) = omega (arith, word, length-append out bytes) in
    append_assoc out bytes (zeros (padding 4 (length (out ++ bytes)))) ∙ ap (λ (n : ℕ). out ++ (bytes ++ zeros n)) same

-- what is padded is not padded again
pub padded_again : (bytes : List ℕ) → padded 4 (padded 4 bytes) ≡ padded 4 bytes
padded_again bytes =
    let none : padding 4 (length (padded 4 bytes)) ≡ 0 = omega (arith, padded_word bytes) in
    ap (λ (n : ℕ). padded 4 bytes ++ zeros n) none ∙ append-nil (padded 4 bytes)

-- ---- names

-- no byte of a name is zero
pub name_ends : (xs : List ℕ) → list_any is_zero (before_first is_zero xs) ≡ false
name_ends [] = refl
name_ends (x ∷ xs) = go (eqb x 0) refl (name_ends xs)
  where
    one : (n : ℕ) → take (1 + n) (x ∷ xs) ≡ x ∷ take n xs
    one n = let e : 1 + n ≡ suc n = omega arith in ap (λ (k : ℕ). take k (x ∷ xs)) e

    go : (b : Bool) → eqb x 0 ≡ b → list_any is_zero (take (position_or_len is_zero xs) xs) ≡ false → list_any is_zero (take (cond (not b) (1 + position_or_len is_zero xs) 0) (x ∷ xs)) ≡ false
    go true e rest = refl
    go false e rest = ap (list_any is_zero) (one (position_or_len is_zero xs)) ∙ ap (λ (b : Bool). b || list_any is_zero (take (position_or_len is_zero xs) xs)) e ∙ rest

zero_behind : (name rest : List ℕ) → list_any is_zero name ≡ false → position_or_len is_zero (name ++ 0 ∷ rest) ≡ length name
zero_behind [] rest h = refl
zero_behind (x ∷ xs) rest h = go (eqb x 0) (λ k. zero_behind xs rest k) h
  where
    go : (b : Bool) → (list_any is_zero xs ≡ false → position_or_len is_zero (xs ++ 0 ∷ rest) ≡ length xs) → (b || list_any is_zero xs) ≡ false → cond (not b) (1 + position_or_len is_zero (xs ++ 0 ∷ rest)) 0 ≡ suc (length xs)
    go true r k = absurd cc
    go false r k = let e = r k in omega (arith, e)

-- a name is read, whatever follows its zero bytes
name_read : (name rest : List ℕ) → list_any is_zero name ≡ false → before_first is_zero (name_field name ++ rest) ≡ name
name_read name rest h =
    let some : name_width (length name) - length name ≡ suc (name_width (length name) - length name - 1) = omega arith in
    let k = name_width (length name) - length name - 1 in
    let shape : name_field name ++ rest ≡ name ++ (0 ∷ (zeros k ++ rest)) = ap (λ (n : ℕ). (name ++ zeros n) ++ rest) some ∙ append_assoc name (0 ∷ zeros k) rest in
    ap (before_first is_zero) shape
    ∙ ap (λ (n : ℕ). take n (name ++ (0 ∷ (zeros k ++ rest)))) (zero_behind name (zeros k ++ rest) h)
    ∙ take-append_seam name (0 ∷ (zeros k ++ rest))

pub length-name_field : (name : List ℕ) → length (name_field name) ≡ name_width (length name)
length-name_field name =
    let all = length-append name (zeros (name_width (length name) - length name)) in
    let n = length-replicate {A = ℕ} (name_width (length name) - length name) 0 in
    omega (arith, all, n)

-- ---- a stream header

pub record HeaderHere (meta : List ℕ) (at o n : ℕ) (name : List ℕ) : Type 0 where
  pub stream_is : stream_at meta at ≡ record { header = at; offset = o; size = n; name = name }
  pub end_is : header_end meta at ≡ at + 8 + name_width (length name)
  pub whole : header_end meta at ≤ length meta

stream_same : (at o p n m : ℕ) (x y : List ℕ) → o ≡ p → n ≡ m → x ≡ y → ◌≡◌ {A = Stream} (record { header = at; offset = o; size = n; name = x }) (record { header = at; offset = p; size = m; name = y })
stream_same at o p n m x y e f g =
    ap₂ (λ (a b : ℕ). let s : Stream = record { header = at; offset = a; size = b; name = x } in s) e f
    ∙ ap (λ (z : List ℕ). let s : Stream = record { header = at; offset = p; size = m; name = z } in s) g

pub header_here : (meta pre rest name : List ℕ) (at o n : ℕ) → meta ≡ pre ++ (number_bytes 4 o ++ (number_bytes 4 n ++ (name_field name ++ rest))) → length pre ≡ at → o < 2 ^ 32 → n < 2 ^ 32 → list_any is_zero name ≡ false → HeaderHere meta at o n name
header_here meta pre rest name at o n e len small few h =
    let len4 : length (pre ++ number_bytes 4 o) ≡ at + 4 = omega (arith, length-append pre (number_bytes 4 o), length_number 4 o, len) in
    let split4 : meta ≡ (pre ++ number_bytes 4 o) ++ (number_bytes 4 n ++ (name_field name ++ rest)) = e ∙ sym (append_assoc pre (number_bytes 4 o) (number_bytes 4 n ++ (name_field name ++ rest))) in
    let len8 : length ((pre ++ number_bytes 4 o) ++ number_bytes 4 n) ≡ at + 8 = omega (arith, length-append (pre ++ number_bytes 4 o) (number_bytes 4 n), length_number 4 n, len4) in
    let split8 : meta ≡ ((pre ++ number_bytes 4 o) ++ number_bytes 4 n) ++ (name_field name ++ rest) = split4 ∙ sym (append_assoc (pre ++ number_bytes 4 o) (number_bytes 4 n) (name_field name ++ rest)) in
    let offset : num meta at 4 ≡ o = ap₂ (λ (m : List ℕ) (k : ℕ). num m k 4) e (sym len) ∙ num_behind 4 pre (number_bytes 4 n ++ (name_field name ++ rest)) o small in
    let size : num meta (at + 4) 4 ≡ n = ap₂ (λ (m : List ℕ) (k : ℕ). num m k 4) split4 (sym len4) ∙ num_behind 4 (pre ++ number_bytes 4 o) (name_field name ++ rest) n few in
    let read : name_at meta (at + 8) ≡ name =
    ap₂ (λ (m : List ℕ) (k : ℕ). before_first is_zero (drop k m)) split8 (sym len8)
    ∙ ap (before_first is_zero) (drop-append_seam ((pre ++ number_bytes 4 o) ++ number_bytes 4 n) (name_field name ++ rest))
    ∙ name_read name rest h in
    let end : header_end meta at ≡ at + 8 + name_width (length name) = ap (λ (x : List ℕ). at + 8 + name_width (length x)) read in
    let long : length meta ≡ at + 8 + (name_width (length name) + length rest) =
    ap length split8
    ∙ length-append ((pre ++ number_bytes 4 o) ++ number_bytes 4 n) (name_field name ++ rest)
    ∙ ap₂ (λ (a b : ℕ). a + b) len8 (length-append (name_field name) rest ∙ ap (λ (k : ℕ). k + length rest) (length-name_field name)) in
    record {
      stream_is = stream_same at (num meta at 4) o (num meta (at + 4) 4) n (name_at meta (at + 8)) name offset size read;
      end_is = end;
      whole = omega (arith, end, long);
    }
