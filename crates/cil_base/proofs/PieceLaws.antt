-- Pieces that stand in a list of bytes, parts of it, and the numbers that are read back.
use Rattle.std.proofs.Common.{◌≡◌, ℕ, zero, suc, ◌+◌, ◌-◌, ◌%◌, ◌^◌, ◌<◌, ◌≤◌, List, [], ◌∷◌, ◌++◌, length, drop, take, refl, sym, ap, ◌∙◌, subst, arith, append_assoc, append-nil, length-append, length-drop}
use Rattle.std.specs.List.{concat}
use Rattle.std.specs.Int.{w32, byte_at, bytes_low_first, to_le_bytes}
use Rattle.std.proofs.Math.Seq.{drop-append-add, drop-append_seam, take-append_seam}
use Rattle.std.proofs.lemmas.List.{length-replicate, length-take-le, take_all, take-append-le, drop-append-le, take-take, drop-drop, drop-take}
use Rattle.byteorder.specs.Endian.{little_number}
use Rattle.byteorder.specs.Numbers.{little_number-reads_back, little_from-take, length-bytes_low_first}
use Rattle.cil_base.specs.Numbers.{num}
use Rattle.cil_base.specs.Bytes.{number_bytes, zeros, padding, padded, part, between, IsAt}

-- ---- lengths

pub length_number : (width n : ℕ) → length (number_bytes width n) ≡ width
unfolding number_bytes
length_number width n = length-bytes_low_first 0 width n

pub length_zeros : (n : ℕ) → length (zeros n) ≡ n
length_zeros n = length-replicate {A = ℕ} n 0

pub length_between : (bytes : List ℕ) (from to : ℕ) → from ≤ to → to ≤ length bytes → length (between bytes from to) ≡ to - from
length_between bytes from to le within = length-take-le (to - from) (drop from bytes) (omega (arith, length-drop from bytes))

pub length_padded : (unit : ℕ) (bytes : List ℕ) → length (padded unit bytes) ≡ length bytes + padding unit (length bytes)
length_padded unit bytes = length-append bytes (zeros (padding unit (length bytes))) ∙ ap (λ (n : ℕ). length bytes + n) (length_zeros (padding unit (length bytes)))

-- ---- pieces

pub at_first : (p q : List ℕ) → IsAt (p ++ q) 0 p
at_first p q = record { before = []; after = q; offset = refl; split = refl }

pub at_last : (p q : List ℕ) → IsAt (p ++ q) (length p) q
at_last p q = record { before = p; after = []; offset = refl; split = ap (λ (l : List ℕ). p ++ l) (sym (append-nil q)) }

pub at_between : (p q r : List ℕ) → IsAt (p ++ (q ++ r)) (length p) q
at_between p q r = record { before = p; after = r; offset = refl; split = refl }

-- a piece of a piece
pub at_in : (bytes p q : List ℕ) (a b : ℕ) → IsAt bytes a p → IsAt p b q → IsAt bytes (a + b) q
at_in bytes p q a b x y = record {
  before = x.before ++ y.before;
  after = y.after ++ x.after;
  offset = omega (arith, length-append x.before y.before, x.offset, y.offset);
  split =
      x.split ∙ ap (λ (l : List ℕ). x.before ++ (l ++ x.after)) y.split
      ∙ ap (λ (l : List ℕ). x.before ++ l) (append_assoc y.before (q ++ y.after) x.after ∙ ap (λ (l : List ℕ). y.before ++ l) (append_assoc q y.after x.after))
      ∙ sym (append_assoc x.before y.before (q ++ (y.after ++ x.after)));
}

pub at_moved : (bytes p : List ℕ) (a b : ℕ) → IsAt bytes a p → a ≡ b → IsAt bytes b p
at_moved bytes p a b x e = subst (λ (k : ℕ). IsAt bytes k p) e x

pub at_equal : (bytes p q : List ℕ) (a : ℕ) → IsAt bytes a p → p ≡ q → IsAt bytes a q
at_equal bytes p q a x e = subst (λ (l : List ℕ). IsAt bytes a l) e x

pub at_within : (bytes p : List ℕ) (a : ℕ) → IsAt bytes a p → a + length p ≤ length bytes
at_within bytes p a x =
    omega (arith, ap (λ (l : List ℕ). length l) x.split, length-append x.before (p ++ x.after), length-append p x.after, x.offset)

-- in a list of pieces that are joined, each stands behind those before it
pub at_joined : (xs : List (List ℕ)) (y : List ℕ) (zs : List (List ℕ)) → IsAt (concat (xs ++ y ∷ zs)) (length (concat xs)) y
at_joined [] y zs = at_first y (concat zs)
at_joined (x ∷ xs) y zs =
    at_moved (concat (x ∷ (xs ++ y ∷ zs))) y (length x + length (concat xs)) (length (concat (x ∷ xs)))
    (at_in (x ++ concat (xs ++ y ∷ zs)) (concat (xs ++ y ∷ zs)) y (length x) (length (concat xs)) (at_last x (concat (xs ++ y ∷ zs))) (at_joined xs y zs))
    (sym (length-append x (concat xs)))

-- ---- what is left behind a place

pub dropped : (bytes p : List ℕ) (a : ℕ) → IsAt bytes a p → (rest : List ℕ) × (drop a bytes ≡ p ++ rest)
dropped bytes p a x =
    (x.after, ap (λ (k : ℕ). drop k bytes) (sym x.offset) ∙ ap (drop (length x.before)) x.split ∙ drop-append_seam x.before (p ++ x.after))

pub left_behind : (bytes : List ℕ) (at : ℕ) (piece rest : List ℕ) → drop at bytes ≡ piece ++ rest → drop (at + length piece) bytes ≡ rest
left_behind bytes at piece rest e = sym (drop-drop (length piece) at bytes) ∙ ap (drop (length piece)) e ∙ drop-append_seam piece rest

pub room_behind : (bytes : List ℕ) (at : ℕ) (piece rest : List ℕ) → drop at bytes ≡ piece ++ rest → 0 < length piece → at + length piece + length rest ≡ length bytes
room_behind bytes at piece rest e some =
    let n : length (drop at bytes) ≡ length (piece ++ rest) = ap (λ (l : List ℕ). length l) e in
    omega (arith, n, length-drop at bytes, length-append piece rest)

-- ---- parts

pub part_at : (bytes p : List ℕ) (a n : ℕ) → IsAt bytes a p → length p ≡ n → part bytes a n ≡ p
part_at bytes p a n x e =
    let d = dropped bytes p a x in
    ap (take n) d.1 ∙ ap (λ (k : ℕ). take k (p ++ d.0)) (sym e) ∙ take-append_seam p d.0

-- behind the first of two lists
pub part_skip : (x y : List ℕ) (at n : ℕ) → length x ≤ at → part (x ++ y) at n ≡ part y (at - length x) n
part_skip x y at n le =
    let e : at ≡ length x + (at - length x) = omega arith in
    ap (take n) (ap (λ (k : ℕ). drop k (x ++ y)) e ∙ drop-append-add x y (at - length x))

-- within the first of two lists
pub part_stay : (x y : List ℕ) (at n : ℕ) → at + n ≤ length x → part (x ++ y) at n ≡ part x at n
part_stay x y at n le =
    ap (take n) (drop-append-le at x y (omega arith))
    ∙ take-append-le n (drop at x) y (omega (arith, length-drop at x))

-- a part of a part
pub part_in : (b : List ℕ) (from len k n : ℕ) → k + n ≤ len → part (part b from len) k n ≡ part b (from + k) n
part_in b from len k n le =
    let e : len ≡ k + (len - k) = omega arith in
    ap (λ (m : ℕ). take n (drop k (take m (drop from b)))) e
    ∙ ap (take n) (drop-take k (len - k) (drop from b))
    ∙ take-take n (len - k) (drop k (drop from b)) (omega arith)
    ∙ ap (take n) (drop-drop k from b)

-- ---- numbers

pub num_part : (bytes : List ℕ) (at width : ℕ) → num bytes at width ≡ little_number width (part bytes at width)
unfolding num
num_part bytes at width = sym (little_from-take 0 width width (drop at bytes) (omega arith))

-- where two lists have the same bytes, they have the same numbers
pub num_same : (x y : List ℕ) (p q width : ℕ) → part x p width ≡ part y q width → num x p width ≡ num y q width
num_same x y p q width e = num_part x p width ∙ ap (little_number width) e ∙ sym (num_part y q width)

-- a number that is written is read back
pub num_back : (width : ℕ) (bytes : List ℕ) (at n : ℕ) (rest : List ℕ) → drop at bytes ≡ number_bytes width n ++ rest → n < 256 ^ width → num bytes at width ≡ n
unfolding num number_bytes
num_back width bytes at n rest e small = ap (little_number width) e ∙ little_number-reads_back width n rest small

pub at_number : (bytes : List ℕ) (a width n : ℕ) → IsAt bytes a (number_bytes width n) → n < 256 ^ width → num bytes a width ≡ n
at_number bytes a width n x small = let d = dropped bytes (number_bytes width n) a x in num_back width bytes a n d.0 d.1 small

pub at_byte : (bytes : List ℕ) (a b : ℕ) → IsAt bytes a (b ∷ []) → num bytes a 1 ≡ b
unfolding num
at_byte bytes a b x =
    let d = dropped bytes (b ∷ []) a x in
    ap (little_number 1) d.1 ∙ omega arith

-- a number is that of the bytes in front
pub num_kept : (xs ys : List ℕ) (at width : ℕ) → at + width ≤ length xs → num (xs ++ ys) at width ≡ num xs at width
num_kept xs ys at width le = num_same (xs ++ ys) xs at at width (part_stay xs ys at width le)

take_low : (i k n x : ℕ) → n ≤ k → take n (bytes_low_first i k x) ≡ bytes_low_first i n x
take_low i k zero x le = refl
take_low i zero (suc n) x le = absurd (omega arith)
take_low i (suc k) (suc n) x le = ap (λ (l : List ℕ). byte_at i x ∷ l) (take_low (suc i) k n x (omega arith))

-- the lowest bytes of a number of four
pub number_taken : (width n : ℕ) → width ≤ 4 → take width (to_le_bytes w32 n) ≡ number_bytes width n
unfolding number_bytes
number_taken width n le = take_low 0 4 width n le
