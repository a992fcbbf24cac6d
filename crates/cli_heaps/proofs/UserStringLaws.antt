-- Entries of the stream of user strings, one after another.
use Rattle.std.proofs.Common.{◌≡◌, ℕ, zero, suc, ◌+◌, ◌-◌, ◌≤◌, ◌<◌, ltb, leb, Bool, true, false, cond, ◌&&◌, List, [], ◌∷◌, length, drop, get_or, drop-cons, Some, None, refl, sym, ap, ◌∙◌, arith}
use Rattle.std.proofs.lemmas.Bool.{le-leb}
use Rattle.std.proofs.lemmas.List.{drop-drop, length-drop}
use Rattle.cil_base.specs.Packed.{packed_front, packed_two, packed_four, packed_at}
use Rattle.cli_heaps.specs.RootRules.{is_user_string_length, is_entry, are_user_strings}

width_of : (x y : ℕ × ℕ) → Some x ≡ Some y → x.1 ≡ y.1
width_of x y e = let same : x ≡ y = cc in ap (λ (p : ℕ × ℕ). p.1) same

-- a length takes a byte at least
pub width_positive : (bytes : List ℕ) (n width : ℕ) → packed_front bytes ≡ Some (n, width) → 1 ≤ width
width_positive [] n width e = absurd cc
width_positive (a ∷ rest) n width e = go (ltb a 0x80) (ltb a 0xC0) (ltb a 0xE0) e
  where
    two : (bs : List ℕ) → packed_two a bs ≡ Some (n, width) → 1 ≤ width
    two [] h = absurd cc
    two (b ∷ bs) h = let k : 2 ≡ width = width_of _ _ h in omega arith

    four : (bs : List ℕ) → packed_four a bs ≡ Some (n, width) → 1 ≤ width
    four [] h = absurd cc
    four (b ∷ []) h = absurd cc
    four (b ∷ (c ∷ [])) h = absurd cc
    four (b ∷ (c ∷ (d ∷ bs))) h = let k : 4 ≡ width = width_of _ _ h in omega arith

    go : (x y z : Bool) → cond x (Some (a, 1)) (cond y (packed_two a rest) (cond z (packed_four a rest) None)) ≡ Some (n, width) → 1 ≤ width
    go true y z h = let k : 1 ≡ width = width_of _ _ h in omega arith
    go false true z h = two rest h
    go false false true h = four rest h
    go false false false h = absurd cc

-- after the rest of an entry
pub user_strings_skip : (left : ℕ) (xs : List ℕ) → are_user_strings left xs ≡ (leb left (length xs) && are_user_strings 0 (drop left xs))
user_strings_skip zero xs = sym (ap (λ (b : Bool). b && are_user_strings 0 xs) (least (length xs)))
  where
    least : (n : ℕ) → leb 0 n ≡ true
    least n = grind arith
user_strings_skip (suc left) [] = sym (ap (λ (b : Bool). b && are_user_strings 0 []) (most left))
  where
    most : (n : ℕ) → leb (suc n) 0 ≡ false
    most n = grind arith
user_strings_skip (suc left) (x ∷ xs) = user_strings_skip left xs ∙ ap (λ (b : Bool). b && are_user_strings 0 (drop left xs)) (same left (length xs))
  where
    same : (a b : ℕ) → leb a b ≡ leb (suc a) (suc b)
    same a b = grind arith

-- the bytes from a place on have a first byte
front : (bytes : List ℕ) (at : ℕ) → at < length bytes → drop at bytes ≡ get_or bytes at 0 ∷ drop (suc at) bytes
front bytes at lt = drop-cons bytes at 0 lt

pub user_strings_step : (bytes : List ℕ) (at n width : ℕ) → at < length bytes → packed_at bytes at ≡ Some (n, width) → are_user_strings 0 (drop at bytes) ≡ (is_user_string_length n && (leb (at + n + width) (length bytes) && are_user_strings 0 (drop (at + n + width) bytes)))
user_strings_step bytes at n width lt e =
    let begins = front bytes at lt in
    let read : packed_front (get_or bytes at 0 ∷ drop (suc at) bytes) ≡ Some (n, width) = sym (ap packed_front begins) ∙ e in
    let positive : 1 ≤ width = width_positive (drop at bytes) n width e in
    let m : suc at + (n + width - 1) ≡ at + n + width = omega arith in
    let behind : drop (n + width - 1) (drop (suc at) bytes) ≡ drop (at + n + width) bytes = drop-drop (n + width - 1) (suc at) bytes ∙ ap (λ (k : ℕ). drop k bytes) m in
    ap (are_user_strings 0) begins
    ∙ ap (is_entry (λ (left : ℕ). are_user_strings left (drop (suc at) bytes))) read
    ∙ ap (λ (b : Bool). is_user_string_length n && b) (user_strings_skip (n + width - 1) (drop (suc at) bytes) ∙ within (n + width - 1) refl positive behind)
  where
    fits : (k left end : ℕ) → k ≡ n + width - 1 → 1 ≤ width → at < end → left ≡ end - suc at → leb k left ≡ leb (at + n + width) end
    fits k left end h positive less l = grind arith

    within : (k : ℕ) → k ≡ n + width - 1 → 1 ≤ width → drop k (drop (suc at) bytes) ≡ drop (at + n + width) bytes → (leb k (length (drop (suc at) bytes)) && are_user_strings 0 (drop k (drop (suc at) bytes))) ≡ (leb (at + n + width) (length bytes) && are_user_strings 0 (drop (at + n + width) bytes))
    within k h positive behind =
        ap (λ (b : Bool). b && are_user_strings 0 (drop k (drop (suc at) bytes))) (fits k (length (drop (suc at) bytes)) (length bytes) h positive lt (length-drop (suc at) bytes))
        ∙ ap (λ (xs : List ℕ). leb (at + n + width) (length bytes) && are_user_strings 0 xs) behind

-- an entry of a wrong length, or one that passes the end
pub user_strings_refused : (bytes : List ℕ) (at n width : ℕ) → at < length bytes → packed_at bytes at ≡ Some (n, width) → (is_user_string_length n && leb (at + n + width) (length bytes)) ≡ false → are_user_strings 0 (drop at bytes) ≡ false
user_strings_refused bytes at n width lt e h = user_strings_step bytes at n width lt e ∙ go (is_user_string_length n) (leb (at + n + width) (length bytes)) h
  where
    go : (x y : Bool) → (x && y) ≡ false → (x && (y && are_user_strings 0 (drop (at + n + width) bytes))) ≡ false
    go true true k = absurd cc
    go true false k = refl
    go false y k = refl

pub user_strings_go_on : (bytes : List ℕ) (at n width : ℕ) → at < length bytes → packed_at bytes at ≡ Some (n, width) → is_user_string_length n ≡ true → at + n + width ≤ length bytes → are_user_strings 0 (drop (at + n + width) bytes) ≡ are_user_strings 0 (drop at bytes)
user_strings_go_on bytes at n width lt e odd le =
    let within : leb (at + n + width) (length bytes) ≡ true = le-leb (at + n + width) (length bytes) le in
    sym (user_strings_step bytes at n width lt e ∙ rw (odd, within) refl)

pub user_strings_cut : (bytes : List ℕ) (at : ℕ) → at < length bytes → packed_at bytes at ≡ None → are_user_strings 0 (drop at bytes) ≡ false
user_strings_cut bytes at lt e =
    let begins = front bytes at lt in
    ap (are_user_strings 0) begins ∙ ap (is_entry (λ (left : ℕ). are_user_strings left (drop (suc at) bytes))) (sym (ap packed_front begins) ∙ e)
