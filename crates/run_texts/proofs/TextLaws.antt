-- Units from bytes, a byte at a time.
use Rattle.std.proofs.Common.{◌≡◌, ℕ, zero, suc, ◌+◌, ◌-◌, ◌<◌, ◌≤◌, List, ◌∷◌, ◌++◌, take, drop, get_or, length, length-drop, refl, sym, ap, ◌∙◌, append_assoc, append-nil, drop-cons, arith}
use Rattle.std.proofs.lemmas.List.{take_all, drop_all}
use Rattle.cil_model.specs.Texts.{units_from, units_or, char_from, passed, text_units}

-- all bytes behind the first i, as a slice has them
pub all_behind : {A : Type 0} (xs : List A) (n : ℕ) → n ≤ length xs → take (length xs - n) (drop n xs) ≡ drop n xs
all_behind {A} xs n h = take_all (length xs - n) (drop n xs) (omega (arith, length-drop {A = A} n xs))

head : (xs : List ℕ) (i : ℕ) → i < length xs → drop i xs ≡ get_or xs i 0 ∷ drop (i + 1) xs
head xs i h = let e : suc i ≡ i + 1 = omega arith in drop-cons xs i 0 h ∙ ap (λ k. get_or xs i 0 ∷ drop k xs) e

skip_from : (more b : ℕ) (rest : List ℕ) → 0 < more → units_from more (b ∷ rest) ≡ units_from (more - 1) rest
unfolding units_from
skip_from zero b rest h = absurd (omega arith)
skip_from (suc m) b rest h = let e : m ≡ suc m - 1 = omega arith in ap (λ k. units_from k rest) e

read_from : (b : ℕ) (rest : List ℕ) → units_from 0 (b ∷ rest) ≡ units_or (char_from b rest) ++ units_from (passed (char_from b rest)) rest
unfolding units_from
read_from b rest = refl

-- a byte of a character that was read
pub skipped : (units name : List ℕ) (i more : ℕ) → i < length name → 0 < more → units ++ units_from more (drop i name) ≡ text_units name
    → units ++ units_from (more - 1) (drop (i + 1) name) ≡ text_units name
skipped units name i more h pos e =
    ap (λ z. units ++ z) (sym (ap (units_from more) (head name i h) ∙ skip_from more (get_or name i 0) (drop (i + 1) name) pos)) ∙ e

-- a byte at which a character may begin
pub read : (units name : List ℕ) (i more : ℕ) → i < length name → more ≤ 0 → units ++ units_from more (drop i name) ≡ text_units name
    → (units ++ units_or (char_from (get_or name i 0) (drop (i + 1) name))) ++ units_from (passed (char_from (get_or name i 0) (drop (i + 1) name))) (drop (i + 1) name) ≡ text_units name
read units name i more h none e =
    let c = char_from (get_or name i 0) (drop (i + 1) name) in
    let z : more ≡ 0 = omega arith in
    append_assoc units (units_or c) (units_from (passed c) (drop (i + 1) name))
    ∙ (ap (λ k. units ++ k) (sym (ap (units_from 0) (head name i h) ∙ read_from (get_or name i 0) (drop (i + 1) name))) ∙ (ap (λ k. units ++ units_from k (drop i name)) (sym z) ∙ e))

pub read_all : (units name : List ℕ) (i more : ℕ) → length name ≤ i → units ++ units_from more (drop i name) ≡ text_units name → units ≡ text_units name
unfolding units_from
read_all units name i more h e = sym (append-nil units) ∙ (ap (λ k. units ++ units_from more k) (sym (drop_all i name h)) ∙ e)
