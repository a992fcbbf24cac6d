-- User strings that stay whole when others come behind them.
use Rattle.std.proofs.Common.{◌≡◌, ℕ, zero, suc, ◌+◌, ◌-◌, ◌*◌, eqb, Option, ◌≤◌, ◌<◌, leb, Bool, true, false, ◌&&◌, ◌||◌, ◌%◌, ◌^◌, ◌++◌, length-append, List, [], ◌∷◌, length, drop, Some, None, refl, ap, ◌∙◌, arith}
use Rattle.std.proofs.lemmas.Bool.{le-leb, eq-eqb}
use Rattle.std.proofs.lemmas.List.{drop_all}
use Rattle.std.specs.List.{flat_map}
use Rattle.cil_base.specs.Packed.{packed_front, packed_at, packed_spelling}
use Rattle.cli_heaps.specs.RootRules.{is_user_string_length, is_entry, are_user_strings}
use Rattle.cli_heaps.proofs.UserStringLaws.{width_positive, user_strings_step}
use Rattle.heap_writer.specs.Growth.{unit_bytes, user_string_content}
use Rattle.heap_writer.proofs.ReadLaws.{packed_kept, spelling_read}

-- entries, and behind them further entries
pub user_strings_join : (left : ℕ) (xs ys : List ℕ) → are_user_strings left xs ≡ true → are_user_strings left (xs ++ ys) ≡ are_user_strings 0 ys
user_strings_join zero [] ys h = refl
user_strings_join (suc left) [] ys h = absurd (differ h)
  where
    differ : false ≡ true → ⊥
    differ k = cc
user_strings_join (suc left) (x ∷ xs) ys h = user_strings_join left xs ys h
user_strings_join zero (b ∷ rest) ys h = go (λ left k. user_strings_join left rest ys k) (packed_front (b ∷ rest)) refl h
  where
    go : ((left : ℕ) → are_user_strings left rest ≡ true → are_user_strings left (rest ++ ys) ≡ are_user_strings 0 ys) → (o : Option (ℕ × ℕ)) → packed_front (b ∷ rest) ≡ o → is_entry (λ left. are_user_strings left rest) o ≡ true
        → is_entry (λ left. are_user_strings left (rest ++ ys)) (packed_front (b ∷ (rest ++ ys))) ≡ are_user_strings 0 ys
    go behind None e k = absurd cc
    go behind (Some (n, width)) e k = ap (is_entry (λ left. are_user_strings left (rest ++ ys))) (packed_kept (b ∷ rest) ys (n, width) e) ∙ both (is_user_string_length n) k
      where
        both : (c : Bool) → (c && are_user_strings (n + width - 1) rest) ≡ true → (c && are_user_strings (n + width - 1) (rest ++ ys)) ≡ are_user_strings 0 ys
        both true l = behind (n + width - 1) l
        both false l = absurd cc

-- one entry of an allowed length
pub user_strings_one : (b : List ℕ) → length b < 2 ^ 29 → is_user_string_length (length b) ≡ true → are_user_strings 0 (packed_spelling (length b) ++ b) ≡ true
user_strings_one b small odd =
    let width = length (packed_spelling (length b)) in
    let entry = packed_spelling (length b) ++ b in
    let read : packed_at entry 0 ≡ Some (length b, width) = spelling_read (length b) b small in
    let positive : 1 ≤ width = width_positive entry (length b) width read in
    let long : length entry ≡ width + length b = length-append (packed_spelling (length b)) b in
    let within : leb (0 + length b + width) (length entry) ≡ true = le-leb (0 + length b + width) (length entry) (omega (arith, long)) in
    let none : drop (0 + length b + width) entry ≡ [] = drop_all (0 + length b + width) entry (omega (arith, long)) in
    user_strings_step entry 0 (length b) width (omega (arith, long, positive)) read ∙ rw (odd, within) (ap (are_user_strings 0) none)

-- the units take two bytes each, and one byte stands behind them
pub user_string_content_odd : (units : List ℕ) → is_user_string_length (length (user_string_content units)) ≡ true
user_string_content_odd units = odd (length (user_string_content units)) (length units) (length-append (flat_map unit_bytes units) _ ∙ ap (λ (k : ℕ). k + 1) (twice units))
  where
    twice : (us : List ℕ) → length (flat_map unit_bytes us) ≡ 2 * length us
    twice [] = refl
    twice (u ∷ us) = let rest = twice us in omega (arith, rest)

    odd : (n k : ℕ) → n ≡ 2 * k + 1 → is_user_string_length n ≡ true
    odd n k e = let r : n % 2 ≡ 1 = omega arith in some_or (eqb n 0) (eq-eqb (n % 2) 1 r)
      where
        some_or : (a : Bool) {b : Bool} → b ≡ true → (a || b) ≡ true
        some_or true h = refl
        some_or false h = h
