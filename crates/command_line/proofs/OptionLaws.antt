-- Words by two, numbers, and where a wrong word stands.
use Rattle.std.proofs.Common.{◌≡◌, ◌≢◌, ℕ, zero, suc, ◌+◌, ◌-◌, ◌^◌, ◌<◌, ◌≤◌, Bool, true, false, not, ◌&&◌, ◌==◌, nat_le, List, [], ◌∷◌, ◌++◌, length, take, drop, get_or, Some, None, Result, Ok, Err, refl, sym, ap, ◌∙◌, arith, string_bytes}
use Rattle.std.specs.Prelude.{String}
use Rattle.std.specs.Result.{OkIff}
use Rattle.std.specs.Str.{all_ascii_digits}
use Rattle.std.specs.Str.Parse.{ParsesUnsigned, digits_value}
use Rattle.std.specs.declared.alloc.Global.{Global}
use Rattle.std.proofs.lemmas.Grind.{common_steps}
use Rattle.std.proofs.lemmas.Str.Parse.{IsNumeralModel, numerals_by_value, tells_all_ascii_digits, parse_plain}
use Rattle.command_line.specs.declared.options.OptionName.{OptionName}
use Rattle.command_line.specs.Options.{texts, is_option, begins_plain, is_number, number_of, value_of, allowed, wrong_pair, wrong_last, wrong_option}

-- ---- words by two

pub no_value : (name : List ℕ) (rest : List (String Global)) → length rest < 2 → value_of name (texts rest) ≡ None
no_value name [] l = refl
no_value name (w ∷ []) l = refl
no_value name (w ∷ v ∷ ws) l = absurd (omega arith)

take_all : (ws : List (String Global)) (n : ℕ) → n ≡ length ws → take n ws ≡ ws
take_all [] zero e = refl
take_all [] (suc n) e = absurd (omega (arith, e))
take_all (w ∷ ws) zero e = absurd (omega (arith, e))
take_all (w ∷ ws) (suc n) e = ap (λ l. w ∷ l) (take_all ws n (omega (arith, e)))

pub two_words : (rest : List (String Global)) (w v : String Global) → 2 ≤ length rest → w ≡ get_or rest 0 w → v ≡ get_or rest 1 v → rest ≡ w ∷ v ∷ take (length rest - 2) (drop 2 rest)
two_words [] w v l e f = absurd (omega arith)
two_words (x ∷ []) w v l e f = absurd (omega arith)
two_words (x ∷ y ∷ ws) w v l e f =
    let x_is : x ≡ w = sym e in
    let y_is : y ≡ v = sym f in
    let all : take (length (x ∷ y ∷ ws) - 2) ws ≡ ws = take_all ws (length (x ∷ y ∷ ws) - 2) (omega arith) in
    ap (λ a. a ∷ y ∷ ws) x_is ∙ ap (λ b. w ∷ b ∷ ws) y_is ∙ ap (λ l. w ∷ v ∷ l) (sym all)

one_word : (rest : List (String Global)) (w : String Global) → 1 ≤ length rest → length rest < 2 → w ≡ get_or rest 0 w → rest ≡ w ∷ []
one_word [] w l m e = absurd (omega arith)
one_word (x ∷ []) w l m e = ap (λ a. a ∷ []) (sym e)
one_word (x ∷ y ∷ ws) w l m e = absurd (omega arith)

texts_both : (xs ys : List (String Global)) → texts (xs ++ ys) ≡ texts xs ++ texts ys
texts_both [] ys = refl
texts_both (x ∷ xs) ys = ap (λ l. string_bytes x ∷ l) (texts_both xs ys)

-- what two words further on is taken and left
record Taken (n m : ℕ) (words : List (String Global)) (w v : String Global) (after : List (String Global)) : Type 0 where
  taken : take m words ≡ take n words ++ (w ∷ v ∷ [])
  left : drop m words ≡ after

taken_two : (n m : ℕ) (words : List (String Global)) (w v : String Global) (after : List (String Global)) → m ≡ n + 2 → drop n words ≡ w ∷ v ∷ after → Taken n m words w v after
taken_two zero m words w v after e d = at_two m e
  where
    at_two : (m : ℕ) → m ≡ 2 → Taken 0 m words w v after
    at_two m e = rw e (rw d record { taken = refl; left = refl })
taken_two (suc n) zero words w v after e d = absurd (omega (arith, e))
taken_two (suc n) (suc m) [] w v after e d = absurd cc
taken_two (suc n) (suc m) (x ∷ ws) w v after e d =
    let r = taken_two n m ws w v after (omega (arith, e)) d in
    record { taken = ap (λ l. x ∷ l) r.taken; left = r.left }

pub left_two : (n m : ℕ) (words : List (String Global)) (w v : String Global) (after : List (String Global)) → m ≡ n + 2 → drop n words ≡ w ∷ v ∷ after → after ≡ drop m words
left_two n m words w v after e d = sym (taken_two n m words w v after e d).left

-- ---- the scan of options

pub pair_wrong : (options : List OptionName) (before : List (List ℕ)) (place : ℕ) (rest after : List (String Global)) (w v : String Global) (k : ℕ) → rest ≡ w ∷ v ∷ after → is_option (string_bytes w) ≡ true → wrong_pair (allowed options before (string_bytes w)) (string_bytes v) place ≡ Some k → wrong_option options before place (texts rest) ≡ Some k
pair_wrong options before place rest after w v k e o h = rw e (rw o (rw h refl))

pub last_wrong : (options : List OptionName) (before : List (List ℕ)) (place : ℕ) (rest : List (String Global)) (w : String Global) → 1 ≤ length rest → length rest < 2 → w ≡ get_or rest 0 w → is_option (string_bytes w) ≡ true → wrong_option options before place (texts rest) ≡ Some (wrong_last (allowed options before (string_bytes w)) place)
last_wrong options before place rest w l m e o = rw (one_word rest w l m e) (rw o refl)

pub pair_right : (options : List OptionName) (words rest after : List (String Global)) (w v : String Global) (place : ℕ) → 1 ≤ place → rest ≡ drop (place - 1) words → rest ≡ w ∷ v ∷ after → is_option (string_bytes w) ≡ true → wrong_pair (allowed options (texts (take (place - 1) words)) (string_bytes w)) (string_bytes v) place ≡ None → wrong_option options (texts (take (place + 2 - 1) words)) (place + 2) (texts after) ≡ wrong_option options (texts (take (place - 1) words)) place (texts rest)
pair_right options words rest after w v place l d e o h =
    let t = taken_two (place - 1) (place + 2 - 1) words w v after (omega arith) (sym d ∙ e) in
    let before : texts (take (place + 2 - 1) words) ≡ texts (take (place - 1) words) ++ (string_bytes w ∷ string_bytes v ∷ []) = ap texts t.taken ∙ texts_both (take (place - 1) words) (w ∷ v ∷ []) in
    let on : wrong_option options (texts (take (place - 1) words)) place (texts rest) ≡ wrong_option options (texts (take (place - 1) words) ++ (string_bytes w ∷ string_bytes v ∷ [])) (place + 2) (texts after) = rw e (rw o (rw h refl)) in
    ap (λ b. wrong_option options b (place + 2) (texts after)) before ∙ sym on

-- ---- numbers

digits : IsNumeralModel (λ ds. all_ascii_digits ds ≡ true) (digits_value 10)
digits = numerals_by_value (λ ds. all_ascii_digits ds ≡ true) tells_all_ascii_digits

no_plus : (text : List ℕ) → begins_plain text ≡ true → get_or text 0 0 ≢ 43
no_plus [] b e = absurd (omega (arith, e))
no_plus (c ∷ []) b e = let f : not (43 == 43) ≡ true = ap (λ n. not (n == 43)) (sym e) ∙ b in cc
no_plus (c ∷ d ∷ cs) b e = let f : (not (43 == 43) && not (c == 48)) ≡ true = ap (λ n. not (n == 43) && not (c == 48)) (sym e) ∙ b in cc

at_most : (m n : ℕ) → m ≤ n → nat_le m n ≡ true
at_most m n l = grind (arith, common_steps)

is_at_most : (m n : ℕ) → nat_le m n ≡ true → m ≤ n
is_at_most m n e = grind (arith, common_steps)

same_ok : {E : Type 0} (m n : ℕ) → let r : Result ℕ E = Ok m in r ≡ Ok n → m ≡ n
same_ok m n e = cc

pub number_read : {E : Type 0} (max n : ℕ) (text : List ℕ) (r : Result ℕ E) → begins_plain text ≡ true → ParsesUnsigned 32 10 text r → r ≡ Ok n → n ≤ max → number_of max text ≡ Some n
number_read {E} max n text (Ok m) b h e l =
    let p : OkIff {E = E} (Ok m) ((all_ascii_digits text ≡ true) × (0 < length text) × (digits_value 10 text < 2 ^ 32)) (digits_value 10 text) = parse_plain digits {E = E} 32 text (Ok m) h (no_plus text b) in
    let m_is : m ≡ n = same_ok m n e in
    let value : digits_value 10 text ≡ n = sym p.1 ∙ m_is in
    let all : all_ascii_digits text ≡ true = p.0.0 in
    let fits : nat_le (digits_value 10 text) max ≡ true = at_most (digits_value 10 text) max (omega (arith, value)) in
    let yes : is_number max text ≡ true = rw b (rw all fits) in
    rw yes (ap (λ k. Some k) value)
number_read {E} max n text (Err d) b h e l = absurd cc

pub number_not_read : {E : Type 0} (max : ℕ) (d : E) (text : List ℕ) (r : Result ℕ E) → max < 2 ^ 32 → begins_plain text ≡ true → ParsesUnsigned 32 10 text r → r ≡ Err d → number_of max text ≡ None
number_not_read {E} max d text (Ok m) fits b h e = absurd cc
number_not_read {E} max d text (Err x) fits b h e = by_test (all_ascii_digits text) (nat_le (digits_value 10 text) max) refl refl
  where
    none : all_ascii_digits text ≡ true → nat_le (digits_value 10 text) max ≡ true → ⊥
    none a l = parse_plain digits {E = E} 32 text (Err x) h (no_plus text b) (a, some text b, omega (arith, fits, is_at_most (digits_value 10 text) max l))
      where
        some : (text : List ℕ) → begins_plain text ≡ true → 0 < length text
        some [] b = absurd cc
        some (c ∷ cs) b = omega arith

    by_test : (p q : Bool) → all_ascii_digits text ≡ p → nat_le (digits_value 10 text) max ≡ q → number_of max text ≡ None
    by_test true true a l = absurd (none a l)
    by_test true false a l = rw b (rw a (rw l refl))
    by_test false q a l = rw b (rw a refl)
