-- The places of the tests on the headers don't fall, so the first of them that fails is the first refusal.
use Rattle.std.proofs.Common.{◌≡◌, ℕ, zero, suc, ◌+◌, ◌-◌, ◌^◌, ◌<◌, ◌≤◌, min, Bool, true, false, cond, leb, ltb, eqb, not, ◌||◌, ◌&&◌, List, [], ◌∷◌, length, Option, Some, None, refl, inl, inr, arith}
use Rattle.std.specs.Prelude.{MatchOption, nat_lt}
use Rattle.std.proofs.lemmas.Bool.{leb-true, ltb-false}
use Rattle.cil_base.specs.declared.refusal.Refusal.{Refusal}
use Rattle.cil_base.specs.Refusals.{is_less, First, Test, Fails, NoneBroken, first_of}
use Rattle.cil_base.specs.Numbers.{num}
use Rattle.cil_base.proofs.RefusalLaws.{Rises, not_less, first_is_first}
use Rattle.pe_image.specs.declared.headers.Headers.{Headers}
use Rattle.pe_image.specs.Headers.{pe_of, is_plus, headers_at, headers_of, headers_size}
use Rattle.pe_image.specs.Sections.{section_at, address_end, raw_end}
use Rattle.pe_image.specs.Rules.{cuts, section_fields, section_tests, directory_tests, optional_tests, coff_tests, header_tests, cli_tests, has_pe, is_magic, is_short, Broken}
use Rattle.pe_image.specs.Cli.{cli_header_offset}

abbrev place_key : ℕ → ℕ → ℕ → List ℕ
place_key a at rule = a ∷ 0 ∷ 0 ∷ at ∷ rule ∷ []

-- a later place, or the same place and no lower rule
step : (a x y m n : ℕ) → y ≤ x → (x ≡ y → n ≤ m) → is_less (place_key a x m) (place_key a y n) ≡ false
step a x y m n le rules =
    not_less a a (0 ∷ 0 ∷ x ∷ m ∷ []) (0 ∷ 0 ∷ y ∷ n ∷ []) (omega arith) (λ s. not_less 0 0 (0 ∷ x ∷ m ∷ []) (0 ∷ y ∷ n ∷ []) (omega arith) (λ z. not_less 0 0 (x ∷ m ∷ []) (y ∷ n ∷ []) (omega arith) (λ w. not_less x y (m ∷ []) (n ∷ []) le (λ same. not_less m n [] [] (rules same) (λ t. refl)))))

either : (b : Bool) (k : List ℕ) (xs ys : List Test) → (b ≡ true → Rises k xs) → (b ≡ false → Rises k ys) → Rises k (cond b xs ys)
either true k xs ys f g = f refl
either false k xs ys f g = g refl

-- a place, as printed
abbrev shown : ℕ → ℕ
shown at = min at (2 ^ 32 - 1)

section_cuts : (bytes : List ℕ) (a at y n : ℕ) → y < at → y ≤ 2 ^ 32 - 1 → n ≤ 5 → Rises (place_key a y n) (cuts bytes a at section_fields)
section_cuts bytes a at y n below small rule =
    (step a (shown (at + 0)) y 5 n (omega arith) (λ e. rule), (step a (shown (at + 8)) (shown (at + 0)) 5 5 (omega arith) (λ e. omega arith), (step a (shown (at + 12)) (shown (at + 8)) 5 5 (omega arith) (λ e. omega arith), (step a (shown (at + 16)) (shown (at + 12)) 5 5 (omega arith) (λ e. omega arith), (step a (shown (at + 20)) (shown (at + 16)) 5 5 (omega arith) (λ e. omega arith), (step a (shown (at + 36)) (shown (at + 20)) 5 5 (omega arith) (λ e. omega arith), tt))))))

sections_rise : (bytes : List ℕ) (a address_floor raw_floor at n y m : ℕ) → length bytes < 2 ^ 32 → y < at → y ≤ 2 ^ 32 - 1 → m ≤ 5 → Rises (place_key a y m) (section_tests bytes a address_floor raw_floor at n)
sections_rise bytes a address_floor raw_floor at zero y m short below small rule = tt
sections_rise bytes a address_floor raw_floor at (suc n) y m short below small rule =
    either (leb (at + 40) (length bytes)) (place_key a y m) _ _
    (λ t.
    let reach : at + 40 ≤ length bytes = leb-true (at + 40) (length bytes) t in (
      step a at y 2 m (omega arith) (λ same. absurd (omega arith)),
      sections_rise bytes a (address_end (section_at bytes at)) (cond (nat_lt 0 (section_at bytes at).raw_size) (raw_end (section_at bytes at)) raw_floor) (at + 40) n at 2 short (omega arith) (omega arith) (omega arith),
    ))
    (λ f. section_cuts bytes a at y m below small rule)

directories_rise : (bytes : List ℕ) (a : ℕ) (h : Headers) → length bytes < 2 ^ 32 → h.pe + 64 ≤ length bytes → h.pe + 120 ≤ h.directories → h.directories + 120 ≤ h.sections → Rises (place_key a (h.pe + 60) 2) (directory_tests bytes a h)
directories_rise bytes a h short here near far =
    let pe = h.pe in
    let d = h.directories in
    either (leb (d + 120) (length bytes)) (place_key a (pe + 60) 2) _ _
    (λ t.
    let reach : d + 120 ≤ length bytes = leb-true (d + 120) (length bytes) t in (
      step a (d + 112) (pe + 60) 3 2 (omega arith) (λ e. omega arith),
      sections_rise bytes a (headers_size bytes h) (headers_size bytes h) h.sections h.count (d + 112) 3 short (omega arith) (omega arith) (omega arith),
    ))
    (λ f. (
      step a (shown (pe + 80)) (pe + 60) 5 2 (omega arith) (λ e. omega arith),
      (
        step a (shown (pe + 84)) (shown (pe + 80)) 5 5 (omega arith) (λ e. omega arith),
        (
          step a (shown (pe + 88)) (shown (pe + 84)) 5 5 (omega arith) (λ e. omega arith),
          (step a (shown (d + 32)) (shown (pe + 88)) 5 5 (omega arith) (λ e. omega arith), (step a (shown (d + 36)) (shown (d + 32)) 5 5 (omega arith) (λ e. omega arith), (step a (shown (d + 48)) (shown (d + 36)) 5 5 (omega arith) (λ e. omega arith), (step a (shown (d + 52)) (shown (d + 48)) 5 5 (omega arith) (λ e. omega arith), (step a (shown (d + 112)) (shown (d + 52)) 5 5 (omega arith) (λ e. omega arith), (step a (shown (d + 116)) (shown (d + 112)) 5 5 (omega arith) (λ e. omega arith), tt)))))),
        ),
      ),
    ))

optional_rise : (bytes : List ℕ) (a : ℕ) (h : Headers) → length bytes < 2 ^ 32 → h.pe + 26 ≤ length bytes → h.pe + 120 ≤ h.directories → h.directories + 120 ≤ h.sections → Rises (place_key a (h.pe + 24) 1) (optional_tests bytes a h)
optional_rise bytes a h short here near far =
    let pe = h.pe in
    either (leb (pe + 64) (length bytes)) (place_key a (pe + 24) 1) _ _
    (λ t.
    let reach : pe + 64 ≤ length bytes = leb-true (pe + 64) (length bytes) t in
    (step a (pe + 56) (pe + 24) 2 1 (omega arith) (λ e. omega arith), (step a (pe + 60) (pe + 56) 2 2 (omega arith) (λ e. omega arith), directories_rise bytes a h short reach near far)))
    (λ f. (step a (shown (pe + 56)) (pe + 24) 5 1 (omega arith) (λ e. omega arith), (step a (shown (pe + 60)) (shown (pe + 56)) 5 5 (omega arith) (λ e. omega arith), tt)))

-- an optional header that is long enough has its directories before the section table
long_enough : (magic size : ℕ) → (is_magic magic && not (is_short magic size)) ≡ true → cond (is_plus magic) 112 96 + 120 ≤ size
long_enough magic size e = go (eqb magic 267) (is_plus magic) (ltb size 216) (ltb size 232) e (ltb-false size 216) (ltb-false size 232)
  where
    go : (p q s t : Bool) → ((p || q) && not ((p && s) || (q && t))) ≡ true → (s ≡ false → 216 ≤ size) → (t ≡ false → 232 ≤ size) → cond q 112 96 + 120 ≤ size
    go p true s false e f g = omega (arith, g refl)
    go true true true true e f g = absurd cc
    go true true false true e f g = absurd cc
    go false true s true e f g = absurd cc
    go true false true t e f g = absurd cc
    go true false false t e f g = omega (arith, f refl)
    go false false s t e f g = absurd cc

coff_rise : (bytes : List ℕ) (a pe : ℕ) → length bytes < 2 ^ 32 → pe + 4 ≤ length bytes → Rises (place_key a pe 0) (coff_tests bytes a pe)
coff_rise bytes a pe short here =
    let size = num bytes (pe + 20) 2 in
    let magic = num bytes (pe + 24) 2 in
    either (leb (pe + 26) (length bytes)) (place_key a pe 0) _ _
    (λ t.
    let reach : pe + 26 ≤ length bytes = leb-true (pe + 26) (length bytes) t in (
      step a (pe + 20) pe 1 0 (omega arith) (λ e. omega arith),
      (
        step a (pe + 24) (pe + 20) 1 1 (omega arith) (λ e. omega arith),
        either (is_magic magic && not (is_short magic size)) (place_key a (pe + 24) 1) _ _
            (λ ok. optional_rise bytes a (headers_at bytes pe) short reach (near (is_plus magic)) (far (cond (is_plus magic) 112 96) size (long_enough magic size ok)))
            (λ no. tt),
      ),
    ))
    (λ f. (step a (shown (pe + 6)) pe 5 0 (omega arith) (λ e. omega arith), (step a (shown (pe + 20)) (shown (pe + 6)) 5 5 (omega arith) (λ e. omega arith), (step a (shown (pe + 24)) (shown (pe + 20)) 5 5 (omega arith) (λ e. omega arith), tt))))
  where
    near : (b : Bool) → pe + 120 ≤ pe + 24 + cond b 112 96
    near true = omega arith
    near false = omega arith

    far : (d size : ℕ) → d + 120 ≤ size → pe + 24 + d + 120 ≤ pe + 24 + size
    far d size le = omega arith

headers_rise : (bytes : List ℕ) (a : ℕ) → length bytes < 2 ^ 32 → Rises [] (header_tests bytes a)
headers_rise bytes a short = (
  refl,
  either (leb 64 (length bytes)) (place_key a 0 0) _ _
      (λ t. (
        step a 60 0 0 0 (omega arith) (λ e. omega arith),
        either (leb 64 (pe_of bytes)) (place_key a 60 0) _ _
            (λ far.
            let after : 64 ≤ pe_of bytes = leb-true 64 (pe_of bytes) far in (
              step a (pe_of bytes) 60 0 0 (omega arith) (λ e. omega arith),
              either (has_pe bytes (pe_of bytes)) (place_key a (pe_of bytes) 0) _ _
                  (λ pe. coff_rise bytes a (pe_of bytes) short (leb-true (pe_of bytes + 4) (length bytes) (first (leb (pe_of bytes + 4) (length bytes)) _ pe)))
                  (λ no. tt),
            ))
            (λ near. tt),
      ))
      (λ f. (step a 60 0 5 0 (omega arith) (λ e. omega arith), tt)),
)
  where
    first : (p q : Bool) → (p && q) ≡ true → p ≡ true
    first true q e = refl
    first false q e = absurd cc

header_first : (bytes : List ℕ) (a : ℕ) → length bytes < 2 ^ 32 → MatchOption (first_of (header_tests bytes a)) (NoneBroken (Fails (header_tests bytes a))) (First (Fails (header_tests bytes a)))
header_first bytes a short = first_is_first [] (header_tests bytes a) (headers_rise bytes a short)

cli_first : (bytes : List ℕ) (a : ℕ) (h : Headers) → MatchOption (first_of (cli_tests bytes a h)) (NoneBroken (Fails (cli_tests bytes a h))) (First (Fails (cli_tests bytes a h)))
cli_first bytes a h =
    let cli = cli_header_offset bytes h in
    first_is_first [] (cli_tests bytes a h) (refl, (step a (cli + 16) (cli + 8) 3 3 (omega arith) (λ e. omega arith), tt))

-- ---- what read answers

at_some : (P : Type 0) (Q : Refusal → Type 0) (o : Option Refusal) (r : Refusal) → o ≡ Some r → MatchOption o P Q → Q r
at_some P Q o r e m = rw e at m

at_none : (P : Type 0) (Q : Refusal → Type 0) (o : Option Refusal) → o ≡ None → MatchOption o P Q → P
at_none P Q o e m = rw e at m

pub refused_header : (bytes : List ℕ) (a : ℕ) (r : Refusal) → length bytes < 2 ^ 32 → first_of (header_tests bytes a) ≡ Some r → First (Broken bytes a) r
unfolding Broken
refused_header bytes a r short e = go (at_some (NoneBroken (Fails (header_tests bytes a))) (First (Fails (header_tests bytes a))) (first_of (header_tests bytes a)) r e (header_first bytes a short))
  where
    go : First (Fails (header_tests bytes a)) r → First (Broken bytes a) r
    go f = record { broken = inl f.broken; none_before = λ s. elim [ inl b ↦ f.none_before s b | inr b ↦ absurd (b.0 r f.broken) ] }

pub refused_cli : (bytes : List ℕ) (a : ℕ) (r : Refusal) → length bytes < 2 ^ 32 → first_of (header_tests bytes a) ≡ None → first_of (cli_tests bytes a (headers_of bytes)) ≡ Some r → First (Broken bytes a) r
unfolding Broken
refused_cli bytes a r short none e =
    go (at_none (NoneBroken (Fails (header_tests bytes a))) (First (Fails (header_tests bytes a))) (first_of (header_tests bytes a)) none (header_first bytes a short)) (at_some (NoneBroken (Fails (cli_tests bytes a (headers_of bytes)))) (First (Fails (cli_tests bytes a (headers_of bytes)))) (first_of (cli_tests bytes a (headers_of bytes))) r e (cli_first bytes a (headers_of bytes)))
  where
    go : NoneBroken (Fails (header_tests bytes a)) → First (Fails (cli_tests bytes a (headers_of bytes))) r → First (Broken bytes a) r
    go n f = record { broken = inr (n, f.broken); none_before = λ s. elim [ inl b ↦ absurd (n s b) | inr b ↦ f.none_before s b.1 ] }

pub accepted : (bytes : List ℕ) (a : ℕ) → length bytes < 2 ^ 32 → first_of (header_tests bytes a) ≡ None → first_of (cli_tests bytes a (headers_of bytes)) ≡ None → NoneBroken (Broken bytes a)
unfolding Broken
accepted bytes a short none cli =
    go (at_none (NoneBroken (Fails (header_tests bytes a))) (First (Fails (header_tests bytes a))) (first_of (header_tests bytes a)) none (header_first bytes a short)) (at_none (NoneBroken (Fails (cli_tests bytes a (headers_of bytes)))) (First (Fails (cli_tests bytes a (headers_of bytes)))) (first_of (cli_tests bytes a (headers_of bytes))) cli (cli_first bytes a (headers_of bytes)))
  where
    go : NoneBroken (Fails (header_tests bytes a)) → NoneBroken (Fails (cli_tests bytes a (headers_of bytes))) → NoneBroken (Broken bytes a)
    go n m = λ r. elim [ inl b ↦ n r b | inr b ↦ m r b.1 ]
