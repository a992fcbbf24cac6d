-- Where a new section comes to stand.
use Rattle.std.proofs.Common.{◌≡◌, ℕ, zero, suc, ◌+◌, ◌-◌, ◌*◌, ◌/◌, ◌%◌, ◌^◌, ◌<◌, ◌≤◌, max, Bool, true, false, cond, leb, ltb, ◌&&◌, List, refl, ap, ◌∙◌, inl, inr, ◌⊎◌, arith}
use Rattle.std.specs.Int.{next_multiple_of}
use Rattle.std.proofs.Math.Nat.{div-mul-le_self, div-add-mod, mod-lt, mod_self, mod-eq_of_lt, mul-le-mul_left}
use Rattle.std.proofs.lemmas.Nat.{le-div}
use Rattle.std.proofs.lemmas.Bool.{leb-true, ltb-true, ltb-false}
use Rattle.pe_image.specs.Sections.{section_at, sections_at, sections_of, address_end}
use Rattle.std.specs.Prelude.{Result, Ok, Err}
use Rattle.cil_base.specs.declared.refusal.Refusal.{Refusal}
use Rattle.pe_image.specs.declared.headers.Headers.{Headers}
use Rattle.pe_image.specs.Headers.{headers_of, section_alignment}
use Rattle.pe_image.specs.SectionGrowth.{addresses_end, first_address, grown_headers, new_address, no_room, room_in, room_of}

max_turn : (a b c : ℕ) → max a (max b c) ≡ max (max b a) c
max_turn a b c = omega arith

pub ends_on : (bytes : List ℕ) (end at next n m : ℕ) → n ≡ suc m → at + 40 ≡ next → max end (addresses_end (sections_at bytes at n)) ≡ max (max (address_end (section_at bytes at)) end) (addresses_end (sections_at bytes next m))
ends_on bytes end at next n m e f = rw (e, f) (max_turn end (address_end (section_at bytes at)) (addresses_end (sections_at bytes next m)))

-- ---- the least multiple

-- how far the next multiple is
gap : (r y : ℕ) → r < y → ((r ≡ 0) × ((y - r) % y ≡ 0)) ⊎ ((0 < r) × ((y - r) % y ≡ y - r))
gap zero y h = inl (refl, (let same : y - 0 ≡ y = omega arith in rw same (mod_self y)))
gap (suc r) y h = inr (omega arith, mod-eq_of_lt (omega arith))

one_of : (b : Bool) (p q : ℕ) → ltb p q ≡ b → p ≤ q → (p < q) ⊎ (p ≡ q)
one_of true p q e h = inl (ltb-true p q e)
one_of false p q e h = inr (let c = ltb-false p q e in omega arith)

lt_or_eq : (p q : ℕ) → p ≤ q → (p < q) ⊎ (p ≡ q)
lt_or_eq p q h = one_of (ltb p q) p q refl h

pub next_rises : (x z y : ℕ) → 0 < y → x ≤ z → next_multiple_of x y ≤ next_multiple_of z y
next_rises x z y pos le =
    go (x / y) (z / y) (x % y) (z % y) (div-add-mod x y) (div-add-mod z y) (mod-lt x pos) (mod-lt z pos)
    (le-div (x / y) z y pos (le_trans (div-mul-le_self x y) le))
  where
    le_trans : {a b c : ℕ} → a ≤ b → b ≤ c → a ≤ c
    le_trans f g = omega arith

    same : (q r s : ℕ) → r ≤ s → r < y → s < y → y * q + r + (y - r) % y ≤ y * q + s + (y - s) % y
    same q r s rs rl sl = elim (gap r y rl) [
      | inl a ↦ omega (arith, a.0, a.1)
      | inr a ↦ elim (gap s y sl) [ inl b ↦ absurd (omega (arith, a.0, b.0)) | inr b ↦ omega (arith, a.1, b.1) ]
    ]

    go : (p q r s : ℕ) → y * p + r ≡ x → y * q + s ≡ z → r < y → s < y → p ≤ q → x + (y - r) % y ≤ z + (y - s) % y
    go p q r s e f rl sl pq = elim (lt_or_eq p q pq) [
      | inl lt ↦ (let up : y * (p + 1) ≤ y * q = mul-le-mul_left y (let t : p + 1 ≤ q = omega arith in t) in
          elim (gap r y rl) [ inl a ↦ omega (arith, a.1) | inr a ↦ omega (arith, a.1, up) ])
      | inr eq ↦ (let k : y * p ≡ y * q = ap (λ (n : ℕ). y * n) eq in
          let rs : r ≤ s = omega arith in
          let w = same q r s rs rl sl in omega (arith, w, k))
    ]

pub room_is : (bytes : List ℕ) (a : ℕ) (h : Headers) (r : Result ℕ Refusal) → h ≡ headers_of bytes → r ≡ room_in bytes a h → r ≡ room_of bytes a
unfolding room_of
room_is bytes a h r e same = same ∙ ap (room_in bytes a) e

-- where there is room, the sizes of the grown image are numbers of four bytes
pub record Room (bytes : List ℕ) (h : Headers) (address : ℕ) : Type 0 where
  pub address_is : address ≡ new_address bytes h
  pub before : grown_headers bytes h ≤ first_address (sections_of bytes h)
  pub few : h.count < 65535
  pub end : next_multiple_of (new_address bytes h + 2 ^ 27) (section_alignment bytes h) < 2 ^ 32

pub room_gives : (bytes : List ℕ) (a : ℕ) (h : Headers) (address : ℕ) → Ok address ≡ room_in bytes a h → Room bytes h address
room_gives bytes a h address e =
    go (leb (grown_headers bytes h) (first_address (sections_of bytes h))) (ltb h.count 65535) (ltb (next_multiple_of (new_address bytes h + 2 ^ 27) (section_alignment bytes h)) (2 ^ 32)) refl refl refl e
  where
    go : (p q r : Bool) → leb (grown_headers bytes h) (first_address (sections_of bytes h)) ≡ p → ltb h.count 65535 ≡ q → ltb (next_multiple_of (new_address bytes h + 2 ^ 27) (section_alignment bytes h)) (2 ^ 32) ≡ r → Ok address ≡ cond (p && (q && r)) (Ok (new_address bytes h)) (Err (no_room a h)) → Room bytes h address
    go true true true f g k e = record { address_is = cc; before = leb-true _ _ f; few = ltb-true _ _ g; end = ltb-true _ _ k }
    go true true false f g k e = absurd cc
    go true false r f g k e = absurd cc
    go false q r f g k e = absurd cc

pub image_end : (bytes : List ℕ) (a : ℕ) (h : Headers) (address len : ℕ) → Ok address ≡ room_in bytes a h → len ≤ 2 ^ 27 → 0 < section_alignment bytes h → next_multiple_of (address + len) (section_alignment bytes h) < 2 ^ 32
image_end bytes a h address len e short pos =
    let r = room_gives bytes a h address e in
    let le : address + len ≤ new_address bytes h + 2 ^ 27 = rw r.address_is (let t : new_address bytes h + len ≤ new_address bytes h + 2 ^ 27 = omega arith in t) in
    let rises = next_rises (address + len) (new_address bytes h + 2 ^ 27) (section_alignment bytes h) pos le in
    omega (arith, rises, r.end)
