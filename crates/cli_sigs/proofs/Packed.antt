-- The readers of compressed numbers read the compressed numbers.
use Rattle.std.proofs.Common.{◌≡◌, ℕ, ◌+◌, ◌-◌, ◌*◌, ◌%◌, ◌<◌, ◌≤◌, Bool, true, false, ◌&&◌, cond, ltb, List, [], ◌∷◌, ◌++◌, length, refl, sym, ap, subst, ◌∙◌, arith, inl, inr}
use Rattle.std.specs.Prelude.{ℤ}
use Rattle.std.proofs.lemmas.Bool.{ltb-true, lt-ltb, ltb-false, le-ltb}
use Rattle.cli_sigs.specs.Read.{Reader, byte_where}
use Rattle.cil_base.proofs.Small.{and_both}
use Rattle.cli_sigs.specs.Numbers.{IsPacked, IsSigned, half_of, unrotated, has_table, IsCoded}
use Rattle.cli_sigs.specs.Grammar.{Counted}
use Rattle.cli_sigs.specs.Reading.{is_head, is_byte, packed_after, packed, is_coded_head, is_tagged_byte, coded_after, coded_index, head_half, signed, counted}
use Rattle.cli_sigs.proofs.Readers.{IsReader, Then, Nothing, IsByte, Image, Choice, Many, reads-bind, reads-pure, reads-byte, reads-maps, reads-choice, reads-many, same_grammar}

abbrev any : IsReader (IsByte is_byte) (byte_where is_byte)
any = reads-byte is_byte 0 refl

abbrev Two : ℕ → List ℕ → ℕ → Type 0
Two a = Image (λ b. 256 * (a - 128) + b) (IsByte is_byte)

abbrev Four : ℕ → List ℕ → ℕ → Type 0
Four a = Then (IsByte is_byte) (λ b. Then (IsByte is_byte) (λ c. Image (λ d. 16777216 * (a - 192) + 65536 * b + 256 * c + d) (IsByte is_byte)))

abbrev pub After : ℕ → List ℕ → ℕ → Type 0
After a = Choice (ltb a 128) (Nothing a) (Choice (ltb a 192) (Two a) (Four a))

pub reads-after : (a : ℕ) → IsReader (After a) (packed_after a)
unfolding packed_after
reads-after a =
    reads-choice _ _ _ _ _ (reads-pure a)
    (reads-choice _ _ _ _ _
    (reads-maps _ _ _ any)
    (reads-bind _ _ _ _ any (λ b f g. reads-bind _ _ _ _ any (λ c f g. reads-maps _ _ _ any))))

to_packed : (bs : List ℕ) (n : ℕ) → Then (IsByte is_head) After bs n → IsPacked bs n
to_packed bs n (front, back, a, e, (f, h), inl (t, (g, v))) =
    let all : bs ≡ a ∷ [] = cc in
    subst (λ (l : List ℕ). IsPacked l n) (sym all) (ltb-true a 128 t, sym v)
to_packed bs n (front, back, a, e, (f, h), inr (t, inl (u, (b, (q, z), v)))) =
    let all : bs ≡ a ∷ b ∷ [] = cc in
    let low : 128 ≤ a = ltb-false a 128 t in
    let high : a < 192 = ltb-true a 192 u in
    subst (λ (l : List ℕ). IsPacked l n) (sym all) (low, high, ltb-true b 256 z, omega arith)
to_packed bs n (front, back, a, e, (f, h), inr (t, inr (u, (x1, y1, b, p1, (q1, z1), (x2, y2, c, p2, (q2, z2), (d, (q3, z3), v)))))) =
    let all : bs ≡ a ∷ b ∷ c ∷ d ∷ [] = cc in
    let low : 192 ≤ a = ltb-false a 192 u in
    subst (λ (l : List ℕ). IsPacked l n) (sym all) (low, ltb-true a 224 h, ltb-true b 256 z1, ltb-true c 256 z2, ltb-true d 256 z3, omega arith)

from_packed : (bs : List ℕ) (n : ℕ) → IsPacked bs n → Then (IsByte is_head) After bs n
from_packed [] n h = absurd h
from_packed (a ∷ []) n h = (a ∷ [], [], a, refl, (refl, lt-ltb a 224 (omega (arith, h.0))), inl (lt-ltb a 128 h.0, (refl, sym h.1)))
from_packed (a ∷ b ∷ []) n h = (
  a ∷ [],
  b ∷ [],
  a,
  refl,
  (refl, lt-ltb a 224 (omega (arith, h.1))),
  inr (le-ltb a 128 h.0, inl (lt-ltb a 192 h.1, (b, (refl, lt-ltb b 256 h.2), omega (arith, h.0, h.3)))),
)
from_packed (a ∷ b ∷ c ∷ []) n h = absurd h
from_packed (a ∷ b ∷ c ∷ d ∷ []) n h = (
  a ∷ [],
  b ∷ c ∷ d ∷ [],
  a,
  refl,
  (refl, lt-ltb a 224 h.1),
  inr (le-ltb a 128 (omega (arith, h.0)), inr (le-ltb a 192 h.0, (b ∷ [], c ∷ d ∷ [], b, refl, (refl, lt-ltb b 256 h.2), (c ∷ [], d ∷ [], c, refl, (refl, lt-ltb c 256 h.3), (d, (refl, lt-ltb d 256 h.4), omega (arith, h.0, h.5)))))),
)
from_packed (a ∷ b ∷ c ∷ d ∷ e ∷ bs) n h = absurd h

pub reads-packed : IsReader IsPacked packed
unfolding packed
reads-packed = same_grammar (Then (IsByte is_head) After) IsPacked packed (reads-bind _ _ _ _ (reads-byte is_head 0 refl) (λ a f g. reads-after a)) to_packed from_packed

-- ---- coded indexes

abbrev tagged : IsReader (IsByte is_tagged_byte) (byte_where is_tagged_byte)
tagged = reads-byte is_tagged_byte 0 refl

abbrev Coded_after : ℕ → List ℕ → ℕ → Type 0
Coded_after a = Choice (ltb a 128) (Nothing a)
    (Choice (ltb a 192) (Image (λ b. 256 * (a - 128) + b) (IsByte is_tagged_byte))
    (Then (IsByte is_byte) (λ b. Then (IsByte is_byte) (λ c. Image (λ d. 16777216 * (a - 192) + 65536 * b + 256 * c + d) (IsByte is_tagged_byte)))))

reads-coded_after : (a : ℕ) → IsReader (Coded_after a) (coded_after a)
unfolding coded_after
reads-coded_after a =
    reads-choice _ _ _ _ _ (reads-pure a)
    (reads-choice _ _ _ _ _
    (reads-maps _ _ _ tagged)
    (reads-bind _ _ _ _ any (λ b f g. reads-bind _ _ _ _ any (λ c f g. reads-maps _ _ _ tagged))))

-- the tag stands in the last byte
same_tag : (n k b : ℕ) → n ≡ 4 * k + b → has_table b ≡ true → has_table n ≡ true
same_tag n k b e h = let low : b % 4 < 3 = ltb-true (b % 4) 3 h in lt-ltb (n % 4) 3 (omega arith)

tag_below : (n k b : ℕ) → n ≡ 4 * k + b → has_table n ≡ true → has_table b ≡ true
tag_below n k b e h = let low : n % 4 < 3 = ltb-true (n % 4) 3 h in lt-ltb (b % 4) 3 (omega arith)

both : (p q : Bool) → p ≡ true → q ≡ true → (p && q) ≡ true
both true q h k = k
both false q h k = absurd cc

-- what a test of the first byte says, by the number of bytes
low_head : (t p q : Bool) → t ≡ true → cond t p q ≡ true → p ≡ true
low_head true p q h k = k
low_head false p q h k = absurd cc

high_head : (t p q : Bool) → t ≡ false → cond t p q ≡ true → q ≡ true
high_head true p q h k = absurd cc
high_head false p q h k = k

from_low : (t p q : Bool) → t ≡ true → p ≡ true → cond t p q ≡ true
from_low true p q h k = k
from_low false p q h k = absurd cc

from_high : (t p q : Bool) → t ≡ false → q ≡ true → cond t p q ≡ true
from_high true p q h k = absurd cc
from_high false p q h k = k

to_coded : (bs : List ℕ) (n : ℕ) → Then (IsByte is_coded_head) Coded_after bs n → IsCoded bs n
to_coded bs n (front, back, a, e, (f, h), inl (t, (g, v))) =
    let head : is_head a ≡ true = lt-ltb a 224 (omega (arith, ltb-true a 128 t)) in
    let tag : has_table a ≡ true = low_head (ltb a 128) (has_table a) (is_head a) t h in
    (to_packed bs n (front, back, a, e, (f, head), inl (t, (g, v))), same_tag n 0 a (omega arith) tag)
to_coded bs n (front, back, a, e, (f, h), inr (t, inl (u, (b, (q, z), v)))) =
    let head = high_head (ltb a 128) (has_table a) (is_head a) t h in
    let y = and_both (is_byte b) (has_table b) z in
    (to_packed bs n (front, back, a, e, (f, head), inr (t, inl (u, (b, (q, y.0), v)))), same_tag n (64 * (a - 128)) b (omega arith) y.1)
to_coded bs n (front, back, a, e, (f, h), inr (t, inr (u, (x1, y1, b, p1, g1, (x2, y2, c, p2, g2, (d, (q3, z3), v)))))) =
    let head = high_head (ltb a 128) (has_table a) (is_head a) t h in
    let y = and_both (is_byte d) (has_table d) z3 in
    (to_packed bs n (front, back, a, e, (f, head), inr (t, inr (u, (x1, y1, b, p1, g1, (x2, y2, c, p2, g2, (d, (q3, y.0), v)))))), same_tag n (4194304 * (a - 192) + 16384 * b + 64 * c) d (omega arith) y.1)

coded_behind : (front bs back : List ℕ) (a n : ℕ) → bs ≡ front ++ back → front ≡ a ∷ [] → is_head a ≡ true → has_table n ≡ true → After a back n → Then (IsByte is_coded_head) Coded_after bs n
coded_behind front bs back a n e f h tag (inl (t, (g, v))) =
    (front, back, a, e, (f, from_low (ltb a 128) (has_table a) (is_head a) t (tag_below n 0 a (omega arith) tag)), inl (t, (g, v)))
coded_behind front bs back a n e f h tag (inr (t, inl (u, (b, (q, z), v)))) = (
  front,
  back,
  a,
  e,
  (f, from_high (ltb a 128) (has_table a) (is_head a) t h),
  inr (t, inl (u, (b, (q, both (is_byte b) (has_table b) z (tag_below n (64 * (a - 128)) b (omega arith) tag)), v))),
)
coded_behind front bs back a n e f h tag (inr (t, inr (u, (x1, y1, b, p1, g1, (x2, y2, c, p2, g2, (d, (q, z), v)))))) = (
  front,
  back,
  a,
  e,
  (f, from_high (ltb a 128) (has_table a) (is_head a) t h),
  inr (t, inr (u, (x1, y1, b, p1, g1, (x2, y2, c, p2, g2, (d, (q, both (is_byte d) (has_table d) z (tag_below n (4194304 * (a - 192) + 16384 * b + 64 * c) d (omega arith) tag)), v))))),
)

from_coded : (bs : List ℕ) (n : ℕ) → IsCoded bs n → Then (IsByte is_coded_head) Coded_after bs n
from_coded bs n (p, tag) = let t = from_packed bs n p in coded_behind t.0 bs t.1 t.2 n t.3 t.4.0 t.4.1 tag t.5

pub reads-coded : IsReader IsCoded coded_index
unfolding coded_index
reads-coded = same_grammar (Then (IsByte is_coded_head) Coded_after) IsCoded coded_index (reads-bind _ _ _ _ (reads-byte is_coded_head 0 refl) (λ a f g. reads-coded_after a)) to_coded from_coded

-- ---- signed numbers

-- the first byte says how many bytes there are
half_at : (bs back : List ℕ) (a u : ℕ) → bs ≡ a ∷ back → IsPacked bs u → half_of (length bs) ≡ head_half a
half_at [] back a u e h = absurd cc
half_at (b ∷ []) back a u e h =
    let same : b ≡ a = cc in
    let low : ltb a 128 ≡ true = lt-ltb a 128 (omega (arith, h.0)) in
    ap (λ (t : Bool). cond t 64 (cond (ltb a 192) 8192 268435456)) (sym low)
half_at (b ∷ c ∷ []) back a u e h =
    let same : b ≡ a = cc in
    let low : ltb a 128 ≡ false = le-ltb a 128 (omega (arith, h.0)) in
    let high : ltb a 192 ≡ true = lt-ltb a 192 (omega (arith, h.1)) in
    ap (λ (t : Bool). cond t 8192 268435456) (sym high) ∙ ap (λ (t : Bool). cond t 64 (cond (ltb a 192) 8192 268435456)) (sym low)
half_at (b ∷ c ∷ d ∷ []) back a u e h = absurd h
half_at (b ∷ c ∷ d ∷ f ∷ []) back a u e h =
    let same : b ≡ a = cc in
    let low : ltb a 128 ≡ false = le-ltb a 128 (omega (arith, h.0)) in
    let high : ltb a 192 ≡ false = le-ltb a 192 (omega (arith, h.0)) in
    ap (λ (t : Bool). cond t 8192 268435456) (sym high) ∙ ap (λ (t : Bool). cond t 64 (cond (ltb a 192) 8192 268435456)) (sym low)
half_at (b ∷ c ∷ d ∷ f ∷ g ∷ bs) back a u e h = absurd h

abbrev Behind_head : List ℕ → ℤ → Type 0
Behind_head = Then (IsByte is_head) (λ a. Image (unrotated (head_half a)) (After a))

to_signed : (bs : List ℕ) (z : ℤ) → Behind_head bs z → IsSigned bs z
to_signed bs z (front, back, a, e, (f, h), (u, g, v)) =
    let p : IsPacked bs u = to_packed bs u (front, back, a, e, (f, h), g) in
    let all : bs ≡ a ∷ back = cc in
    (u, p, sym v ∙ ap (λ (k : ℕ). unrotated k u) (sym (half_at bs back a u all p)))

from_signed : (bs : List ℕ) (z : ℤ) → IsSigned bs z → Behind_head bs z
from_signed bs z (u, p, v) =
    let t = from_packed bs u p in
    let all : bs ≡ t.2 ∷ t.1 = t.3 ∙ ap (λ (l : List ℕ). l ++ t.1) t.4.0 in
    (t.0, t.1, t.2, t.3, t.4, (u, t.5, ap (λ (k : ℕ). unrotated k u) (sym (half_at bs t.1 t.2 u all p)) ∙ sym v))

pub reads-signed : IsReader IsSigned signed
unfolding signed
reads-signed = same_grammar Behind_head IsSigned signed (reads-bind _ _ _ _ (reads-byte is_head 0 refl) (λ a f g. reads-maps _ _ _ (reads-after a))) to_signed from_signed

-- ---- lists

module _ {A : Type 0} (G : List ℕ → A → Type 0) (r : Reader A) (h : IsReader G r) where
  to_counted : (bs : List ℕ) (vs : List A) → Then IsPacked (λ n. Many G n) bs vs → Counted G bs vs
  to_counted bs vs (f, b, n, e, p, (len, each)) = (f, b, e, subst (λ (k : ℕ). IsPacked f k) (sym len) p, each)

  from_counted : (bs : List ℕ) (vs : List A) → Counted G bs vs → Then IsPacked (λ n. Many G n) bs vs
  from_counted bs vs (f, b, e, p, each) = (f, b, length vs, e, p, (refl, each))

  pub reads-counted : IsReader (Counted G) (counted r)
  unfolding counted
  reads-counted = same_grammar _ _ _ (reads-bind _ _ _ _ reads-packed (λ n f g. reads-many G r h n)) to_counted from_counted
