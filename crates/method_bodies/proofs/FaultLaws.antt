-- The body at an RVA breaks what the bytes there break, where the image's part of I5 isn't broken.
use Rattle.std.proofs.Common.{◌≡◌, ◌∙◌, ◌≤◌, ◌<◌, refl, sym, subst, ap, arith, inl, inr, ℕ, ◌+◌, ◌-◌, ◌^◌, Bool, true, false, List, length, drop, Option, Some, None, Result, Ok, Err}
use Rattle.std.specs.Prelude.{MatchOption, IfOk, IfSome, OnOk, option_map}
use Rattle.std.proofs.lemmas.List.{length-take, length-drop}
use Rattle.cil_base.specs.declared.rule.Rule.TheVariants.{I5}
use Rattle.cil_base.specs.declared.refusal.Place.{Place}
use Rattle.cil_base.specs.declared.refusal.Refusal.{Refusal}
use Rattle.cil_base.specs.declared.refusal.Fault.{Fault}
use Rattle.cil_base.specs.Bytes.{part}
use Rattle.cil_base.specs.Refusals.{refusal, OnRefused}
use Rattle.cil_base.proofs.Small.{if_ok, on_ok}
use Rattle.cil_base.proofs.RefusalLaws.{OnRefused-weaker}
use Rattle.cil_model.specs.declared.body.Body.{Body}
use Rattle.cil_model.specs.declared.layout.Layout.{Layout}
use Rattle.cil_model.specs.BodyLayout.{layout_of, code_of}
use Rattle.cil_model.specs.BodyOf.{StandsFor, IsFault, BodyFault}
use Rattle.cil_model.specs.ValidBody.{AreBytes, IsValid}
use Rattle.il_body.proofs.ValidLaws.{body_valid}
use Rattle.pe_image.specs.declared.section.Section.{Section}
use Rattle.pe_image.specs.Headers.{headers_of}
use Rattle.pe_image.specs.Sections.{tail_at, section_of, offset_in}
use Rattle.method_bodies.specs.Bodies.{BreaksI5, CodeFaultAt, FaultAt, StandsAt, has_header_byte}

-- ---- the bytes at an RVA

pub tail_short : (image : List ℕ) (rva : ℕ) (bytes : List ℕ) → tail_at image rva ≡ Some bytes → length bytes ≤ length image
tail_short image rva bytes h = go (section_of image (headers_of image) rva 1) h
  where
    short : (s : Section) → length (part image (offset_in s rva) (s.address + s.raw_size - rva)) ≤ length image
    short s = omega (arith, length-take (s.address + s.raw_size - rva) (drop (offset_in s rva) image), length-drop (offset_in s rva) image)

    go : (o : Option Section) → option_map (λ (s : Section). part image (offset_in s rva) (s.address + s.raw_size - rva)) o ≡ Some bytes → length bytes ≤ length image
    go (Some s) e = let q : part image (offset_in s rva) (s.address + s.raw_size - rva) ≡ bytes = cc in subst (λ (b : List ℕ). length b ≤ length image) q (short s)
    go None e = absurd cc

-- ---- where no part of I5 is broken

some_is : {X : Type 0} (x y : X) (o : Option X) → o ≡ Some x → o ≡ Some y → x ≡ y
some_is x y o h k = let e : let q : Option _ = Some x in q ≡ Some y = sym h ∙ k in cc

some_is_not : {X : Type 0} (x : X) (o : Option X) → o ≡ Some x → o ≡ None → ⊥
some_is_not x o h k = let e : let q : Option _ = Some x in q ≡ None = sym h ∙ k in cc

true_is_not : (b : Bool) → b ≡ true → b ≡ false → ⊥
true_is_not b h k = cc

-- The body at the RVA is whole and apart from the CLI header.
pub record IsApart (image : List ℕ) (rva : ℕ) (bytes : List ℕ) : Type 0 where
  pub layout : Layout
  pub there : tail_at image rva ≡ Some bytes
  pub laid : layout_of bytes ≡ Some layout
  pub apart : has_header_byte image rva layout.len ≡ false

pub apart_from : (image : List ℕ) (place : Place) (rva : ℕ) (bytes : List ℕ) (len : ℕ) (result : Result ℕ Refusal) → tail_at image rva ≡ Some bytes → MatchOption (layout_of bytes) (result ≡ Err (refusal I5 place 0)) (λ layout. result ≡ Ok layout.len) → result ≡ Ok len → has_header_byte image rva len ≡ false → IsApart image rva bytes
apart_from image place rva bytes len result there m e apart = go (layout_of bytes) refl m
  where
    go : (o : Option Layout) → layout_of bytes ≡ o → MatchOption o (result ≡ Err (refusal I5 place 0)) (λ layout. result ≡ Ok layout.len) → IsApart image rva bytes
    go None laid n = absurd cc
    go (Some layout) laid n =
        let same : len ≡ layout.len = cc in
        record { layout = layout; there = there; laid = laid; apart = subst (λ (l : ℕ). has_header_byte image rva l ≡ false) same apart }

module _ (image : List ℕ) (place : Place) (rva : ℕ) (bytes : List ℕ) (w : IsApart image rva bytes) where
  same_bytes : (other : List ℕ) → tail_at image rva ≡ Some other → other ≡ bytes
  same_bytes other h = some_is other bytes (tail_at image rva) h w.there

  layout_there : (other : List ℕ) → tail_at image rva ≡ Some other → layout_of other ≡ Some w.layout
  layout_there other h = ap layout_of (same_bytes other h) ∙ w.laid

  pub unbroken : BreaksI5 image rva → ⊥
  unbroken (BreaksI5.nowhere h) = some_is_not bytes (tail_at image rva) w.there h
  unbroken (BreaksI5.not_whole other h k) = some_is_not w.layout (layout_of other) (layout_there other h) k
  unbroken (BreaksI5.in_header other layout h k e) =
      let same = some_is layout w.layout (layout_of other) k (layout_there other h) in
      true_is_not (has_header_byte image rva layout.len) e (subst (λ (l : Layout). has_header_byte image rva l.len ≡ false) (sym same) w.apart)

  pub fault_there : 0 < rva → (r : Refusal) → BodyFault place bytes r → FaultAt image place rva r
  fault_there some r f =
      let g : IsFault place w.layout (code_of bytes w.layout.header) r = subst (λ (o : Option Layout). MatchOption o (r ≡ refusal I5 place 0) (λ layout. IsFault place layout (code_of bytes layout.header) r)) w.laid f in
      (some, inr (record { bytes = bytes; layout = w.layout; there = w.there; laid = w.laid; apart = w.apart; fault = g }))

  code_fault : (r : Refusal) → CodeFaultAt image place rva r → BodyFault place bytes r
  code_fault r f =
      let g : MatchOption (layout_of f.bytes) (r ≡ refusal I5 place 0) (λ layout. IsFault place layout (code_of f.bytes layout.header) r) =
      subst (λ (o : Option Layout). MatchOption o (r ≡ refusal I5 place 0) (λ layout. IsFault place layout (code_of f.bytes layout.header) r)) (sym f.laid) f.fault in
      subst (λ (b : List ℕ). BodyFault place b r) (same_bytes f.bytes f.there) g

  pub fault_in_bytes : (r : Refusal) → FaultAt image place rva r → BodyFault place bytes r
  fault_in_bytes r (some, inl f) = absurd (unbroken f.0)
  fault_in_bytes r (some, inr f) = code_fault r f

  pub stands_at : (body : Body) → (len : ℕ) × StandsFor place.assembly bytes body len → StandsAt image place.assembly rva body
  stands_at body (len, s) =
      let same : w.layout ≡ s.layout = some_is w.layout s.layout (layout_of bytes) w.laid s.is_laid in
      record {
        bytes = bytes;
        len = len;
        there = w.there;
        stands = s;
        apart = subst (λ (l : ℕ). has_header_byte image rva l ≡ false) (ap (λ (l : Layout). l.len) same ∙ sym s.size) w.apart;
      }

  pub body_stands : (result : Result Body Fault) → IfOk result (λ body. (len : ℕ) × StandsFor place.assembly bytes body len) → IfOk result (StandsAt image place.assembly rva)
  body_stands result h = if_ok (λ body. (len : ℕ) × StandsFor place.assembly bytes body len) (StandsAt image place.assembly rva) result stands_at h

  pub none_there : (result : Result Body Fault) → OnOk result ((r : Refusal) → BodyFault place bytes r → ⊥) → OnOk result ((r : Refusal) → FaultAt image place rva r → ⊥)
  none_there result h = on_ok result (λ f r g. f r (fault_in_bytes r g)) h

  pub first_there : (result : Result Body Fault) → OnRefused result (λ r. (s : Refusal) → BodyFault place bytes s → s ≡ r) → OnRefused result (λ r. (s : Refusal) → FaultAt image place rva s → s ≡ r)
  first_there result h =
      OnRefused-weaker result (λ r. (s : Refusal) → BodyFault place bytes s → s ≡ r) (λ r. (s : Refusal) → FaultAt image place rva s → s ≡ r) (λ r f s g. f s (fault_in_bytes s g)) h

-- ---- where a part of I5 is broken

-- the code has no fault there
no_code_fault : (image : List ℕ) (place : Place) (rva : ℕ) (r : Refusal) → BreaksI5 image rva → CodeFaultAt image place rva r → ⊥
no_code_fault image place rva r b f =
    unbroken image place rva f.bytes (record { layout = f.layout; there = f.there; laid = f.laid; apart = f.apart }) b

pub only_i5 : (image : List ℕ) (place : Place) (rva : ℕ) (s : Refusal) → BreaksI5 image rva → FaultAt image place rva s → s ≡ refusal I5 place 0
only_i5 image place rva s b (some, inl f) = f.1
only_i5 image place rva s b (some, inr f) = absurd (no_code_fault image place rva s b f)

pub not_whole_from : (image : List ℕ) (place : Place) (rva : ℕ) (bytes : List ℕ) (r : Refusal) (result : Result ℕ Refusal) → tail_at image rva ≡ Some bytes → MatchOption (layout_of bytes) (result ≡ Err (refusal I5 place 0)) (λ layout. result ≡ Ok layout.len) → result ≡ Err r → BreaksI5 image rva × (r ≡ refusal I5 place 0)
not_whole_from image place rva bytes r result there m e = go (layout_of bytes) refl m
  where
    go : (o : Option Layout) → layout_of bytes ≡ o → MatchOption o (result ≡ Err (refusal I5 place 0)) (λ layout. result ≡ Ok layout.len) → BreaksI5 image rva × (r ≡ refusal I5 place 0)
    go None laid n = let same : r ≡ refusal I5 place 0 = cc in (BreaksI5.not_whole bytes there laid, same)
    go (Some layout) laid n = absurd cc

pub in_header_from : (image : List ℕ) (place : Place) (rva : ℕ) (bytes : List ℕ) (len : ℕ) (result : Result ℕ Refusal) → tail_at image rva ≡ Some bytes → MatchOption (layout_of bytes) (result ≡ Err (refusal I5 place 0)) (λ layout. result ≡ Ok layout.len) → result ≡ Ok len → has_header_byte image rva len ≡ true → BreaksI5 image rva
in_header_from image place rva bytes len result there m e meets = go (layout_of bytes) refl m
  where
    go : (o : Option Layout) → layout_of bytes ≡ o → MatchOption o (result ≡ Err (refusal I5 place 0)) (λ layout. result ≡ Ok layout.len) → BreaksI5 image rva
    go None laid n = absurd cc
    go (Some layout) laid n =
        let same : len ≡ layout.len = cc in
        BreaksI5.in_header bytes layout there laid (subst (λ (l : ℕ). has_header_byte image rva l ≡ true) same meets)

-- ---- where there is no RVA

pub none_at_zero : (image : List ℕ) (place : Place) (r : Refusal) → FaultAt image place 0 r → ⊥
none_at_zero image place r f = let l : 0 < 0 = f.0 in omega (arith, l)

-- ---- what is read can be written

pub valid_there : (a : ℕ) (bytes : List ℕ) (result : Result Body Fault) → AreBytes bytes → IfOk result (λ body. (len : ℕ) × StandsFor a bytes body len) → IfOk result (λ body. IfSome body.locals (λ token. token.row < 2 ^ 24)) → IfOk result (IsValid a)
valid_there a bytes (Ok body) are h row = body_valid a bytes body h.0 are h.1 row
valid_there a bytes (Err f) are h row = tt
