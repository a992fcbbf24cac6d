-- The section table of a grown image: what is found in it, and that its sections rise apart.
use Rattle.std.proofs.Common.{◌≡◌, ℕ, zero, suc, ◌+◌, ◌*◌, ◌<◌, ◌≤◌, Bool, true, false, cond, not, leb, ltb, ◌||◌, ◌&&◌, List, ◌∷◌, length, Some, None, refl, sym, ap, subst, ◌∙◌, inl, inr, ◌⊎◌, arith}
use Rattle.std.specs.Prelude.{find, nat_lt}
use Rattle.std.proofs.lemmas.Bool.{le-leb, lt-ltb, le-ltb, ltb-true, ltb-false}
use Rattle.std.proofs.lemmas.Option.{same_Some}
use Rattle.cil_base.specs.Refusals.{first_of}
use Rattle.pe_image.specs.declared.section.Section.{Section}
use Rattle.pe_image.specs.Sections.{section_at, sections_at, address_end, raw_end, holds}
use Rattle.pe_image.specs.SectionGrowth.{addresses_end}
use Rattle.pe_image.specs.Rules.{section_tests, is_misplaced}
use Rattle.pe_image.proofs.SectionLaws.{none_after, misplaced_not, floor_not, floors, behind_floor}
use Rattle.pe_image.proofs.FieldLaws.{IsMoved}

-- So many section headers from a place on are the old ones, moved, and a new one follows.
pub record TableGrown (b out : List ℕ) (by at n : ℕ) (new : Section) : Type 0 where
  pub each : (i : ℕ) → i < n → IsMoved (section_at b (at + 40 * i)) (section_at out (at + 40 * i)) by
  pub last : section_at out (at + 40 * n) ≡ new

pub table_head : (b out : List ℕ) (by at n : ℕ) (new : Section) → TableGrown b out by at (suc n) new → IsMoved (section_at b at) (section_at out at) by
table_head b out by at n new t =
    subst (λ (k : ℕ). IsMoved (section_at b k) (section_at out k) by) (let e : at + 40 * 0 ≡ at = omega arith in e) (t.each 0 (omega arith))

pub table_tail : (b out : List ℕ) (by at n : ℕ) (new : Section) → TableGrown b out by at (suc n) new → TableGrown b out by (at + 40) n new
table_tail b out by at n new t = record {
  each = λ i lt.
      let e : at + 40 * suc i ≡ at + 40 + 40 * i = omega arith in
      subst (λ (k : ℕ). IsMoved (section_at b k) (section_at out k) by) e (t.each (suc i) (omega arith));
  last = ap (section_at out) (let e : at + 40 + 40 * n ≡ at + 40 * suc n = omega arith in e) ∙ t.last;
}

pub table_end_is : (b out : List ℕ) (by at : ℕ) (new : Section) → TableGrown b out by at 0 new → section_at out at ≡ new
table_end_is b out by at new t = ap (section_at out) (let e : at ≡ at + 40 * 0 = omega arith in e) ∙ t.last

-- ---- what is found

pub same_holds : (rva len : ℕ) (s t : Section) (by : ℕ) → IsMoved s t by → holds rva len t ≡ holds rva len s
same_holds rva len s t by m = ap (holds rva len) m.rest

pub record FoundGrown (rva len : ℕ) (out : List ℕ) (at n : ℕ) (s : Section) (by : ℕ) : Type 0 where
  pub section : Section
  pub found : find (holds rva len) (sections_at out at (suc n)) ≡ Some section
  pub moved : IsMoved s section by

pub found_grown : (rva len : ℕ) (b out : List ℕ) (by at n : ℕ) (new s : Section) → TableGrown b out by at n new → find (holds rva len) (sections_at b at n) ≡ Some s → FoundGrown rva len out at n s by
found_grown rva len b out by at zero new s t e = absurd cc
found_grown rva len b out by at (suc n) new s t e =
    go (found_grown rva len b out by (at + 40) n new s (table_tail b out by at n new t)) (same_holds rva len (section_at b at) (section_at out at) by m) (holds rva len (section_at b at)) refl
  where
    m : IsMoved (section_at b at) (section_at out at) by
    m = table_head b out by at n new t

    go : (find (holds rva len) (sections_at b (at + 40) n) ≡ Some s → FoundGrown rva len out (at + 40) n s by) → holds rva len (section_at out at) ≡ holds rva len (section_at b at) → (p : Bool) → holds rva len (section_at b at) ≡ p → FoundGrown rva len out at (suc n) s by
    go ih same true h =
        let here : section_at b at ≡ s = same_Some (section_at b at) s (rw h at e) in
        let there : holds rva len (section_at out at) ≡ true = same ∙ h in
        record { section = section_at out at; found = rw there refl; moved = subst (λ (x : Section). IsMoved x (section_at out at) by) here m }
    go ih same false h =
        let f = ih (rw h at e) in
        let there : holds rva len (section_at out at) ≡ false = same ∙ h in
        record { section = f.section; found = rw there f.found; moved = f.moved }

pub none_grown : (rva len : ℕ) (b out : List ℕ) (by at n : ℕ) (new : Section) → TableGrown b out by at n new → find (holds rva len) (sections_at b at n) ≡ None → find (holds rva len) (sections_at out at (suc n)) ≡ cond (holds rva len new) (Some new) None
none_grown rva len b out by at zero new t e = ap (λ (s : Section). cond (holds rva len s) (Some s) None) (table_end_is b out by at new t)
none_grown rva len b out by at (suc n) new t e =
    go (none_grown rva len b out by (at + 40) n new (table_tail b out by at n new t)) (same_holds rva len (section_at b at) (section_at out at) by (table_head b out by at n new t)) (holds rva len (section_at b at)) refl
  where
    go : (find (holds rva len) (sections_at b (at + 40) n) ≡ None → find (holds rva len) (sections_at out (at + 40) (suc n)) ≡ cond (holds rva len new) (Some new) None) → holds rva len (section_at out at) ≡ holds rva len (section_at b at) → (p : Bool) → holds rva len (section_at b at) ≡ p → find (holds rva len) (sections_at out at (suc (suc n))) ≡ cond (holds rva len new) (Some new) None
    go ih same true h = let x = rw h at e in absurd cc
    go ih same false h =
        let there : holds rva len (section_at out at) ≡ false = same ∙ h in
        rw there (ih (rw h at e))

-- two sections that are found are one, or their raw bytes stand apart
pub found_apart : (p q : Section → Bool) (b : List ℕ) (a f g at n : ℕ) (s t : Section) → first_of (section_tests b a f g at n) ≡ None → find p (sections_at b at n) ≡ Some s → find q (sections_at b at n) ≡ Some t → 0 < s.raw_size → 0 < t.raw_size → (s ≡ t) ⊎ ((raw_end s ≤ t.raw_at) ⊎ (raw_end t ≤ s.raw_at))
found_apart p q b a f g at zero s t e h k some more = absurd cc
found_apart p q b a f g at (suc n) s t e h k some more =
    let here = section_at b at in
    let after = none_after b a f g at n e in
    go (found_apart p q b a (address_end here) (cond (nat_lt 0 here.raw_size) (raw_end here) g) (at + 40) n s t after.1)
    (λ x. behind_floor p b a (address_end here) (cond (nat_lt 0 here.raw_size) (raw_end here) g) (at + 40) n s after.1 x some)
    (λ x. behind_floor q b a (address_end here) (cond (nat_lt 0 here.raw_size) (raw_end here) g) (at + 40) n t after.1 x more)
    (p here) (q here) refl refl
  where
    first : (x y : Section) (floor end : ℕ) → x ≡ y → 0 < y.raw_size → cond (nat_lt 0 x.raw_size) (raw_end x) floor ≤ end → raw_end y ≤ end
    first x y floor end same big le = go2 (subst (λ (z : Section). 0 < z.raw_size) (sym same) big)
      where
        go2 : 0 < x.raw_size → raw_end y ≤ end
        go2 bigger = subst (λ (z : Section). raw_end z ≤ end) same (subst (λ (c : Bool). cond c (raw_end x) floor ≤ end) (lt-ltb 0 x.raw_size bigger) le)

    go : (find p (sections_at b (at + 40) n) ≡ Some s → find q (sections_at b (at + 40) n) ≡ Some t → 0 < s.raw_size → 0 < t.raw_size → (s ≡ t) ⊎ ((raw_end s ≤ t.raw_at) ⊎ (raw_end t ≤ s.raw_at))) → (find p (sections_at b (at + 40) n) ≡ Some s → cond (nat_lt 0 (section_at b at).raw_size) (raw_end (section_at b at)) g ≤ s.raw_at) → (find q (sections_at b (at + 40) n) ≡ Some t → cond (nat_lt 0 (section_at b at).raw_size) (raw_end (section_at b at)) g ≤ t.raw_at) → (x y : Bool) → p (section_at b at) ≡ x → q (section_at b at) ≡ y → (s ≡ t) ⊎ ((raw_end s ≤ t.raw_at) ⊎ (raw_end t ≤ s.raw_at))
    go ih ps qs true true u v =
        let one : section_at b at ≡ s = same_Some (section_at b at) s (rw u at h) in
        let two : section_at b at ≡ t = same_Some (section_at b at) t (rw v at k) in
        inl (sym one ∙ two)
    go ih ps qs true false u v =
        let one : section_at b at ≡ s = same_Some (section_at b at) s (rw u at h) in
        inr (inl (first (section_at b at) s g t.raw_at one some (qs (rw v at k))))
    go ih ps qs false true u v =
        let two : section_at b at ≡ t = same_Some (section_at b at) t (rw v at k) in
        inr (inr (first (section_at b at) t g s.raw_at two more (ps (rw u at h))))
    go ih ps qs false false u v = ih (rw u at h) (rw v at k) some more

-- ---- the sections rise apart

address_not : (b : List ℕ) (f g : ℕ) (s : Section) → is_misplaced b f g s ≡ false → f ≤ s.address
address_not b f g s e = go (ltb s.address f) (nat_lt 0 s.raw_size && (nat_lt s.raw_at g || not (leb (raw_end s) (length b)))) e (ltb-false s.address f)
  where
    go : (p q : Bool) → (p || q) ≡ false → (p ≡ false → f ≤ s.address) → f ≤ s.address
    go true q e k = absurd cc
    go false q e k = k refl

placed_well : (b : List ℕ) (f g : ℕ) (s : Section) → f ≤ s.address → (0 < s.raw_size → g ≤ s.raw_at) → (0 < s.raw_size → raw_end s ≤ length b) → is_misplaced b f g s ≡ false
placed_well b f g s low floor end = go (ltb 0 s.raw_size) refl
  where
    go : (p : Bool) → ltb 0 s.raw_size ≡ p → is_misplaced b f g s ≡ false
    go true e =
        let some : 0 < s.raw_size = ltb-true 0 s.raw_size e in
        rw (le-ltb s.address f low, e, le-ltb s.raw_at g (floor some), le-leb (raw_end s) (length b) (end some)) refl
    go false e = rw (le-ltb s.address f low, e) refl

lower_floor : (b : List ℕ) (f f2 g : ℕ) (s : Section) → is_misplaced b f g s ≡ false → f2 ≤ s.address → is_misplaced b f2 g s ≡ false
lower_floor b f f2 g s e low = placed_well b f2 g s low (floor_not b f g s e) (misplaced_not b f g s e)

moved_well : (b out : List ℕ) (f g by : ℕ) (s t : Section) → IsMoved s t by → is_misplaced b f g s ≡ false → length b + by ≤ length out → is_misplaced out f (g + by) t ≡ false
moved_well b out f g by s t m e longer =
    let address : t.address ≡ s.address = ap (λ (x : Section). x.address) m.rest in
    let size : t.raw_size ≡ s.raw_size = ap (λ (x : Section). x.raw_size) m.rest in
    let low = address_not b f g s e in
    placed_well out f (g + by) t (omega arith)
    (λ some. (let more : 0 < s.raw_size = omega arith in let p = m.offset more in let q = floor_not b f g s e more in omega arith))
    (λ some. (let more : 0 < s.raw_size = omega arith in let p = m.offset more in let q = misplaced_not b f g s e more in omega arith))

-- where the raw bytes so far end then
floor_grown : (s t : Section) (by g : ℕ) → IsMoved s t by → cond (nat_lt 0 t.raw_size) (raw_end t) (g + by) ≡ cond (nat_lt 0 s.raw_size) (raw_end s) g + by
floor_grown s t by g m = ap (λ (k : ℕ). cond (nat_lt 0 k) (raw_end t) (g + by)) size ∙ go (ltb 0 s.raw_size) refl
  where
    size : t.raw_size ≡ s.raw_size
    size = ap (λ (x : Section). x.raw_size) m.rest

    go : (p : Bool) → ltb 0 s.raw_size ≡ p → cond (ltb 0 s.raw_size) (raw_end t) (g + by) ≡ cond (ltb 0 s.raw_size) (raw_end s) g + by
    go true e =
        let p = m.offset (ltb-true 0 s.raw_size e) in
        let same = size in
        rw e (omega arith)
    go false e = rw e refl

-- no test on a whole section header fails, where it is well placed and none behind it fails
test_on : (b : List ℕ) (a f g at n : ℕ) → at + 40 ≤ length b → is_misplaced b f g (section_at b at) ≡ false → first_of (section_tests b a (address_end (section_at b at)) (cond (nat_lt 0 (section_at b at).raw_size) (raw_end (section_at b at)) g) (at + 40) n) ≡ None → first_of (section_tests b a f g at (suc n)) ≡ None
test_on b a f g at n reach well rest = rw (le-leb (at + 40) (length b) reach, well) rest

last_end : (s : Section) (rest : List Section) (n : ℕ) → addresses_end (s ∷ rest) ≤ n → (address_end s ≤ n) × (addresses_end rest ≤ n)
last_end s rest n le = (omega arith, omega arith)

floor_low : (b : List ℕ) (f g : ℕ) (s : Section) (end : ℕ) → is_misplaced b f g s ≡ false → g ≤ end → length b ≤ end → cond (nat_lt 0 s.raw_size) (raw_end s) g ≤ end
floor_low b f g s end e low long = go (ltb 0 s.raw_size) refl
  where
    go : (p : Bool) → ltb 0 s.raw_size ≡ p → cond p (raw_end s) g ≤ end
    go true h = (let k = misplaced_not b f g s e (ltb-true 0 s.raw_size h) in omega arith)
    go false h = low

pub tests_grown : (b out : List ℕ) (a a2 by at n f g : ℕ) (new : Section) → TableGrown b out by at n new → first_of (section_tests b a f g at n) ≡ None → at + 40 * suc n ≤ length out → length b + by ≤ length out → f ≤ new.address → addresses_end (sections_at b at n) ≤ new.address → g ≤ length b → length b + by ≤ new.raw_at → raw_end new ≤ length out → first_of (section_tests out a2 f (g + by) at (suc n)) ≡ None
tests_grown b out a a2 by at zero f g new t e reach longer low ends floor place end =
    let here = table_end_is b out by at new t in
    let well : is_misplaced out f (g + by) new ≡ false = placed_well out f (g + by) new low (λ some. omega arith) (λ some. end) in
    test_on out a2 f (g + by) at zero (omega arith) (ap (is_misplaced out f (g + by)) here ∙ well) refl
tests_grown b out a a2 by at (suc n) f g new t e reach longer low ends floor place end =
    let s = section_at b at in
    let u = section_at out at in
    let m = table_head b out by at n new t in
    let after = none_after b a f g at n e in
    let both = last_end s (sections_at b (at + 40) n) new.address ends in
    let rest = tests_grown b out a a2 by (at + 40) n (address_end s) (cond (nat_lt 0 s.raw_size) (raw_end s) g) new (table_tail b out by at n new t) after.1 (omega arith) longer both.0 both.1 (floor_low b f g s (length b) after.0 floor (omega arith)) place end in
    test_on out a2 f (g + by) at (suc n) (omega arith) (moved_well b out f g by s u m after.0 longer)
    (floors out a2 (address_end u) (address_end s) (cond (nat_lt 0 u.raw_size) (raw_end u) (g + by)) (cond (nat_lt 0 s.raw_size) (raw_end s) g + by) (at + 40) (suc n) (ap address_end m.rest) (floor_grown s u by g m)
    ∙ rest)

-- the RVAs may begin anywhere before the first section
pub tests_from : (b : List ℕ) (a f f2 g at n : ℕ) → at + 40 ≤ length b → first_of (section_tests b a f g at (suc n)) ≡ None → f2 ≤ (section_at b at).address → first_of (section_tests b a f2 g at (suc n)) ≡ None
tests_from b a f f2 g at n reach e low =
    let after = none_after b a f g at n e in
    test_on b a f2 g at n reach (lower_floor b f f2 g (section_at b at) after.0 low) after.1
