-- One section header of the table after another.
use Rattle.std.proofs.Common.{◌≡◌, ℕ, zero, suc, ◌+◌, ◌-◌, ◌*◌, ◌<◌, ◌≤◌, Bool, true, false, cond, not, leb, ltb, ◌||◌, ◌&&◌, List, [], ◌∷◌, ◌++◌, length, Some, None, refl, sym, ap, subst, ◌∙◌, arith}
use Rattle.std.specs.Prelude.{find, nat_lt}
use Rattle.std.proofs.lemmas.Bool.{leb-true, leb-false, le-leb, lt-leb, lt-ltb, le-ltb, ltb-true, ltb-false}
use Rattle.std.proofs.lemmas.Option.{same_Some}
use Rattle.cil_base.specs.declared.rule.Rule.TheVariants.{P3}
use Rattle.cil_base.specs.Refusals.{refusal, assembly_place, Test, first_of}
use Rattle.pe_image.specs.declared.section.Section.{Section}
use Rattle.pe_image.specs.declared.headers.Headers.{Headers}
use Rattle.pe_image.specs.Sections.{section_at, sections_at, sections_of, section_of, offset_in, address_end, raw_end, holds}
use Rattle.pe_image.specs.declared.fields.Field.{Field}
use Rattle.pe_image.specs.Rules.{test, field, cut, section_tests, section_fields, cuts, is_misplaced}

pub left : (n i : ℕ) → i < n → n - i ≡ suc (n - (i + 1))
left n i h = omega arith

-- what is not found in a section is sought in those behind it
pub find_on : (p : Section → Bool) (bytes : List ℕ) (at next n m : ℕ) → n ≡ suc m → at + 40 ≡ next → p (section_at bytes at) ≡ false → find p (sections_at bytes at n) ≡ find p (sections_at bytes next m)
find_on p bytes at next n m e f h = rw (e, h, f) refl

pub find_here : (p : Section → Bool) (bytes : List ℕ) (at n m : ℕ) → n ≡ suc m → p (section_at bytes at) ≡ true → find p (sections_at bytes at n) ≡ Some (section_at bytes at)
find_here p bytes at n m e h = rw (e, h) refl

pub tests_on : (bytes : List ℕ) (a address_floor raw_floor at next n m : ℕ) → n ≡ suc m → at + 40 ≡ next → at + 40 ≤ length bytes → is_misplaced bytes address_floor raw_floor (section_at bytes at) ≡ false → first_of (section_tests bytes a address_floor raw_floor at n) ≡ first_of (section_tests bytes a (address_end (section_at bytes at)) (cond (nat_lt 0 (section_at bytes at).raw_size) (raw_end (section_at bytes at)) raw_floor) next m)
tests_on bytes a address_floor raw_floor at next n m e f within h = rw (e, le-leb (at + 40) (length bytes) within, h, f) refl

pub tests_here : (bytes : List ℕ) (a address_floor raw_floor at n m : ℕ) → n ≡ suc m → at + 40 ≤ length bytes → is_misplaced bytes address_floor raw_floor (section_at bytes at) ≡ true → first_of (section_tests bytes a address_floor raw_floor at n) ≡ Some (refusal P3 (assembly_place a) at)
tests_here bytes a address_floor raw_floor at n m e within h = rw (e, le-leb (at + 40) (length bytes) within, h) refl

pub tests_cut : (bytes : List ℕ) (a address_floor raw_floor at n m : ℕ) → n ≡ suc m → length bytes < at + 40 → first_of (section_tests bytes a address_floor raw_floor at n) ≡ first_of (cuts bytes a at section_fields)
tests_cut bytes a address_floor raw_floor at n m e past = rw (e, lt-leb (at + 40) (length bytes) past) refl

-- ---- a table whose sections are in order is whole

pub none_of : (t : Test) (ts : List Test) → first_of (t ∷ ts) ≡ None → (t.fails ≡ false) × (first_of ts ≡ None)
none_of t ts e = go t.fails refl
  where
    go : (b : Bool) → t.fails ≡ b → (t.fails ≡ false) × (first_of ts ≡ None)
    go true f = let x = rw f at e in absurd cc
    go false f = let x = rw f at e in (f, x)

uncut : (b : Bool) (m n : ℕ) → leb m n ≡ b → not b ≡ false → m ≤ n
uncut true m n e h = leb-true m n e
uncut false m n e h = absurd cc

-- where none of the fields is cut, the last is there
cuts_last : (bytes : List ℕ) (a at : ℕ) (fs : List Field) (f : Field) → first_of (cuts bytes a at (fs ++ f ∷ [])) ≡ None → at + f.offset + f.width ≤ length bytes
cuts_last bytes a at [] f e = uncut (leb (at + f.offset + f.width) (length bytes)) (at + f.offset + f.width) (length bytes) refl (none_of (cut bytes a (at + f.offset) f.width) [] e).0
cuts_last bytes a at (g ∷ gs) f e = cuts_last bytes a at gs f (none_of (cut bytes a (at + g.offset) g.width) (cuts bytes a at (gs ++ f ∷ [])) e).1

header_there : (bytes : List ℕ) (a at : ℕ) → first_of (cuts bytes a at section_fields) ≡ None → at + 40 ≤ length bytes
header_there bytes a at e =
    let last : at + 36 + 4 ≤ length bytes = cuts_last bytes a at (field 0 8 ∷ field 8 4 ∷ field 12 4 ∷ field 16 4 ∷ field 20 4 ∷ []) (field 36 4) e in
    omega arith

pub whole : (bytes : List ℕ) (a address_floor raw_floor at n : ℕ) → first_of (section_tests bytes a address_floor raw_floor at (suc n)) ≡ None → at + 40 * suc n ≤ length bytes
whole bytes a address_floor raw_floor at zero e = one (leb (at + 40) (length bytes)) refl
  where
    one : (b : Bool) → leb (at + 40) (length bytes) ≡ b → at + 40 * 1 ≤ length bytes
    one false t = let x = rw t at e in absurd (omega (arith, header_there bytes a at x, leb-false (at + 40) (length bytes) t))
    one true t = omega (arith, leb-true (at + 40) (length bytes) t)
whole bytes a address_floor raw_floor at (suc m) e = more (whole bytes a (address_end (section_at bytes at)) (cond (nat_lt 0 (section_at bytes at).raw_size) (raw_end (section_at bytes at)) raw_floor) (at + 40) m) (leb (at + 40) (length bytes)) refl
  where
    more : (first_of (section_tests bytes a (address_end (section_at bytes at)) (cond (nat_lt 0 (section_at bytes at).raw_size) (raw_end (section_at bytes at)) raw_floor) (at + 40) (suc m)) ≡ None → at + 40 + 40 * suc m ≤ length bytes) → (b : Bool) → leb (at + 40) (length bytes) ≡ b → at + 40 * suc (suc m) ≤ length bytes
    more ih false t = let x = rw t at e in absurd (omega (arith, header_there bytes a at x, leb-false (at + 40) (length bytes) t))
    more ih true t =
        let x = rw t at e in
        let rest = ih (none_of (test P3 a at (is_misplaced bytes address_floor raw_floor (section_at bytes at))) (section_tests bytes a (address_end (section_at bytes at)) (cond (nat_lt 0 (section_at bytes at).raw_size) (raw_end (section_at bytes at)) raw_floor) (at + 40) (suc m)) x).1 in
        omega arith

pub whole_table : (bytes : List ℕ) (a address_floor raw_floor at n : ℕ) → first_of (section_tests bytes a address_floor raw_floor at n) ≡ None → 0 < n → at + 40 * n ≤ length bytes
whole_table bytes a address_floor raw_floor at zero e h = absurd (omega arith)
whole_table bytes a address_floor raw_floor at (suc n) e h = whole bytes a address_floor raw_floor at n e

-- ---- where the raw bytes so far end, after one more section

pub floor_moved : (s t : Section) (floor end : ℕ) → s ≡ t → 0 < s.raw_size → end ≡ raw_end s → cond (nat_lt 0 t.raw_size) (raw_end t) floor ≡ end
floor_moved s t floor end same some e =
    let more : 0 < t.raw_size = rw (← same) some in
    rw (lt-ltb 0 t.raw_size more) (ap raw_end (sym same) ∙ sym e)

pub floor_kept : (s t : Section) (floor end : ℕ) → s ≡ t → s.raw_size ≤ 0 → end ≡ floor → cond (nat_lt 0 t.raw_size) (raw_end t) floor ≡ end
floor_kept s t floor end same empty e =
    let none : t.raw_size ≤ 0 = rw (← same) empty in
    rw (le-ltb 0 t.raw_size none) (sym e)

pub floors : (bytes : List ℕ) (a f1 f2 g1 g2 at n : ℕ) → f1 ≡ f2 → g1 ≡ g2 → first_of (section_tests bytes a f1 g1 at n) ≡ first_of (section_tests bytes a f2 g2 at n)
floors bytes a f1 f2 g1 g2 at n e h = rw (e, h) refl

-- ---- a section that is found in a table in order

pub holds_true : (rva len : ℕ) (s : Section) → holds rva len s ≡ true → (s.address ≤ rva) × (rva + len ≤ s.address + s.raw_size)
holds_true rva len s e = go (leb s.address rva) (leb (rva + len) (s.address + s.raw_size)) e (leb-true s.address rva) (leb-true (rva + len) (s.address + s.raw_size))
  where
    go : (p q : Bool) → (p && q) ≡ true → (p ≡ true → s.address ≤ rva) → (q ≡ true → rva + len ≤ s.address + s.raw_size) → (s.address ≤ rva) × (rva + len ≤ s.address + s.raw_size)
    go true true e f g = (f refl, g refl)
    go true false e f g = absurd cc
    go false q e f g = absurd cc

-- the test that a section meets, and that its raw bytes are in the file
pub record Found (p : Section → Bool) (bytes : List ℕ) (s : Section) : Type 0 where
  pub meets : p s ≡ true
  pub within : 0 < s.raw_size → raw_end s ≤ length bytes

pub misplaced_not : (bytes : List ℕ) (f g : ℕ) (s : Section) → is_misplaced bytes f g s ≡ false → 0 < s.raw_size → raw_end s ≤ length bytes
misplaced_not bytes f g s e some = go (ltb s.address f) (ltb 0 s.raw_size) (ltb s.raw_at g) (leb (raw_end s) (length bytes)) e (lt-ltb 0 s.raw_size some) (leb-true (raw_end s) (length bytes))
  where
    go : (p q r t : Bool) → (p || (q && (r || not t))) ≡ false → q ≡ true → (t ≡ true → raw_end s ≤ length bytes) → raw_end s ≤ length bytes
    go p q r true e h k = k refl
    go true q r false e h k = absurd cc
    go false false r false e h k = absurd cc
    go false true true false e h k = absurd cc
    go false true false false e h k = absurd cc

pub none_after : (bytes : List ℕ) (a f g at n : ℕ) → first_of (section_tests bytes a f g at (suc n)) ≡ None → (is_misplaced bytes f g (section_at bytes at) ≡ false) × (first_of (section_tests bytes a (address_end (section_at bytes at)) (cond (nat_lt 0 (section_at bytes at).raw_size) (raw_end (section_at bytes at)) g) (at + 40) n) ≡ None)
none_after bytes a f g at n e = go (leb (at + 40) (length bytes)) refl
  where
    go : (b : Bool) → leb (at + 40) (length bytes) ≡ b → (is_misplaced bytes f g (section_at bytes at) ≡ false) × (first_of (section_tests bytes a (address_end (section_at bytes at)) (cond (nat_lt 0 (section_at bytes at).raw_size) (raw_end (section_at bytes at)) g) (at + 40) n) ≡ None)
    go false t = let x = rw t at e in absurd (omega (arith, header_there bytes a at x, leb-false (at + 40) (length bytes) t))
    go true t = let x = rw t at e in none_of (test P3 a at (is_misplaced bytes f g (section_at bytes at))) (section_tests bytes a (address_end (section_at bytes at)) (cond (nat_lt 0 (section_at bytes at).raw_size) (raw_end (section_at bytes at)) g) (at + 40) n) x

pub found_in : (p : Section → Bool) (bytes : List ℕ) (a address_floor raw_floor at n : ℕ) (s : Section) → first_of (section_tests bytes a address_floor raw_floor at n) ≡ None → find p (sections_at bytes at n) ≡ Some s → Found p bytes s
found_in p bytes a f g at zero s e h = absurd cc
found_in p bytes a f g at (suc n) s e h =
    let q = none_after bytes a f g at n e in
    go (found_in p bytes a (address_end (section_at bytes at)) (cond (nat_lt 0 (section_at bytes at).raw_size) (raw_end (section_at bytes at)) g) (at + 40) n s q.1) (misplaced_not bytes f g (section_at bytes at) q.0) (p (section_at bytes at)) refl
  where
    go : (find p (sections_at bytes (at + 40) n) ≡ Some s → Found p bytes s) → (0 < (section_at bytes at).raw_size → raw_end (section_at bytes at) ≤ length bytes) → (m : Bool) → p (section_at bytes at) ≡ m → Found p bytes s
    go ih within false t = ih (rw t at h)
    go ih within true t =
        let same : section_at bytes at ≡ s = same_Some (section_at bytes at) s (rw t at h) in
        rw (← same) (record { meets = t; within = within })

pub found_cli : (bytes : List ℕ) (a f g at n rva : ℕ) (s : Section) → first_of (section_tests bytes a f g at n) ≡ None → find (holds rva 72) (sections_at bytes at n) ≡ Some s → raw_end s ≤ length bytes
found_cli bytes a f g at n rva s e h =
    let found = found_in (holds rva 72) bytes a f g at n s e h in
    let both = holds_true rva 72 s found.meets in
    found.within (omega (arith, both.0, both.1))

-- what is found meets the test
pub find_meets : (p : Section → Bool) (xs : List Section) (s : Section) → find p xs ≡ Some s → p s ≡ true
find_meets p [] s e = absurd cc
find_meets p (x ∷ xs) s e = go (find_meets p xs s) (p x) refl
  where
    go : (find p xs ≡ Some s → p s ≡ true) → (b : Bool) → p x ≡ b → p s ≡ true
    go ih true t = let same : x ≡ s = same_Some x s (rw t at e) in rw (← same) t
    go ih false t = ih (rw t at e)

pub offset_within : (bytes : List ℕ) (h : Headers) (rva len : ℕ) (s : Section) → section_of bytes h rva len ≡ Some s → raw_end s ≤ length bytes → offset_in s rva + len ≤ length bytes
offset_within bytes h rva len s e within =
    let both = holds_true rva len s (find_meets (holds rva len) (sections_of bytes h) s e) in
    omega (arith, both.0, both.1)

-- the raw bytes of each section of a table in order are in the file
pub each_within : (bytes : List ℕ) (a f g at n i q : ℕ) → first_of (section_tests bytes a f g at n) ≡ None → i < n → q ≡ at + 40 * i → 0 < (section_at bytes q).raw_size → raw_end (section_at bytes q) ≤ length bytes
each_within bytes a f g at zero i q e h same = absurd (omega arith)
each_within bytes a f g at (suc n) zero q e h same =
    let here : q ≡ at = omega arith in
    rw here (misplaced_not bytes f g (section_at bytes at) (none_after bytes a f g at n e).0)
each_within bytes a f g at (suc n) (suc i) q e h same =
    each_within bytes a (address_end (section_at bytes at)) (cond (nat_lt 0 (section_at bytes at).raw_size) (raw_end (section_at bytes at)) g) (at + 40) n i q (none_after bytes a f g at n e).1 (omega arith) (omega arith)

pub floor_not : (bytes : List ℕ) (f g : ℕ) (s : Section) → is_misplaced bytes f g s ≡ false → 0 < s.raw_size → g ≤ s.raw_at
floor_not bytes f g s e some = go (ltb s.address f) (ltb 0 s.raw_size) (ltb s.raw_at g) (leb (raw_end s) (length bytes)) e (lt-ltb 0 s.raw_size some) (ltb-false s.raw_at g)
  where
    go : (p q r t : Bool) → (p || (q && (r || not t))) ≡ false → q ≡ true → (r ≡ false → g ≤ s.raw_at) → g ≤ s.raw_at
    go p q false t e h k = k refl
    go true q true t e h k = absurd cc
    go false false true t e h k = absurd cc
    go false true true t e h k = absurd cc

-- the floor of the raw bytes rises
floor_up : (bytes : List ℕ) (f g : ℕ) (s : Section) → is_misplaced bytes f g s ≡ false → g ≤ cond (nat_lt 0 s.raw_size) (raw_end s) g
floor_up bytes f g s e = go (ltb 0 s.raw_size) refl
  where
    go : (b : Bool) → ltb 0 s.raw_size ≡ b → g ≤ cond b (raw_end s) g
    go true t = omega (arith, floor_not bytes f g s e (ltb-true 0 s.raw_size t))
    go false t = omega arith

-- raw bytes stand behind the headers
pub behind_floor : (p : Section → Bool) (bytes : List ℕ) (a f g at n : ℕ) (s : Section) → first_of (section_tests bytes a f g at n) ≡ None → find p (sections_at bytes at n) ≡ Some s → 0 < s.raw_size → g ≤ s.raw_at
behind_floor p bytes a f g at zero s e h some = absurd cc
behind_floor p bytes a f g at (suc n) s e h some =
    let q = none_after bytes a f g at n e in
    go (λ k. behind_floor p bytes a (address_end (section_at bytes at)) (cond (nat_lt 0 (section_at bytes at).raw_size) (raw_end (section_at bytes at)) g) (at + 40) n s q.1 k some) (floor_up bytes f g (section_at bytes at) q.0) (floor_not bytes f g (section_at bytes at) q.0) (p (section_at bytes at)) refl
  where
    go : (find p (sections_at bytes (at + 40) n) ≡ Some s → cond (nat_lt 0 (section_at bytes at).raw_size) (raw_end (section_at bytes at)) g ≤ s.raw_at) → g ≤ cond (nat_lt 0 (section_at bytes at).raw_size) (raw_end (section_at bytes at)) g → (0 < (section_at bytes at).raw_size → g ≤ (section_at bytes at).raw_at) → (m : Bool) → p (section_at bytes at) ≡ m → g ≤ s.raw_at
    go ih up here false t = omega (arith, ih (rw t at h))
    go ih up here true t =
        let same : section_at bytes at ≡ s = same_Some (section_at bytes at) s (rw t at h) in
        subst (λ (x : Section). g ≤ x.raw_at) same (here (subst (λ (x : Section). 0 < x.raw_size) (sym same) some))

pub cli_behind : (bytes : List ℕ) (a f size rva : ℕ) (h : Headers) (s : Section) → first_of (section_tests bytes a f size h.sections h.count) ≡ None → section_of bytes h rva 72 ≡ Some s → size ≤ offset_in s rva
cli_behind bytes a f size rva h s e found =
    let both = holds_true rva 72 s (find_meets (holds rva 72) (sections_of bytes h) s found) in
    let le = behind_floor (holds rva 72) bytes a f size h.sections h.count s e found (omega (arith, both.0, both.1)) in
    omega arith
