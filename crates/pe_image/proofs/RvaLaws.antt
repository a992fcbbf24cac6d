-- What stands at an RVA of a grown image.
use Rattle.std.proofs.Common.{◌≡◌, ℕ, zero, suc, ◌+◌, ◌-◌, ◌<◌, ◌≤◌, Bool, true, false, cond, leb, List, [], ◌∷◌, ◌++◌, length, take, drop, Option, Some, None, refl, sym, ap, subst, ◌∙◌, inl, inr, ◌⊎◌, arith}
use Rattle.std.specs.Prelude.{find, is_some, option_map}
use Rattle.std.proofs.lemmas.Bool.{le-leb, lt-leb, and_right}
use Rattle.std.proofs.lemmas.Option.{same_Some}
use Rattle.std.proofs.lemmas.List.{take-take, length-append, length-drop, length-take-le, take_all, drop-append-le}
use Rattle.pe_image.specs.declared.headers.Headers.{Headers}
use Rattle.pe_image.specs.declared.section.Section.{Section}
use Rattle.pe_image.specs.declared.cli.CliHeader.{CliHeader}
use Rattle.pe_image.specs.declared.growth.SectionGrowth.{SectionGrowth}
use Rattle.pe_image.specs.Headers.{headers_of, headers_size, cli_rva}
use Rattle.pe_image.specs.Sections.{sections_at, sections_of, section_of, offset_in, at_rva, tail_at, raw_end, holds}
use Rattle.pe_image.specs.SectionGrowth.{addresses_end}
use Rattle.cil_base.specs.Bytes.{zeros, part, IsAt}
use Rattle.cil_base.proofs.PieceLaws.{length_zeros}
use Rattle.pe_image.proofs.GrownLaws.{kept_bytes, new_raw, placed}
use Rattle.pe_image.proofs.SectionLaws.{holds_true, find_meets, found_in, behind_floor}
use Rattle.pe_image.specs.ReadBack.{Misses, SameFront}
use Rattle.pe_image.proofs.PieceLaws.{part_of, copied}
use Rattle.pe_image.proofs.FieldLaws.{IsMoved, new_section}
use Rattle.pe_image.proofs.TableLaws.{FoundGrown, found_grown, none_grown, found_apart}
use Rattle.pe_image.proofs.SettingLaws.{numbers, pieces, Setting, fields, table, old_cli, old_offset, cli_in_section, offset_grown}

-- ---- the bytes of an old section

-- The fields of the CLI header between the flags and the strong name stay.
between_fields : (b : List ℕ) (a : ℕ) (h : Headers) (at : ℕ) (cli : CliHeader) (section out : List ℕ) (g : SectionGrowth) → Setting b a h at cli section out g → (p n : ℕ) → at + 20 ≤ p → p + n ≤ at + 32 → part out (p + g.by) n ≡ part b p n
between_fields b a h at cli section out g s p n low high =
    let here = s.sizes.here in
    copied out b (at + g.by + 20) (at + 20) (at + 32) (p + g.by) p n (pieces b a h at cli section out g s).header.entry low high (omega arith) (omega arith)

-- So do the old bytes behind the headers, where the CLI header doesn't change.
kept_there : (b : List ℕ) (a : ℕ) (h : Headers) (at : ℕ) (cli : CliHeader) (section out : List ℕ) (g : SectionGrowth) → Setting b a h at cli section out g → (p n : ℕ) → headers_size b h ≤ p → p + n ≤ length b → Misses at p n → part out (p + g.by) n ≡ part b p n
kept_there b a h at cli section out g s p n low high misses = elim misses [
  | inl before ↦ other (inl before)
  | inr later ↦ elim later [ inl middle ↦ between_fields b a h at cli section out g s p n middle.0 middle.1 | inr after ↦ other (inr after) ]
]
  where
    other : (p + n ≤ at + 8) ⊎ (at + 40 ≤ p) → part out (p + g.by) n ≡ part b p n
    other apart = ap (λ (x : List ℕ). part x (p + g.by) n) s.out_is ∙ kept_bytes b h at cli section g s.sizes p n low high apart

-- what the RVAs of a section miss, so do their places in the file
misses_offset : (u : Section) (header rva n : ℕ) → u.address ≤ header → u.address ≤ rva → Misses header rva n → Misses (offset_in u header) (offset_in u rva) n
misses_offset u header rva n low1 low2 misses = elim misses [
  | inl before ↦ inl (omega arith)
  | inr later ↦ elim later [ inl middle ↦ inr (inl (omega (arith, middle.0), omega (arith, middle.1))) | inr after ↦ inr (inr (omega arith)) ]
]

-- A range of an old section stays, where it doesn't meet the fields of the CLI header that change.
same_bytes : (b : List ℕ) (a : ℕ) (h : Headers) (at : ℕ) (cli : CliHeader) (section out : List ℕ) (g : SectionGrowth) → Setting b a h at cli section out g → (rva m n : ℕ) (u t : Section) → section_of b h rva m ≡ Some u → IsMoved u t g.by → u.address ≤ rva → rva + n ≤ u.address + u.raw_size → Misses (cli_rva b h) rva n → part out (offset_in t rva) n ≡ part b (offset_in u rva) n
same_bytes b a h at cli section out g s rva m zero u t found moved low high misses = refl
same_bytes b a h at cli section out g s rva m (suc n) u t found moved low high misses =
    let size = headers_size b h in
    let c = old_cli b a h at cli section out g s in
    let inside = cli_in_section b a h at cli section out g s in
    let place = old_offset b a h at cli section out g s in
    let some : 0 < u.raw_size = omega arith in
    let more : 0 < c.section.raw_size = omega (arith, inside.0, inside.1) in
    let floor : size ≤ u.raw_at = behind_floor (holds rva m) b a size size h.sections h.count u s.order.sections found some in
    let end : raw_end u ≤ length b = (found_in (holds rva m) b a size size h.sections h.count u s.order.sections found).within some in
    let there : Misses at (offset_in u rva) (suc n) = elim (found_apart (holds rva m) (holds (cli_rva b h) 72) b a size size h.sections h.count u c.section s.order.sections found c.found some more) [
      | inl same ↦ (let low_cli : u.address ≤ cli_rva b h = subst (λ (x : Section). x.address ≤ cli_rva b h) (sym same) inside.0 in
          let at_is : at ≡ offset_in u (cli_rva b h) = place ∙ ap (λ (x : Section). offset_in x (cli_rva b h)) (sym same) in
          subst (λ (k : ℕ). Misses k (offset_in u rva) (suc n)) (sym at_is) (misses_offset u (cli_rva b h) rva (suc n) low_cli low misses))
      | inr other ↦ elim other [ inl before ↦ inl (omega (arith, inside.0)) | inr after ↦ inr (inr (omega (arith, inside.0, inside.1))) ]
    ] in
    ap (λ (k : ℕ). part out k (suc n)) (offset_grown u t g.by rva moved some)
    ∙ kept_there b a h at cli section out g s (offset_in u rva) (suc n) (omega arith) (omega arith) there

-- ---- what is found

-- a section is found, and this is made of it
pub record From (f : Section → List ℕ) (o : Option Section) (x : List ℕ) : Type 0 where
  pub section : Section
  pub is : o ≡ Some section
  pub value : f section ≡ x

mapped : (f : Section → List ℕ) (o : Option Section) (x : List ℕ) → option_map f o ≡ Some x → From f o x
mapped f (Some s) x e = record { section = s; is = refl; value = same_Some (f s) x e }
mapped f None x e = absurd cc

unmapped : (f : Section → List ℕ) (o : Option Section) → option_map f o ≡ None → o ≡ None
unmapped f (Some s) e = absurd cc
unmapped f None e = refl

pub is_found : (f : Section → List ℕ) (o : Option Section) (x : List ℕ) → option_map f o ≡ Some x → is_some o ≡ true
is_found f (Some s) x e = refl
is_found f None x e = absurd cc

old_section : (b : List ℕ) (a : ℕ) (h : Headers) (at : ℕ) (cli : CliHeader) (section out : List ℕ) (g : SectionGrowth) → Setting b a h at cli section out g → (rva n : ℕ) → section_of b h rva n ≡ section_of b (headers_of b) rva n
old_section b a h at cli section out g s rva n = ap (λ (k : Headers). section_of b k rva n) s.order.headers

out_section : (b : List ℕ) (a : ℕ) (h : Headers) (at : ℕ) (cli : CliHeader) (section out : List ℕ) (g : SectionGrowth) → Setting b a h at cli section out g → (rva n : ℕ) → section_of out (headers_of out) rva n ≡ find (holds rva n) (sections_at out h.sections (suc h.count))
out_section b a h at cli section out g s rva n = ap (λ (k : Headers). section_of out k rva n) (fields b a h at cli section out g s).headers

out_found : (b : List ℕ) (a : ℕ) (h : Headers) (at : ℕ) (cli : CliHeader) (section out : List ℕ) (g : SectionGrowth) → Setting b a h at cli section out g → (rva n : ℕ) (u : Section) → section_of b h rva n ≡ Some u → FoundGrown rva n out h.sections h.count u g.by
out_found b a h at cli section out g s rva n u e =
    found_grown rva n b out g.by h.sections h.count (new_section (length section) g) u (table b a h at cli section out g s) e

pub old_rva : (b : List ℕ) (a : ℕ) (h : Headers) (at : ℕ) (cli : CliHeader) (section out : List ℕ) (g : SectionGrowth) → Setting b a h at cli section out g → (rva n : ℕ) (x : List ℕ) → at_rva b rva n ≡ Some x → Misses (cli_rva b h) rva n → at_rva out rva n ≡ Some x
old_rva b a h at cli section out g s rva n x e misses =
    let m = mapped (λ (u : Section). part b (offset_in u rva) n) (section_of b (headers_of b) rva n) x e in
    let found : section_of b h rva n ≡ Some m.section = old_section b a h at cli section out g s rva n ∙ m.is in
    let t = out_found b a h at cli section out g s rva n m.section found in
    let both = holds_true rva n m.section (find_meets (holds rva n) (sections_of b h) m.section found) in
    ap (option_map (λ (u : Section). part out (offset_in u rva) n)) (out_section b a h at cli section out g s rva n ∙ t.found)
    ∙ ap Some (same_bytes b a h at cli section out g s rva n n m.section t.section found t.moved both.0 both.1 misses ∙ m.value)

pub old_tail : (b : List ℕ) (a : ℕ) (h : Headers) (at : ℕ) (cli : CliHeader) (section out : List ℕ) (g : SectionGrowth) → Setting b a h at cli section out g → (rva n : ℕ) (x : List ℕ) → tail_at b rva ≡ Some x → n ≤ length x → Misses (cli_rva b h) rva n → SameFront x n (tail_at out rva)
old_tail b a h at cli section out g s rva n x e fits misses =
    let size = headers_size b h in
    let k = numbers b a h at cli section out g s in
    let f = mapped (λ (v : Section). part b (offset_in v rva) (v.address + v.raw_size - rva)) (section_of b (headers_of b) rva 1) x e in
    let u = f.section in
    let found : section_of b h rva 1 ≡ Some u = old_section b a h at cli section out g s rva 1 ∙ f.is in
    let t = out_found b a h at cli section out g s rva 1 u found in
    let both = holds_true rva 1 u (find_meets (holds rva 1) (sections_of b h) u found) in
    let some : 0 < u.raw_size = omega (arith, both.0, both.1) in
    let end : raw_end u ≤ length b = (found_in (holds rva 1) b a size size h.sections h.count u s.order.sections found).within some in
    let m = u.address + u.raw_size - rva in
    let place = offset_grown u t.section g.by rva t.moved some in
    let old_long : length (part b (offset_in u rva) m) ≡ m = length-take-le m (drop (offset_in u rva) b) (omega (arith, length-drop (offset_in u rva) b, both.0, both.1)) in
    let new_long : length (part out (offset_in t.section rva) m) ≡ m = length-take-le m (drop (offset_in t.section rva) out) (omega (arith, place, length-drop (offset_in t.section rva) out, both.0, both.1)) in
    let same_long : length x ≡ m = ap length (sym f.value) ∙ old_long in
    let now : tail_at out rva ≡ Some (part out (offset_in t.section rva) m) =
    ap (option_map (λ (v : Section). part out (offset_in v rva) (v.address + v.raw_size - rva))) (out_section b a h at cli section out g s rva 1 ∙ t.found)
    ∙ ap (λ (v : Section). Some (part out (offset_in t.section rva) (v.address + v.raw_size - rva))) t.moved.rest in
    subst (SameFront x n) (sym now) (
      new_long ∙ sym same_long,
      take-take n m (drop (offset_in t.section rva) out) (omega arith)
          ∙ same_bytes b a h at cli section out g s rva 1 n u t.section found t.moved both.0 (omega (arith, both.0, both.1)) misses
          ∙ sym (take-take n m (drop (offset_in u rva) b) (omega arith))
          ∙ ap (take n) f.value,
    )

-- ---- the new section

past_all : (rva n : ℕ) (xs : List Section) → addresses_end xs ≤ rva → 0 < n → find (holds rva n) xs ≡ None
past_all rva n [] le some = refl
past_all rva n (x ∷ xs) le some =
    let past : leb (rva + n) (x.address + x.raw_size) ≡ false = lt-leb (rva + n) (x.address + x.raw_size) (omega arith) in
    rw (past, and_right (leb x.address rva) false refl) (past_all rva n xs (omega arith) some)

new_holds : (rva n len : ℕ) (g : SectionGrowth) → g.address ≤ rva → rva + n ≤ g.address + g.raw_size → holds rva n (new_section len g) ≡ true
new_holds rva n len g low high = rw (le-leb g.address rva low, le-leb (rva + n) (g.address + g.raw_size) high) refl

pub new_found : (b : List ℕ) (a : ℕ) (h : Headers) (at : ℕ) (cli : CliHeader) (section out : List ℕ) (g : SectionGrowth) → Setting b a h at cli section out g → (rva n : ℕ) → section_of b h rva n ≡ None → g.address ≤ rva → rva + n ≤ g.address + g.raw_size → section_of out (headers_of out) rva n ≡ Some (new_section (length section) g)
new_found b a h at cli section out g s rva n none low high =
    out_section b a h at cli section out g s rva n
    ∙ none_grown rva n b out g.by h.sections h.count (new_section (length section) g) (table b a h at cli section out g s) none
    ∙ ap (λ (p : Bool). cond p (Some (new_section (length section) g)) None) (new_holds rva n (length section) g low high)

pub new_rva_is : (b : List ℕ) (a : ℕ) (h : Headers) (at : ℕ) (cli : CliHeader) (section out : List ℕ) (g : SectionGrowth) → Setting b a h at cli section out g → (k n : ℕ) → k + n ≤ length section → at_rva out (g.address + k) n ≡ Some (part section k n)
new_rva_is b a h at cli section out g s k zero le = go (section_of b h (g.address + k) 0) refl
  where
    long : length section ≤ g.raw_size
    long = s.sizes.raw_size

    go : (o : Option Section) → section_of b h (g.address + k) 0 ≡ o → at_rva out (g.address + k) 0 ≡ Some (part section k 0)
    go (Some u) e = ap (option_map (λ (v : Section). part out (offset_in v (g.address + k)) 0)) (out_section b a h at cli section out g s (g.address + k) 0 ∙ (out_found b a h at cli section out g s (g.address + k) 0 u e).found)
    go None e =
        let more = long in
        ap (option_map (λ (v : Section). part out (offset_in v (g.address + k)) 0)) (new_found b a h at cli section out g s (g.address + k) 0 e (omega arith) (omega arith))
new_rva_is b a h at cli section out g s k (suc n) le =
    let ends = s.behind in
    let more = s.sizes.raw_size in
    let none : section_of b h (g.address + k) (suc n) ≡ None = past_all (g.address + k) (suc n) (sections_of b h) (omega arith) (omega arith) in
    let there : IsAt out g.raw_at section = subst (λ (x : List ℕ). IsAt x g.raw_at section) (sym s.out_is) (placed b h at cli section g s.sizes) in
    let off : g.raw_at + (g.address + k - g.address) ≡ g.raw_at + k = omega arith in
    ap (option_map (λ (v : Section). part out (offset_in v (g.address + k)) (suc n))) (new_found b a h at cli section out g s (g.address + k) (suc n) none (omega arith) (omega arith))
    ∙ ap (λ (p : ℕ). Some (part out p (suc n))) off
    ∙ ap Some (part_of out section g.raw_at k (suc n) there le)

rest_of : (x y : List ℕ) (k n : ℕ) → k ≤ length x → n ≡ length x + length y - k → part (x ++ y) k n ≡ drop k x ++ y
rest_of x y k n le e =
    ap (take n) (drop-append-le k x y le)
    ∙ take_all n (drop k x ++ y) (omega (arith, length-append (drop k x) y, length-drop k x))

pub new_tail_is : (b : List ℕ) (a : ℕ) (h : Headers) (at : ℕ) (cli : CliHeader) (section out : List ℕ) (g : SectionGrowth) → Setting b a h at cli section out g → (k : ℕ) → k < length section → tail_at out (g.address + k) ≡ Some (drop k section ++ zeros (g.raw_size - length section))
new_tail_is b a h at cli section out g s k le =
    let ends = s.behind in
    let more = s.sizes.raw_size in
    let y = zeros (g.raw_size - length section) in
    let ly : length y ≡ g.raw_size - length section = length_zeros (g.raw_size - length section) in
    let none : section_of b h (g.address + k) 1 ≡ None = past_all (g.address + k) 1 (sections_of b h) (omega arith) (omega arith) in
    let there : IsAt out g.raw_at (section ++ y) = subst (λ (x : List ℕ). IsAt x g.raw_at (section ++ y)) (sym s.out_is) (new_raw b h at cli section g s.sizes) in
    let both = length-append section y in
    let off : g.raw_at + (g.address + k - g.address) ≡ g.raw_at + k = omega arith in
    let left : g.address + g.raw_size - (g.address + k) ≡ g.raw_size - k = omega arith in
    ap (option_map (λ (v : Section). part out (offset_in v (g.address + k)) (v.address + v.raw_size - (g.address + k)))) (new_found b a h at cli section out g s (g.address + k) 1 none (omega arith) (omega arith))
    ∙ ap (λ (p : ℕ). Some (part out p (g.address + g.raw_size - (g.address + k)))) off
    ∙ ap (λ (n : ℕ). Some (part out (g.raw_at + k) n)) left
    ∙ ap Some (part_of out (section ++ y) g.raw_at k (g.raw_size - k) there (omega arith) ∙ rest_of section y k (g.raw_size - k) (omega arith) (omega arith))

-- ---- nothing else

new_lacks : (rva n len : ℕ) (g : SectionGrowth) → (rva < g.address) ⊎ (g.address + g.raw_size < rva + n) → holds rva n (new_section len g) ≡ false
new_lacks rva n len g (inl low) = rw (lt-leb g.address rva low) refl
new_lacks rva n len g (inr high) = rw (lt-leb (rva + n) (g.address + g.raw_size) high) (and_right (leb g.address rva) false refl)

pub no_other : (b : List ℕ) (a : ℕ) (h : Headers) (at : ℕ) (cli : CliHeader) (section out : List ℕ) (g : SectionGrowth) → Setting b a h at cli section out g → (rva n : ℕ) → at_rva b rva n ≡ None → (rva < g.address) ⊎ (g.address + g.raw_size < rva + n) → at_rva out rva n ≡ None
no_other b a h at cli section out g s rva n e apart =
    let none : section_of b h rva n ≡ None = old_section b a h at cli section out g s rva n ∙ unmapped (λ (u : Section). part b (offset_in u rva) n) (section_of b (headers_of b) rva n) e in
    ap (option_map (λ (v : Section). part out (offset_in v rva) n))
    (out_section b a h at cli section out g s rva n
    ∙ none_grown rva n b out g.by h.sections h.count (new_section (length section) g) (table b a h at cli section out g s) none
    ∙ ap (λ (p : Bool). cond p (Some (new_section (length section) g)) None) (new_lacks rva n (length section) g apart))
