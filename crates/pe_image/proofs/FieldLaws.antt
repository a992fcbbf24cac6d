-- What the header fields of a grown image are.
use Rattle.std.proofs.Common.{◌≡◌, ℕ, suc, ◌+◌, ◌^◌, ◌<◌, ◌≤◌, Bool, cond, List, [], ◌∷◌, length, refl, sym, ap, ◌∙◌, arith}
use Rattle.std.proofs.lemmas.List.{length-append}
use Rattle.std.specs.List.{concat}
use Rattle.std.proofs.lemmas.Bool.{lt-ltb}
use Rattle.cil_base.specs.Numbers.{num}
use Rattle.pe_image.specs.declared.headers.Headers.{Headers}
use Rattle.pe_image.specs.declared.section.Section.{Section}
use Rattle.pe_image.specs.declared.cli.CliHeader.{CliHeader}
use Rattle.pe_image.specs.declared.growth.SectionGrowth.{SectionGrowth}
use Rattle.pe_image.specs.Headers.{Fit, pe_of, is_plus, headers_at, headers_of, section_alignment, file_alignment, headers_size, cli_rva}
use Rattle.pe_image.specs.Sections.{section_at}
use Rattle.pe_image.specs.Cli.{cli_at}
use Rattle.cil_base.specs.Bytes.{number_bytes, zeros, between, IsAt}
use Rattle.cil_base.proofs.PieceLaws.{length_number, length_between, at_number}
use Rattle.pe_image.specs.Written.{moved_offset, moved_header, section_name, new_header}
use Rattle.pe_image.proofs.PieceLaws.{num_copied, piece}
use Rattle.pe_image.proofs.FrontLaws.{FrontIs, CliIs}

-- ---- before the section table

-- the headers, with one section more
abbrev pub with_one : Headers → Headers
with_one h = record h { count = suc h.count }

pub record FieldsAre (b out : List ℕ) (h : Headers) (g : SectionGrowth) : Type 0 where
  pub headers : headers_of out ≡ with_one h
  pub mz : num out 0 2 ≡ num b 0 2
  pub signature : num out h.pe 4 ≡ num b h.pe 4
  pub optional : num out (h.pe + 20) 2 ≡ num b (h.pe + 20) 2
  pub magic : num out (h.pe + 24) 2 ≡ num b (h.pe + 24) 2
  pub section_alignment : section_alignment out h ≡ section_alignment b h
  pub file_alignment : file_alignment out h ≡ file_alignment b h
  pub size : headers_size out h ≡ g.headers_size
  pub cli_rva : cli_rva out h ≡ cli_rva b h

make_headers : (pe magic magic2 size size2 count count2 : ℕ) → magic ≡ magic2 → size ≡ size2 → count ≡ count2 → ◌≡◌ {A = Headers} (record { pe = pe; directories = pe + 24 + cond (is_plus magic) 112 96; sections = pe + 24 + size; count = count }) (record { pe = pe; directories = pe + 24 + cond (is_plus magic2) 112 96; sections = pe + 24 + size2; count = count2 })
make_headers pe magic magic2 size size2 count count2 e f k =
    let H : ℕ → ℕ → ℕ → Headers = λ m s c. record { pe = pe; directories = pe + 24 + cond (is_plus m) 112 96; sections = pe + 24 + s; count = c } in
    ap (λ (x : ℕ). H x size count) e ∙ ap (λ (x : ℕ). H magic2 x count) f ∙ ap (H magic2 size2) k

pub fields_are : (b out : List ℕ) (h : Headers) (g : SectionGrowth) → h ≡ headers_of b → Fit h → h.sections ≤ length b → 64 ≤ h.pe → h.count < 65535 → g.headers_size < 2 ^ 32 → FrontIs b out h g → FieldsAre b out h g
fields_are b out h g e fit whole low few short front =
    let near = fit.near in
    let far = fit.far in
    let pe = h.pe in
    let d = h.directories in
    let old_pe : pe ≡ pe_of b = ap (λ (k : Headers). k.pe) e in
    let pe_is : pe_of out ≡ pe = num_copied out b 0 0 (pe + 6) 60 60 4 front.head (omega arith) (omega arith) (omega arith) refl ∙ sym old_pe in
    let optional : num out (pe + 20) 2 ≡ num b (pe + 20) 2 = num_copied out b (pe + 20) (pe + 20) (pe + 80) (pe + 20) (pe + 20) 2 front.middle (omega arith) (omega arith) (omega arith) (omega arith) in
    let magic : num out (pe + 24) 2 ≡ num b (pe + 24) 2 = num_copied out b (pe + 20) (pe + 20) (pe + 80) (pe + 24) (pe + 24) 2 front.middle (omega arith) (omega arith) (omega arith) (omega arith) in
    let count : num out (pe + 6) 2 ≡ suc h.count = at_number out (pe + 6) 2 (h.count + 1) front.count (omega arith) ∙ omega arith in
    let there : headers_at out pe ≡ with_one (headers_at b pe) = make_headers pe (num out (pe + 24) 2) (num b (pe + 24) 2) (num out (pe + 20) 2) (num b (pe + 20) 2) (num out (pe + 6) 2) (suc (num b (pe + 6) 2)) magic optional (count ∙ ap suc (ap (λ (k : Headers). k.count) e ∙ ap (λ (k : ℕ). num b (k + 6) 2) (sym old_pe))) in
    record {
      headers = ap (headers_at out) pe_is ∙ there ∙ ap (λ (k : ℕ). with_one (headers_at b k)) old_pe ∙ sym (ap with_one e);
      mz = num_copied out b 0 0 (pe + 6) 0 0 2 front.head (omega arith) (omega arith) (omega arith) refl;
      signature = num_copied out b 0 0 (pe + 6) pe pe 4 front.head (omega arith) (omega arith) (omega arith) (omega arith);
      optional = optional;
      magic = magic;
      section_alignment = num_copied out b (pe + 20) (pe + 20) (pe + 80) (pe + 56) (pe + 56) 4 front.middle (omega arith) (omega arith) (omega arith) (omega arith);
      file_alignment = num_copied out b (pe + 20) (pe + 20) (pe + 80) (pe + 60) (pe + 60) 4 front.middle (omega arith) (omega arith) (omega arith) (omega arith);
      size = at_number out (pe + 84) 4 g.headers_size front.size short;
      cli_rva = num_copied out b (d + 56) (d + 56) h.sections (d + 112) (d + 112) 4 front.last (omega arith) (omega arith) (omega arith) (omega arith);
    }

-- ---- the section table

-- A section is another one, whose raw bytes stand further on.
pub record IsMoved (s t : Section) (by : ℕ) : Type 0 where
  pub rest : t ≡ record s { raw_at = t.raw_at }
  pub offset : 0 < s.raw_size → t.raw_at ≡ s.raw_at + by

abbrev pub new_section : ℕ → SectionGrowth → Section
new_section len g = record { virtual_size = len; address = g.address; raw_size = g.raw_size; raw_at = g.raw_at }

make_section : (v v2 a a2 s s2 r r2 : ℕ) → v ≡ v2 → a ≡ a2 → s ≡ s2 → r ≡ r2 → ◌≡◌ {A = Section} (record { virtual_size = v; address = a; raw_size = s; raw_at = r }) (record { virtual_size = v2; address = a2; raw_size = s2; raw_at = r2 })
make_section v v2 a a2 s s2 r r2 e f g h =
    let S : ℕ → ℕ → ℕ → ℕ → Section = λ w x y z. record { virtual_size = w; address = x; raw_size = y; raw_at = z } in
    ap (λ (x : ℕ). S x a s r) e ∙ ap (λ (x : ℕ). S v2 x s r) f ∙ ap (λ (x : ℕ). S v2 a2 x r) g ∙ ap (S v2 a2 s2) h

pub shifted_section : (b out : List ℕ) (by q : ℕ) → q + 40 ≤ length b → (0 < (section_at b q).raw_size → (section_at b q).raw_at + by < 2 ^ 32) → IsAt out q (concat (moved_header b by q)) → IsMoved (section_at b q) (section_at out q) by
shifted_section b out by q le small all =
    let p1 = between b q (q + 20) in
    let p2 = number_bytes 4 (moved_offset (section_at b q) by) in
    let p3 = between b (q + 24) (q + 40) in
    let l1 : length p1 ≡ 20 = length_between b q (q + 20) (omega arith) (omega arith) ∙ omega arith in
    let old : IsAt out q p1 = piece out q [] p1 (p2 ∷ p3 ∷ []) q all (omega arith) in
    let f8 : num out (q + 8) 4 ≡ num b (q + 8) 4 = num_copied out b q q (q + 20) (q + 8) (q + 8) 4 old (omega arith) (omega arith) (omega arith) (omega arith) in
    let f12 : num out (q + 12) 4 ≡ num b (q + 12) 4 = num_copied out b q q (q + 20) (q + 12) (q + 12) 4 old (omega arith) (omega arith) (omega arith) (omega arith) in
    let f16 : num out (q + 16) 4 ≡ num b (q + 16) 4 = num_copied out b q q (q + 20) (q + 16) (q + 16) 4 old (omega arith) (omega arith) (omega arith) (omega arith) in
    let raw : IsAt out (q + 20) p2 = piece out q (p1 ∷ []) p2 (p3 ∷ []) (q + 20) all (simp (length-append, l1) (omega arith)) in
    record {
      rest = make_section (num out (q + 8) 4) (num b (q + 8) 4) (num out (q + 12) 4) (num b (q + 12) 4) (num out (q + 16) 4) (num b (q + 16) 4) (num out (q + 20) 4) (num out (q + 20) 4) f8 f12 f16 refl;
      offset = λ some.
          let is : moved_offset (section_at b q) by ≡ (section_at b q).raw_at + by = ap (λ (c : Bool). cond c ((section_at b q).raw_at + by) (section_at b q).raw_at) (lt-ltb 0 (section_at b q).raw_size some) in
          at_number out (q + 20) 4 (moved_offset (section_at b q) by) raw (let t = small some in omega arith) ∙ is;
    }

pub fresh_section : (out : List ℕ) (len q : ℕ) (g : SectionGrowth) → len < 2 ^ 32 → g.address < 2 ^ 32 → g.raw_size < 2 ^ 32 → g.raw_at < 2 ^ 32 → IsAt out q (concat (new_header len g)) → section_at out q ≡ new_section len g
fresh_section out len q g small1 small2 small3 small4 all =
    let p2 = number_bytes 4 len in
    let p3 = number_bytes 4 g.address in
    let p4 = number_bytes 4 g.raw_size in
    let p5 = number_bytes 4 g.raw_at in
    let p6 = zeros 12 in
    let p7 = number_bytes 4 0x60000020 in
    let l2 : length p2 ≡ 4 = length_number 4 len in
    let l3 : length p3 ≡ 4 = length_number 4 g.address in
    let l4 : length p4 ≡ 4 = length_number 4 g.raw_size in
    let f8 = piece out q (section_name ∷ []) p2 (p3 ∷ p4 ∷ p5 ∷ p6 ∷ p7 ∷ []) (q + 8) all refl in
    let f12 = piece out q (section_name ∷ p2 ∷ []) p3 (p4 ∷ p5 ∷ p6 ∷ p7 ∷ []) (q + 12) all (simp (length-append, l2) (omega arith)) in
    let f16 = piece out q (section_name ∷ p2 ∷ p3 ∷ []) p4 (p5 ∷ p6 ∷ p7 ∷ []) (q + 16) all (simp (length-append, l2, l3) (omega arith)) in
    let f20 = piece out q (section_name ∷ p2 ∷ p3 ∷ p4 ∷ []) p5 (p6 ∷ p7 ∷ []) (q + 20) all (simp (length-append, l2, l3, l4) (omega arith)) in
    make_section (num out (q + 8) 4) len (num out (q + 12) 4) g.address (num out (q + 16) 4) g.raw_size (num out (q + 20) 4) g.raw_at (at_number out (q + 8) 4 len f8 small1) (at_number out (q + 12) 4 g.address f12 small2) (at_number out (q + 16) 4 g.raw_size f16 small3) (at_number out (q + 20) 4 g.raw_at f20 small4)

-- ---- the CLI header

pub cli_fields : (b out : List ℕ) (by at : ℕ) (rva : ℕ) (cli : CliHeader) → cli.header_rva ≡ rva → cli.entry ≡ num b (at + 20) 4 → cli.metadata_rva < 2 ^ 32 → cli.metadata_len < 2 ^ 32 → cli.flags < 2 ^ 32 → at + 32 ≤ length b → CliIs b out by at cli → cli_at out rva (at + by) ≡ cli
cli_fields b out by at rva cli self entry small1 small2 small3 within is =
    let C : ℕ → ℕ → ℕ → ℕ → ℕ → CliHeader = λ v w x y z. record { header_rva = v; metadata_rva = w; metadata_len = x; flags = y; entry = z } in
    let e20 : num out (at + by + 20) 4 ≡ cli.entry = num_copied out b (at + by + 20) (at + 20) (at + 32) (at + by + 20) (at + 20) 4 is.entry (omega arith) (omega arith) within (omega arith) ∙ sym entry in
    ap (λ (x : ℕ). C rva x (num out (at + by + 12) 4) (num out (at + by + 16) 4) (num out (at + by + 20) 4)) (at_number out (at + by + 8) 4 cli.metadata_rva is.rva small1)
    ∙ ap (λ (x : ℕ). C rva cli.metadata_rva x (num out (at + by + 16) 4) (num out (at + by + 20) 4)) (at_number out (at + by + 12) 4 cli.metadata_len is.len small2)
    ∙ ap (λ (x : ℕ). C rva cli.metadata_rva cli.metadata_len x (num out (at + by + 20) 4)) (at_number out (at + by + 16) 4 cli.flags is.flags small3)
    ∙ ap (C rva cli.metadata_rva cli.metadata_len cli.flags) e20
    ∙ ap (λ (x : ℕ). C x cli.metadata_rva cli.metadata_len cli.flags cli.entry) (sym self)
