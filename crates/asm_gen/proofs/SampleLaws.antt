-- A sample's image reads back as what it was made of.
use Rattle.std.proofs.Common.{◌≡◌, ℕ, suc, ◌+◌, ◌-◌, ◌^◌, ◌<◌, ◌≤◌, Bool, true, false, cond, not, ◌||◌, ◌&&◌, List, ◌++◌, length, Some, None, refl, sym, ap, subst, ◌∙◌, arith, append_assoc}
use Rattle.std.specs.Prelude.{nat_lt, nat_le, option_map}
use Rattle.std.specs.List.{concat}
use Rattle.std.proofs.lemmas.Bool.{le-leb, le-ltb, lt-ltb}
use Rattle.std.proofs.lemmas.List.{length-append}
use Rattle.cil_base.specs.Refusals.{first_of, NoneBroken}
use Rattle.pe_image.specs.declared.headers.Headers.{Headers}
use Rattle.pe_image.specs.declared.section.Section.{Section}
use Rattle.pe_image.specs.Headers.{headers_of, headers_size, cli_rva}
use Rattle.pe_image.specs.Sections.{section_at, section_of, holds, address_end, raw_end, offset_in, at_rva}
use Rattle.pe_image.specs.Cli.{cli_header_offset, cli_at, cli_of}
use Rattle.pe_image.specs.Rules.{is_misplaced, section_tests, directory_tests, header_tests, cli_tests, Broken}
use Rattle.cil_base.specs.Bytes.{number_bytes, zeros, part, IsAt}
use Rattle.cil_base.proofs.PieceLaws.{length_zeros, at_moved, part_at}
use Rattle.pe_image.proofs.PieceLaws.{part_of}
use Rattle.pe_image.proofs.SectionLaws.{find_here, tests_on}
use Rattle.pe_image.proofs.ImageLaws.{offset_is, cli_same, cli_is, metadata_is}
use Rattle.pe_image.proofs.RuleLaws.{accepted}
use Rattle.pe_image.proofs.AcceptLaws.{Accepts, directory_out, all_out}
use Rattle.asm_gen.specs.Layout.{code_address, text_size, text_raw, file_size, headers, cli_header, image}
use Rattle.asm_gen.specs.Reading.{sample_cli, IsImageOf}
use Rattle.asm_gen.proofs.SizeLaws.{raw_within, raw_covers}
use Rattle.asm_gen.proofs.HeaderLaws.{stands, stands_there, Fields, fields, long, text_section, resource_section, relocation_section, text, resource, relocation, CliFields, cli_fields}

-- ---- the section table

-- what the image of so many bytes of code and metadata is known by
pub record Known (b : List ℕ) (len : ℕ) : Type 0 where
  pub size : length b ≡ file_size len
  pub small : file_size len ≤ 2 ^ 27
  pub stands_at : headers_of b ≡ stands
  pub fields_are : Fields b
  pub text_is : section_at b 0x178 ≡ text_section len
  pub resource_is : section_at b 0x1A0 ≡ resource_section len
  pub relocation_is : section_at b 0x1C8 ≡ relocation_section len

not_past : (b : List ℕ) (f g : ℕ) (s : Section) → f ≤ s.address → g ≤ s.raw_at → raw_end s ≤ length b → is_misplaced b f g s ≡ false
not_past b f g s le ge end =
    go (nat_lt 0 s.raw_size) (le-ltb s.address f le) (le-ltb s.raw_at g ge) (le-leb (raw_end s) (length b) end)
  where
    go : (p : Bool) → nat_lt s.address f ≡ false → nat_lt s.raw_at g ≡ false → nat_le (raw_end s) (length b) ≡ true → (nat_lt s.address f || (p && (nat_lt s.raw_at g || not (nat_le (raw_end s) (length b))))) ≡ false
    go true e h k = rw (e, h, k) refl
    go false e h k = rw e refl

-- one section that is in order, and those behind it
one_more : (b : List ℕ) (a f g at n : ℕ) (s : Section) → section_at b at ≡ s → at + 40 ≤ length b → f ≤ s.address → g ≤ s.raw_at → raw_end s ≤ length b → 0 < s.raw_size → first_of (section_tests b a (address_end s) (raw_end s) (at + 40) n) ≡ None → first_of (section_tests b a f g at (suc n)) ≡ None
one_more b a f g at n s is le low raw last some rest =
    tests_on b a f g at (at + 40) (suc n) n refl refl le (ap (is_misplaced b f g) is ∙ not_past b f g s low raw last)
    ∙ ap (λ (t : Section). first_of (section_tests b a (address_end t) (cond (nat_lt 0 t.raw_size) (raw_end t) g) (at + 40) n)) is
    ∙ ap (λ (c : Bool). first_of (section_tests b a (address_end s) (cond c (raw_end s) g) (at + 40) n)) (lt-ltb 0 s.raw_size some)
    ∙ rest

table_clean : (b : List ℕ) (a len : ℕ) → Known b len → first_of (section_tests b a 0x200 0x200 0x178 3) ≡ None
table_clean b a len k =
    let size = k.size in
    let small = k.small in
    let covers = raw_covers (text_size len) in
    let within = raw_within (text_size len) in
    one_more b a 0x200 0x200 0x178 2 (text_section len) k.text_is (omega arith) (omega arith) (omega arith) (omega arith) (omega arith)
    (one_more b a (address_end (text_section len)) (raw_end (text_section len)) 0x1A0 1 (resource_section len) k.resource_is (omega arith) (omega arith) (omega arith) (omega arith) (omega arith)
    (one_more b a (address_end (resource_section len)) (raw_end (resource_section len)) 0x1C8 0 (relocation_section len) k.relocation_is (omega arith) (omega arith) (omega arith) (omega arith) (omega arith) refl))

-- a range in the raw bytes of .text
in_text : (b : List ℕ) (len rva n : ℕ) → Known b len → 0x2000 ≤ rva → rva + n ≤ 0x2000 + text_raw len → section_of b stands rva n ≡ Some (text_section len)
in_text b len rva n k low high =
    find_here (holds rva n) b 0x178 3 2 refl
    (ap (holds rva n) k.text_is ∙ ap (λ (c : Bool). c && nat_le (rva + n) (0x2000 + text_raw len)) (le-leb 0x2000 rva low) ∙ le-leb (rva + n) (0x2000 + text_raw len) high)
    ∙ ap Some k.text_is

-- ---- the rules

header_rules : (b : List ℕ) (a len : ℕ) → Known b len → first_of (header_tests b a) ≡ None
header_rules b a len k =
    let size = k.size in
    let e = k.stands_at in
    let f = k.fields_are in
    let fields_at : Accepts b stands = accepts f (omega arith) in
    let text_at : section_of b stands (cli_rva b stands) 72 ≡ Some (text_section len) =
    ap (λ (rva : ℕ). section_of b stands rva 72) f.cli ∙ in_text b len 0x2000 72 k (omega arith) (omega (arith, raw_covers (text_size len))) in
    let table : first_of (section_tests b a (headers_size b stands) (headers_size b stands) 0x178 3) ≡ None =
    ap (λ (n : ℕ). first_of (section_tests b a n n 0x178 3)) f.headers ∙ table_clean b a len k in
    let directories : first_of (directory_tests b a stands) ≡ None = directory_out b a stands (text_section len) (omega arith) text_at table in
    all_out b a (rw (ap (λ (h : Headers). h.pe) e) (omega arith))
    (subst (λ (h : Headers). Accepts b h) (sym e) fields_at)
    (subst (λ (h : Headers). first_of (directory_tests b a h) ≡ None) (sym e) directories)
  where
    accepts : Fields b → 0x600 ≤ length b → Accepts b stands
    accepts f le = record {
      mz = rw (le-leb 2 (length b) (omega arith), f.mz) refl;
      low = omega arith;
      signature = rw (le-leb (0x80 + 4) (length b) (omega arith), f.signature) refl;
      long = rw (f.magic, f.size) refl;
      magic = rw f.magic refl;
      order = rw (f.sections, f.file) refl;
      file = rw f.file refl;
    }

-- the CLI header stands at the beginning of .text
cli_there : (b : List ℕ) (len : ℕ) → Known b len → 0x200 ≡ cli_header_offset b stands
cli_there b len k =
    let f = k.fields_are in
    offset_is b stands (text_section len) 0x2000 0x200 (sym f.cli)
    (ap (λ (rva : ℕ). section_of b stands rva 72) f.cli ∙ in_text b len 0x2000 72 k (omega arith) (omega (arith, raw_covers (text_size len))))
    refl

cli_rules : (b : List ℕ) (a len rva n entry : ℕ) → Known b len → CliFields b rva n entry → 0x2000 ≤ rva → rva + n ≤ 0x2000 + text_raw len → first_of (cli_tests b a stands) ≡ None
cli_rules b a len rva n entry k c low high =
    cli_same b a stands 0x200 (cli_there b len k)
    ∙ rw (c.metadata_rva, c.metadata_len, in_text b len rva n k low high, c.flags) refl

no_rule : (b : List ℕ) (a len rva n entry : ℕ) → Known b len → CliFields b rva n entry → 0x2000 ≤ rva → rva + n ≤ 0x2000 + text_raw len → NoneBroken (Broken b a)
no_rule b a len rva n entry k c low high =
    let size = k.size in
    let small = k.small in
    accepted b a (omega arith) (header_rules b a len k)
    (subst (λ (h : Headers). first_of (cli_tests b a h) ≡ None) (sym k.stands_at) (cli_rules b a len rva n entry k c low high))

-- ---- code and metadata

-- the third and the fourth of six lists that are joined
third : (h c x y z w : List ℕ) → IsAt (h ++ (c ++ (x ++ (y ++ (z ++ w))))) (length h + length c) x
third h c x y z w = record { before = h ++ c; after = y ++ (z ++ w); offset = length-append h c; split = simp append_assoc }

fourth : (h c x y z w : List ℕ) → IsAt (h ++ (c ++ (x ++ (y ++ (z ++ w))))) (length h + (length c + length x)) y
fourth h c x y z w = record {
  before = h ++ (c ++ x);
  after = z ++ w;
  offset = simp length-append;
  split = simp append_assoc;
}

cli_length : (code metadata entry : ℕ) → length (concat (cli_header code metadata entry)) ≡ 72
unfolding number_bytes
cli_length code metadata entry = refl

long_six : (h c x y z w : List ℕ) → length (h ++ (c ++ (x ++ (y ++ (z ++ w))))) ≡ length h + (length c + (length x + (length y + (length z + length w))))
long_six h c x y z w = simp length-append

right_of : (h c x y z w : List ℕ) → ((((h ++ c) ++ x) ++ y) ++ z) ++ w ≡ h ++ (c ++ (x ++ (y ++ (z ++ w))))
right_of h c x y z w = simp append_assoc

-- the image as its headers and what follows
joined : List ℕ → List ℕ → ℕ → ℕ → List ℕ
joined code metadata entry len =
    headers len entry ++ (concat (cli_header (length code) (length metadata) entry) ++ (code ++ (metadata ++ (zeros (text_raw len - text_size len) ++ zeros 0x400))))

size_of_all : (code metadata : List ℕ) (entry len : ℕ) → len ≡ length code + length metadata → length (joined code metadata entry len) ≡ file_size len
unfolding joined
size_of_all code metadata entry len e =
    let l1 = long len entry in
    let l2 = cli_length (length code) (length metadata) entry in
    let l3 = length_zeros (text_raw len - text_size len) in
    let l4 = length_zeros 0x400 in
    let covers = raw_covers (text_size len) in
    long_six (headers len entry) (concat (cli_header (length code) (length metadata) entry)) code metadata (zeros (text_raw len - text_size len)) (zeros 0x400) ∙ omega arith

-- what is known of the whole image
pub record Whole (code metadata : List ℕ) (entry len : ℕ) (b : List ℕ) : Type 0 where
  pub known : Known b len
  pub cli : CliFields b (code_address + length code) (length metadata) entry
  pub code_there : (at n : ℕ) → at + n ≤ length code → part b (0x248 + at) n ≡ part code at n
  pub metadata_there : part b (0x248 + length code) (length metadata) ≡ metadata

whole : (code metadata : List ℕ) (entry len : ℕ) → len ≡ length code + length metadata → file_size len ≤ 2 ^ 27 → entry < 2 ^ 32 → Whole code metadata entry len (joined code metadata entry len)
unfolding joined
whole code metadata entry len e small fits =
    let h = headers len entry in
    let c = concat (cli_header (length code) (length metadata) entry) in
    let z = zeros (text_raw len - text_size len) in
    let w = zeros 0x400 in
    let l1 = long len entry in
    let l2 = cli_length (length code) (length metadata) entry in
    let covers = raw_covers (text_size len) in
    let t = c ++ (code ++ (metadata ++ (z ++ w))) in
    record {
      known = record {
        size = size_of_all code metadata entry len e;
        small = small;
        stands_at = stands_there len entry t;
        fields_are = fields len entry t;
        text_is = text len entry t small;
        resource_is = resource len entry t small;
        relocation_is = relocation len entry t small;
      };
      cli = cli_fields len entry (length code) (length metadata) (code ++ (metadata ++ (z ++ w))) (omega arith) (omega arith) fits;
      code_there = λ at n le. part_of (h ++ t) code 0x248 at n (at_moved (h ++ t) code (length h + length c) 0x248 (third h c code metadata z w) (omega arith)) le;
      metadata_there = part_at (h ++ t) metadata (0x248 + length code) (length metadata) (at_moved (h ++ t) metadata (length h + (length c + length code)) (0x248 + length code) (fourth h c code metadata z w) (omega arith)) refl;
    }

reads_back : (code metadata : List ℕ) (entry len : ℕ) (b : List ℕ) → len ≡ length code + length metadata → Whole code metadata entry len b → IsImageOf code metadata entry b
reads_back code metadata entry len b e w =
    let k = w.known in
    let covers = raw_covers (text_size len) in
    let rva = code_address + length code in
    let high : rva + length metadata ≤ 0x2000 + text_raw len = omega arith in
    let cli : sample_cli (length code) (length metadata) entry ≡ cli_of b =
    cli_is b stands 0x2000 0x200 (sample_cli (length code) (length metadata) entry) (sym k.stands_at) (sym k.fields_are.cli) (cli_there b len k) (same w.cli) in
    record {
      accepted = λ a. no_rule b a len rva (length metadata) entry k w.cli (omega arith) high;
      cli = sym cli;
      metadata_is = sym (metadata_is b stands (sample_cli (length code) (length metadata) entry) (text_section len) (0x248 + length code) metadata (sym k.stands_at) cli (in_text b len rva (length metadata) k (omega arith) high) (omega arith) (sym w.metadata_there));
      code_is = λ at n le. found (code_address + at) (0x248 + at) n k (in_text b len (code_address + at) n k (omega arith) (omega arith)) (omega arith) ∙ ap Some (w.code_there at n le);
    }
  where
    same : CliFields b (code_address + length code) (length metadata) entry → sample_cli (length code) (length metadata) entry ≡ cli_at b 0x2000 0x200
    same c = simp (c.metadata_rva, c.metadata_len, c.flags, c.entry_is)

    found : (rva at n : ℕ) → Known b len → section_of b stands rva n ≡ Some (text_section len) → offset_in (text_section len) rva ≡ at → at_rva b rva n ≡ Some (part b at n)
    found rva at n k f p =
        ap (λ (h : Headers). option_map (λ s. part b (offset_in s rva) n) (section_of b h rva n)) k.stands_at
        ∙ ap (option_map (λ s. part b (offset_in s rva) n)) f
        ∙ ap (λ (i : ℕ). Some (part b i n)) p

pub is_image : (code metadata : List ℕ) (entry : ℕ) → file_size (length code + length metadata) ≤ 2 ^ 27 → entry < 2 ^ 32 → IsImageOf code metadata entry (image code metadata entry)
unfolding image joined
is_image code metadata entry small fits =
    let len = length code + length metadata in
    rw (right_of (headers len entry) (concat (cli_header (length code) (length metadata) entry)) code metadata (zeros (text_raw len - text_size len)) (zeros 0x400))
    (reads_back code metadata entry len (joined code metadata entry len) refl (whole code metadata entry len refl small fits))
