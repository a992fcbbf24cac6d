-- A grown image breaks no rule on headers, and its CLI header stands where it stood.
use Rattle.std.proofs.Common.{◌≡◌, ℕ, zero, suc, ◌+◌, ◌-◌, ◌*◌, ◌^◌, ◌<◌, ◌≤◌, Bool, true, false, not, leb, eqb, ◌&&◌, List, [], ◌∷◌, length, Option, Some, None, refl, sym, ap, subst, ◌∙◌, arith}
use Rattle.std.specs.Prelude.{nat_lt, is_some, option_map, unwrap_or}
use Rattle.std.proofs.lemmas.Bool.{le-leb}
use Rattle.cil_base.specs.Refusals.{first_of}
use Rattle.cil_base.specs.Numbers.{num}
use Rattle.pe_image.specs.declared.headers.Headers.{Headers}
use Rattle.pe_image.specs.declared.section.Section.{Section}
use Rattle.pe_image.specs.declared.cli.CliHeader.{CliHeader}
use Rattle.pe_image.specs.declared.growth.SectionGrowth.{SectionGrowth}
use Rattle.pe_image.specs.Headers.{pe_of, headers_of, section_alignment, file_alignment, headers_size, cli_rva}
use Rattle.pe_image.specs.Sections.{section_at, sections_at, sections_of, section_of, offset_in, holds}
use Rattle.pe_image.specs.SectionGrowth.{addresses_end, first_address}
use Rattle.pe_image.specs.Images.{InOrder}
use Rattle.pe_image.specs.Cli.{cli_header_offset, cli_at, cli_of}
use Rattle.cil_base.specs.declared.rule.Rule.TheVariants.{P4}
use Rattle.pe_image.specs.Rules.{test, is_il_only, section_tests, is_magic, is_short, is_file_alignment, header_tests, cli_tests, directory_tests}
use Rattle.pe_image.specs.Written.{grown_image}
use Rattle.pe_image.proofs.GrownLaws.{Sizes, grown_length}
use Rattle.pe_image.proofs.SectionLaws.{floors, each_within, holds_true, find_meets}
use Rattle.pe_image.proofs.FrontLaws.{GrownIs, grown_fields}
use Rattle.pe_image.proofs.FieldLaws.{with_one, FieldsAre, fields_are, IsMoved, new_section, shifted_section, fresh_section, cli_fields}
use Rattle.pe_image.proofs.TableLaws.{TableGrown, table_head, table_end_is, FoundGrown, found_grown, tests_grown, tests_from}
use Rattle.pe_image.proofs.AcceptLaws.{Accepts, AllIn, none_both, not_denied, all_in_at, HasCli, cli_in, directory_out, all_out}

-- an image in order, and what it grows to
pub record Setting (b : List ℕ) (a : ℕ) (h : Headers) (at : ℕ) (cli : CliHeader) (section out : List ℕ) (g : SectionGrowth) : Type 0 where
  pub order : InOrder b a h
  pub sizes : Sizes b h at (length section) g
  pub out_is : out ≡ grown_image b h at cli section g
  pub short : g.raw_at + g.raw_size ≤ 2 ^ 27
  pub behind : addresses_end (sections_of b h) ≤ g.address
  pub before : g.headers_size ≤ first_address (sections_of b h)
  pub small : g.address < 2 ^ 32
  pub few : h.count < 65535
  pub at_is : at ≡ cli_header_offset b h

-- the numbers of it
pub record Numbers (b : List ℕ) (h : Headers) (at len : ℕ) (out : List ℕ) (g : SectionGrowth) : Type 0 where
  pub near : h.pe + 120 ≤ h.directories
  pub far : h.directories + 120 ≤ h.sections
  pub whole : h.sections + 40 * h.count ≤ length b
  pub behind : headers_size b h ≤ at
  pub here : at + 72 ≤ length b
  pub size : g.headers_size ≡ headers_size b h + g.by
  pub room : h.sections + 40 * h.count + 40 ≤ g.headers_size
  pub raw_at : length b + g.by ≤ g.raw_at
  pub raw_size : len ≤ g.raw_size
  pub short : g.raw_at + g.raw_size ≤ 2 ^ 27
  pub long : length out ≡ g.raw_at + g.raw_size

pub numbers : (b : List ℕ) (a : ℕ) (h : Headers) (at : ℕ) (cli : CliHeader) (section out : List ℕ) (g : SectionGrowth) → Setting b a h at cli section out g → Numbers b h at (length section) out g
numbers b a h at cli section out g s = record {
  near = s.sizes.fit.near;
  far = s.sizes.fit.far;
  whole = s.sizes.whole;
  behind = s.sizes.behind;
  here = s.sizes.here;
  size = s.sizes.size;
  room = s.sizes.room;
  raw_at = s.sizes.raw_at;
  raw_size = s.sizes.raw_size;
  short = s.short;
  long = ap length s.out_is ∙ grown_length b h at cli section g s.sizes;
}

pub pieces : (b : List ℕ) (a : ℕ) (h : Headers) (at : ℕ) (cli : CliHeader) (section out : List ℕ) (g : SectionGrowth) → Setting b a h at cli section out g → GrownIs b out h at cli (length section) g
pieces b a h at cli section out g s =
    subst (λ (x : List ℕ). GrownIs b x h at cli (length section) g) (sym s.out_is) (grown_fields b h at cli section g s.sizes)

pub old_fields : (b : List ℕ) (a : ℕ) (h : Headers) (at : ℕ) (cli : CliHeader) (section out : List ℕ) (g : SectionGrowth) → Setting b a h at cli section out g → AllIn b a h
old_fields b a h at cli section out g s =
    let n = numbers b a h at cli section out g s in
    all_in_at b a h s.order.headers (let x = n.near in let y = n.far in let z = n.whole in omega arith) s.order.tests

pub fields : (b : List ℕ) (a : ℕ) (h : Headers) (at : ℕ) (cli : CliHeader) (section out : List ℕ) (g : SectionGrowth) → Setting b a h at cli section out g → FieldsAre b out h g
fields b a h at cli section out g s =
    let n = numbers b a h at cli section out g s in
    let small : g.headers_size < 2 ^ 32 = omega arith in
    fields_are b out h g s.order.headers s.order.fit (omega arith) (old_fields b a h at cli section out g s).fields.low s.few small (pieces b a h at cli section out g s).front

pub table : (b : List ℕ) (a : ℕ) (h : Headers) (at : ℕ) (cli : CliHeader) (section out : List ℕ) (g : SectionGrowth) → Setting b a h at cli section out g → TableGrown b out g.by h.sections h.count (new_section (length section) g)
table b a h at cli section out g s =
    let n = numbers b a h at cli section out g s in
    let p = (pieces b a h at cli section out g s).table in
    let size = headers_size b h in
    record {
      each = λ i lt.
          shifted_section b out g.by (h.sections + 40 * i) (omega arith)
          (λ some. (let w = each_within b a size size h.sections h.count i (h.sections + 40 * i) s.order.sections lt refl some in omega arith))
          (p.shifted i lt);
      last = fresh_section out (length section) (h.sections + 40 * h.count) g (omega arith) s.small (omega arith) (omega arith) p.fresh;
    }

-- ---- the headers

accepts : (b : List ℕ) (a : ℕ) (h : Headers) (at : ℕ) (cli : CliHeader) (section out : List ℕ) (g : SectionGrowth) → Setting b a h at cli section out g → Accepts out (with_one h)
accepts b a h at cli section out g s =
    let n = numbers b a h at cli section out g s in
    let f = fields b a h at cli section out g s in
    let x = (old_fields b a h at cli section out g s).fields in
    let reach2 : leb 2 (length out) ≡ true = le-leb 2 (length out) (let y = n.near in let z = n.far in omega arith) in
    let reach4 : leb (h.pe + 4) (length out) ≡ true = le-leb (h.pe + 4) (length out) (omega arith) in
    record {
      mz = rw reach2 (ap (λ (k : ℕ). eqb k 0x5A4D) f.mz ∙ second (leb 2 (length b)) (eqb (num b 0 2) 0x5A4D) x.mz);
      low = x.low;
      signature = rw reach4 (ap (λ (k : ℕ). eqb k 0x4550) f.signature ∙ second (leb (h.pe + 4) (length b)) (eqb (num b h.pe 4) 0x4550) x.signature);
      long = ap (λ (k : ℕ). is_short k (num out (h.pe + 20) 2)) f.magic ∙ ap (is_short (num b (h.pe + 24) 2)) f.optional ∙ x.long;
      magic = ap is_magic f.magic ∙ x.magic;
      order = ap (λ (k : ℕ). nat_lt k (file_alignment out h)) f.section_alignment ∙ ap (nat_lt (section_alignment b h)) f.file_alignment ∙ x.order;
      file = ap is_file_alignment f.file_alignment ∙ x.file;
    }
  where
    second : (p q : Bool) → (p && q) ≡ true → q ≡ true
    second true q e = e
    second false q e = absurd cc

pub old_cli : (b : List ℕ) (a : ℕ) (h : Headers) (at : ℕ) (cli : CliHeader) (section out : List ℕ) (g : SectionGrowth) → Setting b a h at cli section out g → HasCli b h
old_cli b a h at cli section out g s =
    let n = numbers b a h at cli section out g s in
    cli_in b a h (omega arith) s.sizes.whole (old_fields b a h at cli section out g s).rest

-- the same section, moved
pub new_cli : (b : List ℕ) (a : ℕ) (h : Headers) (at : ℕ) (cli : CliHeader) (section out : List ℕ) (g : SectionGrowth) → (s : Setting b a h at cli section out g) → FoundGrown (cli_rva b h) 72 out h.sections h.count (old_cli b a h at cli section out g s).section g.by
new_cli b a h at cli section out g s =
    let c = old_cli b a h at cli section out g s in
    found_grown (cli_rva b h) 72 b out g.by h.sections h.count (new_section (length section) g) c.section (table b a h at cli section out g s) c.found

-- ---- the rules on headers

first_end : (xs : List Section) → first_address xs ≤ addresses_end xs
first_end [] = omega arith
first_end (s ∷ xs) = omega arith

first_low : (b out : List ℕ) (by at n f : ℕ) (new : Section) → TableGrown b out by at n new → f ≤ first_address (sections_at b at n) → f ≤ new.address → f ≤ (section_at out at).address
first_low b out by at zero f new t low last =
    let same : (section_at out at).address ≡ new.address = ap (λ (x : Section). x.address) (table_end_is b out by at new t) in
    omega (arith, same, last)
first_low b out by at (suc n) f new t low last =
    let same : (section_at out at).address ≡ (section_at b at).address = ap (λ (x : Section). x.address) (table_head b out by at n new t).rest in
    omega (arith, same, low)

sections_pass : (b : List ℕ) (a : ℕ) (h : Headers) (at : ℕ) (cli : CliHeader) (section out : List ℕ) (g : SectionGrowth) (a2 : ℕ) → Setting b a h at cli section out g → first_of (section_tests out a2 (headers_size out h) (headers_size out h) h.sections (suc h.count)) ≡ None
sections_pass b a h at cli section out g a2 s =
    let n = numbers b a h at cli section out g s in
    let f = fields b a h at cli section out g s in
    let t = table b a h at cli section out g s in
    let new = new_section (length section) g in
    let size = headers_size b h in
    let ends = s.behind in
    let before = s.before in
    let first = first_end (sections_of b h) in
    let big : headers_size out h ≡ size + g.by = f.size ∙ n.size in
    let new_low : size + g.by ≤ g.address = omega arith in
    let old_low : size + g.by ≤ first_address (sections_at b h.sections h.count) = omega arith in
    let all = tests_grown b out a a2 g.by h.sections h.count size size new t s.order.sections (omega arith) (omega arith) (omega arith) ends (omega arith) n.raw_at (omega arith) in
    floors out a2 (headers_size out h) (size + g.by) (headers_size out h) (size + g.by) h.sections (suc h.count) big big
    ∙ tests_from out a2 size (size + g.by) (size + g.by) h.sections h.count (omega arith) all (first_low b out g.by h.sections h.count (size + g.by) new t old_low new_low)

cli_found : (b : List ℕ) (a : ℕ) (h : Headers) (at : ℕ) (cli : CliHeader) (section out : List ℕ) (g : SectionGrowth) → (s : Setting b a h at cli section out g) → section_of out (with_one h) (cli_rva out h) 72 ≡ Some (new_cli b a h at cli section out g s).section
cli_found b a h at cli section out g s =
    ap (λ (r : ℕ). section_of out (with_one h) r 72) (fields b a h at cli section out g s).cli_rva
    ∙ (new_cli b a h at cli section out g s).found

pub headers_pass : (b : List ℕ) (a : ℕ) (h : Headers) (at : ℕ) (cli : CliHeader) (section out : List ℕ) (g : SectionGrowth) (a2 : ℕ) → Setting b a h at cli section out g → first_of (header_tests out a2) ≡ None
headers_pass b a h at cli section out g a2 s =
    let n = numbers b a h at cli section out g s in
    let f = fields b a h at cli section out g s in
    let pe_is : pe_of out ≡ h.pe = ap (λ (k : Headers). k.pe) f.headers in
    let t = (new_cli b a h at cli section out g s).section in
    let rest : first_of (directory_tests out a2 (with_one h)) ≡ None = directory_out out a2 (with_one h) t (omega arith) (cli_found b a h at cli section out g s) (sections_pass b a h at cli section out g a2 s) in
    all_out out a2 (omega arith) (subst (λ (k : Headers). Accepts out k) (sym f.headers) (accepts b a h at cli section out g s)) (ap (λ (k : Headers). first_of (directory_tests out a2 k)) f.headers ∙ rest)

-- ---- the CLI header

-- where it stands, in its section
pub old_offset : (b : List ℕ) (a : ℕ) (h : Headers) (at : ℕ) (cli : CliHeader) (section out : List ℕ) (g : SectionGrowth) → (s : Setting b a h at cli section out g) → at ≡ offset_in (old_cli b a h at cli section out g s).section (cli_rva b h)
old_offset b a h at cli section out g s =
    s.at_is ∙ ap (λ (o : Option Section). unwrap_or (option_map (λ (x : Section). offset_in x (cli_rva b h)) o) 0) (old_cli b a h at cli section out g s).found

pub cli_in_section : (b : List ℕ) (a : ℕ) (h : Headers) (at : ℕ) (cli : CliHeader) (section out : List ℕ) (g : SectionGrowth) → (s : Setting b a h at cli section out g) → ((old_cli b a h at cli section out g s).section.address ≤ cli_rva b h) × (cli_rva b h + 72 ≤ (old_cli b a h at cli section out g s).section.address + (old_cli b a h at cli section out g s).section.raw_size)
cli_in_section b a h at cli section out g s =
    let c = old_cli b a h at cli section out g s in
    holds_true (cli_rva b h) 72 c.section (find_meets (holds (cli_rva b h) 72) (sections_of b h) c.section c.found)

pub offset_grown : (s t : Section) (by rva : ℕ) → IsMoved s t by → 0 < s.raw_size → offset_in t rva ≡ offset_in s rva + by
offset_grown s t by rva m some =
    let address : t.address ≡ s.address = ap (λ (x : Section). x.address) m.rest in
    let raw = m.offset some in
    ap (λ (k : ℕ). t.raw_at + (rva - k)) address ∙ omega arith

new_offset_is : (b : List ℕ) (a : ℕ) (h : Headers) (at : ℕ) (cli : CliHeader) (section out : List ℕ) (g : SectionGrowth) → Setting b a h at cli section out g → cli_header_offset out (headers_of out) ≡ at + g.by
new_offset_is b a h at cli section out g s =
    let f = fields b a h at cli section out g s in
    let c = old_cli b a h at cli section out g s in
    let t = new_cli b a h at cli section out g s in
    let within = cli_in_section b a h at cli section out g s in
    let place = old_offset b a h at cli section out g s in
    let some : 0 < c.section.raw_size = omega (arith, within.0, within.1) in
    ap (cli_header_offset out) f.headers
    ∙ ap (λ (r : ℕ). unwrap_or (option_map (λ (x : Section). offset_in x r) (section_of out (with_one h) r 72)) 0) f.cli_rva
    ∙ ap (λ (o : Option Section). unwrap_or (option_map (λ (x : Section). offset_in x (cli_rva b h)) o) 0) t.found
    ∙ offset_grown c.section t.section g.by (cli_rva b h) t.moved some
    ∙ ap (λ (k : ℕ). k + g.by) (sym place)

-- what the new CLI header keeps, and that its numbers have four bytes
pub record Kept (b : List ℕ) (h : Headers) (at : ℕ) (cli : CliHeader) : Type 0 where
  pub self : cli.header_rva ≡ cli_rva b h
  pub entry : cli.entry ≡ num b (at + 20) 4
  pub rva : cli.metadata_rva < 2 ^ 32
  pub len : cli.metadata_len < 2 ^ 32
  pub flags : cli.flags < 2 ^ 32

cli_there : (b : List ℕ) (a : ℕ) (h : Headers) (at : ℕ) (cli : CliHeader) (section out : List ℕ) (g : SectionGrowth) → Setting b a h at cli section out g → Kept b h at cli → cli_at out (cli_rva out (headers_of out)) (cli_header_offset out (headers_of out)) ≡ cli
cli_there b a h at cli section out g s k =
    let f = fields b a h at cli section out g s in
    ap (cli_at out (cli_rva out (headers_of out))) (new_offset_is b a h at cli section out g s)
    ∙ ap (λ (x : Headers). cli_at out (cli_rva out x) (at + g.by)) f.headers
    ∙ ap (λ (r : ℕ). cli_at out r (at + g.by)) f.cli_rva
    ∙ cli_fields b out g.by at (cli_rva b h) cli k.self k.entry k.rva k.len k.flags (let here = s.sizes.here in omega arith) (pieces b a h at cli section out g s).header

pub cli_is_grown : (b : List ℕ) (a : ℕ) (h : Headers) (at : ℕ) (cli : CliHeader) (section out : List ℕ) (g : SectionGrowth) → Setting b a h at cli section out g → Kept b h at cli → cli_of out ≡ cli
unfolding cli_of
cli_is_grown b a h at cli section out g s k = cli_there b a h at cli section out g s k

-- the tests on it, where a section has the metadata
pub cli_passes : (b : List ℕ) (a : ℕ) (h : Headers) (at : ℕ) (cli : CliHeader) (section out : List ℕ) (g : SectionGrowth) (a2 : ℕ) → Setting b a h at cli section out g → Kept b h at cli → is_some (section_of out (headers_of out) cli.metadata_rva cli.metadata_len) ≡ true → is_il_only cli.flags ≡ true → first_of (cli_tests out a2 (headers_of out)) ≡ None
cli_passes b a h at cli section out g a2 s k found only =
    let there = cli_there b a h at cli section out g s k in
    let p = cli_header_offset out (headers_of out) in
    let rva : num out (p + 8) 4 ≡ cli.metadata_rva = ap (λ (c : CliHeader). c.metadata_rva) there in
    let len : num out (p + 12) 4 ≡ cli.metadata_len = ap (λ (c : CliHeader). c.metadata_len) there in
    let flags : num out (p + 16) 4 ≡ cli.flags = ap (λ (c : CliHeader). c.flags) there in
    let t1 = test P4 a2 (p + 8) (not (is_some (section_of out (headers_of out) (num out (p + 8) 4) (num out (p + 12) 4)))) in
    let t2 = test P4 a2 (p + 16) (not (is_il_only (num out (p + 16) 4))) in
    none_both t1 (t2 ∷ []) (ap (λ (x : ℕ). not (is_some (section_of out (headers_of out) x (num out (p + 12) 4)))) rva ∙ ap (λ (x : ℕ). not (is_some (section_of out (headers_of out) cli.metadata_rva x))) len ∙ not_denied (is_some (section_of out (headers_of out) cli.metadata_rva cli.metadata_len)) found)
    (none_both t2 [] (ap (λ (x : ℕ). not (is_il_only x)) flags ∙ not_denied (is_il_only cli.flags) only) refl)
