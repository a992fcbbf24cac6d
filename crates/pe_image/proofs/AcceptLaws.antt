-- Which header fields an image has that breaks no rule, and that no rule is broken where it has them.
use Rattle.std.proofs.Common.{◌≡◌, ℕ, ◌+◌, ◌≤◌, Bool, true, false, cond, not, leb, eqb, ◌||◌, ◌&&◌, List, [], ◌∷◌, ◌++◌, length, Option, Some, None, refl, sym, ap, subst, ◌∙◌, arith}
use Rattle.std.specs.Prelude.{nat_lt, nat_le, is_some}
use Rattle.std.proofs.lemmas.Bool.{le-leb, ltb-false, le-ltb, and_right}
use Rattle.cil_base.specs.declared.rule.Rule.TheVariants.{P1, P2, P3, P4}
use Rattle.cil_base.specs.Refusals.{Test, first_of}
use Rattle.cil_base.specs.Numbers.{num}
use Rattle.pe_image.specs.declared.headers.Headers.{Headers}
use Rattle.pe_image.specs.declared.section.Section.{Section}
use Rattle.pe_image.specs.Headers.{pe_of, headers_at, headers_of, section_alignment, file_alignment, headers_size, cli_rva, table_end}
use Rattle.pe_image.specs.Sections.{section_of}
use Rattle.pe_image.specs.Rules.{test, field, cut, cuts, section_tests, size_fields, directory_fields, is_whole, has_no_cli, directory_tests, is_file_alignment, optional_tests, is_magic, is_short, coff_tests, has_pe, pe_tests, has_mz, header_tests}
use Rattle.cil_base.proofs.Small.{not_false}
use Rattle.pe_image.proofs.SectionLaws.{none_of}

-- ---- lists of tests

taken : (p : Bool) (xs ys : List Test) → p ≡ true → first_of (cond p xs ys) ≡ None → first_of xs ≡ None
taken p xs ys e h = rw e at h

take_it : (p : Bool) (xs ys : List Test) → p ≡ true → first_of xs ≡ None → first_of (cond p xs ys) ≡ None
take_it p xs ys e h = rw e h

pub none_both : (t : Test) (ts : List Test) → t.fails ≡ false → first_of ts ≡ None → first_of (t ∷ ts) ≡ None
none_both t ts e h = rw e h

-- a test that isn't negated holds
pub not_denied : (p : Bool) → p ≡ true → not p ≡ false
not_denied p e = ap not e

both : (p q : Bool) → p ≡ true → q ≡ false → (p && not q) ≡ true
both p q e f = rw (e, f) refl

-- ---- the fields

pub record Accepts (b : List ℕ) (h : Headers) : Type 0 where
  pub mz : has_mz b ≡ true
  pub low : 64 ≤ h.pe
  pub signature : has_pe b h.pe ≡ true
  pub long : is_short (num b (h.pe + 24) 2) (num b (h.pe + 20) 2) ≡ false
  pub magic : is_magic (num b (h.pe + 24) 2) ≡ true
  pub order : nat_lt (section_alignment b h) (file_alignment b h) ≡ false
  pub file : is_file_alignment (file_alignment b h) ≡ true

-- ---- what no broken rule tells

pe_in : (b : List ℕ) (a pe : ℕ) → first_of (pe_tests b a pe) ≡ None → (has_pe b pe ≡ true) × (first_of (coff_tests b a pe) ≡ None)
pe_in b a pe e =
    let n = none_of (test P1 a pe (not (has_pe b pe))) (cond (has_pe b pe) (coff_tests b a pe) []) e in
    let t = not_false (has_pe b pe) n.0 in
    (t, taken (has_pe b pe) (coff_tests b a pe) [] t n.1)

coff_in : (b : List ℕ) (a pe : ℕ) → pe + 26 ≤ length b → first_of (coff_tests b a pe) ≡ None → (is_short (num b (pe + 24) 2) (num b (pe + 20) 2) ≡ false) × (is_magic (num b (pe + 24) 2) ≡ true) × (first_of (optional_tests b a (headers_at b pe)) ≡ None)
coff_in b a pe le e =
    let magic = num b (pe + 24) 2 in
    let short = is_short magic (num b (pe + 20) 2) in
    let rest = cond (is_magic magic && not short) (optional_tests b a (headers_at b pe)) [] in
    let n = taken (leb (pe + 26) (length b)) (test P2 a (pe + 20) short ∷ test P2 a (pe + 24) (not (is_magic magic)) ∷ rest) (cuts b a pe (field 6 2 ∷ field 20 2 ∷ field 24 2 ∷ [])) (le-leb (pe + 26) (length b) le) e in
    let n1 = none_of (test P2 a (pe + 20) short) (test P2 a (pe + 24) (not (is_magic magic)) ∷ rest) n in
    let n2 = none_of (test P2 a (pe + 24) (not (is_magic magic))) rest n1.1 in
    let m = not_false (is_magic magic) n2.0 in
    (n1.0, m, taken (is_magic magic && not short) (optional_tests b a (headers_at b pe)) [] (both (is_magic magic) short m n1.0) n2.1)

optional_in : (b : List ℕ) (a : ℕ) (h : Headers) → h.pe + 64 ≤ length b → first_of (optional_tests b a h) ≡ None → (nat_lt (section_alignment b h) (file_alignment b h) ≡ false) × (is_file_alignment (file_alignment b h) ≡ true) × (first_of (directory_tests b a h) ≡ None)
optional_in b a h le e =
    let t1 = test P3 a (h.pe + 56) (nat_lt (section_alignment b h) (file_alignment b h)) in
    let t2 = test P3 a (h.pe + 60) (not (is_file_alignment (file_alignment b h))) in
    let n = taken (leb (h.pe + 64) (length b)) (t1 ∷ t2 ∷ directory_tests b a h) (cuts b a h.pe (field 56 4 ∷ field 60 4 ∷ [])) (le-leb (h.pe + 64) (length b) le) e in
    let n1 = none_of t1 (t2 ∷ directory_tests b a h) n in
    let n2 = none_of t2 (directory_tests b a h) n1.1 in
    (n1.0, not_false (is_file_alignment (file_alignment b h)) n2.0, n2.1)

pub record AllIn (b : List ℕ) (a : ℕ) (h : Headers) : Type 0 where
  pub fields : Accepts b h
  pub rest : first_of (directory_tests b a h) ≡ None

all_in : (b : List ℕ) (a : ℕ) → (headers_of b).pe + 240 ≤ length b → first_of (header_tests b a) ≡ None → AllIn b a (headers_of b)
all_in b a le e =
    let pe = pe_of b in
    let deep = cond (nat_le 64 pe) (pe_tests b a pe) [] in
    let n0 = none_of (test P1 a 0 (not (has_mz b))) (cond (leb 64 (length b)) (test P1 a 60 (nat_lt pe 64) ∷ deep) (cut b a 60 4 ∷ [])) e in
    let n1 = taken (leb 64 (length b)) (test P1 a 60 (nat_lt pe 64) ∷ deep) (cut b a 60 4 ∷ []) (le-leb 64 (length b) (omega arith)) n0.1 in
    let n2 = none_of (test P1 a 60 (nat_lt pe 64)) deep n1 in
    let low : 64 ≤ pe = ltb-false pe 64 n2.0 in
    let n3 = pe_in b a pe (taken (nat_le 64 pe) (pe_tests b a pe) [] (le-leb 64 pe low) n2.1) in
    let n4 = coff_in b a pe (omega arith) n3.1 in
    let n5 = optional_in b a (headers_of b) (omega arith) n4.2 in
    record {
      fields = record { mz = not_false (has_mz b) n0.0; low = low; signature = n3.0; long = n4.0; magic = n4.1; order = n5.0; file = n5.1 };
      rest = n5.2;
    }

pub all_in_at : (b : List ℕ) (a : ℕ) (h : Headers) → h ≡ headers_of b → h.pe + 240 ≤ length b → first_of (header_tests b a) ≡ None → AllIn b a h
all_in_at b a h e le none =
    subst (λ (k : Headers). AllIn b a k) (sym e) (all_in b a (subst (λ (k : Headers). k.pe + 240 ≤ length b) e le) none)

-- the section with the CLI header
pub record HasCli (b : List ℕ) (h : Headers) : Type 0 where
  pub section : Section
  pub found : section_of b h (cli_rva b h) 72 ≡ Some section

pub cli_in : (b : List ℕ) (a : ℕ) (h : Headers) → h.directories + 120 ≤ length b → table_end h ≤ length b → first_of (directory_tests b a h) ≡ None → HasCli b h
cli_in b a h le whole e =
    let n = taken (leb (h.directories + 120) (length b)) (test P4 a (h.directories + 112) (has_no_cli b h) ∷ section_tests b a (headers_size b h) (headers_size b h) h.sections h.count) (cuts_of) (le-leb (h.directories + 120) (length b) le) e in
    let t = none_of (test P4 a (h.directories + 112) (has_no_cli b h)) (section_tests b a (headers_size b h) (headers_size b h) h.sections h.count) n in
    go (section_of b h (cli_rva b h) 72) (eqb h.count 0) (leb (table_end h) (length b)) refl t.0 (le-leb (table_end h) (length b) whole)
  where
    cuts_of : List Test
    cuts_of = cuts b a h.pe size_fields ++ cuts b a h.directories directory_fields

    go : (o : Option Section) (p q : Bool) → section_of b h (cli_rva b h) 72 ≡ o → ((p || q) && not (is_some o)) ≡ false → q ≡ true → HasCli b h
    go (Some s) p q f g k = record { section = s; found = f }
    go None true q f g k = absurd cc
    go None false true f g k = absurd cc
    go None false false f g k = absurd cc

-- ---- what the fields tell

pub directory_out : (b : List ℕ) (a : ℕ) (h : Headers) (s : Section) → h.directories + 120 ≤ length b → section_of b h (cli_rva b h) 72 ≡ Some s → first_of (section_tests b a (headers_size b h) (headers_size b h) h.sections h.count) ≡ None → first_of (directory_tests b a h) ≡ None
directory_out b a h s le found rest =
    take_it (leb (h.directories + 120) (length b)) (test P4 a (h.directories + 112) (has_no_cli b h) ∷ section_tests b a (headers_size b h) (headers_size b h) h.sections h.count) (cuts b a h.pe size_fields ++ cuts b a h.directories directory_fields) (le-leb (h.directories + 120) (length b) le)
    (none_both (test P4 a (h.directories + 112) (has_no_cli b h)) (section_tests b a (headers_size b h) (headers_size b h) h.sections h.count) (ap (λ (o : Option Section). is_whole b h && not (is_some o)) found ∙ and_right (is_whole b h) false refl) rest)

optional_out : (b : List ℕ) (a : ℕ) (h : Headers) → h.pe + 64 ≤ length b → Accepts b h → first_of (directory_tests b a h) ≡ None → first_of (optional_tests b a h) ≡ None
optional_out b a h le x rest =
    let t1 = test P3 a (h.pe + 56) (nat_lt (section_alignment b h) (file_alignment b h)) in
    let t2 = test P3 a (h.pe + 60) (not (is_file_alignment (file_alignment b h))) in
    take_it (leb (h.pe + 64) (length b)) (t1 ∷ t2 ∷ directory_tests b a h) (cuts b a h.pe (field 56 4 ∷ field 60 4 ∷ [])) (le-leb (h.pe + 64) (length b) le)
    (none_both t1 (t2 ∷ directory_tests b a h) x.order (none_both t2 (directory_tests b a h) (not_denied (is_file_alignment (file_alignment b h)) x.file) rest))

coff_out : (b : List ℕ) (a : ℕ) → pe_of b + 64 ≤ length b → Accepts b (headers_of b) → first_of (directory_tests b a (headers_of b)) ≡ None → first_of (coff_tests b a (pe_of b)) ≡ None
coff_out b a le x rest =
    let pe = pe_of b in
    let magic = num b (pe + 24) 2 in
    let short = is_short magic (num b (pe + 20) 2) in
    let deep = cond (is_magic magic && not short) (optional_tests b a (headers_at b pe)) [] in
    take_it (leb (pe + 26) (length b)) (test P2 a (pe + 20) short ∷ test P2 a (pe + 24) (not (is_magic magic)) ∷ deep) (cuts b a pe (field 6 2 ∷ field 20 2 ∷ field 24 2 ∷ [])) (le-leb (pe + 26) (length b) (omega arith))
    (none_both (test P2 a (pe + 20) short) (test P2 a (pe + 24) (not (is_magic magic)) ∷ deep) x.long
    (none_both (test P2 a (pe + 24) (not (is_magic magic))) deep (not_denied (is_magic magic) x.magic)
    (take_it (is_magic magic && not short) (optional_tests b a (headers_at b pe)) [] (both (is_magic magic) short x.magic x.long) (optional_out b a (headers_of b) le x rest))))

pub all_out : (b : List ℕ) (a : ℕ) → pe_of b + 64 ≤ length b → Accepts b (headers_of b) → first_of (directory_tests b a (headers_of b)) ≡ None → first_of (header_tests b a) ≡ None
all_out b a le x rest =
    let pe = pe_of b in
    let low : 64 ≤ pe = x.low in
    let deep = cond (nat_le 64 pe) (pe_tests b a pe) [] in
    none_both (test P1 a 0 (not (has_mz b))) (cond (leb 64 (length b)) (test P1 a 60 (nat_lt pe 64) ∷ deep) (cut b a 60 4 ∷ [])) (not_denied (has_mz b) x.mz)
    (take_it (leb 64 (length b)) (test P1 a 60 (nat_lt pe 64) ∷ deep) (cut b a 60 4 ∷ []) (le-leb 64 (length b) (omega arith))
    (none_both (test P1 a 60 (nat_lt pe 64)) deep (le-ltb pe 64 low)
    (take_it (nat_le 64 pe) (pe_tests b a pe) [] (le-leb 64 pe low)
    (none_both (test P1 a pe (not (has_pe b pe))) (cond (has_pe b pe) (coff_tests b a pe) []) (not_denied (has_pe b pe) x.signature)
    (take_it (has_pe b pe) (coff_tests b a pe) [] x.signature (coff_out b a le x rest))))))
