-- The parts of a grown image: how long they are, and where each of them stands.
use Rattle.std.proofs.Common.{◌≡◌, ℕ, zero, suc, ◌+◌, ◌-◌, ◌*◌, ◌<◌, ◌≤◌, max, Bool, true, false, leb, List, [], ◌∷◌, ◌++◌, length, take, drop, refl, sym, ap, ◌∙◌, inl, inr, ◌⊎◌, arith, append_assoc, append-nil}
use Rattle.std.specs.List.{concat}
use Rattle.std.proofs.lemmas.Bool.{leb-true, leb-false}
use Rattle.std.proofs.lemmas.List.{length-append}
use Rattle.cil_base.specs.Bytes.{number_bytes, zeros, part, between, IsAt}
use Rattle.cil_base.proofs.PieceLaws.{length_number, length_zeros, length_between, at_first, at_in, at_moved}
use Rattle.pe_image.specs.declared.headers.Headers.{Headers}
use Rattle.pe_image.specs.declared.cli.CliHeader.{CliHeader}
use Rattle.pe_image.specs.declared.growth.SectionGrowth.{SectionGrowth}
use Rattle.pe_image.specs.Headers.{Fit, headers_size, table_end}
use Rattle.pe_image.specs.Sections.{section_at}
use Rattle.pe_image.specs.Written.{front, moved_offset, moved_header, moved_headers, new_header, grown_front, kept_pieces, grown_rest, grown_image}
use Rattle.pe_image.proofs.PieceLaws.{piece, copied}

-- ---- how long the parts are

pub front_length : (bytes : List ℕ) (h : Headers) (g : SectionGrowth) → Fit h → table_end h ≤ length bytes → length (concat (front bytes h g)) ≡ h.sections
front_length bytes h g fit whole =
    let near = fit.near in
    let far = fit.far in
    let d = h.directories in
    let l1 : length (between bytes 0 (h.pe + 6)) ≡ h.pe + 6 = length_between bytes 0 (h.pe + 6) (omega arith) (omega arith) ∙ omega arith in
    let l2 : length (number_bytes 2 (h.count + 1)) ≡ 2 = length_number 2 (h.count + 1) in
    let l3 : length (between bytes (h.pe + 8) (h.pe + 12)) ≡ 4 = length_between bytes (h.pe + 8) (h.pe + 12) (omega arith) (omega arith) ∙ omega arith in
    let l5 : length (between bytes (h.pe + 20) (h.pe + 80)) ≡ 60 = length_between bytes (h.pe + 20) (h.pe + 80) (omega arith) (omega arith) ∙ omega arith in
    let l6 : length (number_bytes 4 g.image_size) ≡ 4 = length_number 4 g.image_size in
    let l7 : length (number_bytes 4 g.headers_size) ≡ 4 = length_number 4 g.headers_size in
    let l9 : length (between bytes (h.pe + 92) (d + 32)) ≡ d + 32 - (h.pe + 92) = length_between bytes (h.pe + 92) (d + 32) (omega arith) (omega arith) in
    let l11 : length (between bytes (d + 40) (d + 48)) ≡ 8 = length_between bytes (d + 40) (d + 48) (omega arith) (omega arith) ∙ omega arith in
    let l13 : length (between bytes (d + 56) h.sections) ≡ h.sections - (d + 56) = length_between bytes (d + 56) h.sections (omega arith) (omega arith) in
    simp (length-append, l1, l2, l3, l5, l6, l7, l9, l11, l13) (omega arith)

pub moved_one : (bytes : List ℕ) (by at : ℕ) → at + 40 ≤ length bytes → length (concat (moved_header bytes by at)) ≡ 40
moved_one bytes by at le =
    let l1 : length (between bytes at (at + 20)) ≡ 20 = length_between bytes at (at + 20) (omega arith) (omega arith) ∙ omega arith in
    let l2 : length (number_bytes 4 (moved_offset (section_at bytes at) by)) ≡ 4 = length_number 4 (moved_offset (section_at bytes at) by) in
    let l3 : length (between bytes (at + 24) (at + 40)) ≡ 16 = length_between bytes (at + 24) (at + 40) (omega arith) (omega arith) ∙ omega arith in
    simp (length-append, l1, l2, l3) (omega arith)

pub moved_length : (bytes : List ℕ) (by at n : ℕ) → at + 40 * n ≤ length bytes → length (moved_headers bytes by at n) ≡ 40 * n
moved_length bytes by at zero le = refl
moved_length bytes by at (suc n) le =
    let one = moved_one bytes by at (omega arith) in
    let rest = moved_length bytes by (at + 40) n (omega arith) in
    length-append (concat (moved_header bytes by at)) (moved_headers bytes by (at + 40) n) ∙ omega arith

pub header_length : (len : ℕ) (g : SectionGrowth) → length (concat (new_header len g)) ≡ 40
header_length len g =
    let l2 : length (number_bytes 4 len) ≡ 4 = length_number 4 len in
    let l3 : length (number_bytes 4 g.address) ≡ 4 = length_number 4 g.address in
    let l4 : length (number_bytes 4 g.raw_size) ≡ 4 = length_number 4 g.raw_size in
    let l5 : length (number_bytes 4 g.raw_at) ≡ 4 = length_number 4 g.raw_at in
    let l7 : length (number_bytes 4 0x60000020) ≡ 4 = length_number 4 0x60000020 in
    simp (length-append, l2, l3, l4, l5, l7) (omega arith)

-- what the sizes are to each other
pub record Sizes (bytes : List ℕ) (h : Headers) (cli_at : ℕ) (len : ℕ) (g : SectionGrowth) : Type 0 where
  pub fit : Fit h
  pub whole : table_end h ≤ length bytes
  pub behind : headers_size bytes h ≤ cli_at
  pub here : cli_at + 72 ≤ length bytes
  pub size : g.headers_size ≡ headers_size bytes h + g.by
  pub room : table_end h + 40 ≤ g.headers_size
  pub raw_at : length bytes + g.by ≤ g.raw_at
  pub raw_size : len ≤ g.raw_size

by_test : (b : Bool) (m n : ℕ) → leb m n ≡ b → (m ≤ n) ⊎ (n < m)
by_test true m n e = inl (leb-true m n e)
by_test false m n e = inr (leb-false m n e)

gap_length : (bytes : List ℕ) (end size : ℕ) → size ≤ length bytes → length (between bytes end size) ≡ size - end
gap_length bytes end size within = elim (by_test (leb end size) end size refl) [
  | inl le ↦ length_between bytes end size le within
  | inr gt ↦ (let none : size - end ≡ 0 = omega arith in ap (λ (n : ℕ). length (take n (drop end bytes))) none ∙ sym none)
]

pub front_grown : (bytes : List ℕ) (h : Headers) (cli_at len : ℕ) (g : SectionGrowth) → Sizes bytes h cli_at len g → length (grown_front bytes h g len) ≡ g.headers_size
front_grown bytes h cli_at len g s =
    let size = headers_size bytes h in
    let end = table_end h + 40 in
    let whole = s.whole in
    let behind = s.behind in
    let here = s.here in
    let room = s.room in
    let grows = s.size in
    let l1 : length (concat (front bytes h g)) ≡ h.sections = front_length bytes h g s.fit s.whole in
    let l2 : length (moved_headers bytes g.by h.sections h.count) ≡ 40 * h.count = moved_length bytes g.by h.sections h.count s.whole in
    let l3 : length (concat (new_header len g)) ≡ 40 = header_length len g in
    let l4 : length (between bytes end size) ≡ size - end = gap_length bytes end size (omega arith) in
    let l5 : length (zeros (g.headers_size - max end size)) ≡ g.headers_size - max end size = length_zeros (g.headers_size - max end size) in
    sum (concat (front bytes h g)) (moved_headers bytes g.by h.sections h.count) (concat (new_header len g)) (between bytes end size) (zeros (g.headers_size - max end size))
    ∙ omega arith
  where
    sum : (a b c d e : List ℕ) → length (a ++ b ++ c ++ d ++ e) ≡ length a + length b + length c + length d + length e
    sum a b c d e = simp length-append

pub kept_length : (bytes : List ℕ) (size cli_at : ℕ) (cli : CliHeader) → size ≤ cli_at → cli_at + 72 ≤ length bytes → length (concat (kept_pieces bytes size cli_at cli)) ≡ length bytes - size
kept_length bytes size cli_at cli behind here =
    let l1 : length (between bytes size (cli_at + 8)) ≡ cli_at + 8 - size = length_between bytes size (cli_at + 8) (omega arith) (omega arith) in
    let l2 : length (number_bytes 4 cli.metadata_rva) ≡ 4 = length_number 4 cli.metadata_rva in
    let l3 : length (number_bytes 4 cli.metadata_len) ≡ 4 = length_number 4 cli.metadata_len in
    let l4 : length (number_bytes 4 cli.flags) ≡ 4 = length_number 4 cli.flags in
    let l5 : length (between bytes (cli_at + 20) (cli_at + 32)) ≡ 12 = length_between bytes (cli_at + 20) (cli_at + 32) (omega arith) (omega arith) ∙ omega arith in
    let l7 : length (between bytes (cli_at + 40) (length bytes)) ≡ length bytes - (cli_at + 40) = length_between bytes (cli_at + 40) (length bytes) (omega arith) (omega arith) in
    simp (length-append, l1, l2, l3, l4, l5, l7) (omega arith)

pub grown_length : (bytes : List ℕ) (h : Headers) (cli_at : ℕ) (cli : CliHeader) (section : List ℕ) (g : SectionGrowth) → Sizes bytes h cli_at (length section) g → length (grown_image bytes h cli_at cli section g) ≡ g.raw_at + g.raw_size
grown_length bytes h cli_at cli section g s =
    let size = headers_size bytes h in
    let behind = s.behind in
    let here = s.here in
    let grows = s.size in
    let beyond = s.raw_at in
    let long = s.raw_size in
    let k = concat (kept_pieces bytes size cli_at cli) in
    let z = zeros (g.raw_at - (length bytes + g.by)) in
    let y = zeros (g.raw_size - length section) in
    let f : length (grown_front bytes h g (length section)) ≡ g.headers_size = front_grown bytes h cli_at (length section) g s in
    let lk : length k ≡ length bytes - size = kept_length bytes size cli_at cli behind here in
    let lz : length z ≡ g.raw_at - (length bytes + g.by) = length_zeros (g.raw_at - (length bytes + g.by)) in
    let ly : length y ≡ g.raw_size - length section = length_zeros (g.raw_size - length section) in
    sum (grown_front bytes h g (length section)) k z section y ∙ omega arith
  where
    sum : (a b c d e : List ℕ) → length (a ++ (b ++ c ++ d ++ e)) ≡ length a + (length b + length c + length d + length e)
    sum a b c d e = simp length-append

-- ---- where the parts stand

first_part : (a b c d e r : List ℕ) → IsAt ((a ++ b ++ c ++ d ++ e) ++ r) 0 a
first_part a b c d e r = record { before = []; after = b ++ (c ++ (d ++ (e ++ r))); offset = refl; split = simp append_assoc }

second_part : (a b c d e r : List ℕ) → IsAt ((a ++ b ++ c ++ d ++ e) ++ r) (length a) b
second_part a b c d e r = record { before = a; after = c ++ (d ++ (e ++ r)); offset = refl; split = simp append_assoc }

third_part : (a b c d e r : List ℕ) → IsAt ((a ++ b ++ c ++ d ++ e) ++ r) (length a + length b) c
third_part a b c d e r = record { before = a ++ b; after = d ++ (e ++ r); offset = length-append a b; split = simp append_assoc }

pub front_at : (bytes : List ℕ) (h : Headers) (cli_at : ℕ) (cli : CliHeader) (section : List ℕ) (g : SectionGrowth) → IsAt (grown_image bytes h cli_at cli section g) 0 (concat (front bytes h g))
front_at bytes h cli_at cli section g =
    first_part (concat (front bytes h g)) (moved_headers bytes g.by h.sections h.count) (concat (new_header (length section) g)) (between bytes (table_end h + 40) (headers_size bytes h)) (zeros (g.headers_size - max (table_end h + 40) (headers_size bytes h))) (grown_rest bytes h cli_at cli section g)

pub table_at : (bytes : List ℕ) (h : Headers) (cli_at : ℕ) (cli : CliHeader) (section : List ℕ) (g : SectionGrowth) → Fit h → table_end h ≤ length bytes → IsAt (grown_image bytes h cli_at cli section g) h.sections (moved_headers bytes g.by h.sections h.count)
table_at bytes h cli_at cli section g fit whole =
    at_moved (grown_image bytes h cli_at cli section g) (moved_headers bytes g.by h.sections h.count) (length (concat (front bytes h g))) h.sections
    (second_part (concat (front bytes h g)) (moved_headers bytes g.by h.sections h.count) (concat (new_header (length section) g)) (between bytes (table_end h + 40) (headers_size bytes h)) (zeros (g.headers_size - max (table_end h + 40) (headers_size bytes h))) (grown_rest bytes h cli_at cli section g))
    (front_length bytes h g fit whole)

pub header_at : (bytes : List ℕ) (h : Headers) (cli_at : ℕ) (cli : CliHeader) (section : List ℕ) (g : SectionGrowth) → Fit h → table_end h ≤ length bytes → IsAt (grown_image bytes h cli_at cli section g) (h.sections + 40 * h.count) (concat (new_header (length section) g))
header_at bytes h cli_at cli section g fit whole =
    let l1 = front_length bytes h g fit whole in
    let l2 = moved_length bytes g.by h.sections h.count whole in
    at_moved (grown_image bytes h cli_at cli section g) (concat (new_header (length section) g)) (length (concat (front bytes h g)) + length (moved_headers bytes g.by h.sections h.count)) (h.sections + 40 * h.count)
    (third_part (concat (front bytes h g)) (moved_headers bytes g.by h.sections h.count) (concat (new_header (length section) g)) (between bytes (table_end h + 40) (headers_size bytes h)) (zeros (g.headers_size - max (table_end h + 40) (headers_size bytes h))) (grown_rest bytes h cli_at cli section g))
    (omega arith)

-- behind the headers
kept_part : (f k z s y : List ℕ) → IsAt (f ++ (k ++ z ++ s ++ y)) (length f) k
kept_part f k z s y = record { before = f; after = z ++ (s ++ y); offset = refl; split = simp append_assoc }

raw_part : (f k z s y : List ℕ) → IsAt (f ++ (k ++ z ++ s ++ y)) (length f + (length k + length z)) (s ++ y)
raw_part f k z s y = record {
  before = f ++ (k ++ z);
  after = [];
  offset = simp length-append;
  split = simp (append_assoc, append-nil);
}

pub kept_at : (bytes : List ℕ) (h : Headers) (cli_at : ℕ) (cli : CliHeader) (section : List ℕ) (g : SectionGrowth) → Sizes bytes h cli_at (length section) g → IsAt (grown_image bytes h cli_at cli section g) g.headers_size (concat (kept_pieces bytes (headers_size bytes h) cli_at cli))
kept_at bytes h cli_at cli section g s =
    at_moved (grown_image bytes h cli_at cli section g) (concat (kept_pieces bytes (headers_size bytes h) cli_at cli)) (length (grown_front bytes h g (length section))) g.headers_size
    (kept_part (grown_front bytes h g (length section)) (concat (kept_pieces bytes (headers_size bytes h) cli_at cli)) (zeros (g.raw_at - (length bytes + g.by))) section (zeros (g.raw_size - length section)))
    (front_grown bytes h cli_at (length section) g s)

-- the raw bytes of the new section: its own, and zeros
pub new_raw : (bytes : List ℕ) (h : Headers) (cli_at : ℕ) (cli : CliHeader) (section : List ℕ) (g : SectionGrowth) → Sizes bytes h cli_at (length section) g → IsAt (grown_image bytes h cli_at cli section g) g.raw_at (section ++ zeros (g.raw_size - length section))
new_raw bytes h cli_at cli section g s =
    let size = headers_size bytes h in
    let behind = s.behind in
    let here = s.here in
    let grows = s.size in
    let beyond = s.raw_at in
    let f = grown_front bytes h g (length section) in
    let k = concat (kept_pieces bytes size cli_at cli) in
    let z = zeros (g.raw_at - (length bytes + g.by)) in
    let y = zeros (g.raw_size - length section) in
    let lf = front_grown bytes h cli_at (length section) g s in
    let lk = kept_length bytes size cli_at cli behind here in
    let lz = length_zeros (g.raw_at - (length bytes + g.by)) in
    at_moved (grown_image bytes h cli_at cli section g) (section ++ y) (length f + (length k + length z)) g.raw_at (raw_part f k z section y) (omega arith)

-- The new section stands whole at its offset.
pub placed : (bytes : List ℕ) (h : Headers) (cli_at : ℕ) (cli : CliHeader) (section : List ℕ) (g : SectionGrowth) → Sizes bytes h cli_at (length section) g → IsAt (grown_image bytes h cli_at cli section g) g.raw_at section
placed bytes h cli_at cli section g s =
    let y = zeros (g.raw_size - length section) in
    at_moved (grown_image bytes h cli_at cli section g) section (g.raw_at + 0) g.raw_at
    (at_in (grown_image bytes h cli_at cli section g) (section ++ y) section g.raw_at 0 (new_raw bytes h cli_at cli section g s) (at_first section y))
    (omega arith)

-- ---- the old bytes behind the headers

-- The bytes behind the old headers, but for those of the CLI header, stand as much further on as the headers grew.
pub kept_bytes : (bytes : List ℕ) (h : Headers) (cli_at : ℕ) (cli : CliHeader) (section : List ℕ) (g : SectionGrowth) → Sizes bytes h cli_at (length section) g → (at n : ℕ) → headers_size bytes h ≤ at → at + n ≤ length bytes → (at + n ≤ cli_at + 8) ⊎ (cli_at + 40 ≤ at) → part (grown_image bytes h cli_at cli section g) (at + g.by) n ≡ part bytes at n
kept_bytes bytes h cli_at cli section g s at n low high apart =
    let size = headers_size bytes h in
    let behind = s.behind in
    let here = s.here in
    let grows = s.size in
    let out = grown_image bytes h cli_at cli section g in
    let p1 = between bytes size (cli_at + 8) in
    let p2 = number_bytes 4 cli.metadata_rva in
    let p3 = number_bytes 4 cli.metadata_len in
    let p4 = number_bytes 4 cli.flags in
    let p5 = between bytes (cli_at + 20) (cli_at + 32) in
    let p6 = zeros 8 in
    let p7 = between bytes (cli_at + 40) (length bytes) in
    let l1 : length p1 ≡ cli_at + 8 - size = length_between bytes size (cli_at + 8) (omega arith) (omega arith) in
    let l2 : length p2 ≡ 4 = length_number 4 cli.metadata_rva in
    let l3 : length p3 ≡ 4 = length_number 4 cli.metadata_len in
    let l4 : length p4 ≡ 4 = length_number 4 cli.flags in
    let l5 : length p5 ≡ 12 = length_between bytes (cli_at + 20) (cli_at + 32) (omega arith) (omega arith) ∙ omega arith in
    let all = kept_at bytes h cli_at cli section g s in
    elim apart [
      | inl before ↦ copied out bytes g.headers_size size (cli_at + 8) (at + g.by) at n (piece out g.headers_size [] p1 (p2 ∷ p3 ∷ p4 ∷ p5 ∷ p6 ∷ p7 ∷ []) g.headers_size all (omega arith)) low before (omega arith) (omega arith)
      | inr after ↦ copied out bytes (cli_at + g.by + 40) (cli_at + 40) (length bytes) (at + g.by) at n (piece out g.headers_size (p1 ∷ p2 ∷ p3 ∷ p4 ∷ p5 ∷ p6 ∷ []) p7 [] (cli_at + g.by + 40) all (simp (length-append, l1, l2, l3, l4, l5) (omega arith))) after high (omega arith) (omega arith)
    ]
