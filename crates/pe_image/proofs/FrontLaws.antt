-- Where the header fields of a grown image come from.
use Rattle.std.proofs.Common.{◌≡◌, ℕ, zero, suc, ◌+◌, ◌-◌, ◌*◌, ◌<◌, ◌≤◌, List, [], ◌∷◌, length, refl, ap, ◌∙◌, arith}
use Rattle.std.specs.List.{concat}
use Rattle.std.proofs.lemmas.List.{length-append}
use Rattle.cil_base.specs.Bytes.{number_bytes, zeros, between, IsAt}
use Rattle.cil_base.proofs.PieceLaws.{length_number, length_between, at_first, at_last, at_in, at_moved, at_equal}
use Rattle.pe_image.specs.declared.headers.Headers.{Headers}
use Rattle.pe_image.specs.declared.cli.CliHeader.{CliHeader}
use Rattle.pe_image.specs.declared.growth.SectionGrowth.{SectionGrowth}
use Rattle.pe_image.specs.Headers.{Fit, headers_size, table_end}
use Rattle.pe_image.specs.Written.{moved_header, moved_headers, new_header, grown_image}
use Rattle.pe_image.proofs.GrownLaws.{Sizes, moved_one, front_at, table_at, header_at, kept_at}
use Rattle.pe_image.proofs.PieceLaws.{piece}

-- ---- before the section table

pub record FrontIs (b out : List ℕ) (h : Headers) (g : SectionGrowth) : Type 0 where
  pub head : IsAt out 0 (between b 0 (h.pe + 6))
  pub count : IsAt out (h.pe + 6) (number_bytes 2 (h.count + 1))
  pub middle : IsAt out (h.pe + 20) (between b (h.pe + 20) (h.pe + 80))
  pub size : IsAt out (h.pe + 84) (number_bytes 4 g.headers_size)
  pub last : IsAt out (h.directories + 56) (between b (h.directories + 56) h.sections)

front_is : (b : List ℕ) (h : Headers) (cli_at : ℕ) (cli : CliHeader) (section : List ℕ) (g : SectionGrowth) → Fit h → table_end h ≤ length b → FrontIs b (grown_image b h cli_at cli section g) h g
front_is b h cli_at cli section g fit whole =
    let near = fit.near in
    let far = fit.far in
    let pe = h.pe in
    let d = h.directories in
    let out = grown_image b h cli_at cli section g in
    let p1 = between b 0 (pe + 6) in
    let p2 = number_bytes 2 (h.count + 1) in
    let p3 = between b (pe + 8) (pe + 12) in
    let p4 = zeros 8 in
    let p5 = between b (pe + 20) (pe + 80) in
    let p6 = number_bytes 4 g.image_size in
    let p7 = number_bytes 4 g.headers_size in
    let p8 = zeros 4 in
    let p9 = between b (pe + 92) (d + 32) in
    let p11 = between b (d + 40) (d + 48) in
    let p13 = between b (d + 56) h.sections in
    let l1 : length p1 ≡ pe + 6 = length_between b 0 (pe + 6) (omega arith) (omega arith) ∙ omega arith in
    let l2 : length p2 ≡ 2 = length_number 2 (h.count + 1) in
    let l3 : length p3 ≡ 4 = length_between b (pe + 8) (pe + 12) (omega arith) (omega arith) ∙ omega arith in
    let l5 : length p5 ≡ 60 = length_between b (pe + 20) (pe + 80) (omega arith) (omega arith) ∙ omega arith in
    let l6 : length p6 ≡ 4 = length_number 4 g.image_size in
    let l7 : length p7 ≡ 4 = length_number 4 g.headers_size in
    let l9 : length p9 ≡ d + 32 - (pe + 92) = length_between b (pe + 92) (d + 32) (omega arith) (omega arith) in
    let l11 : length p11 ≡ 8 = length_between b (d + 40) (d + 48) (omega arith) (omega arith) ∙ omega arith in
    let all = front_at b h cli_at cli section g in
    record {
      head = piece out 0 [] p1 (p2 ∷ p3 ∷ p4 ∷ p5 ∷ p6 ∷ p7 ∷ p8 ∷ p9 ∷ p4 ∷ p11 ∷ p4 ∷ p13 ∷ []) 0 all refl;
      count = piece out 0 (p1 ∷ []) p2 (p3 ∷ p4 ∷ p5 ∷ p6 ∷ p7 ∷ p8 ∷ p9 ∷ p4 ∷ p11 ∷ p4 ∷ p13 ∷ []) (pe + 6) all (simp (length-append, l1) (omega arith));
      middle = piece out 0 (p1 ∷ p2 ∷ p3 ∷ p4 ∷ []) p5 (p6 ∷ p7 ∷ p8 ∷ p9 ∷ p4 ∷ p11 ∷ p4 ∷ p13 ∷ []) (pe + 20) all (simp (length-append, l1, l2, l3) (omega arith));
      size = piece out 0 (p1 ∷ p2 ∷ p3 ∷ p4 ∷ p5 ∷ p6 ∷ []) p7 (p8 ∷ p9 ∷ p4 ∷ p11 ∷ p4 ∷ p13 ∷ []) (pe + 84) all (simp (length-append, l1, l2, l3, l5, l6) (omega arith));
      last = piece out 0 (p1 ∷ p2 ∷ p3 ∷ p4 ∷ p5 ∷ p6 ∷ p7 ∷ p8 ∷ p9 ∷ p4 ∷ p11 ∷ p4 ∷ []) p13 [] (d + 56) all (simp (length-append, l1, l2, l3, l5, l6, l7, l9, l11) (omega arith));
    }

-- ---- the section table

pub record TableIs (b out : List ℕ) (h : Headers) (len : ℕ) (g : SectionGrowth) : Type 0 where
  pub shifted : (i : ℕ) → i < h.count → IsAt out (h.sections + 40 * i) (concat (moved_header b g.by (h.sections + 40 * i)))
  pub fresh : IsAt out (h.sections + 40 * h.count) (concat (new_header len g))

moved_at : (b : List ℕ) (by at n i : ℕ) → at + 40 * n ≤ length b → i < n → IsAt (moved_headers b by at n) (40 * i) (concat (moved_header b by (at + 40 * i)))
moved_at b by at zero i le lt = absurd (omega arith)
moved_at b by at (suc n) zero le lt =
    let here : at ≡ at + 40 * 0 = omega arith in
    let all = moved_headers b by at (suc n) in
    at_equal all (concat (moved_header b by at)) (concat (moved_header b by (at + 40 * 0))) (40 * 0)
    (at_moved all (concat (moved_header b by at)) 0 (40 * 0) (at_first (concat (moved_header b by at)) (moved_headers b by (at + 40) n)) (omega arith))
    (ap (λ (k : ℕ). concat (moved_header b by k)) here)
moved_at b by at (suc n) (suc i) le lt =
    let one : length (concat (moved_header b by at)) ≡ 40 = moved_one b by at (omega arith) in
    let there : at + 40 + 40 * i ≡ at + 40 * suc i = omega arith in
    let all = moved_headers b by at (suc n) in
    let rest = moved_headers b by (at + 40) n in
    let x = concat (moved_header b by (at + 40 + 40 * i)) in
    at_equal all x (concat (moved_header b by (at + 40 * suc i))) (40 * suc i)
    (at_moved all x (length (concat (moved_header b by at)) + 40 * i) (40 * suc i)
    (at_in all rest x (length (concat (moved_header b by at))) (40 * i) (at_last (concat (moved_header b by at)) rest) (moved_at b by (at + 40) n i (omega arith) (omega arith)))
    (omega arith))
    (ap (λ (k : ℕ). concat (moved_header b by k)) there)

table_is : (b : List ℕ) (h : Headers) (cli_at : ℕ) (cli : CliHeader) (section : List ℕ) (g : SectionGrowth) → Fit h → table_end h ≤ length b → TableIs b (grown_image b h cli_at cli section g) h (length section) g
table_is b h cli_at cli section g fit whole = record {
  shifted = λ i lt.
      at_in (grown_image b h cli_at cli section g) (moved_headers b g.by h.sections h.count) (concat (moved_header b g.by (h.sections + 40 * i))) h.sections (40 * i)
      (table_at b h cli_at cli section g fit whole)
      (moved_at b g.by h.sections h.count i whole lt);
  fresh = header_at b h cli_at cli section g fit whole;
}

-- ---- the CLI header

pub record CliIs (b out : List ℕ) (by cli_at : ℕ) (cli : CliHeader) : Type 0 where
  pub rva : IsAt out (cli_at + by + 8) (number_bytes 4 cli.metadata_rva)
  pub len : IsAt out (cli_at + by + 12) (number_bytes 4 cli.metadata_len)
  pub flags : IsAt out (cli_at + by + 16) (number_bytes 4 cli.flags)
  pub entry : IsAt out (cli_at + by + 20) (between b (cli_at + 20) (cli_at + 32))

cli_is : (b : List ℕ) (h : Headers) (cli_at : ℕ) (cli : CliHeader) (section : List ℕ) (g : SectionGrowth) → Sizes b h cli_at (length section) g → CliIs b (grown_image b h cli_at cli section g) g.by cli_at cli
cli_is b h cli_at cli section g s =
    let size = headers_size b h in
    let behind = s.behind in
    let here = s.here in
    let grows = s.size in
    let out = grown_image b h cli_at cli section g in
    let p1 = between b size (cli_at + 8) in
    let p2 = number_bytes 4 cli.metadata_rva in
    let p3 = number_bytes 4 cli.metadata_len in
    let p4 = number_bytes 4 cli.flags in
    let p5 = between b (cli_at + 20) (cli_at + 32) in
    let p6 = zeros 8 in
    let p7 = between b (cli_at + 40) (length b) in
    let l1 : length p1 ≡ cli_at + 8 - size = length_between b size (cli_at + 8) (omega arith) (omega arith) in
    let l2 : length p2 ≡ 4 = length_number 4 cli.metadata_rva in
    let l3 : length p3 ≡ 4 = length_number 4 cli.metadata_len in
    let l4 : length p4 ≡ 4 = length_number 4 cli.flags in
    let all = kept_at b h cli_at cli section g s in
    record {
      rva = piece out g.headers_size (p1 ∷ []) p2 (p3 ∷ p4 ∷ p5 ∷ p6 ∷ p7 ∷ []) (cli_at + g.by + 8) all (simp (length-append, l1) (omega arith));
      len = piece out g.headers_size (p1 ∷ p2 ∷ []) p3 (p4 ∷ p5 ∷ p6 ∷ p7 ∷ []) (cli_at + g.by + 12) all (simp (length-append, l1, l2) (omega arith));
      flags = piece out g.headers_size (p1 ∷ p2 ∷ p3 ∷ []) p4 (p5 ∷ p6 ∷ p7 ∷ []) (cli_at + g.by + 16) all (simp (length-append, l1, l2, l3) (omega arith));
      entry = piece out g.headers_size (p1 ∷ p2 ∷ p3 ∷ p4 ∷ []) p5 (p6 ∷ p7 ∷ []) (cli_at + g.by + 20) all (simp (length-append, l1, l2, l3, l4) (omega arith));
    }

-- ---- all of it

pub record GrownIs (b out : List ℕ) (h : Headers) (cli_at : ℕ) (cli : CliHeader) (len : ℕ) (g : SectionGrowth) : Type 0 where
  pub front : FrontIs b out h g
  pub table : TableIs b out h len g
  pub header : CliIs b out g.by cli_at cli

pub grown_fields : (b : List ℕ) (h : Headers) (cli_at : ℕ) (cli : CliHeader) (section : List ℕ) (g : SectionGrowth) → Sizes b h cli_at (length section) g → GrownIs b (grown_image b h cli_at cli section g) h cli_at cli (length section) g
grown_fields b h cli_at cli section g s = record {
  front = front_is b h cli_at cli section g s.fit s.whole;
  table = table_is b h cli_at cli section g s.fit s.whole;
  header = cli_is b h cli_at cli section g s;
}
