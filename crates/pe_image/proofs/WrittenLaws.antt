-- The section table, one header after another.
use Rattle.std.proofs.Common.{◌≡◌, ℕ, suc, ◌+◌, ◌-◌, ◌^◌, ◌≤◌, Bool, true, false, cond, ltb, List, ◌++◌, length, refl, sym, ap, subst, ◌∙◌, append_assoc, append-nil, arith}
use Rattle.std.specs.Prelude.{Result, Ok, Err}
use Rattle.std.specs.Int.{next_multiple_of}
use Rattle.std.proofs.lemmas.Bool.{ltb-false}
use Rattle.std.specs.List.{concat}
use Rattle.cil_base.specs.declared.refusal.Refusal.{Refusal}
use Rattle.pe_image.specs.declared.headers.Headers.{Headers}
use Rattle.pe_image.specs.declared.cli.CliHeader.{CliHeader}
use Rattle.pe_image.specs.Headers.{headers_of, headers_size, file_alignment, table_end}
use Rattle.cil_base.specs.Bytes.{part}
use Rattle.cil_base.proofs.PieceLaws.{part_at}
use Rattle.pe_image.specs.Images.{InOrder}
use Rattle.pe_image.specs.SectionGrowth.{growth_of, grown_len, has_room, headers_growth, no_room, too_long}
use Rattle.pe_image.proofs.GrownLaws.{Sizes, kept_bytes, placed, grown_length}
use Rattle.pe_image.specs.Cli.{cli_header_offset, cli_of}
use Rattle.pe_image.specs.Written.{moved_header, moved_headers, grown_image, grown_cli, grown_by, grown_in, grown_of, KeepsAt, KeepsBytes, new_offset}

pub table_on : (bytes : List ℕ) (by at next n m : ℕ) (x y all : List ℕ) → n ≡ suc m → at + 40 ≡ next → y ≡ x ++ concat (moved_header bytes by at) → x ++ moved_headers bytes by at n ≡ all → y ++ moved_headers bytes by next m ≡ all
table_on bytes by at next n m x y all e f g h =
    ap (λ (k : ℕ). y ++ moved_headers bytes by k m) (sym f)
    ∙ ap (λ (z : List ℕ). z ++ moved_headers bytes by (at + 40) m) g
    ∙ append_assoc x (concat (moved_header bytes by at)) (moved_headers bytes by (at + 40) m)
    ∙ sym (ap (λ (k : ℕ). x ++ moved_headers bytes by at k) e)
    ∙ h

pub table_done : (bytes : List ℕ) (by at n : ℕ) (x all : List ℕ) → n ≡ 0 → x ++ moved_headers bytes by at n ≡ all → x ≡ all
table_done bytes by at n x all e h = sym (append-nil x) ∙ sym (ap (λ (k : ℕ). x ++ moved_headers bytes by at k) e) ∙ h

pub grown_is : (bytes : List ℕ) (a : ℕ) (h : Headers) (at : ℕ) (cli : CliHeader) (section : List ℕ) (rva len : ℕ) (grown : CliHeader) → h ≡ headers_of bytes → at ≡ cli_header_offset bytes h → cli ≡ cli_of bytes → grown ≡ grown_cli cli rva len → grown_of bytes a section rva len ≡ grown_in bytes a h at grown section
unfolding grown_of
grown_is bytes a h at cli section rva len grown e p c g =
    sym (ap (λ (k : CliHeader). grown_in bytes a h at k section) (g ∙ ap (λ (k : CliHeader). grown_cli k rva len) c)
    ∙ ap (λ (k : ℕ). grown_in bytes a h k (grown_cli (cli_of bytes) rva len) section) p
    ∙ ap (λ (k : Headers). grown_in bytes a k (cli_header_offset bytes k) (grown_cli (cli_of bytes) rva len) section) e)

-- ---- what a written image is

pub record Gives (bytes : List ℕ) (h : Headers) (at : ℕ) (cli : CliHeader) (section out : List ℕ) : Type 0 where
  pub out_is : out ≡ grown_image bytes h at cli section (growth_of bytes h (length section))
  pub short : grown_len (growth_of bytes h (length section)) ≤ 2 ^ 27

ok_same : (x y : List ℕ) → ◌≡◌ {A = Result (List ℕ) Refusal} (Ok x) (Ok y) → x ≡ y
ok_same x y e = cc

pub grown_gives : (bytes : List ℕ) (a : ℕ) (h : Headers) (at : ℕ) (cli : CliHeader) (section out : List ℕ) → grown_in bytes a h at cli section ≡ Ok out → Gives bytes h at cli section out
grown_gives bytes a h at cli section out e =
    go (has_room bytes h) (ltb (2 ^ 27) (grown_len (growth_of bytes h (length section)))) e (ltb-false (2 ^ 27) (grown_len (growth_of bytes h (length section))))
  where
    go : (p q : Bool) → grown_by (cond p (cond q (Err too_long) (Ok (growth_of bytes h (length section)))) (Err (no_room a h))) (grown_image bytes h at cli section) ≡ Ok out → (q ≡ false → grown_len (growth_of bytes h (length section)) ≤ 2 ^ 27) → Gives bytes h at cli section out
    go true false e f = record { out_is = sym (ok_same (grown_image bytes h at cli section (growth_of bytes h (length section))) out e); short = f refl }
    go true true e f = absurd cc
    go false q e f = absurd cc

pub next_up : (x y : ℕ) → x ≤ next_multiple_of x y
next_up x y = omega arith

pub sizes : (bytes : List ℕ) (a : ℕ) (h : Headers) (cli_at len : ℕ) → InOrder bytes a h → headers_size bytes h ≤ cli_at → cli_at + 72 ≤ length bytes → Sizes bytes h cli_at len (growth_of bytes h len)
sizes bytes a h cli_at len order behind here = record {
  fit = order.fit;
  whole = order.whole;
  behind = behind;
  here = here;
  size = refl;
  room = (let up = next_up (table_end h + 40 - headers_size bytes h) (file_alignment bytes h) in omega (arith, up));
  raw_at = next_up (length bytes + headers_growth bytes h) (file_alignment bytes h);
  raw_size = next_up len (file_alignment bytes h);
}

keeps_at : (bytes : List ℕ) (h : Headers) (at : ℕ) (cli : CliHeader) (section out : List ℕ) → Sizes bytes h at (length section) (growth_of bytes h (length section)) → Gives bytes h at cli section out → KeepsAt bytes out h at
keeps_at bytes h at cli section out s gives = record {
  kept = λ p n low high apart.
      ap (λ (x : List ℕ). part x (p + headers_growth bytes h) n) gives.out_is
      ∙ kept_bytes bytes h at cli section (growth_of bytes h (length section)) s p n low high apart;
}

pub keeps : (bytes : List ℕ) (h : Headers) (at : ℕ) (cli : CliHeader) (section out : List ℕ) → h ≡ headers_of bytes → at ≡ cli_header_offset bytes h → Sizes bytes h at (length section) (growth_of bytes h (length section)) → Gives bytes h at cli section out → KeepsBytes bytes out
unfolding KeepsBytes
keeps bytes h at cli section out e p s gives =
    subst (λ (k : Headers). KeepsAt bytes out k (cli_header_offset bytes k)) e
    (subst (λ (k : ℕ). KeepsAt bytes out h k) p (keeps_at bytes h at cli section out s gives))

pub short_of : (bytes : List ℕ) (h : Headers) (at : ℕ) (cli : CliHeader) (section out : List ℕ) → Sizes bytes h at (length section) (growth_of bytes h (length section)) → Gives bytes h at cli section out → length out ≤ 2 ^ 27
short_of bytes h at cli section out s gives =
    let long = ap length gives.out_is ∙ grown_length bytes h at cli section (growth_of bytes h (length section)) s in
    let le = gives.short in
    omega (arith, long, le)

pub placed_at : (bytes : List ℕ) (h : Headers) (at : ℕ) (cli : CliHeader) (section out : List ℕ) → h ≡ headers_of bytes → Sizes bytes h at (length section) (growth_of bytes h (length section)) → Gives bytes h at cli section out → part out (new_offset bytes (length section)) (length section) ≡ section
unfolding new_offset
placed_at bytes h at cli section out e s gives =
    ap (λ (k : Headers). part out (growth_of bytes k (length section)).raw_at (length section)) (sym e)
    ∙ ap (λ (x : List ℕ). part x (growth_of bytes h (length section)).raw_at (length section)) gives.out_is
    ∙ part_at (grown_image bytes h at cli section (growth_of bytes h (length section))) section (growth_of bytes h (length section)).raw_at (length section) (placed bytes h at cli section (growth_of bytes h (length section)) s) refl
