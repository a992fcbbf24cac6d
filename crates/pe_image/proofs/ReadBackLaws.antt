-- What a written image reads back as.
use Rattle.std.proofs.Common.{◌≡◌, ℕ, ◌+◌, ◌-◌, ◌^◌, ◌<◌, ◌≤◌, Bool, true, false, cond, not, ltb, eqb, List, [], ◌∷◌, length, Option, Some, None, refl, sym, ap, subst, ◌∙◌, arith}
use Rattle.std.specs.Prelude.{Result, Ok, Err, IfOk, bit_and, is_some, unwrap_or}
use Rattle.std.specs.Int.{next_multiple_of}
use Rattle.std.proofs.lemmas.Nat.{and_assoc, and_le_r}
use Rattle.cil_base.specs.declared.rule.Rule.TheVariants.{P4}
use Rattle.cil_base.specs.declared.refusal.Refusal.{Refusal}
use Rattle.cil_base.specs.Refusals.{NoneBroken, first_of}
use Rattle.cil_base.specs.Numbers.{num}
use Rattle.pe_image.specs.declared.headers.Headers.{Headers}
use Rattle.pe_image.specs.declared.section.Section.{Section}
use Rattle.pe_image.specs.declared.cli.CliHeader.{CliHeader}
use Rattle.pe_image.specs.declared.growth.SectionGrowth.{SectionGrowth}
use Rattle.pe_image.specs.Headers.{headers_of, headers_size, section_alignment, cli_rva}
use Rattle.pe_image.specs.Images.{InOrder}
use Rattle.pe_image.specs.Sections.{section_of, offset_in, at_rva, sections_of}
use Rattle.cil_base.specs.Bytes.{part}
use Rattle.pe_image.specs.Cli.{cli_header_offset, cli_of, metadata_of}
use Rattle.pe_image.specs.Rules.{test, is_il_only, cli_tests, Broken}
use Rattle.pe_image.specs.SectionGrowth.{addresses_end, has_room, new_address, no_room, too_long, growth_of, grown_len, room_in, room_of}
use Rattle.pe_image.specs.Written.{grown_image, grown_cli, grown_by, grown_in}
use Rattle.pe_image.specs.ReadBack.{new_rva, new_raw_size, Misses, MissesCli, Grows}
use Rattle.pe_image.proofs.SectionLaws.{none_of}
use Rattle.pe_image.proofs.RuleLaws.{accepted}
use Rattle.pe_image.proofs.GrowthLaws.{room_gives}
use Rattle.pe_image.proofs.WrittenLaws.{grown_gives, next_up, sizes}
use Rattle.cil_base.proofs.Small.{not_false}
use Rattle.pe_image.proofs.SettingLaws.{Setting, numbers, headers_pass, Kept, cli_is_grown, cli_passes}
use Rattle.pe_image.proofs.RvaLaws.{is_found, old_rva, old_tail, new_rva_is, new_tail_is, no_other}

-- ---- the growth

room_of_test : (b : List ℕ) (a : ℕ) (h : Headers) → has_room b h ≡ true → Ok (new_address b h) ≡ room_in b a h
room_of_test b a h e = sym (ap (λ (c : Bool). cond c (Ok (new_address b h)) (Err (no_room a h))) e)

roomy : (b : List ℕ) (a : ℕ) (h : Headers) (at : ℕ) (cli : CliHeader) (section out : List ℕ) → grown_in b a h at cli section ≡ Ok out → has_room b h ≡ true
roomy b a h at cli section out e = go (has_room b h) (ltb (2 ^ 27) (grown_len (growth_of b h (length section)))) e
  where
    go : (p q : Bool) → grown_by (cond p (cond q (Err too_long) (Ok (growth_of b h (length section)))) (Err (no_room a h))) (grown_image b h at cli section) ≡ Ok out → p ≡ true
    go true q e = refl
    go false q e = absurd cc

pub setting : (b : List ℕ) (a : ℕ) (h : Headers) (at : ℕ) (cli : CliHeader) (section out : List ℕ) → InOrder b a h → at ≡ cli_header_offset b h → headers_size b h ≤ at → at + 72 ≤ length b → grown_in b a h at cli section ≡ Ok out → Setting b a h at cli section out (growth_of b h (length section))
setting b a h at cli section out order place behind here e =
    let gives = grown_gives b a h at cli section out e in
    let room = room_gives b a h (new_address b h) (room_of_test b a h (roomy b a h at cli section out e)) in
    let up = next_up (new_address b h + 2 ^ 27) (section_alignment b h) in
    let end = room.end in
    record {
      order = order;
      sizes = sizes b a h at (length section) order behind here;
      out_is = gives.out_is;
      short = gives.short;
      behind = next_up (addresses_end (sections_of b h)) (section_alignment b h);
      before = room.before;
      small = below (new_address b h) (2 ^ 27) (next_multiple_of (new_address b h + 2 ^ 27) (section_alignment b h)) up end;
      few = room.few;
      at_is = place;
    }
  where
    below : (x y z : ℕ) → x + y ≤ z → z < 2 ^ 32 → x < 2 ^ 32
    below x y z le lt = omega arith

-- ---- the CLI header

kept_cli : (b : List ℕ) (rva len : ℕ) → rva < 2 ^ 32 → len < 2 ^ 32 → Kept b (headers_of b) (cli_header_offset b (headers_of b)) (grown_cli (cli_of b) rva len)
unfolding cli_of
kept_cli b rva len small1 small2 = record {
  self = refl;
  entry = refl;
  rva = small1;
  len = small2;
  flags = masked (num b (cli_header_offset b (headers_of b) + 16) 4);
}
  where
    masked : (f : ℕ) → bit_and f 0xFFFFFFF7 < 2 ^ 32
    masked f = omega (arith, and_le_r f 0xFFFFFFF7)

il_only : (b : List ℕ) (a : ℕ) → first_of (cli_tests b a (headers_of b)) ≡ None → is_il_only (cli_of b).flags ≡ true
unfolding cli_of
il_only b a e =
    let h = headers_of b in
    let p = cli_header_offset b h in
    let t1 = test P4 a (p + 8) (not (is_some (section_of b h (num b (p + 8) 4) (num b (p + 12) 4)))) in
    let t2 = test P4 a (p + 16) (not (is_il_only (num b (p + 16) 4))) in
    not_false (is_il_only (num b (p + 16) 4)) (none_of t2 [] (none_of t1 (t2 ∷ []) e).1).0

still_only : (f : ℕ) → is_il_only f ≡ true → is_il_only (bit_and f 0xFFFFFFF7) ≡ true
still_only f e = ap (λ (k : ℕ). eqb k 1) (and_assoc 0x11 f 0xFFFFFFF7) ∙ e

metadata_there : (out : List ℕ) (cli : CliHeader) (x : List ℕ) → cli_of out ≡ cli → at_rva out cli.metadata_rva cli.metadata_len ≡ Some x → metadata_of out ≡ x
unfolding metadata_of
metadata_there out cli x e found =
    ap (λ (c : CliHeader). unwrap_or (at_rva out c.metadata_rva c.metadata_len) []) e
    ∙ ap (λ (o : Option (List ℕ)). unwrap_or o []) found

-- ---- all of it

-- the metadata stands in the new section
pub record InPlace (address rva len n : ℕ) : Type 0 where
  pub low : address ≤ rva
  pub high : rva + len ≤ address + n

metadata_at : (b : List ℕ) (a : ℕ) (h : Headers) (at : ℕ) (cli : CliHeader) (section out : List ℕ) (g : SectionGrowth) (rva len : ℕ) → Setting b a h at cli section out g → InPlace g.address rva len (length section) → at_rva out rva len ≡ Some (part section (rva - g.address) len)
metadata_at b a h at cli section out g rva len s p =
    let low = p.low in
    let high = p.high in
    let back : rva ≡ g.address + (rva - g.address) = omega arith in
    ap (λ (k : ℕ). at_rva out k len) back
    ∙ new_rva_is b a h at cli section out g s (rva - g.address) len (omega arith)

passes : (b : List ℕ) (a : ℕ) (h : Headers) (at : ℕ) (cli : CliHeader) (section out : List ℕ) (g : SectionGrowth) (rva len : ℕ) → Setting b a h at cli section out g → InPlace g.address rva len (length section) → Kept b h at cli → cli.metadata_rva ≡ rva → cli.metadata_len ≡ len → is_il_only cli.flags ≡ true → (a2 : ℕ) → NoneBroken (Broken out a2)
passes b a h at cli section out g rva len s p k e f only a2 =
    let n = numbers b a h at cli section out g s in
    let there = metadata_at b a h at cli section out g rva len s p in
    let found : is_some (section_of out (headers_of out) rva len) ≡ true = is_found (λ (u : Section). part out (offset_in u rva) len) (section_of out (headers_of out) rva len) (part section (rva - g.address) len) there in
    let found_at : is_some (section_of out (headers_of out) cli.metadata_rva cli.metadata_len) ≡ true =
    ap (λ (x : ℕ). is_some (section_of out (headers_of out) x cli.metadata_len)) e
    ∙ ap (λ (x : ℕ). is_some (section_of out (headers_of out) rva x)) f
    ∙ found in
    accepted out a2 (omega arith) (headers_pass b a h at cli section out g a2 s) (cli_passes b a h at cli section out g a2 s k found_at only)

in_place_of : (b : List ℕ) (a rva len n : ℕ) → room_of b a ≡ Ok (new_rva b) → IfOk (room_of b a) (λ room. (room ≤ rva) × (rva + len ≤ room + n)) → InPlace (new_rva b) rva len n
in_place_of b a rva len n e p =
    let q : (new_rva b ≤ rva) × (rva + len ≤ new_rva b + n) = subst (λ (r : Result ℕ Refusal). IfOk r (λ room. (room ≤ rva) × (rva + len ≤ room + n))) e p in
    record { low = q.0; high = q.1 }

room_there : (b : List ℕ) (a : ℕ) → has_room b (headers_of b) ≡ true → room_of b a ≡ Ok (new_rva b)
unfolding room_of new_rva
room_there b a e = sym (room_of_test b a (headers_of b) e)

grows_at : (b : List ℕ) (a : ℕ) (section out : List ℕ) (rva len : ℕ) → Setting b a (headers_of b) (cli_header_offset b (headers_of b)) (grown_cli (cli_of b) rva len) section out (growth_of b (headers_of b) (length section)) → room_of b a ≡ Ok (new_rva b) → first_of (cli_tests b a (headers_of b)) ≡ None → rva < 2 ^ 32 → len < 2 ^ 32 → InPlace (new_rva b) rva len (length section) → Grows b a section rva len out
unfolding new_rva new_raw_size
grows_at b a section out rva len s room none small1 small2 p =
    let h = headers_of b in
    let at = cli_header_offset b h in
    let cli = grown_cli (cli_of b) rva len in
    let g = growth_of b h (length section) in
    let k = kept_cli b rva len small1 small2 in
    let same : cli_of out ≡ cli = cli_is_grown b a h at cli section out g s k in
    let self : (cli_of b).header_rva ≡ cli_rva b h = k.self in
    let near : (x n : ℕ) → MissesCli b x n → Misses (cli_rva b h) x n = λ x n misses. subst (λ (r : ℕ). Misses r x n) self misses in
    record {
      room = room;
      accepted = passes b a h at cli section out g rva len s p k refl refl (still_only (cli_of b).flags (il_only b a none));
      cli = same;
      metadata = metadata_there out cli (part section (rva - g.address) len) same (metadata_at b a h at cli section out g rva len s p);
      old_rvas = λ x n there e misses. old_rva b a h at cli section out g s x n there e (near x n misses);
      old_tails = λ x n there e fits misses. old_tail b a h at cli section out g s x n there e fits (near x n misses);
      new_rvas = new_rva_is b a h at cli section out g s;
      new_tails = new_tail_is b a h at cli section out g s;
      no_others = no_other b a h at cli section out g s;
    }

pub grows : (b : List ℕ) (a : ℕ) (h : Headers) (at : ℕ) (old cli : CliHeader) (section out : List ℕ) (rva len : ℕ) → InOrder b a h → first_of (cli_tests b a h) ≡ None → at ≡ cli_header_offset b h → headers_size b h ≤ at → at + 72 ≤ length b → old ≡ cli_of b → cli ≡ grown_cli old rva len → grown_in b a h at cli section ≡ Ok out → rva < 2 ^ 32 → len < 2 ^ 32 → IfOk (room_of b a) (λ room. (room ≤ rva) × (rva + len ≤ room + length section)) → Grows b a section rva len out
grows b a h at old cli section out rva len order none place behind here same grown e small1 small2 p =
    let eq = order.headers in
    let cli_eq : cli ≡ grown_cli (cli_of b) rva len = grown ∙ ap (λ (c : CliHeader). grown_cli c rva len) same in
    let s1 = setting b a h at cli section out order place behind here e in
    let s2 = subst (λ (c : CliHeader). Setting b a h at c section out (growth_of b h (length section))) cli_eq s1 in
    let s3 = subst (λ (k : ℕ). Setting b a h k (grown_cli (cli_of b) rva len) section out (growth_of b h (length section))) place s2 in
    let s4 = subst (λ (k : Headers). Setting b a k (cli_header_offset b k) (grown_cli (cli_of b) rva len) section out (growth_of b k (length section))) eq s3 in
    let room = room_there b a (ap (has_room b) (sym eq) ∙ roomy b a h at cli section out e) in
    grows_at b a section out rva len s4 room (ap (λ (k : Headers). first_of (cli_tests b a k)) (sym eq) ∙ none) small1 small2 (in_place_of b a rva len (length section) room p)
