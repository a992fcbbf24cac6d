-- A root that is written, read again: its fields, its streams and their bytes.
use Rattle.std.proofs.Common.{◌≡◌, ℕ, ◌+◌, ◌%◌, ◌^◌, ◌≤◌, ◌<◌, leb, eqb, Bool, true, cond, ◌&&◌, List, [], ◌∷◌, ◌++◌, length, take, drop, Some, None, refl, sym, ap, ap₂, ◌∙◌, arith, append_assoc, length-append, length-drop, length-take-le, take-append-drop}
use Rattle.std.proofs.lemmas.Bool.{le-leb}
use Rattle.std.proofs.lemmas.List.{drop-append-le, take-append-le, length-replicate}
use Rattle.cil_base.specs.Refusals.{NoneBroken}
use Rattle.cil_base.specs.Numbers.{num}
use Rattle.cli_heaps.specs.Root.{version_length, version_text, stream_count, first_header, streams, streams_from}
use Rattle.cli_heaps.specs.RootRules.{Broken, cut_field, is_signed, root_cut}
use Rattle.cil_base.specs.Bytes.{number_bytes, zeros, padding}
use Rattle.cil_base.proofs.PieceLaws.{length_number, num_kept}
use Rattle.heap_writer.specs.Written.{Part, headers, headers_size, bodies, headers_end, first_body, written_root}
use Rattle.cli_heaps.proofs.RootLaws.{total}
use Rattle.cli_heaps.proofs.AcceptedLaws.{header_within, root_signed}
use Rattle.heap_writer.proofs.PieceLaws.{num_behind}
use Rattle.heap_writer.proofs.PlacedLaws.{placed, Named, ArePart, streams_placed, parts_placed, length-headers, length-placed}

pub record Reads (old new : List ℕ) (ps : List Part) : Type 0 where
  pub text : version_text new ≡ version_text old
  pub signed : is_signed new ≡ true
  pub cut : root_cut new ≡ None
  pub streams_are : streams new ≡ placed (first_header old) (first_body old ps) ps
  pub starts : first_header new ≡ first_header old
  pub count : stream_count new ≡ length ps
  pub whole : length (streams new) ≡ stream_count new
  pub parts : ArePart new (streams new) ps
  pub long : length new ≡ first_body old ps + length (bodies ps)

-- what stands within the front
front_num : (old rest : List ℕ) (k at width : ℕ) → at + width ≤ k → k ≤ length old → num (take k old ++ rest) at width ≡ num old at width
front_num old rest k at width le fits =
    let n : length (take k old) ≡ k = length-take-le k old fits in
    num_kept (take k old) rest at width (omega (arith, n, le))
    ∙ sym (num_kept (take k old) (drop k old) at width (omega (arith, n, le)))
    ∙ ap (λ (l : List ℕ). num l at width) (take-append-drop k old)

part_kept : (xs ys : List ℕ) (at n : ℕ) → at + n ≤ length xs → take n (drop at (xs ++ ys)) ≡ take n (drop at xs)
part_kept xs ys at n le = ap (take n) (drop-append-le at xs ys (omega (arith, le))) ∙ take-append-le n (drop at xs) ys (omega (arith, length-drop at xs, le))

front_part : (old rest : List ℕ) (k at n : ℕ) → at + n ≤ k → k ≤ length old → take n (drop at (take k old ++ rest)) ≡ take n (drop at old)
front_part old rest k at n le fits =
    let m : length (take k old) ≡ k = length-take-le k old fits in
    part_kept (take k old) rest at n (omega (arith, m, le))
    ∙ sym (part_kept (take k old) (drop k old) at n (omega (arith, m, le)))
    ∙ ap (λ (l : List ℕ). take n (drop at l)) (take-append-drop k old)

all_fields : (end at : ℕ) (widths : List ℕ) → at + total widths ≤ end → cut_field end at widths ≡ None
all_fields end at [] le = refl
all_fields end at (w ∷ ws) le =
    let here : leb (at + w) end ≡ true = le-leb (at + w) end (omega (arith, le)) in
    ap (λ (b : Bool). cond b (cut_field end (at + w) ws) (Some at)) here ∙ all_fields end (at + w) ws (omega (arith, le))

pub read_root : (old new : List ℕ) (a : ℕ) (ps : List Part) → NoneBroken (Broken old a) → new ≡ written_root old ps → length ps < 2 ^ 16 → Named ps → first_body old ps + length (bodies ps) < 2 ^ 32 → Reads old new ps
read_root old new a ps none e few names short =
    let fits : 20 + version_length old ≤ length old = header_within old a none in
    let long₀ : length (take (18 + version_length old) old) ≡ 18 + version_length old = length-take-le (18 + version_length old) old (omega (arith, fits)) in
    let version : version_length new ≡ version_length old = ap (λ (l : List ℕ). num l 12 4) e ∙ front_num old (number_bytes 2 (length ps) ++ (headers (first_body old ps) ps ++ (zeros (padding 4 (headers_end old ps)) ++ bodies ps))) (18 + version_length old) 12 4 (omega arith) (omega (arith, fits)) in
    let text : version_text new ≡ version_text old =
    ap₂ (λ (m : ℕ) (l : List ℕ). take m (drop 16 l)) version e
    ∙ front_part old (number_bytes 2 (length ps) ++ (headers (first_body old ps) ps ++ (zeros (padding 4 (headers_end old ps)) ++ bodies ps))) (18 + version_length old) 16 (version_length old) (omega arith) (omega (arith, fits)) in
    let first : num new 0 4 ≡ num old 0 4 = ap (λ (l : List ℕ). num l 0 4) e ∙ front_num old (number_bytes 2 (length ps) ++ (headers (first_body old ps) ps ++ (zeros (padding 4 (headers_end old ps)) ++ bodies ps))) (18 + version_length old) 0 4 (omega arith) (omega (arith, fits)) in
    let count : stream_count new ≡ length ps =
    ap₂ (λ (l : List ℕ) (m : ℕ). num l m 2) e (ap (λ (m : ℕ). 18 + m) version ∙ sym long₀)
    ∙ num_behind 2 (take (18 + version_length old) old) (headers (first_body old ps) ps ++ (zeros (padding 4 (headers_end old ps)) ++ bodies ps)) (length ps) few in
    let split : new ≡ (take (18 + version_length old) old ++ number_bytes 2 (length ps)) ++ (headers (first_body old ps) ps ++ (zeros (padding 4 (headers_end old ps)) ++ bodies ps)) =
    e ∙ sym (append_assoc (take (18 + version_length old) old) (number_bytes 2 (length ps)) (headers (first_body old ps) ps ++ (zeros (padding 4 (headers_end old ps)) ++ bodies ps))) in
    let long₁ : length (take (18 + version_length old) old ++ number_bytes 2 (length ps)) ≡ first_header old = length-append (take (18 + version_length old) old) (number_bytes 2 (length ps)) ∙ ap₂ (λ (x y : ℕ). x + y) long₀ (length_number 2 (length ps)) ∙ omega arith in
    let placed_are : streams_from new (first_header old) (length ps) ≡ placed (first_header old) (first_body old ps) ps =
    streams_placed new (take (18 + version_length old) old ++ number_bytes 2 (length ps)) (zeros (padding 4 (headers_end old ps)) ++ bodies ps) (first_header old) (first_body old ps) ps split long₁ names short in
    let starts : first_header new ≡ first_header old = ap (λ (m : ℕ). 20 + m) version in
    let streams_are : streams new ≡ placed (first_header old) (first_body old ps) ps = ap₂ (λ (x y : ℕ). streams_from new x y) starts count ∙ placed_are in
    let before : List ℕ = (take (18 + version_length old) old ++ number_bytes 2 (length ps)) ++ (headers (first_body old ps) ps ++ zeros (padding 4 (headers_end old ps))) in
    let split₂ : new ≡ before ++ bodies ps =
    split ∙ ap (λ (l : List ℕ). (take (18 + version_length old) old ++ number_bytes 2 (length ps)) ++ l) (sym (append_assoc (headers (first_body old ps) ps) (zeros (padding 4 (headers_end old ps))) (bodies ps)))
    ∙ sym (append_assoc (take (18 + version_length old) old ++ number_bytes 2 (length ps)) (headers (first_body old ps) ps ++ zeros (padding 4 (headers_end old ps))) (bodies ps)) in
    let size : length (headers (first_body old ps) ps ++ zeros (padding 4 (headers_end old ps))) ≡ headers_size ps + padding 4 (headers_end old ps) =
    length-append (headers (first_body old ps) ps) (zeros (padding 4 (headers_end old ps))) ∙ ap₂ (λ (x y : ℕ). x + y) (length-headers (first_body old ps) ps) (length-replicate {A = ℕ} (padding 4 (headers_end old ps)) 0) in
    let long₂ : length before ≡ first_body old ps =
    length-append (take (18 + version_length old) old ++ number_bytes 2 (length ps)) (headers (first_body old ps) ps ++ zeros (padding 4 (headers_end old ps)))
    ∙ ap₂ (λ (x y : ℕ). x + y) long₁ size ∙ omega arith in
    let long : length new ≡ first_body old ps + length (bodies ps) = ap length split₂ ∙ length-append before (bodies ps) ∙ ap (λ (x : ℕ). x + length (bodies ps)) long₂ in
    let word : (headers_end old ps + padding 4 (headers_end old ps)) % 4 ≡ 0 = words (headers_end old ps) in
    let four : leb 4 (length new) ≡ leb 4 (length old) = le-leb 4 (length new) (omega (arith, long)) ∙ sym (le-leb 4 (length old) (omega (arith, fits))) in
    record {
      text = text;
      signed = ap₂ (λ (b : Bool) (m : ℕ). b && eqb m 0x424A_5342) four first ∙ root_signed old a none;
      cut = all_fields (length new) 0 (4 ∷ 2 ∷ 2 ∷ 4 ∷ 4 ∷ version_length new ∷ 2 ∷ 2 ∷ []) (omega (arith, long, version));
      streams_are = streams_are;
      starts = starts;
      count = count;
      whole = ap length streams_are ∙ length-placed (first_header old) (first_body old ps) ps ∙ sym count;
      parts = rw streams_are (parts_placed new before (first_header old) (first_body old ps) ps split₂ long₂ word);
      long = long;
    }
  where
    words : (n : ℕ) → (n + padding 4 n) % 4 ≡ 0
    words n = omega arith
