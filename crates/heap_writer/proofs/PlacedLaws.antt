-- The streams of a written root, read again one after another.
use Rattle.std.proofs.Common.{◌≡◌, ℕ, zero, suc, ◌+◌, ◌%◌, ◌^◌, ◌≤◌, ◌<◌, leb, Bool, true, false, cond, List, [], ◌∷◌, ◌++◌, length, take, drop, refl, sym, ap, ap₂, ◌∙◌, arith, append_assoc, length-append}
use Rattle.std.specs.Prelude.{map, All}
use Rattle.std.specs.List.{list_any}
use Rattle.std.proofs.Math.Seq.{drop-append_seam, take-append_seam}
use Rattle.std.proofs.lemmas.Bool.{le-leb}
use Rattle.cli_heaps.specs.Root.{Stream, is_zero, name_width, header_end, stream_at, streams_from, stream_bytes}
use Rattle.cil_base.specs.Bytes.{number_bytes, zeros, padding, padded}
use Rattle.cil_base.proofs.PieceLaws.{length_number, length_padded}
use Rattle.heap_writer.specs.Written.{Part, name_field, headers, headers_size, bodies}
use Rattle.heap_writer.proofs.PieceLaws.{HeaderHere, header_here, length-name_field, padded_word}

-- where the streams stand, the first header and the first stream at these places
abbrev pub placed : ℕ → ℕ → List Part → List Stream
placed h o [] = []
placed h o (p ∷ ps) = record { header = h; offset = o; size = length p.bytes; name = p.name } ∷ placed (h + 8 + name_width (length p.name)) (o + length (padded 4 p.bytes)) ps

-- no name has a zero byte
abbrev pub Named : List Part → Type 0
Named [] = Unit {0}
Named (p ∷ ps) = (list_any is_zero p.name ≡ false) × Named ps

-- ---- the headers

step : (meta : List ℕ) (at next n : ℕ) (s : Stream) (rest : List Stream) → header_end meta at ≡ next → next ≤ length meta → stream_at meta at ≡ s → streams_from meta next n ≡ rest → streams_from meta at (suc n) ≡ s ∷ rest
step meta at next n s rest ends le is more =
    let whole : leb (header_end meta at) (length meta) ≡ true = le-leb (header_end meta at) (length meta) (omega (arith, ends, le)) in
    ap (λ (b : Bool). cond b (stream_at meta at ∷ streams_from meta (header_end meta at) n) []) whole
    ∙ ap₂ (λ (x : Stream) (y : List Stream). x ∷ y) is (ap (λ (k : ℕ). streams_from meta k n) ends ∙ more)

-- the pieces of one header, and what stands behind it
split_in : (a b c d e r : List ℕ) → a ++ ((b ++ (c ++ (d ++ e))) ++ r) ≡ a ++ (b ++ (c ++ (d ++ (e ++ r))))
split_in a b c d e r = simp append_assoc refl

split_behind : (a b c d e r : List ℕ) → a ++ ((b ++ (c ++ (d ++ e))) ++ r) ≡ (a ++ (b ++ (c ++ d))) ++ (e ++ r)
split_behind a b c d e r = simp append_assoc refl

length_three : (a b c d : List ℕ) → length (a ++ (b ++ (c ++ d))) ≡ length a + (length b + (length c + length d))
length_three a b c d = omega (arith, length-append a (b ++ (c ++ d)), length-append b (c ++ d), length-append c d)

pub streams_placed : (meta pre rest : List ℕ) (h o : ℕ) (ps : List Part) → meta ≡ pre ++ (headers o ps ++ rest) → length pre ≡ h → Named ps → o + length (bodies ps) < 2 ^ 32 → streams_from meta h (length ps) ≡ placed h o ps
streams_placed meta pre rest h o [] e len names short = refl
streams_placed meta pre rest h o (p ∷ ps) e len names short =
    let next : ℕ = o + length (padded 4 p.bytes) in
    let total : length (bodies (p ∷ ps)) ≡ length (padded 4 p.bytes) + length (bodies ps) = length-append (padded 4 p.bytes) (bodies ps) in
    let size : length (padded 4 p.bytes) ≡ length p.bytes + padding 4 (length p.bytes) = length_padded 4 p.bytes in
    let here : HeaderHere meta h o (length p.bytes) p.name =
    header_here meta pre (headers next ps ++ rest) p.name h o (length p.bytes)
    (e ∙ split_in pre (number_bytes 4 o) (number_bytes 4 (length p.bytes)) (name_field p.name) (headers next ps) rest)
    len (omega (arith, short)) (omega (arith, short, total, size)) names.0 in
    let behind : length (pre ++ (number_bytes 4 o ++ (number_bytes 4 (length p.bytes) ++ name_field p.name))) ≡ h + 8 + name_width (length p.name) =
    omega (arith, length_three pre (number_bytes 4 o) (number_bytes 4 (length p.bytes)) (name_field p.name), length_number 4 o, length_number 4 (length p.bytes), length-name_field p.name, len) in
    step meta h (h + 8 + name_width (length p.name)) (length ps) (record { header = h; offset = o; size = length p.bytes; name = p.name }) (placed (h + 8 + name_width (length p.name)) next ps)
    here.end_is (omega (arith, here.end_is, here.whole)) here.stream_is
    (streams_placed meta (pre ++ (number_bytes 4 o ++ (number_bytes 4 (length p.bytes) ++ name_field p.name))) rest (h + 8 + name_width (length p.name)) next ps
    (e ∙ split_behind pre (number_bytes 4 o) (number_bytes 4 (length p.bytes)) (name_field p.name) (headers next ps) rest) behind names.1 (omega (arith, short, total)))

pub length-headers : (o : ℕ) (ps : List Part) → length (headers o ps) ≡ headers_size ps
length-headers o [] = refl
length-headers o (p ∷ ps) =
    let all = length_three (number_bytes 4 o) (number_bytes 4 (length p.bytes)) (name_field p.name) (headers (o + length (padded 4 p.bytes)) ps) in
    let rest = length-headers (o + length (padded 4 p.bytes)) ps in
    omega (arith, all, rest, length_number 4 o, length_number 4 (length p.bytes), length-name_field p.name)

pub length-placed : (h o : ℕ) (ps : List Part) → length (placed h o ps) ≡ length ps
length-placed h o [] = refl
length-placed h o (p ∷ ps) = ap suc (length-placed (h + 8 + name_width (length p.name)) (o + length (padded 4 p.bytes)) ps)

-- ---- the bytes

pub record IsPart (meta : List ℕ) (s : Stream) (p : Part) : Type 0 where
  pub named : s.name ≡ p.name
  pub bytes : stream_bytes meta s ≡ p.bytes
  pub size_is : s.size ≡ length p.bytes
  pub within : s.offset + s.size ≤ length meta
  pub aligned : s.offset % 4 ≡ 0

-- these streams are those parts, one by one
abbrev pub ArePart : List ℕ → List Stream → List Part → Type 0
ArePart meta [] [] = Unit {0}
ArePart meta [] (p ∷ ps) = ⊥
ArePart meta (s ∷ ss) [] = ⊥
ArePart meta (s ∷ ss) (p ∷ ps) = IsPart meta s p × ArePart meta ss ps

bytes_here : (pre body rest : List ℕ) → take (length body) (drop (length pre) (pre ++ (body ++ rest))) ≡ body
bytes_here pre body rest = ap (take (length body)) (drop-append_seam pre (body ++ rest)) ∙ take-append_seam body rest

pub parts_placed : (meta pre : List ℕ) (h o : ℕ) (ps : List Part) → meta ≡ pre ++ bodies ps → length pre ≡ o → o % 4 ≡ 0 → ArePart meta (placed h o ps) ps
parts_placed meta pre h o [] e len word = tt
parts_placed meta pre h o (p ∷ ps) e len word =
    let next : ℕ = o + length (padded 4 p.bytes) in
    let shape : meta ≡ pre ++ (p.bytes ++ (zeros (padding 4 (length p.bytes)) ++ bodies ps)) = e ∙ ap (λ (l : List ℕ). pre ++ l) (append_assoc p.bytes (zeros (padding 4 (length p.bytes))) (bodies ps)) in
    let long : length meta ≡ o + (length p.bytes + length (zeros (padding 4 (length p.bytes)) ++ bodies ps)) =
    ap length shape ∙ length-append pre (p.bytes ++ (zeros (padding 4 (length p.bytes)) ++ bodies ps)) ∙ ap₂ (λ (a b : ℕ). a + b) len (length-append p.bytes (zeros (padding 4 (length p.bytes)) ++ bodies ps)) in
    let here : IsPart meta (record { header = h; offset = o; size = length p.bytes; name = p.name }) p = record {
      named = refl;
      bytes = ap₂ (λ (m : List ℕ) (k : ℕ). take (length p.bytes) (drop k m)) shape (sym len) ∙ bytes_here pre p.bytes (zeros (padding 4 (length p.bytes)) ++ bodies ps);
      size_is = refl;
      within = omega (arith, long);
      aligned = word;
    } in (
      here,
      parts_placed meta (pre ++ padded 4 p.bytes) (h + 8 + name_width (length p.name)) next ps
          (e ∙ sym (append_assoc pre (padded 4 p.bytes) (bodies ps)))
          (omega (arith, length-append pre (padded 4 p.bytes), len))
          (omega (arith, word, padded_word p.bytes)),
    )

-- the names and the bytes of the streams
abbrev pub content : List ℕ → Stream → Part
content meta s = record { name = s.name; bytes = stream_bytes meta s }

pub part_same : (x y a b : List ℕ) → x ≡ y → a ≡ b → ◌≡◌ {A = Part} (record { name = x; bytes = a }) (record { name = y; bytes = b })
part_same x y a b e f = let make : List ℕ → List ℕ → Part = λ n m. record { name = n; bytes = m } in ap₂ make e f

pub contents_placed : (meta : List ℕ) (ss : List Stream) (ps : List Part) → ArePart meta ss ps → map (content meta) ss ≡ ps
contents_placed meta [] [] h = refl
contents_placed meta [] (p ∷ ps) h = absurd h
contents_placed meta (s ∷ ss) [] h = absurd h
contents_placed meta (s ∷ ss) (p ∷ ps) h = ap₂ (λ (x : Part) (l : List Part). x ∷ l) (part_same s.name p.name (stream_bytes meta s) p.bytes h.0.named h.0.bytes) (contents_placed meta ss ps h.1)

pub aligned_placed : (meta : List ℕ) (ss : List Stream) (ps : List Part) → ArePart meta ss ps → All (λ s. s.offset % 4 ≡ 0) ss
aligned_placed meta [] ps h = λ k d lt. absurd (omega arith)
aligned_placed meta (s ∷ ss) [] h = absurd h
aligned_placed meta (s ∷ ss) (p ∷ ps) h = go (aligned_placed meta ss ps h.1)
  where
    go : All (λ (t : Stream). t.offset % 4 ≡ 0) ss → All (λ (t : Stream). t.offset % 4 ≡ 0) (s ∷ ss)
    go rest zero d lt = h.0.aligned
    go rest (suc k) d lt = rest k d (omega arith)
