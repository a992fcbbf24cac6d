-- How long a written root is, and which limit it passes first.
use Rattle.std.proofs.Common.{◌≡◌, ◌⊎◌, ℕ, zero, suc, ◌+◌, ◌-◌, ◌%◌, ◌^◌, ◌≤◌, ◌<◌, min, eqb, ltb, Bool, true, false, cond, ◌||◌, List, [], ◌∷◌, ◌++◌, length, take, map, Option, Some, None, is_some, refl, sym, ap, ap₂, subst, ◌∙◌, inl, inr, arith, length-append, codes}
use Rattle.std.proofs.lemmas.Bool.{lt-ltb, le-ltb, ltb-true, ltb-false}
use Rattle.std.proofs.lemmas.List.{length-take-le, length-map}
use Rattle.cil_base.specs.declared.rule.Rule.TheVariants.{L5, L6}
use Rattle.cil_base.specs.declared.refusal.Refusal.{Refusal}
use Rattle.cil_base.specs.Bytes.{number_bytes, zeros, padding, padded}
use Rattle.cil_base.specs.Refusals.{NoneBroken, Test, Fails, first_of, limit_refusal}
use Rattle.cil_base.proofs.PieceLaws.{length_number, length_padded, length_zeros}
use Rattle.cli_heaps.specs.Root.{Stream, version_length, first_header, name_at, name_width, is_whole_header, header_at, header_end, stream_at, streams_from, streams, first_named, strings, blobs, user_strings, guids, stream_count}
use Rattle.cli_heaps.specs.RootRules.{Broken}
use Rattle.cli_heaps.proofs.RootLaws.{first_behind, first_before}
use Rattle.cli_heaps.proofs.StreamLaws.{Begins, begins}
use Rattle.cli_heaps.proofs.AcceptedLaws.{behind_root, all_whole, header_within}
use Rattle.heap_writer.specs.Growth.{HeapGrowths, grown_length}
use Rattle.heap_writer.specs.Written.{Part, Known, grown_known, new_bytes, old_part, missing_part, missing_parts, parts, headers, headers_size, bodies, headers_end, first_body, written_root, streams_size, limit_test, heap_limits, limit_tests, length_test, all_limits, IsTooLong, Within, FitHeaps}
use Rattle.heap_writer.proofs.PlacedLaws.{length-headers}

-- ---- lengths

pub length_root : (old : List ℕ) (ps : List Part) → 18 + version_length old ≤ length old → length (written_root old ps) ≡ first_body old ps + length (bodies ps)
length_root old ps fits =
    let front : List ℕ = take (18 + version_length old) old in
    let gap : List ℕ = zeros (padding 4 (headers_end old ps)) in
    omega (
      arith,
      length-append front (number_bytes 2 (length ps) ++ (headers (first_body old ps) ps ++ (gap ++ bodies ps))),
      length-append (number_bytes 2 (length ps)) (headers (first_body old ps) ps ++ (gap ++ bodies ps)),
      length-append (headers (first_body old ps) ps) (gap ++ bodies ps),
      length-append gap (bodies ps),
      length-take-le (18 + version_length old) old fits,
      length_number 2 (length ps),
      length-headers (first_body old ps) ps,
      length_zeros (padding 4 (headers_end old ps)),
    )

-- the headers are whole words
headers_word : (ps : List Part) → headers_size ps % 4 ≡ 0
headers_word [] = refl
headers_word (p ∷ ps) = let rest = headers_word ps in omega (arith, rest)

sizes_split : (ps : List Part) → streams_size ps ≡ headers_size ps + length (bodies ps)
sizes_split [] = refl
sizes_split (p ∷ ps) = let rest = sizes_split ps in omega (arith, rest, length-append (padded 4 p.bytes) (bodies ps))

pub root_size : (old : List ℕ) (ps : List Part) → 18 + version_length old ≤ length old → length (written_root old ps) ≡ first_header old + padding 4 (first_header old) + streams_size ps
root_size old ps fits = omega (arith, length_root old ps fits, sizes_split ps, headers_word ps)

pub sizes_append : (ps qs : List Part) → streams_size (ps ++ qs) ≡ streams_size ps + streams_size qs
sizes_append [] qs = omega arith
sizes_append (p ∷ ps) qs = let rest = sizes_append ps qs in omega (arith, rest)

-- what stands in front of the bodies is whole words
pub front_word : (ps : List Part) (one two three four : List ℕ) (count start first end gap : ℕ) → 2 ≤ first → length one ≡ first - 2 → two ≡ one ++ number_bytes 2 count → three ≡ two ++ headers start ps → four ≡ three ++ zeros gap → end ≡ first + headers_size ps → gap ≡ padding 4 end → length four % 4 ≡ 0
front_word ps one two three four count start first end gap some l e f h i j =
    let a : length two ≡ length one + 2 = ap (λ (x : List ℕ). length x) e ∙ length-append one (number_bytes 2 count) ∙ ap (λ (n : ℕ). length one + n) (length_number 2 count) in
    let b : length three ≡ length two + headers_size ps = ap (λ (x : List ℕ). length x) f ∙ length-append two (headers start ps) ∙ ap (λ (n : ℕ). length two + n) (length-headers start ps) in
    let c : length four ≡ length three + gap = ap (λ (x : List ℕ). length x) h ∙ length-append three (zeros gap) ∙ ap (λ (n : ℕ). length three + n) (length_zeros gap) in
    let all : length four ≡ end + gap = omega (arith, a, b, c, l, i, some) in
    omega (arith, all, j)

-- ---- the old streams

pub record Step (meta : List ℕ) (at end : ℕ) (s : Stream) : Type 0 where
  pub ends : end ≡ at + 8 + name_width (length s.name)
  pub within : end ≤ length meta

header_ends : (meta : List ℕ) (at end : ℕ) (s : Stream) → header_at meta at ≡ Some (s, end) → end ≡ at + 8 + name_width (length s.name)
header_ends meta at end s e = go (is_whole_header meta at) e
  where
    go : (b : Bool) → cond {A = Option (Stream × ℕ)} b (Some (stream_at meta at, header_end meta at)) None ≡ Some (s, end) → end ≡ at + 8 + name_width (length s.name)
    go false h = absurd cc
    go true h =
        let same : (stream_at meta at, header_end meta at) ≡ (s, end) = cc in
        let name : name_at meta (at + 8) ≡ s.name = ap (λ (p : Stream × ℕ). p.0.name) same in
        sym (ap (λ (p : Stream × ℕ). p.1) same) ∙ ap (λ (l : List ℕ). at + 8 + name_width (length l)) name

pub step_ends : (meta : List ℕ) (at left end : ℕ) (s : Stream) → 0 < left → header_at meta at ≡ Some (s, end) → Step meta at end s
step_ends meta at left end s pos e = record { ends = header_ends meta at end s e; within = (begins meta at left end s pos e).within }

sizes_step : (meta old : List ℕ) (k : Known) (at left end : ℕ) (s : Stream) → meta ≡ old → 0 < left → header_at meta at ≡ Some (s, end)
    → streams_size (map (old_part old k) (streams_from old at left)) ≡ (end - at) + length (padded 4 (new_bytes old k s)) + streams_size (map (old_part old k) (streams_from old end (left - 1)))
sizes_step meta old k at left end s same pos e =
    let step : Begins meta at left end s = begins meta at left end s pos e in
    let ends = header_ends meta at end s e in
    let are : streams_from old at left ≡ s ∷ streams_from old end (left - 1) = subst (λ (l : List ℕ). streams_from l at left ≡ s ∷ streams_from l end (left - 1)) same step.are in
    ap (λ (ss : List Stream). streams_size (map (old_part old k) ss)) are ∙ omega (arith, ends)

saturated : (size part body rest : ℕ) → min (min (min (size + part) (2 ^ 64 - 1) + body) (2 ^ 64 - 1) + rest) (2 ^ 64 - 1) ≡ min (size + (part + body + rest)) (2 ^ 64 - 1)
saturated size part body rest = omega arith

pub sizes_go_on : (meta old : List ℕ) (k : Known) (at left end size body next : ℕ) (s : Stream) → meta ≡ old → 0 < left → header_at meta at ≡ Some (s, end) → body ≡ length (new_bytes old k s)
    → next ≡ min (min (size + (end - at + padding 4 body)) (2 ^ 64 - 1) + body) (2 ^ 64 - 1)
    → min (next + streams_size (map (old_part old k) (streams_from old end (left - 1)))) (2 ^ 64 - 1) ≡ min (size + streams_size (map (old_part old k) (streams_from old at left))) (2 ^ 64 - 1)
sizes_go_on meta old k at left end size body next s same pos e is f =
    let rest : ℕ = streams_size (map (old_part old k) (streams_from old end (left - 1))) in
    let step = sizes_step meta old k at left end s same pos e in
    let long : length (padded 4 (new_bytes old k s)) ≡ body + padding 4 body = length_padded 4 (new_bytes old k s) ∙ ap (λ (n : ℕ). n + padding 4 n) (sym is) in
    let all : size + ((end - at + padding 4 body) + body + rest) ≡ size + streams_size (map (old_part old k) (streams_from old at left)) = omega (arith, step, long) in
    ap (λ (n : ℕ). min (n + rest) (2 ^ 64 - 1)) f ∙ saturated size (end - at + padding 4 body) body rest ∙ ap (λ (n : ℕ). min n (2 ^ 64 - 1)) all

pub none_left : (meta old : List ℕ) (k : Known) (at left size whole : ℕ) → meta ≡ old → header_at meta at ≡ None → size ≤ 2 ^ 64 - 1 → min (size + streams_size (map (old_part old k) (streams_from old at left))) (2 ^ 64 - 1) ≡ whole → size ≡ whole
none_left meta old k at zero size whole same e small sum = omega (arith, sum)
none_left meta old k at (suc left) size whole same e small sum = go (is_whole_header old at) (subst (λ (l : List ℕ). header_at l at ≡ None) same e) sum
  where
    go : (b : Bool) → cond {A = Option (Stream × ℕ)} b (Some (stream_at old at, header_end old at)) None ≡ None
        → min (size + streams_size (map (old_part old k) (cond b (stream_at old at ∷ streams_from old (header_end old at) left) []))) (2 ^ 64 - 1) ≡ whole → size ≡ whole
    go true h f = absurd cc
    go false h f = omega (arith, f)

-- ---- heaps that were missing

missing_one : (old name added bytes : List ℕ) (n : ℕ) → n ≡ cond (is_some (first_named old name) || eqb (length added) 0) 0 1 → n ≡ length (missing_part old name added bytes)
missing_one old name added bytes n e = e ∙ go (is_some (first_named old name) || eqb (length added) 0)
  where
    go : (b : Bool) → cond b 0 1 ≡ length (cond {A = List Part} b [] (record { name = name; bytes = bytes } ∷ []))
    go true = refl
    go false = refl

pub missing_many : (old : List ℕ) (g : HeapGrowths) (k : Known) (a b c : ℕ)
    → a ≡ cond (is_some (first_named old (codes "#Strings")) || eqb (length g.strings.added) 0) 0 1
    → b ≡ cond (is_some (first_named old (codes "#US")) || eqb (length g.user_strings.added) 0) 0 1
    → c ≡ cond (is_some (first_named old (codes "#Blob")) || eqb (length g.blobs.added) 0) 0 1
    → a + b + c ≡ length (missing_parts old g k)
missing_many old g k a b c e f h =
    omega (
      arith,
      length-append (missing_part old (codes "#Strings") g.strings.added k.strings ++ missing_part old (codes "#US") g.user_strings.added k.user_strings) (missing_part old (codes "#Blob") g.blobs.added k.blobs),
      length-append (missing_part old (codes "#Strings") g.strings.added k.strings) (missing_part old (codes "#US") g.user_strings.added k.user_strings),
      missing_one old (codes "#Strings") g.strings.added k.strings a e,
      missing_one old (codes "#US") g.user_strings.added k.user_strings b f,
      missing_one old (codes "#Blob") g.blobs.added k.blobs c h,
    )

pub missing_sizes : (old : List ℕ) (g : HeapGrowths) (k : Known)
    → streams_size (missing_parts old g k) ≡ streams_size (missing_part old (codes "#Strings") g.strings.added k.strings) + streams_size (missing_part old (codes "#US") g.user_strings.added k.user_strings) + streams_size (missing_part old (codes "#Blob") g.blobs.added k.blobs)
missing_sizes old g k =
    omega (
      arith,
      sizes_append (missing_part old (codes "#Strings") g.strings.added k.strings ++ missing_part old (codes "#US") g.user_strings.added k.user_strings) (missing_part old (codes "#Blob") g.blobs.added k.blobs),
      sizes_append (missing_part old (codes "#Strings") g.strings.added k.strings) (missing_part old (codes "#US") g.user_strings.added k.user_strings),
    )

missing_same : (old name heap other added more : List ℕ) → other ≡ heap → more ≡ added → streams_size (missing_part old name more (padded 4 (other ++ more))) ≡ streams_size (missing_part old name added (padded 4 (heap ++ added)))
missing_same old name heap other added more e f = ap₂ (λ (x y : List ℕ). streams_size (missing_part old name y (padded 4 (x ++ y)))) e f

pub missing_sum : (old : List ℕ) (g : HeapGrowths) (t s u b sa ua ba : List ℕ) (x y z : ℕ) → s ≡ strings old → u ≡ user_strings old → b ≡ blobs old → sa ≡ g.strings.added → ua ≡ g.user_strings.added → ba ≡ g.blobs.added
    → x ≡ streams_size (missing_part old (codes "#Strings") sa (padded 4 (s ++ sa))) → y ≡ streams_size (missing_part old (codes "#US") ua (padded 4 (u ++ ua))) → z ≡ streams_size (missing_part old (codes "#Blob") ba (padded 4 (b ++ ba)))
    → x + y + z ≡ streams_size (missing_parts old g (grown_known old g t))
missing_sum old g t s u b sa ua ba x y z e f h i j k l m n =
    omega (
      arith,
      l,
      m,
      n,
      missing_same old (codes "#Strings") (strings old) s g.strings.added sa e i,
      missing_same old (codes "#US") (user_strings old) u g.user_strings.added ua f j,
      missing_same old (codes "#Blob") (blobs old) b g.blobs.added ba h k,
      missing_sizes old g (grown_known old g t),
    )

-- ---- all streams

pub count_whole : (old : List ℕ) (a : ℕ) → NoneBroken (Broken old a) → length (streams old) ≡ stream_count old
count_whole old a none = all_whole old a (first_header old) (stream_count old) (header_within old a none) (behind_root old a none).1

pub count_parts : (old : List ℕ) (g : HeapGrowths) (t : List ℕ) (a : ℕ) → NoneBroken (Broken old a) → stream_count old + length (missing_parts old g (grown_known old g t)) ≡ length (parts old g t)
count_parts old g t a none =
    omega (
      arith,
      count_whole old a none,
      length-append (map (old_part old (grown_known old g t)) (streams old)) (missing_parts old g (grown_known old g t)),
      length-map (streams old) (old_part old (grown_known old g t)),
    )

pub whole_size : (old : List ℕ) (g : HeapGrowths) (t : List ℕ) (a size missing : ℕ) → NoneBroken (Broken old a) → size ≡ min (streams_size (map (old_part old (grown_known old g t)) (streams old))) (2 ^ 64 - 1) → missing ≡ streams_size (missing_parts old g (grown_known old g t))
    → min (size + (first_header old + padding 4 (first_header old) + missing)) (2 ^ 64 - 1) ≡ min (length (written_root old (parts old g t))) (2 ^ 64 - 1)
whole_size old g t a size missing none e f =
    let fits = header_within old a none in
    let all = root_size old (parts old g t) (omega (arith, fits)) in
    let both = sizes_append (map (old_part old (grown_known old g t)) (streams old)) (missing_parts old g (grown_known old g t)) in
    joined size (streams_size (map (old_part old (grown_known old g t)) (streams old))) (first_header old + padding 4 (first_header old) + missing) (length (written_root old (parts old g t))) e (omega (arith, all, both, f))
  where
    joined : (n m k whole : ℕ) → n ≡ min m (2 ^ 64 - 1) → whole ≡ m + k → min (n + k) (2 ^ 64 - 1) ≡ min whole (2 ^ 64 - 1)
    joined n m k whole h i = omega arith

-- ---- tests

none_of : (ts : List Test) → first_of ts ≡ None → NoneBroken (Fails ts)
none_of [] e r f = f
none_of (t ∷ ts) e r f = go t.fails refl (λ k. none_of ts k r) e f
  where
    go : (b : Bool) → t.fails ≡ b → (first_of ts ≡ None → Fails ts r → ⊥) → cond b (Some t.refusal) (first_of ts) ≡ None → ((t.fails ≡ true) × (t.refusal ≡ r)) ⊎ Fails ts r → ⊥
    go true h rest k i = absurd cc
    go false h rest k (inl i) = absurd cc
    go false h rest k (inr i) = rest k i

some_of : (ts : List Test) (r : Refusal) → first_of ts ≡ Some r → Fails ts r
some_of [] r e = absurd cc
some_of (t ∷ ts) r e = go t.fails refl (λ k. some_of ts r k) e
  where
    go : (b : Bool) → t.fails ≡ b → (first_of ts ≡ Some r → Fails ts r) → cond b (Some t.refusal) (first_of ts) ≡ Some r → ((t.fails ≡ true) × (t.refusal ≡ r)) ⊎ Fails ts r
    go true h rest k = let same : t.refusal ≡ r = cc in inl (h, same)
    go false h rest k = inr (rest k)

pub heaps_fit : (old : List ℕ) (g : HeapGrowths) → first_of (heap_limits old g) ≡ None → FitHeaps old g
heaps_fit old g e =
    let none = none_of (heap_limits old g) e in
    record {
      strings = below (2 ^ 28) (grown_length g.strings) (λ h. none _ (inl (h, refl)));
      blobs = below (2 ^ 28) (grown_length g.blobs) (λ h. none _ (inr (inl (h, refl))));
      guids = below (2 ^ 28) (length (guids old)) (λ h. none _ (inr (inr (inl (h, refl)))));
      user_strings = below (2 ^ 24) (grown_length g.user_strings) (λ h. none _ (inr (inr (inr (inl (h, refl))))));
    }
  where
    below : (limit n : ℕ) → (ltb limit n ≡ true → ⊥) → n ≤ limit
    below limit n h = go (ltb limit n) refl
      where
        go : (b : Bool) → ltb limit n ≡ b → n ≤ limit
        go true i = absurd (h i)
        go false i = ltb-false limit n i

-- ---- the first limit

abbrev last_two : List ℕ → HeapGrowths → List ℕ → List Test
last_two old g t = limit_test 65535 (length (parts old g t)) ∷ length_test old g t ∷ []

pub first_heap : (old : List ℕ) (g : HeapGrowths) (t : List ℕ) (r : Refusal) → first_of (heap_limits old g) ≡ Some r → Some r ≡ first_of (all_limits old g t)
first_heap old g t r e = sym (first_before (heap_limits old g) (last_two old g t) r e)

pub first_streams : (old : List ℕ) (g : HeapGrowths) (t : List ℕ) (n : ℕ) → first_of (heap_limits old g) ≡ None → n ≡ length (parts old g t) → 65535 < n → Some (limit_refusal L5 65535) ≡ first_of (all_limits old g t)
first_streams old g t n e f lt =
    sym (first_behind (heap_limits old g) (last_two old g t) e
    ∙ ap (λ (b : Bool). cond b (Some (limit_refusal L5 65535)) (first_of (length_test old g t ∷ []))) (lt-ltb 65535 (length (parts old g t)) (omega (arith, f))))

behind_streams : (old : List ℕ) (g : HeapGrowths) (t : List ℕ) (n : ℕ) → first_of (heap_limits old g) ≡ None → n ≡ length (parts old g t) → n ≤ 65535 → first_of (all_limits old g t) ≡ first_of (length_test old g t ∷ [])
behind_streams old g t n e f le =
    first_behind (heap_limits old g) (last_two old g t) e
    ∙ ap (λ (b : Bool). cond b (Some (limit_refusal L5 65535)) (first_of (length_test old g t ∷ []))) (le-ltb 65535 (length (parts old g t)) (omega (arith, f)))

pub first_long : (old : List ℕ) (g : HeapGrowths) (t : List ℕ) (n size : ℕ) → first_of (heap_limits old g) ≡ None → n ≡ length (parts old g t) → n ≤ 65535 → size ≡ min (length (written_root old (parts old g t))) (2 ^ 64 - 1) → 2 ^ 27 < size → Some (limit_refusal L6 (2 ^ 27)) ≡ first_of (all_limits old g t)
first_long old g t n size e f le s lt =
    sym (behind_streams old g t n e f le ∙ ap (λ (b : Bool). cond b (Some (limit_refusal L6 (2 ^ 27))) None) (lt-ltb (2 ^ 27) (length (written_root old (parts old g t))) (omega (arith, s))))

pub first_none : (old : List ℕ) (g : HeapGrowths) (t : List ℕ) (n size : ℕ) → first_of (heap_limits old g) ≡ None → n ≡ length (parts old g t) → n ≤ 65535 → size ≡ min (length (written_root old (parts old g t))) (2 ^ 64 - 1) → size ≤ 2 ^ 27 → None ≡ first_of (all_limits old g t)
first_none old g t n size e f le s small =
    sym (behind_streams old g t n e f le ∙ ap (λ (b : Bool). cond b (Some (limit_refusal L6 (2 ^ 27))) None) (le-ltb (2 ^ 27) (length (written_root old (parts old g t))) (omega (arith, s))))

-- ---- what the first limit says

-- the last test is named only where no other fails
record Last (ts : List Test) (u : Test) (r : Refusal) : Type 0 where
  none : first_of ts ≡ None
  fails : u.fails ≡ true
  is : r ≡ u.refusal

last_test : (ts : List Test) (u : Test) (r : Refusal) → first_of (ts ++ u ∷ []) ≡ Some r → (first_of ts ≡ Some r) ⊎ Last ts u r
last_test ts u r e = go (first_of ts) refl
  where
    alone : (b : Bool) → u.fails ≡ b → first_of ts ≡ None → cond b (Some u.refusal) (first_of []) ≡ Some r → Last ts u r
    alone true h n k = record { none = n; fails = h; is = let same : u.refusal ≡ r = cc in sym same }
    alone false h n k = absurd cc

    go : (o : Option Refusal) → first_of ts ≡ o → (first_of ts ≡ Some r) ⊎ Last ts u r
    go None n = inr (alone u.fails refl n (sym (first_behind ts (u ∷ []) n) ∙ e))
    go (Some q) n = inl (n ∙ sym (first_before ts (u ∷ []) q n) ∙ e)

record Neither (ts : List Test) (u : Test) : Type 0 where
  none : first_of ts ≡ None
  last : u.fails ≡ false

last_none : (ts : List Test) (u : Test) → first_of (ts ++ u ∷ []) ≡ None → Neither ts u
last_none ts u e = go (first_of ts) refl
  where
    alone : (b : Bool) → u.fails ≡ b → cond b (Some u.refusal) (first_of []) ≡ None → u.fails ≡ false
    alone true h k = absurd cc
    alone false h k = h

    differ : (q : Refusal) → first_of (ts ++ u ∷ []) ≡ Some q → ⊥
    differ q k = absurd cc

    go : (o : Option Refusal) → first_of ts ≡ o → Neither ts u
    go None n = record { none = n; last = alone u.fails refl (sym (first_behind ts (u ∷ []) n) ∙ e) }
    go (Some q) n = absurd (differ q (first_before ts (u ∷ []) q n))

pub limit_passed : (old : List ℕ) (g : HeapGrowths) (t : List ℕ) (r : Refusal) → Some r ≡ first_of (all_limits old g t) → Fails (limit_tests old g t) r ⊎ IsTooLong old g t r
limit_passed old g t r e = go (last_test (limit_tests old g t) (length_test old g t) r (sym e))
  where
    go : (first_of (limit_tests old g t) ≡ Some r) ⊎ Last (limit_tests old g t) (length_test old g t) r → Fails (limit_tests old g t) r ⊎ IsTooLong old g t r
    go (inl h) = inl (some_of (limit_tests old g t) r h)
    go (inr h) = inr (record { within = none_of (limit_tests old g t) h.none; long = ltb-true (2 ^ 27) (length (written_root old (parts old g t))) h.fails; refusal_is = h.is })

pub within_limits : (old : List ℕ) (g : HeapGrowths) (t : List ℕ) → None ≡ first_of (all_limits old g t) → Within old g t
within_limits old g t e =
    let none = last_none (limit_tests old g t) (length_test old g t) (sym e) in
    record { limits = none_of (limit_tests old g t) none.none; short = ltb-false (2 ^ 27) (length (written_root old (parts old g t))) none.last }

-- so the number of streams has 16 bits, and the length 32
pub few_streams : (old : List ℕ) (g : HeapGrowths) (t : List ℕ) → Within old g t → length (parts old g t) < 2 ^ 16
few_streams old g t w = go (ltb 65535 (length (parts old g t))) refl
  where
    go : (b : Bool) → ltb 65535 (length (parts old g t)) ≡ b → length (parts old g t) < 2 ^ 16
    go true e = absurd (w.limits _ (inr (inr (inr (inr (inl (e, refl)))))))
    go false e = let le : length (parts old g t) ≤ 65535 = ltb-false 65535 (length (parts old g t)) e in omega arith

pub short_root : (old : List ℕ) (g : HeapGrowths) (t : List ℕ) (a : ℕ) → NoneBroken (Broken old a) → Within old g t → first_body old (parts old g t) + length (bodies (parts old g t)) < 2 ^ 32
short_root old g t a none w =
    let fits = header_within old a none in
    omega (arith, length_root old (parts old g t) (omega (arith, fits)), w.short)
