-- The rules on the streams, stream by stream.
use Rattle.std.proofs.Common.{◌≡◌, ℕ, zero, suc, ◌+◌, ◌*◌, ◌≤◌, eqb, ltb, not, Bool, true, false, cond, ◌||◌, ◌&&◌, List, [], ◌∷◌, ◌++◌, length, drop, refl, sym, ap, ap₂, ◌∙◌, arith, inl, inr, codes}
use Rattle.std.specs.Prelude.{count_ones}
use Rattle.std.specs.List.{list_any}
use Rattle.std.specs.Cmp.Lexicographic.{pointwise}
use Rattle.std.proofs.lemmas.Bool.{le-ltb}
use Rattle.cil_base.specs.declared.rule.Rule.TheVariants.{M1, M2, M3}
use Rattle.cil_base.specs.Refusals.{Test}
use Rattle.cil_base.specs.Numbers.{num}
use Rattle.cli_heaps.specs.Root.{Stream, is_zero, header_end, is_whole_header, stream_at, streams_from, stream_bytes, is_named}
use Rattle.cli_heaps.specs.RootRules.{test, are_user_strings, is_cut_stream, is_repeated, stream_tests, cut_tests, header_cut, header_tests}
use Rattle.heap_writer.specs.Written.{Part}
use Rattle.cli_heaps.proofs.AcceptedLaws.{NoneFails, fails_behind, passes}
use Rattle.heap_writer.proofs.PlacedLaws.{IsPart}
use Rattle.heap_writer.proofs.OnceLaws.{Each}

-- a stream that breaks no rule
pub record Passes (meta : List ℕ) (s : Stream) : Type 0 where
  pub cut : is_cut_stream meta s ≡ false
  pub once : is_repeated meta s ≡ false
  pub plain : is_named (codes "#-") s ≡ false

here_passes : (meta : List ℕ) (a : ℕ) (s : Stream) (us : List Test) → NoneFails (stream_tests meta a s ++ us) → Passes meta s
here_passes meta a s us none = record {
  cut = passes (test M1 a s.header (is_cut_stream meta s)) (test M2 a s.header (is_repeated meta s) ∷ test M3 a s.header (is_named (codes "#-") s) ∷ us) none;
  once = passes (test M2 a s.header (is_repeated meta s)) (test M3 a s.header (is_named (codes "#-") s) ∷ us) (λ r f. none r (inr f));
  plain = passes (test M3 a s.header (is_named (codes "#-") s)) us (λ r f. none r (inr (inr f)));
}

pub each_passes : (meta : List ℕ) (a at n : ℕ) → NoneFails (header_tests meta a at n) → Each (Passes meta) (streams_from meta at n)
each_passes meta a at zero none = tt
each_passes meta a at (suc n) none = go (is_whole_header meta at) (λ h. each_passes meta a (header_end meta at) n h) none
  where
    go : (b : Bool) → (NoneFails (header_tests meta a (header_end meta at) n) → Each (Passes meta) (streams_from meta (header_end meta at) n))
        → NoneFails (cond b (stream_tests meta a (stream_at meta at) ++ header_tests meta a (header_end meta at) n) (cut_tests a (header_cut meta at)))
        → Each (Passes meta) (cond b (stream_at meta at ∷ streams_from meta (header_end meta at) n) [])
    go true rest h = (here_passes meta a (stream_at meta at) (header_tests meta a (header_end meta at) n) h, rest (λ r f. h r (fails_behind (stream_tests meta a (stream_at meta at)) (header_tests meta a (header_end meta at) n) r f)))
    go false rest h = tt

-- a test that doesn't fail, before others
pub none_more : (t : Test) (ts : List Test) → t.fails ≡ false → NoneFails ts → NoneFails (t ∷ ts)
none_more t ts e none r (inl (f, g)) = absurd (differ (sym e ∙ f))
  where
    differ : false ≡ true → ⊥
    differ h = cc
none_more t ts e none r (inr f) = none r f

pub none_fails : (meta : List ℕ) (a at n : ℕ) → length (streams_from meta at n) ≡ n → Each (Passes meta) (streams_from meta at n) → NoneFails (header_tests meta a at n)
none_fails meta a at zero e all = λ r f. f
none_fails meta a at (suc n) e all = go (is_whole_header meta at) (λ k l. none_fails meta a (header_end meta at) n k l) e all
  where
    go : (b : Bool) → (length (streams_from meta (header_end meta at) n) ≡ n → Each (Passes meta) (streams_from meta (header_end meta at) n) → NoneFails (header_tests meta a (header_end meta at) n))
        → length (cond b (stream_at meta at ∷ streams_from meta (header_end meta at) n) []) ≡ suc n
        → Each (Passes meta) (cond b (stream_at meta at ∷ streams_from meta (header_end meta at) n) [])
        → NoneFails (cond b (stream_tests meta a (stream_at meta at) ++ header_tests meta a (header_end meta at) n) (cut_tests a (header_cut meta at)))
    go false rest k l = absurd (omega (arith, k))
    go true rest k l =
        none_more (test M1 a (stream_at meta at).header (is_cut_stream meta (stream_at meta at)))
        (test M2 a (stream_at meta at).header (is_repeated meta (stream_at meta at)) ∷ test M3 a (stream_at meta at).header (is_named (codes "#-") (stream_at meta at)) ∷ header_tests meta a (header_end meta at) n) l.0.cut
        (none_more (test M2 a (stream_at meta at).header (is_repeated meta (stream_at meta at)))
        (test M3 a (stream_at meta at).header (is_named (codes "#-") (stream_at meta at)) ∷ header_tests meta a (header_end meta at) n) l.0.once
        (none_more (test M3 a (stream_at meta at).header (is_named (codes "#-") (stream_at meta at))) (header_tests meta a (header_end meta at) n) l.0.plain
        (rest (omega (arith, k)) l.1)))

-- ---- a part that breaks no rule as a stream

abbrev pub is_called : List ℕ → Part → Bool
is_called name p = pointwise eqb p.name name

pub record Fine (p : Part) : Type 0 where
  pub ended : list_any is_zero p.name ≡ false
  pub plain : is_called (codes "#-") p ≡ false
  pub tables : is_called (codes "#~") p ≡ true → 24 + 4 * count_ones (num p.bytes 8 8) ≤ length p.bytes
  pub user_strings : is_called (codes "#US") p ≡ true → are_user_strings 0 (drop 1 p.bytes) ≡ true

abbrev pub EachPart : (Part → Type 0) → List Part → Type 0
EachPart P [] = Unit {0}
EachPart P (p ∷ ps) = P p × EachPart P ps

pub each_part_append : (P : Part → Type 0) (ps qs : List Part) → EachPart P ps → EachPart P qs → EachPart P (ps ++ qs)
each_part_append P [] qs a b = b
each_part_append P (p ∷ ps) qs a b = (a.0, each_part_append P ps qs a.1 b)

called : (name : List ℕ) (s : Stream) (p : Part) → s.name ≡ p.name → is_named name s ≡ is_called name p
called name s p e = ap (λ (n : List ℕ). pointwise eqb n name) e

pub fine_cut : (meta : List ℕ) (s : Stream) (p : Part) → IsPart meta s p → Fine p → is_cut_stream meta s ≡ false
fine_cut meta s p is fine =
    all (ltb (length meta) (s.offset + s.size)) _ _ (le-ltb (length meta) (s.offset + s.size) is.within)
    (tables (is_called (codes "#~") p) refl)
    (user_strings (is_called (codes "#US") p) refl)
  where
    all : (a b c : Bool) → a ≡ false → b ≡ false → c ≡ false → (a || b || c) ≡ false
    all true b c e f g = absurd cc
    all false true c e f g = absurd cc
    all false false c e f g = g

    tables : (b : Bool) → is_called (codes "#~") p ≡ b → (is_named (codes "#~") s && ltb (length (stream_bytes meta s)) (24 + 4 * count_ones (num (stream_bytes meta s) 8 8))) ≡ false
    tables b e = ap₂ (λ (x : Bool) (l : List ℕ). x && ltb (length l) (24 + 4 * count_ones (num l 8 8))) (called (codes "#~") s p is.named ∙ e) is.bytes ∙ go b e
      where
        go : (c : Bool) → is_called (codes "#~") p ≡ c → (c && ltb (length p.bytes) (24 + 4 * count_ones (num p.bytes 8 8))) ≡ false
        go true f = le-ltb (length p.bytes) (24 + 4 * count_ones (num p.bytes 8 8)) (fine.tables f)
        go false f = refl

    user_strings : (b : Bool) → is_called (codes "#US") p ≡ b → (is_named (codes "#US") s && not (are_user_strings 0 (drop 1 (stream_bytes meta s)))) ≡ false
    user_strings b e = ap₂ (λ (x : Bool) (l : List ℕ). x && not (are_user_strings 0 (drop 1 l))) (called (codes "#US") s p is.named ∙ e) is.bytes ∙ go b e
      where
        go : (c : Bool) → is_called (codes "#US") p ≡ c → (c && not (are_user_strings 0 (drop 1 p.bytes))) ≡ false
        go true f = ap not (fine.user_strings f)
        go false f = refl

pub fine_plain : (s : Stream) (p : Part) → s.name ≡ p.name → Fine p → is_named (codes "#-") s ≡ false
fine_plain s p e fine = called (codes "#-") s p e ∙ fine.plain
