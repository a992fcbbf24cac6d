-- What holds of a metadata root that breaks no rule.
use Rattle.std.proofs.Common.{◌≡◌, ℕ, zero, suc, ◌+◌, ◌*◌, ◌≤◌, eqb, not, Bool, true, false, cond, ◌||◌, ◌&&◌, List, [], ◌∷◌, ◌++◌, length, drop, Option, Some, None, is_some, refl, sym, ap, subst, ◌∙◌, inl, inr, arith, codes}
use Rattle.std.specs.Prelude.{find, count_ones}
use Rattle.std.proofs.lemmas.Bool.{leb-true, leb-false, ltb-false, eq-eqb}
use Rattle.std.proofs.lemmas.List.{length-take-le, length-drop}
use Rattle.cil_base.specs.declared.refusal.Refusal.{Refusal}
use Rattle.cil_base.specs.declared.rule.Rule.TheVariants.{M1, M2, M3}
use Rattle.cil_base.specs.Refusals.{NoneBroken, Test, Fails}
use Rattle.cil_base.specs.Numbers.{num}
use Rattle.cli_heaps.specs.Root.{Stream, version_length, stream_count, first_header, name_at, name_width, is_whole_header, header_end, stream_at, streams_from, streams, stream_bytes, bytes_of, offset_of, is_named, first_named, tables, tables_offset}
use Rattle.cli_heaps.specs.RootRules.{test, is_repeated, is_signed, root_cut, header_cut, is_cut_stream, stream_tests, cut_tests, header_tests, lacks_tables, root_tests, tests, Broken}
use Rattle.cli_heaps.proofs.RootLaws.{total, cut_none}

abbrev pub NoneFails : List Test → Type 0
NoneFails ts = (r : Refusal) → Fails ts r → ⊥

pub fails_behind : (ts us : List Test) (r : Refusal) → Fails us r → Fails (ts ++ us) r
fails_behind [] us r f = f
fails_behind (t ∷ ts) us r f = inr (fails_behind ts us r f)

-- a test that doesn't fail
pub passes : (t : Test) (ts : List Test) → NoneFails (t ∷ ts) → t.fails ≡ false
passes t ts none = go t.fails refl
  where
    go : (b : Bool) → t.fails ≡ b → t.fails ≡ false
    go true e = absurd (none t.refusal (inl (e, refl)))
    go false e = e

signed : (meta : List ℕ) (a : ℕ) → NoneFails (tests meta a) → is_signed meta ≡ true
signed meta a none = go (is_signed meta) refl
  where
    go : (b : Bool) → is_signed meta ≡ b → is_signed meta ≡ true
    go true e = e
    go false e = absurd (none _ (inl (ap not e, refl)))

-- the signature is there
pub root_signed : (meta : List ℕ) (a : ℕ) → NoneBroken (Broken meta a) → is_signed meta ≡ true
unfolding Broken
root_signed meta a none = signed meta a none

root_passes : (meta : List ℕ) (a : ℕ) → NoneFails (tests meta a) → NoneFails (root_tests meta a (root_cut meta))
root_passes meta a none r f = none r (inr (subst (λ (b : Bool). Fails (cond b (root_tests meta a (root_cut meta)) []) r) (sym (signed meta a none)) f))

pub whole_root : (meta : List ℕ) (a : ℕ) → NoneBroken (Broken meta a) → root_cut meta ≡ None
unfolding Broken
whole_root meta a none = go (root_cut meta) (root_passes meta a none)
  where
    go : (o : Option ℕ) → NoneFails (root_tests meta a o) → o ≡ None
    go None h = refl
    go (Some at) h = absurd (h _ (inl (refl, refl)))

-- the tests behind those of the root
pub behind_root : (meta : List ℕ) (a : ℕ) → NoneBroken (Broken meta a) → (lacks_tables meta ≡ false) × NoneFails (header_tests meta a (first_header meta) (stream_count meta))
unfolding Broken
behind_root meta a none =
    let all : NoneFails (root_tests meta a None) = λ r f. root_passes meta a none r (subst (λ (o : Option ℕ). Fails (root_tests meta a o) r) (sym (whole_root meta a none)) f) in
    (passes _ _ all, λ r f. all r (inr f))

whole_header : (meta : List ℕ) (a at : ℕ) → at ≤ length meta → NoneFails (cut_tests a (header_cut meta at)) → header_end meta at ≤ length meta
whole_header meta a at le none = go (header_cut meta at) refl none
  where
    go : (o : Option ℕ) → header_cut meta at ≡ o → NoneFails (cut_tests a o) → header_end meta at ≤ length meta
    go None e h = let fits : at + total (4 ∷ 4 ∷ name_width (length (name_at meta (at + 8))) ∷ []) ≤ length meta = cut_none (length meta) at (4 ∷ 4 ∷ name_width (length (name_at meta (at + 8))) ∷ []) le e in omega arith
    go (Some p) e h = absurd (h _ (inl (refl, refl)))

pub all_whole : (meta : List ℕ) (a at n : ℕ) → at ≤ length meta → NoneFails (header_tests meta a at n) → length (streams_from meta at n) ≡ n
all_whole meta a at zero le none = refl
all_whole meta a at (suc n) le none = go (is_whole_header meta at) refl (λ l h. all_whole meta a (header_end meta at) n l h) none
  where
    go : (b : Bool) → is_whole_header meta at ≡ b → (header_end meta at ≤ length meta → NoneFails (header_tests meta a (header_end meta at) n) → length (streams_from meta (header_end meta at) n) ≡ n)
        → NoneFails (cond b (stream_tests meta a (stream_at meta at) ++ header_tests meta a (header_end meta at) n) (cut_tests a (header_cut meta at)))
        → length (cond b (stream_at meta at ∷ streams_from meta (header_end meta at) n) []) ≡ suc n
    go true e rest h = ap suc (rest (leb-true (header_end meta at) (length meta) e) (λ r f. h r (fails_behind (stream_tests meta a (stream_at meta at)) (header_tests meta a (header_end meta at) n) r f)))
    go false e rest h = let fits : header_end meta at ≤ length meta = whole_header meta a at le h in absurd (omega (arith, leb-false (header_end meta at) (length meta) e, fits))

cut_passes : (meta : List ℕ) (a : ℕ) (s : Stream) (us : List Test) → NoneFails (stream_tests meta a s ++ us) → is_cut_stream meta s ≡ false
cut_passes meta a s us none = passes (test M1 a s.header (is_cut_stream meta s)) (test M2 a s.header (is_repeated meta s) ∷ test M3 a s.header (is_named (codes "#-") s) ∷ us) none

-- a stream that is found isn't cut
pub found_fits : (meta name : List ℕ) (a at n : ℕ) (s : Stream) → NoneFails (header_tests meta a at n) → find (is_named name) (streams_from meta at n) ≡ Some s → (is_cut_stream meta s ≡ false) × (is_named name s ≡ true)
found_fits meta name a at zero s none e = absurd cc
found_fits meta name a at (suc n) s none e = go (is_whole_header meta at) (λ h k. found_fits meta name a (header_end meta at) n s h k) none e
  where
    here : Stream
    here = stream_at meta at

    found : (b : Bool) → is_named name here ≡ b → is_cut_stream meta here ≡ false → (find (is_named name) (streams_from meta (header_end meta at) n) ≡ Some s → (is_cut_stream meta s ≡ false) × (is_named name s ≡ true)) → cond b (Some here) (find (is_named name) (streams_from meta (header_end meta at) n)) ≡ Some s → (is_cut_stream meta s ≡ false) × (is_named name s ≡ true)
    found true t fits rest k = let same : here ≡ s = cc in (subst (λ (x : Stream). is_cut_stream meta x ≡ false) same fits, subst (λ (x : Stream). is_named name x ≡ true) same t)
    found false t fits rest k = rest k

    go : (b : Bool) → (NoneFails (header_tests meta a (header_end meta at) n) → find (is_named name) (streams_from meta (header_end meta at) n) ≡ Some s → (is_cut_stream meta s ≡ false) × (is_named name s ≡ true))
        → NoneFails (cond b (stream_tests meta a here ++ header_tests meta a (header_end meta at) n) (cut_tests a (header_cut meta at)))
        → find (is_named name) (cond b (here ∷ streams_from meta (header_end meta at) n) []) ≡ Some s → (is_cut_stream meta s ≡ false) × (is_named name s ≡ true)
    go true rest h k = found (is_named name here) refl (cut_passes meta a here (header_tests meta a (header_end meta at) n) h) (rest (λ r f. h r (fails_behind (stream_tests meta a here) (header_tests meta a (header_end meta at) n) r f))) k
    go false rest h k = absurd cc

-- what is_cut_stream rules out
pub or_no : (a b c : Bool) → (a || b || c) ≡ false → (a ≡ false) × (b ≡ false)
or_no true b c e = absurd cc
or_no false true c e = absurd cc
or_no false false c e = (refl, refl)

pub stream_within : (meta : List ℕ) (s : Stream) → is_cut_stream meta s ≡ false → s.offset + s.size ≤ length meta
stream_within meta s e = ltb-false (length meta) (s.offset + s.size) (or_no _ _ _ e).0

pub tables_long : (meta : List ℕ) (s : Stream) → is_cut_stream meta s ≡ false → is_named (codes "#~") s ≡ true → 24 + 4 * count_ones (num (stream_bytes meta s) 8 8) ≤ length (stream_bytes meta s)
tables_long meta s e named = ltb-false (length (stream_bytes meta s)) (24 + 4 * count_ones (num (stream_bytes meta s) 8 8)) (second (is_named (codes "#~") s) _ named (or_no _ _ _ e).1)
  where
    second : (a b : Bool) → a ≡ true → (a && b) ≡ false → b ≡ false
    second true b t h = h
    second false b t h = absurd cc

pub length_stream : (meta : List ℕ) (s : Stream) → s.offset + s.size ≤ length meta → length (stream_bytes meta s) ≡ s.size
length_stream meta s le = length-take-le s.size (drop s.offset meta) (omega (arith, length-drop s.offset meta))

-- where the headers begin
pub header_within : (meta : List ℕ) (a : ℕ) → NoneBroken (Broken meta a) → first_header meta ≤ length meta
header_within meta a none =
    let fits : 0 + total (4 ∷ 2 ∷ 2 ∷ 4 ∷ 4 ∷ version_length meta ∷ 2 ∷ 2 ∷ []) ≤ length meta = cut_none (length meta) 0 (4 ∷ 2 ∷ 2 ∷ 4 ∷ 4 ∷ version_length meta ∷ 2 ∷ 2 ∷ []) (omega arith) (whole_root meta a none) in omega arith

pub record TablesFit (meta : List ℕ) : Type 0 where
  pub whole : 24 + 4 * count_ones (num (tables meta) 8 8) ≤ length (tables meta)
  pub within : tables_offset meta + length (tables meta) ≤ length meta

pub tables_fit : (meta : List ℕ) (a : ℕ) → NoneBroken (Broken meta a) → TablesFit meta
tables_fit meta a none =
    let behind = behind_root meta a none in
    let count : length (streams meta) ≡ stream_count meta = all_whole meta a (first_header meta) (stream_count meta) (header_within meta a none) behind.1 in
    let fit = go (first_named meta (codes "#~")) refl behind.0 behind.1 count in
    record { whole = fit.0; within = fit.1 }
  where
    go : (o : Option Stream) → first_named meta (codes "#~") ≡ o → (eqb (length (streams meta)) (stream_count meta) && not (is_some o)) ≡ false → NoneFails (header_tests meta a (first_header meta) (stream_count meta)) → length (streams meta) ≡ stream_count meta
        → (24 + 4 * count_ones (num (bytes_of meta o) 8 8) ≤ length (bytes_of meta o)) × (offset_of o + length (bytes_of meta o) ≤ length meta)
    go None e lacks passed count = absurd (differ (sym (ap (λ (b : Bool). b && true) (eq-eqb (length (streams meta)) (stream_count meta) count)) ∙ lacks))
      where
        differ : true ≡ false → ⊥
        differ h = cc
    go (Some s) e lacks passed count =
        let found = found_fits meta (codes "#~") a (first_header meta) (stream_count meta) s passed e in
        let within = stream_within meta s found.0 in
        (tables_long meta s found.0 found.1, omega (arith, length_stream meta s within, within))
