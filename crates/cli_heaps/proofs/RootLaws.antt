-- The tests of the root: one after another, their places rise, and what holds where none fails.
use Rattle.std.proofs.Common.{◌≡◌, ℕ, zero, suc, ◌+◌, ◌-◌, ◌≤◌, ◌<◌, leb, Bool, true, false, cond, List, [], ◌∷◌, ◌++◌, length, Option, Some, None, refl, sym, ap, ap₂, ◌∙◌, arith}
use Rattle.std.specs.Prelude.{MatchOption}
use Rattle.std.proofs.lemmas.Bool.{leb-true}
use Rattle.cil_base.specs.declared.refusal.Refusal.{Refusal}
use Rattle.cil_base.specs.Refusals.{is_less, First, NoneBroken, Test, first_of}
use Rattle.cil_base.proofs.RefusalLaws.{Rises, not_less, first_is_first}
use Rattle.cli_heaps.specs.Root.{Stream, stream_count, first_header, name_at, name_width, is_whole_header, header_end, header_at, stream_at}
use Rattle.cli_heaps.specs.RootRules.{cut_field, is_signed, root_cut, header_cut, stream_tests, cut_tests, header_tests, root_tests, tests, Broken}

-- ---- first_of, list by list

pub first_behind : (ts us : List Test) → first_of ts ≡ None → first_of (ts ++ us) ≡ first_of us
first_behind [] us h = refl
first_behind (t ∷ ts) us h = go t.fails (λ k. first_behind ts us k) h
  where
    go : (b : Bool) → (first_of ts ≡ None → first_of (ts ++ us) ≡ first_of us) → cond b (Some t.refusal) (first_of ts) ≡ None → cond b (Some t.refusal) (first_of (ts ++ us)) ≡ first_of us
    go true rest k = absurd cc
    go false rest k = rest k

pub first_before : (ts us : List Test) (r : Refusal) → first_of ts ≡ Some r → first_of (ts ++ us) ≡ Some r
first_before [] us r h = absurd cc
first_before (t ∷ ts) us r h = go t.fails (λ k. first_before ts us r k) h
  where
    go : (b : Bool) → (first_of ts ≡ Some r → first_of (ts ++ us) ≡ Some r) → cond b (Some t.refusal) (first_of ts) ≡ Some r → cond b (Some t.refusal) (first_of (ts ++ us)) ≡ Some r
    go true rest k = k
    go false rest k = rest k

-- ---- the tests of the headers, header by header

pub tests_step : (meta : List ℕ) (a at left end : ℕ) (s : Stream) → 0 < left → header_at meta at ≡ Some (s, end) → header_tests meta a at left ≡ stream_tests meta a s ++ header_tests meta a end (left - 1)
tests_step meta a at left end s pos e =
    let n : suc (left - 1) ≡ left = omega arith in
    ap (header_tests meta a at) (sym n) ∙ go (is_whole_header meta at) e
  where
    go : (b : Bool) → cond {A = Option (Stream × ℕ)} b (Some (stream_at meta at, header_end meta at)) None ≡ Some (s, end)
        → cond b (stream_tests meta a (stream_at meta at) ++ header_tests meta a (header_end meta at) (left - 1)) (cut_tests a (header_cut meta at)) ≡ stream_tests meta a s ++ header_tests meta a end (left - 1)
    go true h =
        let same : (stream_at meta at, header_end meta at) ≡ (s, end) = cc in
        ap₂ (λ (x : Stream) (y : ℕ). stream_tests meta a x ++ header_tests meta a y (left - 1)) (ap (λ (p : Stream × ℕ). p.0) same) (ap (λ (p : Stream × ℕ). p.1) same)
    go false h = absurd cc

pub tests_cut : (meta : List ℕ) (a at left : ℕ) → 0 < left → header_at meta at ≡ None → header_tests meta a at left ≡ cut_tests a (header_cut meta at)
tests_cut meta a at left pos e =
    let n : suc (left - 1) ≡ left = omega arith in
    ap (header_tests meta a at) (sym n) ∙ go (is_whole_header meta at) e
  where
    go : (b : Bool) → cond {A = Option (Stream × ℕ)} b (Some (stream_at meta at, header_end meta at)) None ≡ None
        → cond b (stream_tests meta a (stream_at meta at) ++ header_tests meta a (header_end meta at) (left - 1)) (cut_tests a (header_cut meta at)) ≡ cut_tests a (header_cut meta at)
    go true h = absurd cc
    go false h = refl

-- ---- fields

pub cut_behind : (end at p : ℕ) (widths : List ℕ) → cut_field end at widths ≡ Some p → at ≤ p
cut_behind end at p [] h = absurd cc
cut_behind end at p (w ∷ ws) h = go (leb (at + w) end) (λ k. cut_behind end (at + w) p ws k) h
  where
    go : (b : Bool) → (cut_field end (at + w) ws ≡ Some p → at + w ≤ p) → cond b (cut_field end (at + w) ws) (Some at) ≡ Some p → at ≤ p
    go true rest k = let le : at + w ≤ p = rest k in omega arith
    go false rest k = let same : at ≡ p = cc in omega arith

abbrev pub total : List ℕ → ℕ
total [] = 0
total (w ∷ ws) = w + total ws

pub cut_none : (end at : ℕ) (widths : List ℕ) → at ≤ end → cut_field end at widths ≡ None → at + total widths ≤ end
cut_none end at [] le h = omega arith
cut_none end at (w ∷ ws) le h = go (leb (at + w) end) refl (λ l k. cut_none end (at + w) ws l k) h
  where
    go : (b : Bool) → leb (at + w) end ≡ b → (at + w ≤ end → cut_field end (at + w) ws ≡ None → at + w + total ws ≤ end) → cond b (cut_field end (at + w) ws) (Some at) ≡ None → at + (w + total ws) ≤ end
    go true t rest k = let all : at + w + total ws ≤ end = rest (leb-true (at + w) end t) k in omega arith
    go false t rest k = absurd cc

-- ---- the places rise

-- a later place, or the same place and no lower rule
step : (a x y m n : ℕ) → y ≤ x → (x ≡ y → n ≤ m) → is_less (a ∷ 0 ∷ 0 ∷ x ∷ m ∷ []) (a ∷ 0 ∷ 0 ∷ y ∷ n ∷ []) ≡ false
step a x y m n le rules =
    not_less a a (0 ∷ 0 ∷ x ∷ m ∷ []) (0 ∷ 0 ∷ y ∷ n ∷ []) (omega arith) (λ s. not_less x y (m ∷ []) (n ∷ []) le (λ same. not_less m n [] [] (rules same) (λ t. refl)))

cut_rises : (a p m : ℕ) (o : Option ℕ) → ((q : ℕ) → o ≡ Some q → p < q) → Rises (a ∷ 0 ∷ 0 ∷ p ∷ m ∷ []) (cut_tests a o)
cut_rises a p m None h = tt
cut_rises a p m (Some q) h = let lt : p < q = h q refl in (step a q p 6 m (omega arith) (λ e. absurd (omega (arith, e, lt))), tt)

headers_rise : (meta : List ℕ) (a p m at n : ℕ) → p < at → Rises (a ∷ 0 ∷ 0 ∷ p ∷ m ∷ []) (header_tests meta a at n)
headers_rise meta a p m at zero lt = tt
headers_rise meta a p m at (suc n) lt = go (is_whole_header meta at) (headers_rise meta a at 8 (header_end meta at) n (omega arith))
  where
    cuts : (q : ℕ) → header_cut meta at ≡ Some q → p < q
    cuts q e = let le : at ≤ q = cut_behind (length meta) at q (4 ∷ 4 ∷ name_width (length (name_at meta (at + 8))) ∷ []) e in omega arith

    go : (b : Bool) → Rises (a ∷ 0 ∷ 0 ∷ at ∷ 8 ∷ []) (header_tests meta a (header_end meta at) n) → Rises (a ∷ 0 ∷ 0 ∷ p ∷ m ∷ []) (cond b (stream_tests meta a (stream_at meta at) ++ header_tests meta a (header_end meta at) n) (cut_tests a (header_cut meta at)))
    go true rest = (step a at p 6 m (omega arith) (λ e. absurd (omega (arith, e, lt))), (step a at at 7 6 (omega arith) (λ e. omega arith), (step a at at 8 7 (omega arith) (λ e. omega arith), rest)))
    go false rest = cut_rises a p m (header_cut meta at) cuts

pub tests_rise : (meta : List ℕ) (a : ℕ) → Rises [] (tests meta a)
tests_rise meta a = (refl, signed (is_signed meta))
  where
    whole : (o : Option ℕ) → Rises (a ∷ 0 ∷ 0 ∷ 0 ∷ 6 ∷ []) (root_tests meta a o)
    whole (Some at) = (step a at 0 6 6 (omega arith) (λ e. omega arith), tt)
    whole None = (step a 0 0 7 6 (omega arith) (λ e. omega arith), headers_rise meta a 0 7 (first_header meta) (stream_count meta) (omega arith))

    signed : (b : Bool) → Rises (a ∷ 0 ∷ 0 ∷ 0 ∷ 6 ∷ []) (cond b (root_tests meta a (root_cut meta)) [])
    signed true = whole (root_cut meta)
    signed false = tt

pub roots : (meta : List ℕ) (a : ℕ) → MatchOption (first_of (tests meta a)) (NoneBroken (Broken meta a)) (First (Broken meta a))
unfolding Broken
roots meta a = first_is_first [] (tests meta a) (tests_rise meta a)
