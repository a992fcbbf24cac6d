-- Stream headers, one behind the other.
use Rattle.std.proofs.Common.{◌≡◌, ℕ, suc, ◌-◌, ◌≤◌, ◌<◌, leb, Bool, true, false, cond, List, [], ◌∷◌, length, Option, Some, None, refl, sym, ap, ap₂, subst, ◌∙◌, arith}
use Rattle.std.specs.Prelude.{find}
use Rattle.std.proofs.lemmas.Bool.{leb-true, lt-leb}
use Rattle.cli_heaps.specs.Root.{Stream, is_whole_header, header_end, header_at, stream_at, streams_from}

-- a header that is whole, and what is behind it
pub record Begins (meta : List ℕ) (at left end : ℕ) (s : Stream) : Type 0 where
  pub within : end ≤ length meta
  pub are : streams_from meta at left ≡ s ∷ streams_from meta end (left - 1)

whole_here : (meta : List ℕ) (at k end : ℕ) (s : Stream) → header_at meta at ≡ Some (s, end) → (end ≤ length meta) × (streams_from meta at (suc k) ≡ s ∷ streams_from meta end k)
whole_here meta at k end s e = go (is_whole_header meta at) refl e
  where
    go : (b : Bool) → is_whole_header meta at ≡ b → cond {A = Option (Stream × ℕ)} b (Some (stream_at meta at, header_end meta at)) None ≡ Some (s, end) → (end ≤ length meta) × (cond b (stream_at meta at ∷ streams_from meta (header_end meta at) k) [] ≡ s ∷ streams_from meta end k)
    go true t h =
        let same : (stream_at meta at, header_end meta at) ≡ (s, end) = cc in
        let stream : stream_at meta at ≡ s = ap (λ (p : Stream × ℕ). p.0) same in
        let ends : header_end meta at ≡ end = ap (λ (p : Stream × ℕ). p.1) same in
        let P : ℕ → Type 0 = λ n. n ≤ length meta in
        (subst P ends (leb-true (header_end meta at) (length meta) t), ap₂ (λ (x : Stream) (y : ℕ). x ∷ streams_from meta y k) stream ends)
    go false t h = absurd cc

pub begins : (meta : List ℕ) (at left end : ℕ) (s : Stream) → 0 < left → header_at meta at ≡ Some (s, end) → Begins meta at left end s
begins meta at left end s pos e =
    let n : suc (left - 1) ≡ left = omega arith in
    let p = whole_here meta at (left - 1) end s e in
    record { within = p.0; are = ap (streams_from meta at) (sym n) ∙ p.1 }

-- the same by the end of the header alone
pub goes_on : (meta : List ℕ) (at left : ℕ) → 0 < left → header_end meta at ≤ length meta → streams_from meta at left ≡ stream_at meta at ∷ streams_from meta (header_end meta at) (left - 1)
goes_on meta at left pos le =
    let n : suc (left - 1) ≡ left = omega arith in
    let whole : leb (header_end meta at) (length meta) ≡ true = grind arith in
    ap (streams_from meta at) (sym n) ∙ ap (λ (b : Bool). cond b (stream_at meta at ∷ streams_from meta (header_end meta at) (left - 1)) []) whole

pub ends_here : (meta : List ℕ) (at left : ℕ) → 0 < left → length meta < header_end meta at → streams_from meta at left ≡ []
ends_here meta at left pos lt =
    let n : suc (left - 1) ≡ left = omega arith in
    ap (streams_from meta at) (sym n) ∙ ap (λ (b : Bool). cond b (stream_at meta at ∷ streams_from meta (header_end meta at) (left - 1)) []) (lt-leb (header_end meta at) (length meta) lt)

pub find_passes : (p : Stream → Bool) (s : Stream) (all rest : List Stream) → all ≡ s ∷ rest → p s ≡ false → find p rest ≡ find p all
find_passes p s all rest e no_match = sym (ap (find p) e ∙ ap (λ (b : Bool). cond b (Some s) (find p rest)) no_match)
