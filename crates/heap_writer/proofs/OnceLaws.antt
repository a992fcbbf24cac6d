-- Known names stand once: in a root that breaks no rule, and so in the root that is written over it.
use Rattle.std.proofs.Common.{◌≡◌, ℕ, zero, suc, ◌≤◌, ◌<◌, eqb, not, Bool, true, false, cond, ◌||◌, ◌&&◌, List, [], ◌∷◌, ◌++◌, Option, Some, None, is_some, refl, sym, ap, subst, ◌∙◌, arith, append_assoc, append-nil}
use Rattle.std.specs.Prelude.{find, map}
use Rattle.std.specs.Option.{option_or}
use Rattle.std.specs.List.{list_any}
use Rattle.std.specs.Cmp.Lexicographic.{pointwise, bytes_decides}
use Rattle.std.proofs.lemmas.Bool.{eq-eqb, eqb-true}
use Rattle.std.proofs.lemmas.List.Folds.{find-append}
use Rattle.cli_heaps.specs.Root.{Stream, header_end, is_whole_header, stream_at, streams_from, streams, is_named, first_named}
use Rattle.cli_heaps.specs.RootRules.{is_known, is_header_of, is_repeated}

abbrev pub name_of : Stream → List ℕ
name_of s = s.name

-- whether the name is one of these
abbrev pub among : List ℕ → List (List ℕ) → Bool
among name seen = list_any (λ other. pointwise eqb other name) seen

abbrev pub knows : List ℕ → Bool
knows name = is_known (record { header = 0; offset = 0; size = 0; name = name })

-- a known name isn't among those before it
abbrev pub Once : List (List ℕ) → List (List ℕ) → Type 0
Once seen [] = Unit {0}
Once seen (n ∷ ns) = (knows n ≡ true → among n seen ≡ false) × Once (seen ++ n ∷ []) ns

abbrev pub Each : (Stream → Type 0) → List Stream → Type 0
Each P [] = Unit {0}
Each P (s ∷ ss) = P s × Each P ss

pub each_found : (P : Stream → Type 0) (test : Stream → Bool) (ss : List Stream) (s : Stream) → Each P ss → find test ss ≡ Some s → P s × (test s ≡ true)
each_found P test [] s all e = absurd cc
each_found P test (t ∷ ts) s all e = go (test t) refl (λ k. each_found P test ts s all.1 k) e
  where
    go : (b : Bool) → test t ≡ b → (find test ts ≡ Some s → P s × (test s ≡ true)) → cond b (Some t) (find test ts) ≡ Some s → P s × (test s ≡ true)
    go true e rest h = let same : t ≡ s = cc in (subst P same all.0, subst (λ (x : Stream). test x ≡ true) same e)
    go false e rest h = rest h

pub each_and : (P Q : Stream → Type 0) (ss : List Stream) → Each P ss → Each Q ss → Each (λ s. P s × Q s) ss
each_and P Q [] a b = tt
each_and P Q (s ∷ ss) a b = ((a.0, b.0), each_and P Q ss a.1 b.1)

pub each_append : (P : Stream → Type 0) (ss : List Stream) (s : Stream) → Each P ss → P s → Each P (ss ++ s ∷ [])
each_append P [] s all here = (here, tt)
each_append P (t ∷ ts) s all here = (all.0, each_append P ts s all.1 here)

pub each_map : (P Q : Stream → Type 0) (ss : List Stream) → ((s : Stream) → P s → Q s) → Each P ss → Each Q ss
each_map P Q [] f all = tt
each_map P Q (s ∷ ss) f all = (f s all.0, each_map P Q ss f all.1)

-- a stream of the name is found exactly where the name is among the streams' names
pub found_among : (name : List ℕ) (ss : List Stream) → is_some (find (is_named name) ss) ≡ among name (map name_of ss)
found_among name [] = refl
found_among name (s ∷ ss) = go (is_named name s) (found_among name ss)
  where
    go : (b : Bool) → is_some (find (is_named name) ss) ≡ among name (map name_of ss) → is_some (cond b (Some s) (find (is_named name) ss)) ≡ (b || among name (map name_of ss))
    go true e = refl
    go false e = e

pub among_append : (name : List ℕ) (xs ys : List (List ℕ)) → among name xs ≡ false → among name ys ≡ false → among name (xs ++ ys) ≡ false
among_append name [] ys a b = b
among_append name (x ∷ xs) ys a b = go (pointwise eqb x name) (λ k. among_append name xs ys k b) a
  where
    go : (c : Bool) → (among name xs ≡ false → among name (xs ++ ys) ≡ false) → (c || among name xs) ≡ false → (c || among name (xs ++ ys)) ≡ false
    go true rest h = absurd cc
    go false rest h = rest h

pub once_append : (seen ns more : List (List ℕ)) → Once seen ns → Once (seen ++ ns) more → Once seen (ns ++ more)
once_append seen [] more a b = subst (λ (l : List (List ℕ)). Once l more) (append-nil seen) b
once_append seen (n ∷ ns) more a b = (a.0, once_append (seen ++ n ∷ []) ns more a.1 (subst (λ (l : List (List ℕ)). Once l more) (sym (append_assoc seen (n ∷ []) ns)) b))

-- ---- in the old root

-- what is found in front stands in front
same_header : (meta : List ℕ) (pre rest : List Stream) (s : Stream) → streams meta ≡ pre ++ rest → Each (λ t. t.header < s.header) pre → is_repeated meta s ≡ false → is_known s ≡ true → is_some (find (is_named s.name) pre) ≡ false
same_header meta pre rest s all below once known = go (find (is_named s.name) pre) refl
  where
    header : (f : Stream) → find (is_named s.name) pre ≡ Some f → first_named meta s.name ≡ Some f
    header f e = ap (find (is_named s.name)) all ∙ find-append (is_named s.name) pre rest ∙ ap (λ (o : Option Stream). option_or o (find (is_named s.name) rest)) e

    differs : (b c : Bool) → b ≡ true → (b && not c) ≡ false → c ≡ true
    differs true true e h = refl
    differs true false e h = absurd cc
    differs false c e h = absurd cc

    go : (o : Option Stream) → find (is_named s.name) pre ≡ o → is_some o ≡ false
    go None e = refl
    go (Some f) e =
        let lt : f.header < s.header = (each_found (λ t. t.header < s.header) (is_named s.name) pre f below e).0 in
        let is : eqb f.header s.header ≡ true = sym (ap (is_header_of s) (header f e)) ∙ differs (is_known s) (is_header_of s (first_named meta s.name)) known once in
        let same : f.header ≡ s.header = eqb-true f.header s.header is in
        absurd (omega (arith, lt, same))

below_more : (pre : List Stream) (at next : ℕ) → at ≤ next → Each (λ t. t.header < at) pre → Each (λ t. t.header < next) pre
below_more pre at next le all = each_map (λ t. t.header < at) (λ t. t.header < next) pre (λ s lt. omega arith) all

names_more : (pre : List Stream) (s : Stream) → map name_of (pre ++ s ∷ []) ≡ map name_of pre ++ s.name ∷ []
names_more [] s = refl
names_more (t ∷ ts) s = ap (λ (l : List (List ℕ)). t.name ∷ l) (names_more ts s)

pub once_read : (meta : List ℕ) (pre : List Stream) (at n : ℕ) → streams meta ≡ pre ++ streams_from meta at n → Each (λ t. t.header < at) pre → Each (λ s. is_repeated meta s ≡ false) (streams_from meta at n) → Once (map name_of pre) (map name_of (streams_from meta at n))
once_read meta pre at zero all below once = tt
once_read meta pre at (suc n) all below once = go (is_whole_header meta at) (λ a b c. once_read meta (pre ++ stream_at meta at ∷ []) (header_end meta at) n a b c) all once
  where
    go : (b : Bool)
        → (streams meta ≡ (pre ++ stream_at meta at ∷ []) ++ streams_from meta (header_end meta at) n → Each (λ t. t.header < header_end meta at) (pre ++ stream_at meta at ∷ []) → Each (λ s. is_repeated meta s ≡ false) (streams_from meta (header_end meta at) n) → Once (map name_of (pre ++ stream_at meta at ∷ [])) (map name_of (streams_from meta (header_end meta at) n)))
        → streams meta ≡ pre ++ cond b (stream_at meta at ∷ streams_from meta (header_end meta at) n) []
        → Each (λ s. is_repeated meta s ≡ false) (cond b (stream_at meta at ∷ streams_from meta (header_end meta at) n) [])
        → Once (map name_of pre) (map name_of (cond b (stream_at meta at ∷ streams_from meta (header_end meta at) n) []))
    go false rest e each = tt
    go true rest e each = (
      λ known. sym (found_among (stream_at meta at).name pre) ∙ same_header meta pre (stream_at meta at ∷ streams_from meta (header_end meta at) n) (stream_at meta at) e below each.0 known,
      subst (λ (l : List (List ℕ)). Once l (map name_of (streams_from meta (header_end meta at) n))) (names_more pre (stream_at meta at))
          (rest (e ∙ sym (append_assoc pre (stream_at meta at ∷ []) (streams_from meta (header_end meta at) n)))
          (each_append (λ t. t.header < header_end meta at) pre (stream_at meta at) (below_more pre at (header_end meta at) (omega arith) below) (omega arith))
          each.1),
    )

-- ---- in the new root

pub not_repeated : (meta : List ℕ) (pre ss : List Stream) → streams meta ≡ pre ++ ss → Once (map name_of pre) (map name_of ss) → Each (λ s. is_repeated meta s ≡ false) ss
not_repeated meta pre [] all once = tt
not_repeated meta pre (s ∷ ss) all once = (
  here (is_known s) refl,
  not_repeated meta (pre ++ s ∷ []) ss (all ∙ sym (append_assoc pre (s ∷ []) ss)) (subst (λ (l : List (List ℕ)). Once l (map name_of ss)) (sym (names_more pre s)) once.1),
)
  where
    first : (o : Option Stream) → find (is_named s.name) pre ≡ o → is_some o ≡ false → first_named meta s.name ≡ Some s
    first (Some f) e h = absurd cc
    first None e h =
        ap (find (is_named s.name)) all ∙ find-append (is_named s.name) pre (s ∷ ss)
        ∙ ap (λ (o : Option Stream). option_or o (find (is_named s.name) (s ∷ ss))) e
        ∙ ap (λ (b : Bool). cond b (Some s) (find (is_named s.name) ss)) ((bytes_decides s.name s.name).1 refl)

    here : (b : Bool) → is_known s ≡ b → (b && not (is_header_of s (first_named meta s.name))) ≡ false
    here false e = refl
    here true e =
        let none : is_some (find (is_named s.name) pre) ≡ false = found_among s.name pre ∙ once.0 e in
        ap (λ (o : Option Stream). not (is_header_of s o)) (first (find (is_named s.name) pre) refl none) ∙ ap not (eq-eqb s.header s.header refl)
