-- Names and their numbers.
use Rattle.std.proofs.Common.{◌≡◌, ◌∙◌, sym, ◌++◌, ◌∷◌, [], ℕ, zero, suc, ◌+◌, ◌-◌, List, length, get_or, ap, refl, eqb, Bool, true, false, arith, rules}
use Rattle.std.specs.Prelude.{Vec, Option, Some, None, cond, is_some, if◌then◌else◌, map, find, bytes_eq}
use Rattle.std.specs.Map.{lookup}
use Rattle.std.specs.List.{range_with_len}
use Rattle.std.specs.Option.{option_or}
use Rattle.std.specs.Cmp.Lexicographic.{pointwise}
use Rattle.std.specs.declared.alloc.Global.{Global}
use Rattle.std.proofs.lemmas.List.Folds.{find-append}
use Rattle.std.proofs.lemmas.List.FromFn.{map-range_with_len_more}
use Rattle.set_names.specs.Names.{Name, Noted, number_under, noted, contents_of, is_name, is_under, first_under}

pub contents_found : (content : List ℕ) (es : List (Vec ℕ Global × ℕ)) → lookup (λ k. pointwise eqb content k.items) es ≡ number_under (contents_of es) content
contents_found content [] = refl
contents_found content ((key, at) ∷ es) = ap (cond (pointwise eqb content key.items) (Some at)) (contents_found content es)

pub contents-append : (es : List (Vec ℕ Global × ℕ)) (key : Vec ℕ Global) (at : ℕ) → contents_of (es ++ (key, at) ∷ []) ≡ contents_of es ++ (key.items, at) ∷ []
contents-append [] key at = refl
contents-append ((k, n) ∷ es) key at = ap (λ (l : Noted). (k.items, n) ∷ l) (contents-append es key at)

pub noted-new : (es : Noted) (name : List ℕ) (n : ℕ) → is_some (number_under es name) ≡ false → noted es name n ≡ es ++ (name, n) ∷ []
noted-new es name n e = ap (λ (b : Bool). if b then es else es ++ (name, n) ∷ []) e

pub noted-old : (es : Noted) (name : List ℕ) (n : ℕ) → is_some (number_under es name) ≡ true → noted es name n ≡ es
noted-old es name n e = ap (λ (b : Bool). if b then es else es ++ (name, n) ∷ []) e

pub none_of : {A : Type 0} (o : Option A) → is_some o ≡ false → o ≡ None
none_of None e = refl
none_of (Some x) e = absurd cc

pub range_more : (a n j : ℕ) → a + n ≡ j → range_with_len a (n + 1) ≡ range_with_len a n ++ j ∷ []
range_more a n j e = sym (map_same (range_with_len a (n + 1))) ∙ map-range_with_len_more (λ (r : ℕ). r) a n j e ∙ ap (λ (l : List ℕ). l ++ j ∷ []) (map_same (range_with_len a n))
  where
    map_same : (l : List ℕ) → map (λ (r : ℕ). r) l ≡ l
    map_same [] = refl
    map_same (r ∷ l) = ap (λ (m : List ℕ). r ∷ m) (map_same l)

-- ---- rows by name

same_bytes : (a b : Name) → bytes_eq a b ≡ true → a ≡ b
same_bytes a b e = search (rules, e)

lookup_append : (test : Name → Bool) (es : Noted) (name : Name) (n : ℕ) → lookup test (es ++ (name, n) ∷ []) ≡ option_or (lookup test es) (if test name then Some n else None)
lookup_append test [] name n = refl
lookup_append test (x ∷ es) name n = go (test x.0) (lookup_append test es name n)
  where
    go : (b : Bool) → lookup test (es ++ (name, n) ∷ []) ≡ option_or (lookup test es) (if test name then Some n else None)
        → cond b (Some x.1) (lookup test (es ++ (name, n) ∷ [])) ≡ option_or (cond b (Some x.1) (lookup test es)) (if test name then Some n else None)
    go true h = refl
    go false h = h

-- what a name that is noted leads to
number_noted : (es : Noted) (name q : Name) (n : ℕ) → number_under (noted es name n) q ≡ option_or (number_under es q) (if bytes_eq q name then Some n else None)
number_noted es name q n = go (is_some (number_under es name)) refl
  where
    known : (o : Option ℕ) (b : Bool) → number_under es q ≡ o → bytes_eq q name ≡ b → is_some (number_under es name) ≡ true → o ≡ option_or o (if b then Some n else None)
    known (Some k) b e f there = refl
    known None false e f there = refl
    known None true e f there =
        let same : q ≡ name = same_bytes q name f in
        let wrong : false ≡ true = ap is_some (sym e ∙ ap (number_under es) same) ∙ there in
        absurd cc

    go : (b : Bool) → is_some (number_under es name) ≡ b → number_under (if b then es else es ++ (name, n) ∷ []) q ≡ option_or (number_under es q) (if bytes_eq q name then Some n else None)
    go false e = lookup_append (λ other. bytes_eq q other) es name n
    go true e = known (number_under es q) (bytes_eq q name) refl refl e

module _ (names : List (Option Name)) (k : ℕ) (name : Name) where
  one : Option Name → Option ℕ
  one name_at = if is_name name name_at then Some (k + 1) else None

  here : (name_at : Option Name) → get_or names k None ≡ name_at → find (is_under names name) (range_with_len 1 (k + 1)) ≡ option_or (find (is_under names name) (range_with_len 1 k)) (one name_at)
  unfolding one
  here name_at e =
      let place : (k + 1) - 1 ≡ k = omega arith in
      let list : range_with_len 1 (k + 1) ≡ range_with_len 1 k ++ (k + 1) ∷ [] = range_more 1 k (k + 1) (omega arith) in
      ap (find (is_under names name)) list
      ∙ find-append (is_under names name) (range_with_len 1 k) ((k + 1) ∷ [])
      ∙ ap (λ (o : Option Name). option_or (find (is_under names name) (range_with_len 1 k)) (if is_name name o then Some (k + 1) else None)) (ap (λ (j : ℕ). get_or names j None) place ∙ e)

  pub name_noted : (es : Noted) (name_at : Name) → get_or names k None ≡ Some name_at → number_under es name ≡ find (is_under names name) (range_with_len 1 k)
      → number_under (noted es name_at (k + 1)) name ≡ find (is_under names name) (range_with_len 1 (k + 1))
  unfolding one
  name_noted es name_at e h =
      number_noted es name_at name (k + 1) ∙ ap (λ (o : Option ℕ). option_or o (if bytes_eq name name_at then Some (k + 1) else None)) h ∙ sym (here (Some name_at) e)

  or_none : (o : Option ℕ) → o ≡ option_or o None
  or_none None = refl
  or_none (Some x) = refl

  pub name_missing : (es : Noted) → get_or names k None ≡ None → number_under es name ≡ find (is_under names name) (range_with_len 1 k) → number_under es name ≡ find (is_under names name) (range_with_len 1 (k + 1))
  unfolding one
  name_missing es e h = h ∙ or_none (find (is_under names name) (range_with_len 1 k)) ∙ sym (here None e)
