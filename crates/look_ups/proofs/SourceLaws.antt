-- The sources of a method, one after another.
use Rattle.std.proofs.Common.{◌≡◌, ◌∙◌, sym, ap, refl, ℕ, suc, ◌+◌, ◌<◌, ◌≤◌, List, [], ◌∷◌, ◌++◌, length, get_or, take, drop, Bool, true, false}
use Rattle.std.specs.Prelude.{◌==◌, ◌&&◌, if◌then◌else◌, cond, filter, find, flat_map, map, Option, Some, option_map}
use Rattle.std.proofs.lemmas.List.{at_drop_all, at_drop_more, flat_map_more, take_more, take_all}
use Rattle.cil_model.specs.declared.ty.Ty.{Ty}
use Rattle.cil_model.specs.declared.program.Program.{Program}
use Rattle.cil_model.specs.declared.program.Impl.{Impl}
use Rattle.cil_semantics.specs.Words.{any, first_some, or_else}
use Rattle.cil_semantics.specs.Types.{same_ty}
use Rattle.cil_semantics.specs.Lookups.{method_of, interfaces_of}
use Rattle.cil_semantics.specs.Dispatch.{Seen, bases, impls_of, is_virtual, methods_of, row_counts, same_seen, same_shape, virtual_like}
use Rattle.look_ups.specs.Sources.{by_name, by_row, declared, implemented, implements, once, row_declares, sources_within}

-- what some rows declare
abbrev pub rows_declare : Program → Seen → List Impl → List Seen
rows_declare p s [] = []
rows_declare p s (i ∷ is) = row_declares p s i ++ rows_declare p s is

abbrev kept : Program → Seen → List Seen → List Seen
kept p s ds = filter (λ (d : Seen). any (same_ty d.0) (bases p s.0)) ds

one_kept : (x : Seen) (xs rows : List Seen) (b : Bool) → xs ≡ rows → cond b (x ∷ xs) xs ≡ (if b then x ∷ [] else []) ++ rows
one_kept x xs rows true h = ap (λ (ds : List Seen). x ∷ ds) h
one_kept x xs rows false h = h

row_kept : (p : Program) (s : Seen) (i : Impl) (rest : List Impl) (rows : List Seen) (a : Bool) → kept p s (map (declared s.0) rest) ≡ rows
    → kept p s (map (declared s.0) (cond a (i ∷ rest) rest)) ≡ (if a then (if any (same_ty (declared s.0 i).0) (bases p s.0) then declared s.0 i ∷ [] else []) else []) ++ rows
row_kept p s i rest rows true h = one_kept (declared s.0 i) (kept p s (map (declared s.0) rest)) rows (any (same_ty (declared s.0 i).0) (bases p s.0)) h
row_kept p s i rest rows false h = h

by_row_is : (p : Program) (s : Seen) (is : List Impl) → kept p s (map (declared s.0) (filter (λ (i : Impl). (i.body == s.1) && row_counts p s.0 i) is)) ≡ rows_declare p s is
by_row_is p s [] = refl
by_row_is p s (i ∷ is) =
    row_kept p s i (filter (λ (j : Impl). (j.body == s.1) && row_counts p s.0 j) is) (rows_declare p s is) ((i.body == s.1) && row_counts p s.0 i) (by_row_is p s is)

nothing_more : {A : Type 0} (xs : List A) → xs ++ [] ≡ xs
nothing_more [] = refl
nothing_more {A} (x ∷ xs) = ap (λ (ys : List A). x ∷ ys) (nothing_more xs)

-- at the end of a loop
ended : {A B : Type 0} (f : List A → List B) (xs : List A) (k : ℕ) (found : List B) → length xs ≤ k → f [] ≡ [] → found ++ f (drop k xs) ≡ f xs → found ≡ f xs
ended {A} {B} f xs k found over none h = sym (nothing_more found) ∙ ap (λ (ys : List B). found ++ ys) (sym none ∙ sym (at_drop_all f xs k over)) ∙ h

pub rows_end : (p : Program) (s : Seen) (k : ℕ) (found : List Seen) → length (impls_of p s.0) ≤ k → found ++ rows_declare p s (drop k (impls_of p s.0)) ≡ rows_declare p s (impls_of p s.0) → found ≡ by_row p s
rows_end p s k found over h = ended (rows_declare p s) (impls_of p s.0) k found over refl h ∙ sym (by_row_is p s (impls_of p s.0))

pub hidden_here : (p : Program) (s : Seen) (above : List Ty) (k m : ℕ) (t : Ty) → k < length above → t ≡ get_or above k t
    → find (λ (n : ℕ). is_virtual (method_of p n) && same_shape p (t, n) s) (methods_of p t) ≡ Some m
    → first_some (virtual_like p s) (drop k above) ≡ first_some (virtual_like p s) above
    → first_some (virtual_like p s) above ≡ Some (t, m)
hidden_here p s above k m t below is here inv =
    sym inv
    ∙ at_drop_more (first_some (virtual_like p s)) above k t below
    ∙ ap (λ (u : Ty). first_some (virtual_like p s) (u ∷ drop (k + 1) above)) (sym is)
    ∙ ap (λ (o : Option ℕ). or_else (option_map (λ (n : ℕ). (t, n)) o) (first_some (virtual_like p s) (drop (k + 1) above))) here

-- the methods of an interface that a method implements
abbrev pub slots_implemented : Program → Seen → Ty → List ℕ → List Seen
slots_implemented p s t ms = filter (implements p s) (map (λ (m : ℕ). (t, m)) ms)

abbrev pub interfaces_implemented : Program → Seen → List Ty → List Seen
interfaces_implemented p s [] = []
interfaces_implemented p s (t ∷ ts) = slots_implemented p s t (methods_of p t) ++ interfaces_implemented p s ts

filter_append : {A : Type 0} (f : A → Bool) (xs ys : List A) → filter f (xs ++ ys) ≡ filter f xs ++ filter f ys
filter_append f [] ys = refl
filter_append {A} f (x ∷ xs) ys = go (f x) (filter_append f xs ys)
  where
    go : (b : Bool) → filter f (xs ++ ys) ≡ filter f xs ++ filter f ys → cond b (x ∷ filter f (xs ++ ys)) (filter f (xs ++ ys)) ≡ cond b (x ∷ filter f xs) (filter f xs) ++ filter f ys
    go true h = ap (λ (zs : List A). x ∷ zs) h
    go false h = h

implemented_is : (p : Program) (s : Seen) (ts : List Ty)
    → filter (implements p s) (flat_map (λ (t : Ty). map (λ (m : ℕ). (t, m)) (methods_of p t)) ts) ≡ interfaces_implemented p s ts
implemented_is p s [] = refl
implemented_is p s (t ∷ ts) =
    filter_append (implements p s) (map (λ (m : ℕ). (t, m)) (methods_of p t)) (flat_map (λ (u : Ty). map (λ (m : ℕ). (u, m)) (methods_of p u)) ts)
    ∙ ap (λ (rest : List Seen). slots_implemented p s t (methods_of p t) ++ rest) (implemented_is p s ts)

once_append : (found xs ys : List Seen) → once found (xs ++ ys) ≡ once (once found xs) ys
once_append found [] ys = refl
once_append found (x ∷ xs) ys = once_append (if any (same_seen x) found then found else found ++ x ∷ []) xs ys

pub interfaces_end : (p : Program) (s : Seen) (k : ℕ) (found : List Seen) → length (interfaces_of p s.0) ≤ k
    → found ++ interfaces_implemented p s (drop k (interfaces_of p s.0)) ≡ interfaces_implemented p s (interfaces_of p s.0) → found ≡ implemented p s
interfaces_end p s k found over h = ended (interfaces_implemented p s) (interfaces_of p s.0) k found over refl h ∙ sym (implemented_is p s (interfaces_of p s.0))

pub once_on : (f : Seen → List Seen) (over found next : List Seen) (k : ℕ) (x : Seen) → k < length over → x ≡ get_or over k x
    → found ≡ once [] (flat_map f (take k over)) → next ≡ once found (f x) → next ≡ once [] (flat_map f (take (k + 1) over))
once_on f over found next k x below is before e =
    e
    ∙ ap (λ (ss : List Seen). once ss (f x)) before
    ∙ sym (once_append [] (flat_map f (take k over)) (f x))
    ∙ ap (once []) (flat_map_more f [] (take k over) x ∙ ap (flat_map f) (ap (λ (y : Seen). take k over ++ y ∷ []) is ∙ sym (take_more over k x below)))

pub once_end : (n : ℕ) (p : Program) (s : Seen) (over found final more : List Seen) (k : ℕ) → over ≡ by_row p s ++ by_name p s → length over ≤ k
    → found ≡ once [] (flat_map (sources_within n p) (take k over)) → more ≡ implemented p s ++ s ∷ [] → final ≡ once found more → final ≡ sources_within (suc n) p s
unfolding sources_within
once_end n p s over found final more k is over_all before e f =
    f
    ∙ ap (λ (ss : List Seen). once ss more) (before ∙ ap (λ (ss : List Seen). once [] (flat_map (sources_within n p) ss)) (take_all k over over_all ∙ is))
    ∙ ap (once (once [] (flat_map (sources_within n p) (by_row p s ++ by_name p s)))) e
    ∙ sym (once_append [] (flat_map (sources_within n p) (by_row p s ++ by_name p s)) (implemented p s ++ s ∷ []))
