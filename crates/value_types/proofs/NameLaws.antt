-- Names that are added one after another, and whether one is among them.
use Rattle.std.proofs.Common.{◌≡◌, ◌∙◌, sym, ap, refl, rules, List, [], ◌∷◌, ◌++◌, Bool, true, false, ◌||◌}
use Rattle.std.specs.Prelude.{bytes_eq, flat_map, is_some, if◌then◌else◌}
use Rattle.cil_semantics.specs.Core.{failure_kind}
use Rattle.set_names.specs.Names.{Name}
use Rattle.set_names.specs.Distinct.{among, added, distinct, place_of}
use Rattle.set_names.proofs.PlaceLaws.{among_place}
use Rattle.set_rows.specs.Sets.{Assemblies}
use Rattle.set_program.specs.Numbering.{order}
use Rattle.set_program.specs.Environment.{values_in, is_value}
use Rattle.value_types.specs.ValueNames.{value_names}

same_bytes : (a b : Name) → bytes_eq a b ≡ true → a ≡ b
same_bytes a b e = search (rules, e)

pub among_append : (q : Name) (l m : List Name) → among q (l ++ m) ≡ (among q l || among q m)
among_append q [] m = refl
among_append q (x ∷ l) m = ap (λ (b : Bool). bytes_eq q x || b) (among_append q l m) ∙ go (bytes_eq q x)
  where
    go : (b : Bool) → (b || (among q l || among q m)) ≡ ((b || among q l) || among q m)
    go true = refl
    go false = refl

or_false : (b : Bool) → (b || false) ≡ b
or_false true = refl
or_false false = refl

among_added : (q : Name) (names : List Name) (name : Name) → among q (added names name) ≡ (among q names || bytes_eq q name)
among_added q names name = go (among name names) refl
  where
    found : (b : Bool) → bytes_eq q name ≡ b → among name names ≡ true → among q names ≡ (among q names || b)
    found false e there = sym (or_false (among q names))
    found true e there =
        let here : among q names ≡ true = ap (λ (n : Name). among n names) (same_bytes q name e) ∙ there in
        here ∙ sym (ap (λ (c : Bool). c || true) here)

    go : (b : Bool) → among name names ≡ b → among q (if b then names else names ++ name ∷ []) ≡ (among q names || bytes_eq q name)
    go true e = found (bytes_eq q name) refl e
    go false e = among_append q names (name ∷ []) ∙ ap (λ (c : Bool). among q names || c) (or_false (bytes_eq q name))

pub among_distinct : (q : Name) (names l : List Name) → among q (distinct names l) ≡ (among q names || among q l)
among_distinct q names [] = sym (or_false (among q names))
among_distinct q names (name ∷ l) =
    among_distinct q (added names name) l ∙ ap (λ (b : Bool). b || among q l) (among_added q names name) ∙ go (among q names)
  where
    go : (b : Bool) → ((b || bytes_eq q name) || among q l) ≡ (b || (bytes_eq q name || among q l))
    go true = refl
    go false = refl

pub value_is : (s : Assemblies) (names : List Name) (name : Name) → names ≡ value_names s → is_some (place_of names name) ≡ is_value s name
unfolding value_names is_value
value_is s names name e =
    among_place names name 0 ∙ ap (among name) e ∙ among_distinct name [] (failure_kind ∷ flat_map (values_in s) (order s))
