-- The base of a core class, from a table of names.
use Rattle.std.proofs.Common.{◌≡◌, ◌∙◌, sym, ap, refl, List, [], ◌∷◌, Bool, true, false, cond}
use Rattle.std.specs.Prelude.{Option, Some, None, option_map, find, map, bytes_eq}
use Rattle.cil_model.specs.declared.ty.Ty.{Ty}
use Rattle.cil_semantics.specs.Core.{Name, core_classes}
use Rattle.look_ups.specs.CoreBases.{base_named}

find_mapped : {A B : Type 0} (f : A → B) (test : B → Bool) (xs : List A) → find test (map f xs) ≡ option_map f (find (λ x. test (f x)) xs)
find_mapped f test [] = refl
find_mapped {A} {B} f test (x ∷ xs) = go (test (f x)) (find_mapped f test xs)
  where
    go : (b : Bool) → find test (map f xs) ≡ option_map f (find (λ y. test (f y)) xs) → cond b (Some (f x)) (find test (map f xs)) ≡ option_map f (cond b (Some x) (find (λ y. test (f y)) xs))
    go true h = refl
    go false h = h

twice : {A B C : Type 0} (f : A → B) (g : B → C) (o : Option A) → option_map g (option_map f o) ≡ option_map (λ x. g (f x)) o
twice f g None = refl
twice f g (Some x) = refl

pub core_found : {A S : Type 0} (key val : A → Name) (text : S → Name) (rows : List A) (name : Name) (r : Option S)
    → option_map text r ≡ option_map val (find (λ row. bytes_eq (key row) name) rows)
    → map (λ row. (key row, base_named (val row))) rows ≡ core_classes
    → option_map (λ s. base_named (text s)) r ≡ option_map (λ (row : Name × Ty). row.1) (find (λ (row : Name × Ty). bytes_eq row.0 name) core_classes)
core_found {A} {S} key val text rows name r h e =
    sym (twice text base_named r)
    ∙ ap (option_map base_named) h
    ∙ twice val base_named (find (λ row. bytes_eq (key row) name) rows)
    ∙ sym (twice (λ (row : A). (key row, base_named (val row))) (λ (row : Name × Ty). row.1) (find (λ row. bytes_eq (key row) name) rows))
    ∙ ap (option_map (λ (row : Name × Ty). row.1)) (sym (find_mapped (λ (row : A). (key row, base_named (val row))) (λ (row : Name × Ty). bytes_eq row.0 name) rows))
    ∙ ap (λ (table : List (Name × Ty)). option_map (λ (row : Name × Ty). row.1) (find (λ (row : Name × Ty). bytes_eq row.0 name) table)) e
