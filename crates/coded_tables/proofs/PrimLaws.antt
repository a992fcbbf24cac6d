-- The types that are one byte in signatures, by name.
use Rattle.std.proofs.Common.{◌≡◌, ◌∙◌, sym, ap, refl, ℕ, List, [], ◌∷◌, Bool, true, false}
use Rattle.std.specs.Prelude.{cond, map, find, bytes_eq, option_map, Option, Some, None}
use Rattle.cil_semantics.specs.Core.{prim_names}
use Rattle.set_names.specs.Names.{Name}
use Rattle.set_program.specs.Environment.{prim_byte}

find_mapped : {A B : Type 0} (f : A → B) (test : B → Bool) (xs : List A) → find test (map f xs) ≡ option_map f (find (λ x. test (f x)) xs)
find_mapped f test [] = refl
find_mapped {A} {B} f test (x ∷ xs) = go (test (f x)) (find_mapped f test xs)
  where
    go : (b : Bool) → find test (map f xs) ≡ option_map f (find (λ y. test (f y)) xs) → cond b (Some (f x)) (find test (map f xs)) ≡ option_map f (cond b (Some x) (find (λ y. test (f y)) xs))
    go true h = refl
    go false h = h

twice : {A B C : Type 0} (f : A → B) (g : B → C) (o : Option A) → option_map g (option_map f o) ≡ option_map (λ x. g (f x)) o
twice f g None = refl
twice f g (Some x) = refl

pub prim_found : {A : Type 0} (byte : A → ℕ) (text : A → Name) (rows : List A) (name : Name) (r : Option ℕ)
    → r ≡ option_map byte (find (λ row. bytes_eq name (text row)) rows) → map (λ row. (byte row, text row)) rows ≡ prim_names → r ≡ prim_byte name
prim_found {A} byte text rows name r h e =
    h ∙ sym (twice (λ (row : A). (byte row, text row)) (λ (row : ℕ × Name). row.0) (find (λ row. bytes_eq name (text row)) rows))
    ∙ ap (option_map (λ (row : ℕ × Name). row.0)) (sym (find_mapped (λ (row : A). (byte row, text row)) (λ (row : ℕ × Name). bytes_eq name row.1) rows))
    ∙ ap (λ (table : List (ℕ × Name)). option_map (λ (row : ℕ × Name). row.0) (find (λ (row : ℕ × Name). bytes_eq name row.1) table)) e
