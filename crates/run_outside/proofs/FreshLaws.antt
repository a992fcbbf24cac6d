-- The fields of new objects, one type of a chain after another.
use Rattle.std.proofs.Common.{◌≡◌, ◌∙◌, ap, append_assoc, refl, sym, ℕ, List, [], ◌∷◌, ◌++◌}
use Rattle.std.specs.Prelude.{map, filter, Option, Some, None}
use Rattle.cil_model.specs.declared.program.Program.{Program}
use Rattle.cil_model.specs.declared.ty.Ty.{Ty, out-Ty}
use Rattle.cil_semantics.specs.Lookups.{field_of, in_set, type_of}
use Rattle.cil_semantics.specs.Places.{default_cell, default_cells, field_types, layouts, own_fields, own_layout}
use Rattle.cil_semantics.specs.declared.Cell.{Cell}
use Rattle.cil_semantics.specs.Types.{under}
use Rattle.cil_semantics.specs.Words.{maybe}
use Rattle.run_values.proofs.LayoutLaws.{layouts_last}

map_append : {A B : Type 0} (f : A → B) (xs ys : List A) → map f (xs ++ ys) ≡ map f xs ++ map f ys
map_append f [] ys = refl
map_append f (x ∷ xs) ys = ap (λ zs. f x ∷ zs) (map_append f xs ys)

abbrev typed : Program → List (ℕ × Ty) → List Cell
typed p xs = default_cells p (map (λ (x : ℕ × Ty). x.1) xs)

typed_append : (p : Program) (xs ys : List (ℕ × Ty)) → typed p (xs ++ ys) ≡ typed p xs ++ typed p ys
typed_append p xs ys = ap (map (default_cell p)) (map_append (λ (x : ℕ × Ty). x.1) xs ys) ∙ map_append (default_cell p) (map (λ (x : ℕ × Ty). x.1) xs) (map (λ (x : ℕ × Ty). x.1) ys)

seconds : (p : Program) (args : List Ty) (fs : List ℕ) → map (λ (x : ℕ × Ty). x.1) (map (λ f. (f, under args [] (field_of p f).ty)) fs) ≡ map (λ f. under args [] (field_of p f).ty) fs
seconds p args [] = refl
seconds p args (f ∷ fs) = ap (λ ts. under args [] (field_of p f).ty ∷ ts) (seconds p args fs)

-- the types of the fields that a type has itself
own_types : (p : Program) (t : Ty) → map (λ (x : ℕ × Ty). x.1) (own_layout p t) ≡ field_types p t
unfolding field_types
own_types p t = cases (in_set (out-Ty t))
  where
    cases : (o : Option (ℕ × List Ty)) → map (λ (x : ℕ × Ty). x.1) (maybe [] (λ (d : ℕ × List Ty). map (λ f. (f, under d.1 [] (field_of p f).ty)) (own_fields p (type_of p d.0))) o) ≡ maybe [] (λ (d : ℕ × List Ty). map (λ f. under d.1 [] (field_of p f).ty) (own_fields p (type_of p d.0))) o
    cases None = refl
    cases (Some d) = seconds p d.1 (own_fields p (type_of p d.0))

-- one more type of the chain, from its end
pub one_link : (p : Program) (ts : List Ty) (t : Ty) → default_cells p (field_types p t) ++ default_cells p (map (λ (x : ℕ × Ty). x.1) (layouts p ts)) ≡ default_cells p (map (λ (x : ℕ × Ty). x.1) (layouts p (ts ++ t ∷ [])))
one_link p ts t =
    sym (ap (typed p) (layouts_last p ts t) ∙ typed_append p (own_layout p t) (layouts p ts)
    ∙ ap (λ cs. cs ++ typed p (layouts p ts)) (ap (default_cells p) (own_types p t)))

pub link_added : (p : Program) (ts : List Ty) (t : Ty) (own : List Ty) (old new : List Cell) → own ≡ field_types p t → new ≡ old ++ default_cells p own → new ++ default_cells p (map (λ (x : ℕ × Ty). x.1) (layouts p ts)) ≡ old ++ default_cells p (map (λ (x : ℕ × Ty). x.1) (layouts p (ts ++ t ∷ [])))
link_added p ts t own old new h e =
    ap (λ cs. cs ++ typed p (layouts p ts)) (e ∙ ap (λ us. old ++ default_cells p us) h)
    ∙ append_assoc old (default_cells p (field_types p t)) (typed p (layouts p ts))
    ∙ ap (λ cs. old ++ cs) (one_link p ts t)
