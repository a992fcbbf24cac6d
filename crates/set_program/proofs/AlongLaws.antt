-- Types inside one another, along a path.
use Rattle.std.proofs.Common.{◌≡◌, ◌∙◌, sym, ◌++◌, ◌∷◌, [], ℕ, List, ap, refl, subst}
use Rattle.std.specs.Prelude.{Option, Some, None, Result, IfOk, option_and_then, reverse}
use Rattle.set_names.specs.Paths.{path_within}
use Rattle.set_program.specs.declared.identity.TypeId.{TypeId}
use Rattle.set_rows.specs.Sets.{Assembly, Assemblies, assembly_at, count_in}
use Rattle.set_program.specs.TypeNames.{own_name}
use Rattle.set_program.specs.References.{inside, along, outer_reference, by_path, reference_in, reference}
use Rattle.cil_base.specs.declared.tables.TheConstants.{TYPE_REF}
use Rattle.std.proofs.lemmas.List.{reverse-append}

-- the last of a list is the first from behind
pub last_first : (rows left : List ℕ) (row : ℕ) → rows ≡ left ++ row ∷ [] → reverse rows ≡ row ∷ reverse left
last_first rows left row e = ap reverse e ∙ reverse-append left (row ∷ [])

module _ (s : Assemblies) (x : Assembly) where
  along_none : (rows : List ℕ) → along s x None rows ≡ None
  along_none [] = refl
  along_none (row ∷ rows) = along_none rows

  pub along_stops : (found whole : Option TypeId) (rows : List ℕ) → found ≡ None → along s x found rows ≡ whole → None ≡ whole
  along_stops found whole rows e h = sym (along_none rows) ∙ ap (λ (o : Option TypeId). along s x o rows) (sym e) ∙ h

  pub along_goes : (found next whole : Option TypeId) (rows left : List ℕ) (row : ℕ) (outer : TypeId) → rows ≡ left ++ row ∷ [] → found ≡ Some outer → next ≡ inside s (own_name x TYPE_REF row) outer
      → along s x found (reverse rows) ≡ whole → along s x next (reverse left) ≡ whole
  along_goes found next whole rows left row outer split e n h =
      ap (λ (o : Option TypeId). along s x o (reverse left)) (n ∙ ap (option_and_then (inside s (own_name x TYPE_REF row))) (sym e))
      ∙ ap (along s x found) (sym (last_first rows left row split))
      ∙ h

pub reference_is : (s : Assemblies) (a row : ℕ) (x : Assembly) (o : Option (List ℕ)) → assembly_at s a ≡ x → o ≡ path_within (outer_reference x) (count_in x TYPE_REF) row → by_path s a x o ≡ reference s a row
unfolding reference
reference_is s a row x o there e = ap (by_path s a x) e ∙ ap (λ (y : Assembly). reference_in s a y row) (sym there)

pub if_ok_is : {A E : Type 0} (r : Result A E) (x y : A) → x ≡ y → IfOk r (λ id. id ≡ x) → IfOk r (λ id. id ≡ y)
if_ok_is r x y e h = subst (λ z. IfOk r (λ id. id ≡ z)) e h
