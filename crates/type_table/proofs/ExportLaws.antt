-- Types inside one another, along a path of ExportedType rows or of names.
use Rattle.std.proofs.Common.{◌≡◌, ◌∙◌, sym, ◌++◌, ◌∷◌, [], ℕ, List, ap, refl}
use Rattle.std.specs.Prelude.{Option, Some, None, option_and_then, reverse, map}
use Rattle.set_names.specs.Names.{Name}
use Rattle.set_names.specs.Paths.{path_within}
use Rattle.set_rows.specs.Sets.{Assembly, Assemblies, assembly_at, count_in}
use Rattle.set_program.specs.declared.identity.TypeId.{TypeId}
use Rattle.set_program.specs.References.{inside, exported_name}
use Rattle.set_program.specs.Attributes.{inside_all}
use Rattle.set_program.specs.TypeRules.{outer_export, by_export_path, exported}
use Rattle.set_program.proofs.AlongLaws.{last_first}
use Rattle.cil_base.specs.declared.tables.TheConstants.{EXPORTED_TYPE}

module _ (s : Assemblies) where
  inside_none : (names : List Name) → inside_all s None names ≡ None
  inside_none [] = refl
  inside_none (name ∷ names) = inside_none names

  pub inside_stops : (found whole : Option TypeId) (names : List Name) → found ≡ None → inside_all s found names ≡ whole → None ≡ whole
  inside_stops found whole names e h = sym (inside_none names) ∙ ap (λ (o : Option TypeId). inside_all s o names) (sym e) ∙ h

  pub inside_goes : (found next whole : Option TypeId) (name : Name) (names : List Name) (outer : TypeId) → found ≡ Some outer → next ≡ inside s name outer
      → inside_all s found (name ∷ names) ≡ whole → inside_all s next names ≡ whole
  inside_goes found next whole name names outer e n h =
      ap (λ (o : Option TypeId). inside_all s o names) (n ∙ ap (option_and_then (inside s name)) (sym e)) ∙ h

  module _ (x : Assembly) where
    pub exports_go : (found next whole : Option TypeId) (rows left : List ℕ) (row : ℕ) (outer : TypeId) → rows ≡ left ++ row ∷ [] → found ≡ Some outer → next ≡ inside s (exported_name x row) outer
        → inside_all s found (map (exported_name x) (reverse rows)) ≡ whole → inside_all s next (map (exported_name x) (reverse left)) ≡ whole
    exports_go found next whole rows left row outer split e n h =
        inside_goes found next whole (exported_name x row) (map (exported_name x) (reverse left)) outer e n
        (ap (λ (l : List ℕ). inside_all s found (map (exported_name x) l)) (sym (last_first rows left row split)) ∙ h)

pub exported_is : (s : Assemblies) (a row : ℕ) (x : Assembly) (o : Option (List ℕ)) → assembly_at s a ≡ x → o ≡ path_within (outer_export x) (count_in x EXPORTED_TYPE) row → by_export_path s x o ≡ exported s a row
unfolding exported
exported_is s a row x o there e =
    ap (by_export_path s x) e ∙ ap (λ (y : Assembly). by_export_path s y (path_within (outer_export y) (count_in y EXPORTED_TYPE) row)) (sym there)
