-- Types that are appended name no interface: each InterfaceImpl row is of an old type.
use Rattle.std.proofs.Common.{◌≡◌, ◌∙◌, sym, ap, refl, arith, ℕ, zero, suc, ◌<◌, ◌≤◌, Bool, false, List, [], ◌∷◌, ◌++◌, length}
use Rattle.std.specs.Prelude.{cond, filter, filter_map, map, slice_get, unwrap_or, ◌==◌, Option, Some, None}
use Rattle.std.proofs.lemmas.List.{length-map}
use Rattle.cil_base.specs.declared.tables.TheConstants.{INTERFACE_IMPL, TYPE_DEF}
use Rattle.cil_model.specs.declared.program.TypeDesc.{TypeDesc}
use Rattle.cil_semantics.specs.Lookups.{contract_exception}
use Rattle.set_rows.specs.Sets.{Assembly, Assemblies, count_in, cell, rows_in}
use Rattle.set_program.specs.Appended.{AllNamed}
use Rattle.set_program.specs.declared.identity.TypeId.{TypeId}
use Rattle.set_program.specs.declared.identity.TypeId.TheVariants.{Row, Outside}
use Rattle.set_program.specs.Attributes.{attribute_outside}
use Rattle.set_program.specs.Numbering.{type_ids}
use Rattle.set_program.specs.Environment.{types_of, ty_at}
use Rattle.row_descriptions.specs.RowLists.{rows_with}
use Rattle.descriptions.specs.Descriptions.{type_desc, type_row, outside_type}
use Rattle.descriptions.specs.Programs.{program_of}
use Rattle.machine_laws.specs.Answers.{NamesNone}
use Rattle.set_growth.specs.Grown.{IsGrown}
use Rattle.set_growth.specs.Orderly.{IsOrderly}
use Rattle.set_growth.proofs.FindLaws.{differs}
use Rattle.set_growth.proofs.GrowthLists.{Each}
use Rattle.set_growth.proofs.KeptTypeLaws.{IsNew, TypesGrow, types_grown}
use Rattle.program_growth.proofs.ProgramLaws.{map_got}
use Rattle.growth_premises.proofs.PlacedLaws.{each_got}

none_of : (test : ℕ → Bool) (l : List ℕ) → ((k : ℕ) → test k ≡ false) → filter test l ≡ []
none_of test [] h = refl
none_of test (k ∷ l) h = ap (λ (b : Bool). cond b (k ∷ filter test l) (filter test l)) (h k) ∙ none_of test l h

no_place : {A B : Type 0} (f : A → B) (xs : List A) (k : ℕ) → slice_get xs k ≡ None → slice_get (map f xs) k ≡ None
no_place f [] k e = refl
no_place f (x ∷ xs) zero e = absurd cc
no_place f (x ∷ xs) (suc k) e = no_place f xs k e

past_old : {A : Type 0} (P : A → Type 0) (old more : List A) (k : ℕ) (v : A) → length old ≤ k → Each P more → slice_get (old ++ more) k ≡ Some v → P v
past_old P [] more k v h all e = each_got P more k v all e
past_old P (x ∷ old) more zero v h all e = absurd (omega (arith, h))
past_old P (x ∷ old) more (suc k) v h all e = past_old P old more k v (omega (arith, h)) all e

module _ (x x' : Assembly) (xs : Assemblies) (grown : IsGrown x x') (orderly : IsOrderly x) (references : AllNamed (x ∷ xs)) (attributes : attribute_outside (x' ∷ xs) ≡ attribute_outside (x ∷ xs))
    (classes : (k : ℕ) → cell x INTERFACE_IMPL k 0 ≤ count_in x TYPE_DEF) where
  abbrev s : Assemblies
  s = x ∷ xs

  abbrev s' : Assemblies
  s' = x' ∷ xs

  more_types : TypesGrow (count_in x TYPE_DEF) (types_of s) (types_of s')
  unfolding types_of
  more_types =
      let g : TypesGrow (count_in x TYPE_DEF) (type_ids s (attribute_outside s)) (type_ids s' (attribute_outside s)) = types_grown x x' xs grown orderly references (attribute_outside s) in
      record { more = g.more; is = ap (type_ids s') attributes ∙ g.is; new = g.new }

  no_rows : (r : ℕ) → count_in x TYPE_DEF < r → rows_with x' INTERFACE_IMPL 0 r ≡ []
  no_rows r new =
      none_of (λ k. cell x' INTERFACE_IMPL k 0 == r) (rows_in x' INTERFACE_IMPL)
      (λ k. let low : cell x INTERFACE_IMPL k 0 ≤ count_in x TYPE_DEF = classes k in
      let same : cell x' INTERFACE_IMPL k 0 ≡ cell x INTERFACE_IMPL k 0 = grown.rows.same_cells INTERFACE_IMPL k 0 refl in
      differs (cell x' INTERFACE_IMPL k 0) r (λ e. omega (arith, e, same, low, new)))

  of_new : (id : TypeId) → IsNew (count_in x TYPE_DEF) id → (type_desc s' id).interfaces ≡ []
  unfolding type_row outside_type
  of_new (Outside name) h = refl
  of_new (Row zero r) h = ap (filter_map (λ k. ty_at s' 0 (cell x' INTERFACE_IMPL k 1))) (no_rows r h.1)
  of_new (Row (suc a) r) h = absurd (omega (arith, h.0))

  pub names_none : NamesNone (program_of s) (program_of s')
  unfolding program_of contract_exception
  names_none k past = go (slice_get (types_of s') k) refl
    where
      low : length (types_of s) ≤ k
      low = omega (arith, past, length-map (types_of s) (type_desc s))

      go : (o : Option TypeId) → slice_get (types_of s') k ≡ o → (unwrap_or (slice_get (map (type_desc s') (types_of s')) k) contract_exception).interfaces ≡ []
      go None e = ap (λ (o : Option TypeDesc). (unwrap_or o contract_exception).interfaces) (no_place (type_desc s') (types_of s') k e)
      go (Some id) e =
          ap (λ (o : Option TypeDesc). (unwrap_or o contract_exception).interfaces) (map_got (type_desc s') (types_of s') k id e)
          ∙ of_new id (past_old (IsNew (count_in x TYPE_DEF)) (types_of s) more_types.more k id low more_types.new (sym (ap (λ (l : List TypeId). slice_get l k) more_types.is) ∙ e))
