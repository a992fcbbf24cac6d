-- What the coded types of an assembly name has so many parameters.
use Rattle.std.proofs.Common.{◌≡◌, ◌∙◌, ap, refl, arith, ℕ, ◌*◌, ◌-◌, ◌<◌, ◌≤◌, List, get_or, Bool, true, false}
use Rattle.std.specs.Prelude.{Option, Some, None, map, if◌then◌else◌, nat_lt, nat_le, ◌&&◌, ◌==◌}
use Rattle.std.specs.List.{range_with_len}
use Rattle.std.proofs.lemmas.List.FromFn.{get_or-map-range_with_len, length-map-range_with_len}
use Rattle.std.proofs.lemmas.Simd.{map-map}
use Rattle.std.proofs.lemmas.Bool.{ltb-true, leb-true}
use Rattle.cil_base.specs.declared.tables.TheConstants.{TYPE_DEF, TYPE_REF}
use Rattle.set_rows.specs.Sets.{Assembly, Assemblies, assembly_at, count_in}
use Rattle.set_types.specs.CodedIndexes.{tag, row_of}
use Rattle.set_program.specs.declared.identity.TypeId.{TypeId}
use Rattle.set_program.specs.declared.identity.TypeId.TheVariants as id
use Rattle.set_program.specs.References.{reference}
use Rattle.set_program.specs.Attributes.{named_id}
use Rattle.set_program.specs.Kinds.{generics}
use Rattle.signature_rules.specs.declared.parameter_counts.ParameterCounts.{ParameterCounts}
use Rattle.signature_rules.specs.ParameterCounts.{count_at}
use Rattle.type_table.specs.Names.{AreReferences}
use Rattle.member_table.specs.MemberRules.{parameters_of}
use Rattle.member_rules.specs.Parameters.{AreParameters, reference_generics}

-- by rows from 1 on
row_count : (f : ℕ → Option ℕ) (l : List (Option ℕ)) (count row : ℕ) → l ≡ map f (range_with_len 1 count) → count_at l row ≡ (if nat_lt 0 row && nat_le row count then f row else None)
row_count f l count row h =
    ap (λ (m : List (Option ℕ)). count_at m row) h
    ∙ ap (λ (n : ℕ). if nat_lt 0 row && nat_le row n then get_or (map f (range_with_len 1 count)) (row - 1) None else None) (length-map-range_with_len f 1 count)
    ∙ within (nat_lt 0 row) (nat_le row count) refl refl
  where
    within : (b d : Bool) → nat_lt 0 row ≡ b → nat_le row count ≡ d → (if b && d then get_or (map f (range_with_len 1 count)) (row - 1) None else None) ≡ (if b && d then f row else None)
    within false d e g = refl
    within true false e g = refl
    within true true e g =
        let some : 0 < row = ltb-true 0 row e in
        let there : row ≤ count = leb-true row count g in
        get_or-map-range_with_len f 1 count (row - 1) row None (omega (arith, some, there)) (omega (arith, some))

module _ (s : Assemblies) (a : ℕ) where
  abbrev x : Assembly
  x = assembly_at s a

  of_named : (coded : ℕ) → reference_generics s (named_id s a coded) ≡ parameters_of s a coded
  of_named coded = refl

  joined : (first second here there : Bool) (row : ℕ) (r : Option TypeId)
      → (if first then (if here then Some (generics x (row * 2)) else None) else if second then (if there then reference_generics s r else None) else None)
      ≡ reference_generics s (if first then (if here then Some (id.Row a row) else None) else if second then (if there then r else None) else None)
  joined true second true there row r = refl
  joined true second false there row r = refl
  joined false true here true row r = refl
  joined false true here false row r = refl
  joined false false here there row r = refl

  pub are_parameters : (p : ParameterCounts) (n : ℕ) (references : List (Option TypeId)) → n ≡ count_in x TYPE_DEF → AreReferences s a references
      → p.defs.items ≡ map (λ row. Some (generics x (row * 2))) (range_with_len 1 n) → p.refs.items ≡ map (reference_generics s) references → AreParameters s a p
  are_parameters p n references is named defs refs coded =
      let row : ℕ = row_of coded in
      let by_row : p.defs.items ≡ map (λ row. Some (generics x (row * 2))) (range_with_len 1 (count_in x TYPE_DEF)) = defs ∙ ap (λ (m : ℕ). map (λ row. Some (generics x (row * 2))) (range_with_len 1 m)) is in
      let by_reference : p.refs.items ≡ map (λ row. reference_generics s (reference s a row)) (range_with_len 1 (count_in x TYPE_REF)) =
      refs ∙ ap (map (reference_generics s)) named ∙ map-map (reference_generics s) (reference s a) (range_with_len 1 (count_in x TYPE_REF)) in
      ap (λ (o : Option ℕ). if tag coded == 0 then o else if tag coded == 1 then count_at p.refs.items row else None) (row_count (λ k. Some (generics x (k * 2))) p.defs.items (count_in x TYPE_DEF) row by_row)
      ∙ ap (λ (o : Option ℕ). if tag coded == 0 then (if nat_lt 0 row && nat_le row (count_in x TYPE_DEF) then Some (generics x (row * 2)) else None) else if tag coded == 1 then o else None)
      (row_count (λ k. reference_generics s (reference s a k)) p.refs.items (count_in x TYPE_REF) row by_reference)
      ∙ joined (tag coded == 0) (tag coded == 1) (nat_lt 0 row && nat_le row (count_in x TYPE_DEF)) (nat_lt 0 row && nat_le row (count_in x TYPE_REF)) row (reference s a row)
      ∙ of_named coded
