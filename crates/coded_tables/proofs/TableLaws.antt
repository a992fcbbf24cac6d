-- Lists by row, and the coded types that they hold.
use Rattle.std.proofs.Common.{◌≡◌, ◌∙◌, sym, ap, refl, ℕ, ◌-◌, ◌<◌, List, ◌++◌, length, get_or, Bool, true, false}
use Rattle.std.specs.Prelude.{◌==◌, map, slice_get, option_map, option_and_then, if◌then◌else◌, Option, Some, None}
use Rattle.cil_base.specs.declared.tables.TheConstants.{TYPE_DEF, TYPE_REF, TYPE_SPEC}
use Rattle.cil_model.specs.declared.ty.Ty.{Ty}
use Rattle.cli_sigs.specs.declared.types.SigTy.{SigTy}
use Rattle.set_rows.specs.Sets.{Assemblies, assembly_at, is_row, count_in, rows_in}
use Rattle.set_types.specs.declared.coded.CodedTypes.{CodedTypes}
use Rattle.set_types.specs.CodedTypes.{coded_of, named_row, number_row}
use Rattle.set_types.specs.CodedIndexes.{tag, row_of}
use Rattle.set_program.specs.declared.identity.TypeId.{TypeId}
use Rattle.set_program.specs.declared.identity.TypeId.TheVariants.{Row}
use Rattle.set_program.specs.References.{reference}
use Rattle.set_program.specs.Environment.{number_of, ty_by_id, coded_in}
use Rattle.type_table.specs.Names.{AreReferences}
use Rattle.coded_tables.specs.CodedAssemblies.{own_ty, own_number, reference_ty, reference_number, row_spec, AreByRow}
use Rattle.coded_tables.proofs.ListLaws.{at_row, at_some_row, map_twice}
use Rattle.coded_tables.proofs.NumberLaws.{row_numbered}

by_tags : {B : Type 0} (z p q : Bool) (d r own other : Option B) → (if z then None else d) ≡ own → (if z then None else r) ≡ other
    → (if z then None else if p then d else if q then r else None) ≡ (if p then own else if q then other else None)
by_tags true true q d r own other e f = e
by_tags true false true d r own other e f = f
by_tags true false false d r own other e f = refl
by_tags false true q d r own other e f = e
by_tags false false true d r own other e f = f
by_tags false false false d r own other e f = refl

through : {X Y : Type 0} (h : Option X → Option Y) → h None ≡ None → (p b q c : Bool) (x y : Option X)
    → (if p then (if b then h x else None) else if q then (if c then h y else None) else None) ≡ h (if p then (if b then x else None) else if q then (if c then y else None) else None)
through h none true true q c x y = refl
through h none true false q c x y = sym none
through h none false b true true x y = refl
through h none false b true false x y = sym none
through h none false b false c x y = sym none

module _ (s : Assemblies) (a : ℕ) (c : CodedTypes) (t : AreByRow s a c) (there : a < length s) where
  own_named : (row : ℕ) → (if row == 0 then None else slice_get c.defs (row - 1)) ≡ (if is_row (assembly_at s a) TYPE_DEF row then Some (own_ty s a row) else None)
  own_named row = ap (λ (l : List Ty). if row == 0 then None else slice_get l (row - 1)) t.defs ∙ at_row (own_ty s a) (count_in (assembly_at s a) TYPE_DEF) row

  own_numbered : (row : ℕ) → (if row == 0 then None else slice_get c.def_numbers (row - 1)) ≡ (if is_row (assembly_at s a) TYPE_DEF row then number_of s (Row a row) else None)
  own_numbered row =
      ap (λ (l : List ℕ). if row == 0 then None else slice_get l (row - 1)) t.def_numbers ∙ at_row (own_number s a) (count_in (assembly_at s a) TYPE_DEF) row ∙ row_numbered s a row there

  other_named : (row : ℕ) → (if row == 0 then None else get_or c.refs.items (row - 1) None) ≡ (if is_row (assembly_at s a) TYPE_REF row then reference_ty s a row else None)
  other_named row = ap (λ (l : List (Option Ty)). if row == 0 then None else get_or l (row - 1) None) t.refs ∙ at_some_row (reference_ty s a) (count_in (assembly_at s a) TYPE_REF) row

  other_numbered : (row : ℕ) → (if row == 0 then None else get_or c.ref_numbers.items (row - 1) None) ≡ (if is_row (assembly_at s a) TYPE_REF row then reference_number s a row else None)
  other_numbered row =
      ap (λ (l : List (Option ℕ)). if row == 0 then None else get_or l (row - 1) None) t.ref_numbers ∙ at_some_row (reference_number s a) (count_in (assembly_at s a) TYPE_REF) row

  spec_same : (row : ℕ) → (if row == 0 then None else get_or c.specs.items (row - 1) None) ≡ (if is_row (assembly_at s a) TYPE_SPEC row then row_spec (assembly_at s a) row else None)
  spec_same row = ap (λ (l : List (Option SigTy)). if row == 0 then None else get_or l (row - 1) None) t.specs ∙ at_some_row (row_spec (assembly_at s a)) (count_in (assembly_at s a) TYPE_SPEC) row

  named_same : (coded : ℕ) → named_row c coded ≡ (coded_in s a).named coded
  named_same coded =
      by_tags (row_of coded == 0) (tag coded == 0) (tag coded == 1) (slice_get c.defs (row_of coded - 1)) (get_or c.refs.items (row_of coded - 1) None)
      (if is_row (assembly_at s a) TYPE_DEF (row_of coded) then Some (own_ty s a (row_of coded)) else None)
      (if is_row (assembly_at s a) TYPE_REF (row_of coded) then reference_ty s a (row_of coded) else None)
      (own_named (row_of coded)) (other_named (row_of coded))
      ∙ through (option_map (ty_by_id s)) refl (tag coded == 0) (is_row (assembly_at s a) TYPE_DEF (row_of coded)) (tag coded == 1) (is_row (assembly_at s a) TYPE_REF (row_of coded)) (Some (Row a (row_of coded))) (reference s a (row_of coded))

  number_same : (coded : ℕ) → number_row c coded ≡ (coded_in s a).number coded
  number_same coded =
      by_tags (row_of coded == 0) (tag coded == 0) (tag coded == 1) (slice_get c.def_numbers (row_of coded - 1)) (get_or c.ref_numbers.items (row_of coded - 1) None)
      (if is_row (assembly_at s a) TYPE_DEF (row_of coded) then number_of s (Row a (row_of coded)) else None)
      (if is_row (assembly_at s a) TYPE_REF (row_of coded) then reference_number s a (row_of coded) else None)
      (own_numbered (row_of coded)) (other_numbered (row_of coded))
      ∙ through (option_and_then (number_of s)) refl (tag coded == 0) (is_row (assembly_at s a) TYPE_DEF (row_of coded)) (tag coded == 1) (is_row (assembly_at s a) TYPE_REF (row_of coded)) (Some (Row a (row_of coded))) (reference s a (row_of coded))

  pub tables_same : coded_of c ≡ coded_in s a
  tables_same = λ i. record {
    named = λ coded. named_same coded i;
    number = λ coded. number_same coded i;
    spec = λ row. spec_same row i;
  }

-- ---- what TypeRef rows name

module _ (t s : Assemblies) (a : ℕ) (refs : List (Option TypeId)) (same : s ≡ t) (h : AreReferences s a refs) where
  pub types_noted : (old now : List (Option Ty)) → now ≡ old ++ map (option_map (ty_by_id t)) refs → now ≡ old ++ map (reference_ty s a) (rows_in (assembly_at s a) TYPE_REF)
  types_noted old now e =
      e ∙ ap (λ (u : Assemblies). old ++ map (option_map (ty_by_id u)) refs) (sym same) ∙ ap (λ (l : List (Option TypeId)). old ++ map (option_map (ty_by_id s)) l) h
      ∙ ap (λ (l : List (Option Ty)). old ++ l) (map_twice (option_map (ty_by_id s)) (reference s a) (rows_in (assembly_at s a) TYPE_REF))

  pub numbers_noted : (old now : List (Option ℕ)) → now ≡ old ++ map (option_and_then (number_of t)) refs → now ≡ old ++ map (reference_number s a) (rows_in (assembly_at s a) TYPE_REF)
  numbers_noted old now e =
      e ∙ ap (λ (u : Assemblies). old ++ map (option_and_then (number_of u)) refs) (sym same) ∙ ap (λ (l : List (Option TypeId)). old ++ map (option_and_then (number_of s)) l) h
      ∙ ap (λ (l : List (Option ℕ)). old ++ l) (map_twice (option_and_then (number_of s)) (reference s a) (rows_in (assembly_at s a) TYPE_REF))
