-- What coded indexes and attributes name.
use Rattle.std.proofs.Common.{◌≡◌, ◌∙◌, sym, ap, refl, arith, rules, ℕ, zero, suc, ◌-◌, ◌≤◌, List, length, get_or, Bool, true, false}
use Rattle.std.specs.Prelude.{Option, Some, None, map, ◌==◌, ◌&&◌, nat_lt, nat_le, option_and_then, if◌then◌else◌}
use Rattle.std.specs.List.{range_with_len}
use Rattle.std.proofs.Math.ListN.{get_or-eq_default}
use Rattle.std.proofs.lemmas.List.FromFn.{get_or-map-range_with_len, length-map-range_with_len}
use Rattle.cil_base.specs.declared.tables.TheConstants.{CUSTOM_ATTRIBUTE, TYPE_DEF, TYPE_REF}
use Rattle.set_names.specs.Names.{Name}
use Rattle.set_rows.specs.Sets.{Assembly, Assemblies, no_assembly, assembly_at, is_row, count_in, blob}
use Rattle.set_types.specs.CodedIndexes.{tag, row_of}
use Rattle.set_signatures.specs.Blobs.{attribute_text}
use Rattle.set_program.specs.declared.identity.TypeId.{TypeId}
use Rattle.set_program.specs.declared.identity.TypeId.TheVariants.{Row}
use Rattle.set_program.specs.TypeNames.{full_name}
use Rattle.set_program.specs.References.{reference}
use Rattle.set_program.specs.Attributes.{named_id, name_of, text_type, attribute_type}
use Rattle.set_program.proofs.RowLaws.{no_name, no_row_zero, no_row_past}
use Rattle.type_table.specs.Names.{AreReferences, reference_in}

no_types : count_in no_assembly TYPE_DEF ≡ 0
unfolding no_assembly
no_types = refl

pub name_past : (s : Assemblies) (a row : ℕ) → length s ≤ a → None ≡ full_name (assembly_at s a) row
name_past s a zero h = no_row_zero (assembly_at s a) 0 refl
name_past s a (suc row) h =
    let none : count_in (assembly_at s a) TYPE_DEF ≡ 0 = ap (λ (x : Assembly). count_in x TYPE_DEF) (get_or-eq_default s no_assembly h) ∙ no_types in
    no_row_past (assembly_at s a) (suc row) (omega (arith, none))

-- ---- TypeDef and TypeRef indexes

module _ (s : Assemblies) (a coded : ℕ) where
  own_named : (x : Assembly) → assembly_at s a ≡ x → tag coded ≡ 0 → full_name x (row_of coded) ≡ name_of s (named_id s a coded)
  own_named x there e =
      ap (λ (y : Assembly). full_name y (row_of coded)) (sym there)
      ∙ go (is_row (assembly_at s a) TYPE_DEF (row_of coded)) refl
      ∙ ap (λ (t : ℕ). name_of s (if t == 0 then own else if t == 1 then other else None)) (sym e)
    where
      own : Option TypeId
      own = if is_row (assembly_at s a) TYPE_DEF (row_of coded) then Some (Row a (row_of coded)) else None

      other : Option TypeId
      other = if is_row (assembly_at s a) TYPE_REF (row_of coded) then reference s a (row_of coded) else None

      go : (b : Bool) → is_row (assembly_at s a) TYPE_DEF (row_of coded) ≡ b → full_name (assembly_at s a) (row_of coded) ≡ name_of s (if b then Some (Row a (row_of coded)) else None)
      go true e = refl
      go false e = sym (no_name (assembly_at s a) (row_of coded) e)

  pub own_coded : (x : Assembly) (o : Option Name) → assembly_at s a ≡ x → o ≡ full_name x (row_of coded) → tag coded ≡ 0 → o ≡ name_of s (named_id s a coded)
  own_coded x o there e t = e ∙ own_named x there t

  refs_are : (refs : List (Option TypeId)) (row : ℕ) → AreReferences s a refs → reference_in refs row ≡ (if is_row (assembly_at s a) TYPE_REF row then reference s a row else None)
  refs_are refs zero h = refl
  refs_are refs (suc row) h =
      let isnt : (suc row == 0) ≡ false = search rules in
      let place : suc row - 1 ≡ row = omega arith in
      ap (λ (b : Bool). if b then None else get_or refs (suc row - 1) None) isnt ∙ ap (λ (m : ℕ). get_or refs m None) place
      ∙ ap (λ (l : List (Option TypeId)). get_or l row None) h ∙ go (is_row (assembly_at s a) TYPE_REF (suc row)) refl
    where
      second : (p q : Bool) → (p && q) ≡ true → q ≡ true
      second true q e = e
      second false q e = absurd cc

      other_false : (p q : Bool) → p ≡ true → (p && q) ≡ false → q ≡ false
      other_false true q f e = e
      other_false false q f e = absurd cc

      go : (b : Bool) → is_row (assembly_at s a) TYPE_REF (suc row) ≡ b → get_or (map (reference s a) (range_with_len 1 (count_in (assembly_at s a) TYPE_REF))) row None ≡ (if b then reference s a (suc row) else None)
      go true e =
          let test : nat_le (suc row) (count_in (assembly_at s a) TYPE_REF) ≡ true = second (nat_lt 0 (suc row)) (nat_le (suc row) (count_in (assembly_at s a) TYPE_REF)) e in
          let in_range : suc row ≤ count_in (assembly_at s a) TYPE_REF = search (rules, test) in
          get_or-map-range_with_len (reference s a) 1 (count_in (assembly_at s a) TYPE_REF) row (suc row) None (omega (arith, in_range)) (omega arith)
      go false e =
          let some : nat_lt 0 (suc row) ≡ true = search rules in
          let test : nat_le (suc row) (count_in (assembly_at s a) TYPE_REF) ≡ false = other_false (nat_lt 0 (suc row)) (nat_le (suc row) (count_in (assembly_at s a) TYPE_REF)) some e in
          let past : suc row ≤ count_in (assembly_at s a) TYPE_REF → ⊥ = λ l. search (rules, test, l) in
          get_or-eq_default (map (reference s a) (range_with_len 1 (count_in (assembly_at s a) TYPE_REF))) None (omega (arith, past, length-map-range_with_len (reference s a) 1 (count_in (assembly_at s a) TYPE_REF)))

  pub other_coded : (refs : List (Option TypeId)) (o : Option TypeId) → AreReferences s a refs → tag coded ≡ 1 → reference_in refs (row_of coded) ≡ o → name_of s o ≡ name_of s (named_id s a coded)
  other_coded refs o h t e =
      ap (name_of s) (sym e ∙ refs_are refs (row_of coded) h)
      ∙ ap (λ (n : ℕ). name_of s (if n == 0 then own else if n == 1 then other else None)) (sym t)
    where
      own : Option TypeId
      own = if is_row (assembly_at s a) TYPE_DEF (row_of coded) then Some (Row a (row_of coded)) else None

      other : Option TypeId
      other = if is_row (assembly_at s a) TYPE_REF (row_of coded) then reference s a (row_of coded) else None

-- ---- attributes that name a type

pub attribute_is : (s : Assemblies) (a row : ℕ) (x : Assembly) (o : Option (List ℕ)) → assembly_at s a ≡ x → o ≡ attribute_text (blob x CUSTOM_ATTRIBUTE row 2) → option_and_then (text_type s a) o ≡ attribute_type s a row
unfolding attribute_type
attribute_is s a row x o there e =
    ap (option_and_then (text_type s a)) (e ∙ ap (λ (y : Assembly). attribute_text (blob y CUSTOM_ATTRIBUTE row 2)) (sym there))
