-- What a set names, by the rules that it keeps.
use Rattle.std.proofs.Common.{◌≡◌, ◌∙◌, sym, ap, refl, rules, ℕ, ◌≤◌, List, [], ◌∷◌, Bool, true, false}
use Rattle.std.specs.Prelude.{◌==◌, ◌&&◌, ◌||◌, nat_lt, nat_le, is_some, is_none, Option, Some, None, option_map, if◌then◌else◌}
use Rattle.cil_base.specs.declared.tables.TheConstants.{CUSTOM_ATTRIBUTE, MEMBER_REF, TYPE_DEF, TYPE_REF, TYPE_SPEC}
use Rattle.cil_base.specs.declared.rule.Rule.TheVariants.{N1, N2, N4, N6}
use Rattle.cil_base.specs.Refusals.{Test, first_of}
use Rattle.cli_sigs.specs.declared.types.SigTy.{SigTy}
use Rattle.set_rows.specs.Sets.{Assemblies, assembly_at, count_in, cell, blob, is_row}
use Rattle.set_types.specs.CodedIndexes.{tag, row_of}
use Rattle.set_types.specs.SignatureTypes.{ty_of}
use Rattle.set_signatures.specs.Blobs.{spec_sig}
use Rattle.set_program.specs.declared.identity.TypeId.TheVariants.{Row}
use Rattle.set_program.specs.References.{reference}
use Rattle.set_program.specs.Appended.{AllNamed}
use Rattle.set_program.specs.Attributes.{named_id, names_type, attribute_type}
use Rattle.set_program.specs.Environment.{coded_in, row_types, ty_by_id}
use Rattle.set_program.specs.TypeRules.{test}
use Rattle.member_table.specs.Members.{parent_index}
use Rattle.member_table.specs.MemberRules.{isnt_read, isnt_there, is_taken_at, miscounts_at, is_unfit, member_tests}
use Rattle.set_growth.proofs.FindLaws.{lt_from, le_from}
use Rattle.program_growth.specs.Rules.{IsTypeIndex, IsNamed}
use Rattle.growth_premises.specs.Rules.{KeepsRules, HasIndexes, is_type_index}

-- ---- tests of which none fails

pub no_first : (t : Test) (ts : List Test) → first_of (t ∷ ts) ≡ None → t.fails ≡ false
no_first t ts h = go t.fails h
  where
    go : (b : Bool) → (if b then Some t.refusal else first_of ts) ≡ None → b ≡ false
    go true e = absurd cc
    go false e = refl

pub no_later : (t : Test) (ts : List Test) → first_of (t ∷ ts) ≡ None → first_of ts ≡ None
no_later t ts h = go t.fails h
  where
    go : (b : Bool) → (if b then Some t.refusal else first_of ts) ≡ None → first_of ts ≡ None
    go true e = absurd cc
    go false e = e

pub is_there : {A : Type 0} (o : Option A) → is_none o ≡ false → is_some o ≡ true
is_there None h = absurd cc
is_there (Some v) h = refl

pub not_none : {A : Type 0} (o : Option A) → is_some o ≡ true → is_none o ≡ true → ⊥
not_none None h k = absurd cc
not_none (Some v) h k = absurd cc

pub mapped : {A B : Type 0} (f : A → B) (o : Option A) → is_some o ≡ true → is_some (option_map f o) ≡ true
mapped f None h = absurd cc
mapped f (Some v) h = refl

pub both_left : (b c : Bool) → (b && c) ≡ true → b ≡ true
both_left true c h = refl
both_left false c h = absurd cc

pub both_right : (b c : Bool) → (b && c) ≡ true → c ≡ true
both_right true c h = h
both_right false c h = absurd cc

is_zero : (n : ℕ) → (n == 0) ≡ true → n ≡ 0
is_zero n h = search (rules, h)

module _ (s : Assemblies) (kept : KeepsRules s) where
  pub all_named : AllNamed s
  all_named a row high low = is_there (reference s a row) (no_first (test N1 a TYPE_REF row (is_none (reference s a row))) [] (kept.types a TYPE_REF row low high))

  abbrev types_at : ℕ → ℕ → ℕ → List SigTy
  types_at a table row = row_types (assembly_at s a) table row

  abbrev read_test : ℕ → ℕ → ℕ → Test
  read_test a table row = test N1 a table row (isnt_read (coded_in s a) (types_at a table row))

  abbrev there_test : ℕ → ℕ → ℕ → Test
  there_test a table row = test N2 a table row (isnt_there s a table row)

  abbrev more_tests : ℕ → ℕ → ℕ → List Test
  more_tests a table row = test N4 a table row (is_taken_at s a table row) ∷ test N6 a table row (miscounts_at s a (types_at a table row) || is_unfit s a table row (types_at a table row)) ∷ []

  pub read : (a table row : ℕ) → 1 ≤ row → row ≤ count_in (assembly_at s a) table → isnt_read (coded_in s a) (row_types (assembly_at s a) table row) ≡ false
  unfolding member_tests
  read a table row low high = no_first (read_test a table row) (there_test a table row ∷ more_tests a table row) (kept.members a table row low high)

  pub there : (a table row : ℕ) → 1 ≤ row → row ≤ count_in (assembly_at s a) table → isnt_there s a table row ≡ false
  unfolding member_tests
  there a table row low high = no_first (there_test a table row) (more_tests a table row) (no_later (read_test a table row) (there_test a table row ∷ more_tests a table row) (kept.members a table row low high))

  -- a contract's attribute that names a type names one that is there
  pub attribute_there : (a k : ℕ) → 1 ≤ k → k ≤ count_in (assembly_at s a) CUSTOM_ATTRIBUTE → names_type s a k ≡ true → is_some (attribute_type s a k) ≡ true
  attribute_there a k low high is =
      is_there (attribute_type s a k)
      (sym (ap (λ (b : Bool). b && is_none (attribute_type s a k)) is)
      ∙ no_first (test N1 a CUSTOM_ATTRIBUTE k (names_type s a k && is_none (attribute_type s a k))) [] (kept.types a CUSTOM_ATTRIBUTE k low high))

  pub referenced : (a row : ℕ) → is_row (assembly_at s a) TYPE_REF row ≡ true → is_some (reference s a row) ≡ true
  referenced a row h = all_named a row (le_from row (count_in (assembly_at s a) TYPE_REF) (both_right (nat_lt 0 row) (nat_le row (count_in (assembly_at s a) TYPE_REF)) h)) (lt_from 0 row (both_left (nat_lt 0 row) (nat_le row (count_in (assembly_at s a) TYPE_REF)) h))

  -- an index that leads to a row names a type
  pub leads : (a coded : ℕ) → is_type_index (assembly_at s a) coded ≡ true → IsTypeIndex s a coded
  leads a coded h none = by_row (row_of coded == 0) refl h none
    where
      spec : (b : Bool) → is_row (assembly_at s a) TYPE_SPEC (row_of coded) ≡ b → (b && is_some (spec_sig (blob (assembly_at s a) TYPE_SPEC (row_of coded) 0))) ≡ true
          → is_some (option_map (ty_of (coded_in s a)) ((coded_in s a).spec (row_of coded))) ≡ true
      spec false e f = absurd cc
      spec true e f =
          mapped (ty_of (coded_in s a)) ((coded_in s a).spec (row_of coded))
          (ap (λ (b : Bool). is_some (if b then spec_sig (blob (assembly_at s a) TYPE_SPEC (row_of coded) 0) else None)) e ∙ f)

      by_id : (b c : Bool) → (if b then is_row (assembly_at s a) TYPE_DEF (row_of coded) else if c then is_row (assembly_at s a) TYPE_REF (row_of coded) else false) ≡ true
          → is_some (if b then (if is_row (assembly_at s a) TYPE_DEF (row_of coded) then Some (Row a (row_of coded)) else None) else if c then (if is_row (assembly_at s a) TYPE_REF (row_of coded) then reference s a (row_of coded) else None) else None) ≡ true
      by_id true c e = ap (λ (b : Bool). is_some (if b then Some (Row a (row_of coded)) else None)) e
      by_id false true e = ap (λ (b : Bool). is_some (if b then reference s a (row_of coded) else None)) e ∙ referenced a (row_of coded) e
      by_id false false e = absurd cc

      by_tag : (b : Bool) → (if b then is_row (assembly_at s a) TYPE_SPEC (row_of coded) && is_some (spec_sig (blob (assembly_at s a) TYPE_SPEC (row_of coded) 0)) else if tag coded == 0 then is_row (assembly_at s a) TYPE_DEF (row_of coded) else if tag coded == 1 then is_row (assembly_at s a) TYPE_REF (row_of coded) else false) ≡ true
          → is_some (if b then option_map (ty_of (coded_in s a)) ((coded_in s a).spec (row_of coded)) else (coded_in s a).named coded) ≡ true
      by_tag true e = spec (is_row (assembly_at s a) TYPE_SPEC (row_of coded)) refl e
      by_tag false e = mapped (ty_by_id s) (named_id s a coded) (by_id (tag coded == 0) (tag coded == 1) e)

      by_row : (z : Bool) → (row_of coded == 0) ≡ z
          → (if z then true else if tag coded == 2 then is_row (assembly_at s a) TYPE_SPEC (row_of coded) && is_some (spec_sig (blob (assembly_at s a) TYPE_SPEC (row_of coded) 0)) else if tag coded == 0 then is_row (assembly_at s a) TYPE_DEF (row_of coded) else if tag coded == 1 then is_row (assembly_at s a) TYPE_REF (row_of coded) else false) ≡ true
          → is_none (if z then None else if tag coded == 2 then option_map (ty_of (coded_in s a)) ((coded_in s a).spec (row_of coded)) else (coded_in s a).named coded) ≡ true
          → row_of coded ≡ 0
      by_row true e f g = is_zero (row_of coded) e
      by_row false e f g = absurd (not_none (if tag coded == 2 then option_map (ty_of (coded_in s a)) ((coded_in s a).spec (row_of coded)) else (coded_in s a).named coded) (by_tag (tag coded == 2) f) g)

  pub is_named : HasIndexes s → IsNamed s
  is_named indexes = record {
    references = all_named;
    read = read;
    there = there;
    field_blobs = indexes.field_blobs;
    method_blobs = indexes.method_blobs;
    bases = λ a row low high. leads a (cell (assembly_at s a) TYPE_DEF row 3) (indexes.bases a row low high);
    parents = λ a row low high is. leads a (parent_index (cell (assembly_at s a) MEMBER_REF row 0)) (indexes.parents a row low high is);
  }
