-- TypeDefOrRef and MethodDefOrRef indexes of the rows of an assembly that is read, and its MemberRef and CustomAttribute rows.
use Rattle.std.proofs.Common.{◌≡◌, ◌∙◌, sym, ap, refl, subst, arith, ℕ, zero, suc, ◌+◌, ◌*◌, ◌<◌, ◌≤◌, Bool, true, false, ◌⊎◌, inl, inr}
use Rattle.std.specs.Prelude.{◌==◌, ◌&&◌, ◌||◌, ◌/◌, ◌%◌, is_some, Some, if◌then◌else◌}
use Rattle.std.proofs.lemmas.Bool.{eqb-true, cases_lt}
use Rattle.cil_base.specs.declared.tables.TheConstants.{CUSTOM_ATTRIBUTE, INTERFACE_IMPL, MEMBER_REF, METHOD_DEF, METHOD_IMPL, METHOD_SPEC, TYPE_DEF, TYPE_REF, TYPE_SPEC}
use Rattle.cli_tables.specs.declared.schema.CodedIndex.TheVariants.{TypeDefOrRef, MemberRefParent, MethodDefOrRef, CustomAttributeType}
use Rattle.cli_tables.specs.declared.schema.Column.TheVariants.{Coded}
use Rattle.cli_tables.specs.Schema.{the_tables, table_of_tag}
use Rattle.set_rows.specs.Sets.{Assembly, count_in, cell, blob, is_row}
use Rattle.set_signatures.specs.Blobs.{spec_sig}
use Rattle.set_types.specs.CodedIndexes.{tag, row_of}
use Rattle.member_table.specs.Members.{is_type, parent_index}
use Rattle.growth_premises.specs.Attributes.{HasAttributes}
use Rattle.growth_premises.specs.Rules.{is_type_index, is_method_index}
use Rattle.growth_rules.specs.Reading.{IsRead, IsWithin, LeadsTo}
use Rattle.growth_rules.proofs.IndexLaws.{leads_on, any_row, of_coded, row_is}

-- each TypeSpec row has a signature in the grammar
abbrev pub AreSpecs : Assembly → Type 0
AreSpecs x = (row : ℕ) → 1 ≤ row → row ≤ count_in x TYPE_SPEC → is_some (spec_sig (blob x TYPE_SPEC row 0)) ≡ true

not_zero : (n : ℕ) → (n == 0) ≡ false → 1 ≤ n
not_zero n e = go (cases_lt n 1)
  where
    go : (n < 1) ⊎ (1 ≤ n) → 1 ≤ n
    go (inl l) = let none : n ≡ 0 = omega (arith, l) in absurd (let wrong : true ≡ false = ap (λ (m : ℕ). m == 0) (sym none) ∙ e in cc)
    go (inr l) = l

module _ (x : Assembly) (read : IsRead x) where
  -- ---- TypeDefOrRef indexes

  abbrev type_index_by : ℕ → ℕ → Bool
  type_index_by t row =
      if row == 0 then true
      else if t == 2 then is_row x TYPE_SPEC row && is_some (spec_sig (blob x TYPE_SPEC row 0))
      else if t == 0 then is_row x TYPE_DEF row
      else if t == 1 then is_row x TYPE_REF row
      else false

  module _ (specs : AreSpecs x) where
    by_tag : (t row : ℕ) → t < 4 → IsWithin x (table_of_tag TypeDefOrRef t) row → type_index_by t row ≡ true
    by_tag t row few leads = go (row == 0) refl
      where
        some : (t : ℕ) → t < 4 → IsWithin x (table_of_tag TypeDefOrRef t) row → 1 ≤ row
            → (if t == 2 then is_row x TYPE_SPEC row && is_some (spec_sig (blob x TYPE_SPEC row 0)) else if t == 0 then is_row x TYPE_DEF row else if t == 1 then is_row x TYPE_REF row else false) ≡ true
        some zero f within low = row_is x TYPE_DEF row low within
        some (suc zero) f within low = row_is x TYPE_REF row low within
        some (suc (suc zero)) f within low = ap (λ (b : Bool). b && is_some (spec_sig (blob x TYPE_SPEC row 0))) (row_is x TYPE_SPEC row low within) ∙ specs row low within
        some (suc (suc (suc zero))) f within low = absurd within
        some (suc (suc (suc (suc t)))) f within low = absurd (omega (arith, f))

        go : (b : Bool) → (row == 0) ≡ b → (if b then true else if t == 2 then is_row x TYPE_SPEC row && is_some (spec_sig (blob x TYPE_SPEC row 0)) else if t == 0 then is_row x TYPE_DEF row else if t == 1 then is_row x TYPE_REF row else false) ≡ true
        go true e = refl
        go false e = some t few leads (not_zero row e)

    pub type_index : (v : ℕ) → LeadsTo x (Coded TypeDefOrRef) v → is_type_index x v ≡ true
    type_index v leads = by_tag (tag v) (row_of v) (omega arith) leads

    base_at : (row : ℕ) → 1 ≤ row → row ≤ count_in x TYPE_DEF → LeadsTo x (Coded TypeDefOrRef) (cell x TYPE_DEF row 3)
    unfolding the_tables
    base_at row low high = leads_on x read TYPE_DEF row 3 low high (omega arith)

    pub bases : (row : ℕ) → 1 ≤ row → row ≤ count_in x TYPE_DEF → is_type_index x (cell x TYPE_DEF row 3) ≡ true
    bases row low high = type_index (cell x TYPE_DEF row 3) (base_at row low high)

    interface_at : (row : ℕ) → 1 ≤ row → row ≤ count_in x INTERFACE_IMPL → LeadsTo x (Coded TypeDefOrRef) (cell x INTERFACE_IMPL row 1)
    unfolding the_tables
    interface_at row low high = leads_on x read INTERFACE_IMPL row 1 low high (omega arith)

    pub interfaces : (row : ℕ) → 1 ≤ row → row ≤ count_in x INTERFACE_IMPL → is_type_index x (cell x INTERFACE_IMPL row 1) ≡ true
    interfaces row low high = type_index (cell x INTERFACE_IMPL row 1) (interface_at row low high)

    -- ---- parents

    parent_leads : (row : ℕ) → 1 ≤ row → row ≤ count_in x MEMBER_REF → LeadsTo x (Coded MemberRefParent) (cell x MEMBER_REF row 0)
    unfolding the_tables
    parent_leads row low high = leads_on x read MEMBER_REF row 0 low high (omega arith)

    at_index : (v t row : ℕ) → tag v ≡ t → row_of v ≡ row → type_index_by t row ≡ true → is_type_index x v ≡ true
    at_index v t row e f h = ap (λ (u : ℕ). type_index_by u (row_of v)) e ∙ ap (type_index_by t) f ∙ h

    parent_by : (p : ℕ) → is_type p ≡ true → LeadsTo x (Coded MemberRefParent) p → is_type_index x (parent_index p) ≡ true
    parent_by p is leads = go (p % 8) refl leads
      where
        -- the index of a TypeSpec row, or of a row by the tag
        to_index : (b : Bool) (t : ℕ) → (p % 8 == 4) ≡ b → p % 8 ≡ t → ℕ
        to_index b t e f = if b then p / 8 * 4 + 2 else p / 8 * 4 + t

        go : (t : ℕ) → p % 8 ≡ t → IsWithin x (table_of_tag MemberRefParent (p % 8)) (p / 8) → is_type_index x (parent_index p) ≡ true
        go zero e within =
            ap (is_type_index x) (ap (λ (u : ℕ). if u == 4 then p / 8 * 4 + 2 else p / 8 * 4 + u) e)
            ∙ at_index (p / 8 * 4 + 0) 0 (p / 8) (omega arith) (omega arith) (by_tag 0 (p / 8) (omega arith) (subst (λ (u : ℕ). IsWithin x (table_of_tag MemberRefParent u) (p / 8)) e within))
        go (suc zero) e within =
            ap (is_type_index x) (ap (λ (u : ℕ). if u == 4 then p / 8 * 4 + 2 else p / 8 * 4 + u) e)
            ∙ at_index (p / 8 * 4 + 1) 1 (p / 8) (omega arith) (omega arith) (by_tag 1 (p / 8) (omega arith) (subst (λ (u : ℕ). IsWithin x (table_of_tag MemberRefParent u) (p / 8)) e within))
        go (suc (suc (suc (suc zero)))) e within =
            ap (is_type_index x) (ap (λ (u : ℕ). if u == 4 then p / 8 * 4 + 2 else p / 8 * 4 + u) e)
            ∙ at_index (p / 8 * 4 + 2) 2 (p / 8) (omega arith) (omega arith) (by_tag 2 (p / 8) (omega arith) (subst (λ (u : ℕ). IsWithin x (table_of_tag MemberRefParent u) (p / 8)) e within))
        go (suc (suc zero)) e within = absurd (let wrong : false ≡ true = sym (ap (λ (u : ℕ). (u == 0) || ((u == 1) || (u == 4))) e) ∙ is in cc)
        go (suc (suc (suc zero))) e within = absurd (let wrong : false ≡ true = sym (ap (λ (u : ℕ). (u == 0) || ((u == 1) || (u == 4))) e) ∙ is in cc)
        go (suc (suc (suc (suc (suc zero))))) e within = absurd (let wrong : false ≡ true = sym (ap (λ (u : ℕ). (u == 0) || ((u == 1) || (u == 4))) e) ∙ is in cc)
        go (suc (suc (suc (suc (suc (suc zero)))))) e within = absurd (let wrong : false ≡ true = sym (ap (λ (u : ℕ). (u == 0) || ((u == 1) || (u == 4))) e) ∙ is in cc)
        go (suc (suc (suc (suc (suc (suc (suc zero))))))) e within = absurd (let wrong : false ≡ true = sym (ap (λ (u : ℕ). (u == 0) || ((u == 1) || (u == 4))) e) ∙ is in cc)
        go (suc (suc (suc (suc (suc (suc (suc (suc t)))))))) e within = absurd (omega (arith, e))

    pub parents : (row : ℕ) → 1 ≤ row → row ≤ count_in x MEMBER_REF → is_type (cell x MEMBER_REF row 0) ≡ true → is_type_index x (parent_index (cell x MEMBER_REF row 0)) ≡ true
    parents row low high is = parent_by (cell x MEMBER_REF row 0) is (parent_leads row low high)

  -- ---- MethodDefOrRef indexes

  pub method_index : (v : ℕ) → LeadsTo x (Coded MethodDefOrRef) v → is_method_index x v ≡ true
  method_index v leads = go (v / 2 == 0) refl
    where
      some : (t : ℕ) → t < 2 → IsWithin x (table_of_tag MethodDefOrRef t) (v / 2) → 1 ≤ v / 2 → (if t == 0 then is_row x METHOD_DEF (v / 2) else is_row x MEMBER_REF (v / 2)) ≡ true
      some zero f within low = row_is x METHOD_DEF (v / 2) low within
      some (suc zero) f within low = row_is x MEMBER_REF (v / 2) low within
      some (suc (suc t)) f within low = absurd (omega (arith, f))

      go : (b : Bool) → (v / 2 == 0) ≡ b → (if b then true else if v % 2 == 0 then is_row x METHOD_DEF (v / 2) else is_row x MEMBER_REF (v / 2)) ≡ true
      go true e = refl
      go false e = some (v % 2) (omega arith) leads (not_zero (v / 2) e)

  body_at : (row : ℕ) → 1 ≤ row → row ≤ count_in x METHOD_IMPL → LeadsTo x (Coded MethodDefOrRef) (cell x METHOD_IMPL row 1)
  unfolding the_tables
  body_at row low high = leads_on x read METHOD_IMPL row 1 low high (omega arith)

  declaration_at : (row : ℕ) → 1 ≤ row → row ≤ count_in x METHOD_IMPL → LeadsTo x (Coded MethodDefOrRef) (cell x METHOD_IMPL row 2)
  unfolding the_tables
  declaration_at row low high = leads_on x read METHOD_IMPL row 2 low high (omega arith)

  instance_at : (row : ℕ) → 1 ≤ row → row ≤ count_in x METHOD_SPEC → LeadsTo x (Coded MethodDefOrRef) (cell x METHOD_SPEC row 0)
  unfolding the_tables
  instance_at row low high = leads_on x read METHOD_SPEC row 0 low high (omega arith)

  pub bodies : (row : ℕ) → 1 ≤ row → row ≤ count_in x METHOD_IMPL → is_method_index x (cell x METHOD_IMPL row 1) ≡ true
  bodies row low high = method_index (cell x METHOD_IMPL row 1) (body_at row low high)

  pub declarations : (row : ℕ) → 1 ≤ row → row ≤ count_in x METHOD_IMPL → is_method_index x (cell x METHOD_IMPL row 2) ≡ true
  declarations row low high = method_index (cell x METHOD_IMPL row 2) (declaration_at row low high)

  pub instances : (row : ℕ) → 1 ≤ row → row ≤ count_in x METHOD_SPEC → is_method_index x (cell x METHOD_SPEC row 0) ≡ true
  instances row low high = method_index (cell x METHOD_SPEC row 0) (instance_at row low high)

  -- ---- constructors of attributes, and parents

  constructor_at : (row : ℕ) → 1 ≤ row → row ≤ count_in x CUSTOM_ATTRIBUTE → LeadsTo x (Coded CustomAttributeType) (cell x CUSTOM_ATTRIBUTE row 1)
  unfolding the_tables
  constructor_at row low high = leads_on x read CUSTOM_ATTRIBUTE row 1 low high (omega arith)

  parent_at : (row : ℕ) → 1 ≤ row → row ≤ count_in x MEMBER_REF → LeadsTo x (Coded MemberRefParent) (cell x MEMBER_REF row 0)
  unfolding the_tables
  parent_at row low high = leads_on x read MEMBER_REF row 0 low high (omega arith)

  constructors_of : (k t table : ℕ) → table_of_tag CustomAttributeType t ≡ Some table → (cell x CUSTOM_ATTRIBUTE k 1 % 8 == t) ≡ true → cell x CUSTOM_ATTRIBUTE k 1 / 8 ≤ count_in x table
  constructors_of k t table e =
      any_row x read (λ v. (v % 8 == t) ≡ true → v / 8 ≤ count_in x table) CUSTOM_ATTRIBUTE k 1 (λ f. omega arith)
      (λ low high f. of_coded x read CustomAttributeType (cell x CUSTOM_ATTRIBUTE k 1) t table e (eqb-true (cell x CUSTOM_ATTRIBUTE k 1 % 8) t f) (constructor_at k low high))

  parents_of : (row t table : ℕ) → table_of_tag MemberRefParent t ≡ Some table → (cell x MEMBER_REF row 0 % 8 == t) ≡ true → cell x MEMBER_REF row 0 / 8 ≤ count_in x table
  parents_of row t table e =
      any_row x read (λ v. (v % 8 == t) ≡ true → v / 8 ≤ count_in x table) MEMBER_REF row 0 (λ f. omega arith)
      (λ low high f. of_coded x read MemberRefParent (cell x MEMBER_REF row 0) t table e (eqb-true (cell x MEMBER_REF row 0 % 8) t f) (parent_at row low high))

  pub has_attributes : HasAttributes x
  has_attributes = record {
    methods = λ k high. constructors_of k 2 METHOD_DEF refl;
    constructors = λ k high. constructors_of k 3 MEMBER_REF refl;
    defined = λ row high. parents_of row 0 TYPE_DEF refl;
    referenced = λ row high. parents_of row 1 TYPE_REF refl;
    specs = λ row high. parents_of row 4 TYPE_SPEC refl;
  }
