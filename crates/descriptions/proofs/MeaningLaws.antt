-- What is known of the members of an assembly gives what its tokens mean.
use Rattle.std.proofs.Common.{◌≡◌, ◌∙◌, sym, ap, refl, arith, rules, ℕ, zero, suc, ◌+◌, ◌-◌, ◌*◌, ◌/◌, ◌%◌, ◌<◌, ◌≤◌, List, [], ◌++◌, length, get_or, Bool, true, false}
use Rattle.std.specs.Prelude.{Option, None, find, ◌==◌, ◌&&◌, nat_lt, nat_le, option_map, option_and_then, filter_map, flat_map, map, if◌then◌else◌}
use Rattle.std.specs.List.{range_with_len, cons_option}
use Rattle.std.proofs.lemmas.List.FromFn.{get_or-map-range_with_len, length-map-range_with_len}
use Rattle.cil_base.specs.declared.tables.TheConstants.{FIELD, MEMBER_REF, METHOD_DEF, METHOD_SPEC, STAND_ALONE_SIG, TYPE_DEF, TYPE_REF, TYPE_SPEC}
use Rattle.cil_model.specs.declared.program.TokenRow.{TokenRow}
use Rattle.cil_model.specs.declared.program.Meaning.TheVariants.{OfType}
use Rattle.cli_heaps.specs.Root.{user_strings}
use Rattle.set_rows.specs.Sets.{Assembly, Assemblies, assembly_at, is_row, count_in, rows_in, blob, cell}
use Rattle.set_rows.specs.Owners.{AreOwners, owns, owner}
use Rattle.set_types.specs.CodedIndexes.{tag, row_of}
use Rattle.set_types.specs.SignatureTypes.{ty_of}
use Rattle.set_signatures.specs.Blobs.{instance_sigs, is_field_blob}
use Rattle.set_program.specs.Environment.{coded_in, ty_at}
use Rattle.member_table.specs.declared.named.MemberId.TheVariants as id
use Rattle.member_table.specs.Members.{member}
use Rattle.row_descriptions.specs.UserTexts.{token_row, user_texts}
use Rattle.descriptions.specs.declared.facts.NamedMember.{NamedMember}
use Rattle.descriptions.specs.declared.facts.MemberFacts.{MemberFacts}
use Rattle.descriptions.specs.Descriptions.{number_in, named_as, owner_ty, of_named, parent_ty, reference_at, method_at}
use Rattle.descriptions.specs.Programs.{of_field, of_method, of_member, tys_in, row_meaning, token_tables, assembly_tokens}
use Rattle.descriptions.specs.Facts.{AreFacts, number_of_row, member_of_row, reference_of_row, method_by, meaning_by}
use Rattle.descriptions.specs.TokenFacts.{assembly_tokens_by, GiveTokens}

same_if : {A : Type 0} (b : Bool) (p p' q q' : A) → p ≡ p' → q ≡ q' → (if b then p else q) ≡ (if b then p' else q')
same_if true p p' q q' e f = e
same_if false p p' q q' e f = f

by_case : (b : Bool) {A : Type 0} → (b ≡ true → A) → (b ≡ false → A) → A
by_case true f g = f refl
by_case false f g = g refl

filter_map_same : {A : Type 0} (g h : ℕ → Option A) (a n : ℕ) → ((r : ℕ) → a ≤ r → g r ≡ h r) → filter_map g (range_with_len a n) ≡ filter_map h (range_with_len a n)
filter_map_same g h a zero e = refl
filter_map_same {A} g h a (suc n) e =
    ap (λ (o : Option A). cons_option o (filter_map g (range_with_len (a + 1) n))) (e a (omega arith))
    ∙ ap (cons_option (h a)) (filter_map_same g h (a + 1) n (λ r low. e r (omega (arith, low))))

lt_from : (k n : ℕ) → (nat_lt 0 k && nat_le k n) ≡ true → 1 ≤ k
lt_from k n h = search (rules, h)

le_from : (k n : ℕ) → (nat_lt 0 k && nat_le k n) ≡ true → k ≤ n
le_from k n h = search (rules, h)

-- ---- coded indexes of rows

ty_named : (s : Assemblies) (a coded : ℕ) → (row_of coded == 0) ≡ false → (tag coded == 2) ≡ false → (coded_in s a).named coded ≡ ty_at s a coded
ty_named s a coded e f =
    sym
    (ap (λ (b : Bool). if b then None else if tag coded == 2 then option_map (ty_of (coded_in s a)) ((coded_in s a).spec (row_of coded)) else (coded_in s a).named coded) e
    ∙ ap (λ (b : Bool). if b then option_map (ty_of (coded_in s a)) ((coded_in s a).spec (row_of coded)) else (coded_in s a).named coded) f)

ty_spec : (s : Assemblies) (a coded row : ℕ) → row_of coded ≡ row → (row_of coded == 0) ≡ false → (tag coded == 2) ≡ true → option_map (ty_of (coded_in s a)) ((coded_in s a).spec row) ≡ ty_at s a coded
ty_spec s a coded row r e f =
    sym
    (ap (λ (b : Bool). if b then None else if tag coded == 2 then option_map (ty_of (coded_in s a)) ((coded_in s a).spec (row_of coded)) else (coded_in s a).named coded) e
    ∙ ap (λ (b : Bool). if b then option_map (ty_of (coded_in s a)) ((coded_in s a).spec (row_of coded)) else (coded_in s a).named coded) f
    ∙ ap (λ (k : ℕ). option_map (ty_of (coded_in s a)) ((coded_in s a).spec k)) r)

row_at : (row t : ℕ) → t < 4 → row_of (row * 4 + t) ≡ row
row_at row t small = omega (arith, small)

tag_at : (row t : ℕ) → t < 4 → tag (row * 4 + t) ≡ t
tag_at row t small = omega (arith, small)

not_zero : (row k : ℕ) → k ≡ row → 1 ≤ row → (k == 0) ≡ false
not_zero row k e low = search (rules, e, low)

definition_ty : (s : Assemblies) (a row : ℕ) → 1 ≤ row → (coded_in s a).named (row * 4) ≡ ty_at s a (row * 4)
definition_ty s a row low =
    let at : row_of (row * 4) ≡ row = omega arith in
    let is : tag (row * 4) ≡ 0 = omega arith in
    ty_named s a (row * 4) (not_zero row (row_of (row * 4)) at low) (ap (λ (n : ℕ). n == 2) is)

reference_ty : (s : Assemblies) (a row : ℕ) → 1 ≤ row → (coded_in s a).named (row * 4 + 1) ≡ ty_at s a (row * 4 + 1)
reference_ty s a row low =
    ty_named s a (row * 4 + 1) (not_zero row (row_of (row * 4 + 1)) (row_at row 1 (omega arith)) low) (ap (λ (n : ℕ). n == 2) (tag_at row 1 (omega arith)))

spec_ty : (s : Assemblies) (a row : ℕ) → 1 ≤ row → option_map (ty_of (coded_in s a)) ((coded_in s a).spec row) ≡ ty_at s a (row * 4 + 2)
spec_ty s a row low =
    ty_spec s a (row * 4 + 2) row (row_at row 2 (omega arith)) (not_zero row (row_of (row * 4 + 2)) (row_at row 2 (omega arith)) low) (ap (λ (n : ℕ). n == 2) (tag_at row 2 (omega arith)))

-- ---- rows of members

no_owner : (x : Assembly) (column table row : ℕ) → is_row x table row ≡ false → owner x column table row ≡ None
unfolding owner
no_owner x column table row h = ap (λ (b : Bool). if b then find (owns x column table row) (rows_in x TYPE_DEF) else None) h

module _ (s : Assemblies) (a : ℕ) (is_field : Bool) (column table : ℕ) (owners numbers : List ℕ) (o : AreOwners (assembly_at s a) column table owners)
    (e : numbers ≡ map (λ row. number_in s is_field (id.Row a row)) (rows_in (assembly_at s a) table)) where
  member_same : (row : ℕ) → member_of_row (coded_in s a) owners numbers row ≡ option_map (λ t. named_as t (number_in s is_field (id.Row a row))) (owner_ty s a column table row)
  member_same row =
      ap (λ (r : Option ℕ). option_map (λ t. named_as t (number_of_row numbers row)) (option_and_then (λ k. (coded_in s a).named (k * 4)) r)) (o.rows row)
      ∙ by_case (is_row (assembly_at s a) table row) there none
    where
      there : is_row (assembly_at s a) table row ≡ true
          → option_map (λ t. named_as t (number_of_row numbers row)) (owner_ty s a column table row) ≡ option_map (λ t. named_as t (number_in s is_field (id.Row a row))) (owner_ty s a column table row)
      there h =
          let low : 1 ≤ row = lt_from row (count_in (assembly_at s a) table) h in
          let high : row ≤ count_in (assembly_at s a) table = le_from row (count_in (assembly_at s a) table) h in
          ap (λ (n : ℕ). option_map (λ t. named_as t n) (owner_ty s a column table row))
          (ap (λ (l : List ℕ). get_or l (row - 1) 0) e
          ∙ get_or-map-range_with_len (λ r. number_in s is_field (id.Row a r)) 1 (count_in (assembly_at s a) table) (row - 1) row 0 (omega (arith, low, high)) (omega (arith, low)))

      none : is_row (assembly_at s a) table row ≡ false
          → option_map (λ t. named_as t (number_of_row numbers row)) (owner_ty s a column table row) ≡ option_map (λ t. named_as t (number_in s is_field (id.Row a row))) (owner_ty s a column table row)
      none h =
          ap (λ (r : Option ℕ). option_map (λ t. named_as t (number_of_row numbers row)) (option_and_then (λ k. (coded_in s a).named (k * 4)) r)) (no_owner (assembly_at s a) column table row h)
          ∙ sym (ap (λ (r : Option ℕ). option_map (λ t. named_as t (number_in s is_field (id.Row a row))) (option_and_then (λ k. (coded_in s a).named (k * 4)) r)) (no_owner (assembly_at s a) column table row h))

module _ (s : Assemblies) (a : ℕ) (references : List (Option NamedMember)) (e : references ≡ map (reference_at s a) (rows_in (assembly_at s a) MEMBER_REF)) where
  count_is : length references ≡ count_in (assembly_at s a) MEMBER_REF
  count_is = ap length e ∙ length-map-range_with_len (reference_at s a) 1 (count_in (assembly_at s a) MEMBER_REF)

  no_reference : (row : ℕ) → is_row (assembly_at s a) MEMBER_REF row ≡ false → None ≡ reference_at s a row
  unfolding reference_at
  no_reference row h = sym (ap (λ (b : Bool). if b then of_named s (parent_ty s a (cell (assembly_at s a) MEMBER_REF row 0)) (member s a row) else None) h)

  reference_same : (row : ℕ) → reference_of_row references row ≡ reference_at s a row
  reference_same row =
      ap (λ (n : ℕ). if nat_lt 0 row && nat_le row n then get_or references (row - 1) None else None) count_is
      ∙ by_case (is_row (assembly_at s a) MEMBER_REF row)
      (λ h.
      let low : 1 ≤ row = lt_from row (count_in (assembly_at s a) MEMBER_REF) h in
      let high : row ≤ count_in (assembly_at s a) MEMBER_REF = le_from row (count_in (assembly_at s a) MEMBER_REF) h in
      ap (λ (b : Bool). if b then get_or references (row - 1) None else None) h
      ∙ ap (λ (l : List (Option NamedMember)). get_or l (row - 1) None) e
      ∙ get_or-map-range_with_len (reference_at s a) 1 (count_in (assembly_at s a) MEMBER_REF) (row - 1) row None (omega (arith, low, high)) (omega (arith, low)))
      (λ h. ap (λ (b : Bool). if b then get_or references (row - 1) None else None) h ∙ no_reference row h)

-- ---- tokens

module _ (s : Assemblies) (a : ℕ) (f : MemberFacts) (h : AreFacts s a f) where
  pub method_same : (coded : ℕ) → method_by (coded_in s a) f coded ≡ method_at s a coded
  method_same coded =
      same_if (coded % 2 == 0) _ _ _ _
      (member_same s a false 5 METHOD_DEF f.method_owners.items f.method_numbers.items h.method_owners h.method_numbers (coded / 2))
      (reference_same s a f.references.items h.references (coded / 2))

  meaning_same : (table row : ℕ) → 1 ≤ row → meaning_by (assembly_at s a) (coded_in s a) f table row ≡ row_meaning s a table row
  unfolding meaning_by row_meaning
  meaning_same table row low =
      same_if (table == TYPE_REF) _ _ _ _ (ap (option_map OfType) (reference_ty s a row low))
      (same_if (table == TYPE_DEF) _ _ _ _ (ap (option_map OfType) (definition_ty s a row low))
      (same_if (table == FIELD) _ _ _ _ (ap of_field (member_same s a true 4 FIELD f.field_owners.items f.field_numbers.items h.field_owners h.field_numbers row))
      (same_if (table == METHOD_DEF) _ _ _ _ (ap (of_method []) (member_same s a false 5 METHOD_DEF f.method_owners.items f.method_numbers.items h.method_owners h.method_numbers row))
      (same_if (table == MEMBER_REF) _ _ _ _ (ap (of_member (is_field_blob (blob (assembly_at s a) MEMBER_REF row 2))) (reference_same s a f.references.items h.references row))
      (same_if (table == STAND_ALONE_SIG) _ _ _ _ refl
      (same_if (table == TYPE_SPEC) _ _ _ _ (ap (option_map OfType) (spec_ty s a row low))
      (same_if (table == METHOD_SPEC) _ _ _ _ (ap (of_method (tys_in (coded_in s a) (instance_sigs (blob (assembly_at s a) METHOD_SPEC row 1)))) (method_same (cell (assembly_at s a) METHOD_SPEC row 0))) refl)))))))

  tokens_same : assembly_tokens_by (assembly_at s a) (coded_in s a) f a ≡ assembly_tokens s a
  tokens_same =
      ap (λ (g : ℕ → List TokenRow). flat_map g token_tables ++ user_texts a (user_strings (assembly_at s a).meta))
      (λ i table.
      filter_map_same (λ row. option_map (token_row a table row) (meaning_by (assembly_at s a) (coded_in s a) f table row)) (λ row. option_map (token_row a table row) (row_meaning s a table row)) 1 (count_in (assembly_at s a) table)
      (λ row low. ap (option_map (token_row a table row)) (meaning_same table row low))
      i)

pub give_tokens : (s : Assemblies) (a : ℕ) (f : MemberFacts) → GiveTokens s a f
give_tokens s a f h = tokens_same s a f h
