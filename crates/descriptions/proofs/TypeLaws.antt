-- What is known of a type gives its description.
use Rattle.std.proofs.Common.{◌≡◌, ◌∙◌, ap, refl, arith, ℕ, zero, suc, ◌+◌, ◌-◌, ◌≤◌, ◌<◌, List, [], ◌∷◌, get_or, Bool, true, false}
use Rattle.std.specs.Prelude.{cond, map, filter, filter_map, if◌then◌else◌, Option, None}
use Rattle.std.specs.List.{range_with_len}
use Rattle.std.proofs.lemmas.List.FromFn.{get_or-map-range_with_len}
use Rattle.cil_base.specs.declared.tables.TheConstants.{FIELD, INTERFACE_IMPL, METHOD_DEF, METHOD_IMPL, TYPE_DEF}
use Rattle.cil_model.specs.declared.program.Impl.{Impl}
use Rattle.set_rows.specs.Sets.{Assembly, Assemblies, assembly_at, count_in, cell}
use Rattle.set_program.specs.Environment.{coded_in, ty_at}
use Rattle.member_table.specs.declared.named.MemberId.TheVariants as id
use Rattle.row_descriptions.specs.RowLists.{rows_with, owned}
use Rattle.descriptions.specs.declared.facts.NamedMember.{NamedMember}
use Rattle.descriptions.specs.declared.facts.MemberFacts.{MemberFacts}
use Rattle.descriptions.specs.declared.facts.TypeLists.{TypeLists}
use Rattle.descriptions.specs.Descriptions.{number_in, names_field, impl_method, impl_of, impl_at, type_row}
use Rattle.descriptions.specs.Facts.{AreFacts, number_of_row}
use Rattle.descriptions.specs.TypeFacts.{interfaces_by, impl_method_by, impl_by, impls_by, numbers_by, type_by, GiveTypes}
use Rattle.descriptions.proofs.MeaningLaws.{method_same}

map_filtered : {A : Type 0} (f g : ℕ → A) (test : ℕ → Bool) (a n : ℕ) → ((r : ℕ) → a ≤ r → r < a + n → f r ≡ g r) → map f (filter test (range_with_len a n)) ≡ map g (filter test (range_with_len a n))
map_filtered f g test a zero h = refl
map_filtered {A} f g test a (suc n) h = go (test a) (h a (omega arith) (omega arith)) (map_filtered f g test (a + 1) n (λ r low high. h r (omega (arith, low)) (omega (arith, high))))
  where
    rest : List ℕ
    rest = filter test (range_with_len (a + 1) n)

    go : (b : Bool) → f a ≡ g a → map f rest ≡ map g rest → map f (cond b (a ∷ rest) rest) ≡ map g (cond b (a ∷ rest) rest)
    go true e later = ap (λ (x : A). x ∷ map f rest) e ∙ ap (λ (l : List A). g a ∷ l) later
    go false e later = later

numbers_same : (numbers : List ℕ) (g : ℕ → ℕ) (test : ℕ → Bool) (count : ℕ) → numbers ≡ map g (range_with_len 1 count) → numbers_by numbers (filter test (range_with_len 1 count)) ≡ map g (filter test (range_with_len 1 count))
numbers_same numbers g test count e =
    map_filtered (number_of_row numbers) g test 1 count
    (λ r low high. ap (λ (l : List ℕ). get_or l (r - 1) 0) e ∙ get_or-map-range_with_len g 1 count (r - 1) r 0 (omega (arith, low, high)) (omega (arith, low)))

module _ (s : Assemblies) (a : ℕ) (f : MemberFacts) (h : AreFacts s a f) where
  impl_method_same : (coded : ℕ) → impl_method_by (assembly_at s a) (coded_in s a) f coded ≡ impl_method s a coded
  impl_method_same coded = ap (λ (m : Option NamedMember). if names_field (assembly_at s a) coded then None else m) (method_same s a f h coded)

  impl_same : (k : ℕ) → impl_by (assembly_at s a) (coded_in s a) f k ≡ impl_at s a k
  impl_same k =
      ap (λ (m : Option NamedMember). impl_of m (impl_method_by (assembly_at s a) (coded_in s a) f (cell (assembly_at s a) METHOD_IMPL k 2))) (impl_method_same (cell (assembly_at s a) METHOD_IMPL k 1))
      ∙ ap (impl_of (impl_method s a (cell (assembly_at s a) METHOD_IMPL k 1))) (impl_method_same (cell (assembly_at s a) METHOD_IMPL k 2))

  impls_same : (rows : List ℕ) → impls_by (assembly_at s a) (coded_in s a) f rows ≡ filter_map (impl_at s a) rows
  impls_same rows = ap (λ (g : ℕ → Option Impl). filter_map g rows) (λ i k. impl_same k i)

pub give_types : (s : Assemblies) (a : ℕ) (f : MemberFacts) (l : TypeLists) → GiveTypes s a f l
unfolding type_by type_row
give_types s a f l h lists row t low high k =
    let x : Assembly = assembly_at s a in
    let interfaces : interfaces_by x (coded_in s a) (get_or l.interfaces.items row []) ≡ filter_map (λ j. ty_at s a (cell x INTERFACE_IMPL j 1)) (rows_with x INTERFACE_IMPL 0 row) = ap (interfaces_by x (coded_in s a)) (lists.interfaces row low high) in
    let fields : numbers_by f.field_numbers.items (get_or l.fields.items row []) ≡ map (λ j. number_in s true (id.Row a j)) (owned x 4 FIELD row) =
    ap (numbers_by f.field_numbers.items) (lists.fields row low high) ∙ numbers_same f.field_numbers.items (λ j. number_in s true (id.Row a j)) _ (count_in x FIELD) h.field_numbers in
    let methods : numbers_by f.method_numbers.items (get_or l.methods.items row []) ≡ map (λ j. number_in s false (id.Row a j)) (owned x 5 METHOD_DEF row) =
    ap (numbers_by f.method_numbers.items) (lists.methods row low high) ∙ numbers_same f.method_numbers.items (λ j. number_in s false (id.Row a j)) _ (count_in x METHOD_DEF) h.method_numbers in
    let impls : impls_by x (coded_in s a) f (get_or l.impls.items row []) ≡ filter_map (impl_at s a) (rows_with x METHOD_IMPL 0 row) =
    ap (impls_by x (coded_in s a) f) (lists.impls row low high) ∙ impls_same s a f h (rows_with x METHOD_IMPL 0 row) in
    λ i.
    record {
      assembly = a;
      row = row;
      name = k.name i;
      base = ty_at s a (cell x TYPE_DEF row 3);
      kind = k.kind i;
      interfaces = interfaces i;
      fields = fields i;
      methods = methods i;
      impls = impls i;
      enclosing = k.enclosing i;
      flags = cell x TYPE_DEF row 0;
      outside = false;
      reference = k.reference i;
      contract_class = k.contract_class i;
      contract_class_for = k.contract_class_for i;
      generated = k.generated i;
      generics = k.generics i;
    }
