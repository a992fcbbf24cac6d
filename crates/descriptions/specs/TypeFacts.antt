-- A type by what is known of its assembly and of it (ECMA-335, II.22.23, II.22.27, II.22.37).
use Rattle.std.specs.Prelude.{◌≡◌, ℕ, ◌*◌, ◌≤◌, false, if◌then◌else◌, List, [], map, filter_map, get_or, Option, None, option_and_then}
use Rattle.cil_base.specs.declared.tables.TheConstants.{FIELD, INTERFACE_IMPL, METHOD_DEF, METHOD_IMPL, TYPE_DEF}
use Rattle.cil_model.specs.declared.ty.Ty.{Ty}
use Rattle.cil_model.specs.declared.program.Impl.{Impl}
use Rattle.cil_model.specs.declared.program.TypeDesc.{TypeDesc}
use Rattle.set_rows.specs.Sets.{Assembly, Assemblies, assembly_at, count_in, cell, or_empty}
use Rattle.set_types.specs.SignatureTypes.{Coded}
use Rattle.set_program.specs.declared.identity.TypeId.TheVariants as type_id
use Rattle.set_program.specs.TypeNames.{full_name, enclosing}
use Rattle.set_program.specs.Attributes.{has_attribute, class_attribute, class_for_attribute, reference_attribute, generated_attribute, on_type, on_assembly}
use Rattle.set_program.specs.Environment.{coded_in, number_of}
use Rattle.set_program.specs.Kinds.{kind_at, generics}
use Rattle.member_table.specs.Environments.{coded_ty_at}
use Rattle.row_descriptions.specs.RowLists.{rows_with, owned}
use Rattle.descriptions.specs.declared.facts.NamedMember.{NamedMember}
use Rattle.descriptions.specs.declared.facts.MemberFacts.{MemberFacts}
use Rattle.descriptions.specs.declared.facts.TypeLists.{TypeLists}
use Rattle.descriptions.specs.declared.facts.TypeFacts.{TypeFacts}
use Rattle.descriptions.specs.Descriptions.{impl_of, names_field, attributed, type_row}
use Rattle.descriptions.specs.Facts.{AreFacts, method_by, number_of_row}

-- the types that InterfaceImpl rows name
abbrev pub interfaces_by : Assembly → Coded → List ℕ → List Ty
interfaces_by x c rows = filter_map (λ k. coded_ty_at c (cell x INTERFACE_IMPL k 1)) rows

-- the method that an index of a MethodImpl row names
abbrev pub impl_method_by : Assembly → Coded → MemberFacts → ℕ → Option NamedMember
impl_method_by x c f coded = if names_field x coded then None else method_by c f coded

-- what a MethodImpl row says
abbrev pub impl_by : Assembly → Coded → MemberFacts → ℕ → Option Impl
impl_by x c f k = impl_of (impl_method_by x c f (cell x METHOD_IMPL k 1)) (impl_method_by x c f (cell x METHOD_IMPL k 2))

abbrev pub impls_by : Assembly → Coded → MemberFacts → List ℕ → List Impl
impls_by x c f rows = filter_map (impl_by x c f) rows

-- the numbers of rows of Field or MethodDef
abbrev pub numbers_by : List ℕ → List ℕ → List ℕ
numbers_by numbers rows = map (number_of_row numbers) rows

-- ---- a whole type

-- the rows of a type in each list
pub record AreTypeLists (x : Assembly) (l : TypeLists) : Type 0 where
  pub interfaces : (row : ℕ) → 1 ≤ row → row ≤ count_in x TYPE_DEF → get_or l.interfaces.items row [] ≡ rows_with x INTERFACE_IMPL 0 row
  pub fields : (row : ℕ) → 1 ≤ row → row ≤ count_in x TYPE_DEF → get_or l.fields.items row [] ≡ owned x 4 FIELD row
  pub methods : (row : ℕ) → 1 ≤ row → row ≤ count_in x TYPE_DEF → get_or l.methods.items row [] ≡ owned x 5 METHOD_DEF row
  pub impls : (row : ℕ) → 1 ≤ row → row ≤ count_in x TYPE_DEF → get_or l.impls.items row [] ≡ rows_with x METHOD_IMPL 0 row

-- what is known is so of a type of the set
pub record AreTypeFacts (s : Assemblies) (a row : ℕ) (t : TypeFacts) : Type 0 where
  pub name : t.name ≡ or_empty (full_name (assembly_at s a) row)
  pub kind : t.kind ≡ kind_at s a row
  pub enclosing : t.enclosing ≡ option_and_then (λ k. number_of s (type_id.Row a k)) (enclosing (assembly_at s a) row)
  pub reference : t.reference ≡ has_attribute s a reference_attribute on_assembly
  pub contract_class : t.contract_class ≡ attributed s a class_attribute row
  pub contract_class_for : t.contract_class_for ≡ attributed s a class_for_attribute row
  pub generated : t.generated ≡ has_attribute s a generated_attribute (on_type row)
  pub generics : t.generics ≡ generics (assembly_at s a) (row * 2)

unfoldable pub type_by : Assembly → Coded → MemberFacts → TypeLists → TypeFacts → ℕ → ℕ → TypeDesc
type_by x c f l t a row = record {
  assembly = a;
  row = row;
  name = t.name;
  base = coded_ty_at c (cell x TYPE_DEF row 3);
  kind = t.kind;
  interfaces = interfaces_by x c (get_or l.interfaces.items row []);
  fields = numbers_by f.field_numbers.items (get_or l.fields.items row []);
  methods = numbers_by f.method_numbers.items (get_or l.methods.items row []);
  impls = impls_by x c f (get_or l.impls.items row []);
  enclosing = t.enclosing;
  flags = cell x TYPE_DEF row 0;
  outside = false;
  reference = t.reference;
  contract_class = t.contract_class;
  contract_class_for = t.contract_class_for;
  generated = t.generated;
  generics = t.generics;
}

-- What is known gives the types of an assembly of the set.
abbrev pub GiveTypes : Assemblies → ℕ → MemberFacts → TypeLists → Type 0
GiveTypes s a f l = AreFacts s a f → AreTypeLists (assembly_at s a) l
    → (row : ℕ) (t : TypeFacts) → 1 ≤ row → row ≤ count_in (assembly_at s a) TYPE_DEF → AreTypeFacts s a row t
    → type_by (assembly_at s a) (coded_in s a) f l t a row ≡ type_row s a row
