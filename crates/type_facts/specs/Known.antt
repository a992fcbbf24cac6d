-- What is known of the types and methods of an assembly of a set, by row (ECMA-335, II.22.10, II.22.20, II.22.32).
use Rattle.std.specs.Prelude.{◌≡◌, ℕ, ◌*◌, ◌+◌, ◌-◌, ◌≤◌, Bool, is_some, List, Option, map, get_or, option_and_then}
use Rattle.cil_base.specs.declared.tables.TheConstants.{METHOD_DEF, TYPE_DEF}
use Rattle.cil_model.specs.declared.program.Kind.TheVariants.{Class}
use Rattle.set_rows.specs.Sets.{Assemblies, assembly_at, count_in, rows_in, or_empty}
use Rattle.set_rows.specs.Owners.{if_row}
use Rattle.set_program.specs.declared.identity.TypeId.TheVariants as type_id
use Rattle.set_program.specs.TypeNames.{full_name}
use Rattle.set_program.specs.Environment.{number_of}
use Rattle.set_program.specs.Attributes.{attribute_type, has_attribute, class_attribute, class_for_attribute, reference_attribute, generated_attribute, abbreviator_attribute, invariant_attribute, on_assembly}
use Rattle.set_program.specs.Kinds.{kind_at, generics}
use Rattle.attribute_marks.specs.Marks.{AreMarks, AreEnclosing}
use Rattle.row_descriptions.specs.declared.methods.MethodFacts.{MethodFacts}
use Rattle.member_table.specs.declared.named.MemberId.TheVariants as id
use Rattle.descriptions.specs.declared.facts.TypeFacts.{TypeFacts}
use Rattle.descriptions.specs.TypeFacts.{AreTypeFacts}
use Rattle.descriptions.specs.Descriptions.{sig_of, method_facts}
use Rattle.type_facts.specs.declared.types.TypeMarks.{TypeMarks}
use Rattle.type_facts.specs.declared.methods.MethodMarks.{MethodMarks}

-- the tags of MethodDef and TypeDef rows in a HasCustomAttribute index (II.24.2.6)
abbrev pub method_tag : ℕ
method_tag = 0

abbrev pub type_tag : ℕ
type_tag = 3

pub record AreTypeMarks (s : Assemblies) (a : ℕ) (t : TypeMarks) : Type 0 where
  pub kinds : t.kinds.items ≡ map (kind_at s a) (rows_in (assembly_at s a) TYPE_DEF)
  pub around : AreEnclosing (assembly_at s a) t.around.items
  pub classes : AreMarks s a class_attribute type_tag (count_in (assembly_at s a) TYPE_DEF) t.classes.items
  pub classes_for : AreMarks s a class_for_attribute type_tag (count_in (assembly_at s a) TYPE_DEF) t.classes_for.items
  pub generated : AreMarks s a generated_attribute type_tag (count_in (assembly_at s a) TYPE_DEF) t.generated.items
  pub generics : t.generics.items ≡ map (λ row. generics (assembly_at s a) (row * 2)) (rows_in (assembly_at s a) TYPE_DEF)
  pub reference : t.reference ≡ has_attribute s a reference_attribute on_assembly

pub record AreMethodMarks (s : Assemblies) (a : ℕ) (m : MethodMarks) : Type 0 where
  pub abbreviators : AreMarks s a abbreviator_attribute method_tag (count_in (assembly_at s a) METHOD_DEF) m.abbreviators.items
  pub invariants : AreMarks s a invariant_attribute method_tag (count_in (assembly_at s a) METHOD_DEF) m.invariants.items
  pub generated : AreMarks s a generated_attribute method_tag (count_in (assembly_at s a) METHOD_DEF) m.generated.items
  pub generics : m.generics.items ≡ map (λ row. generics (assembly_at s a) (row * 2 + 1)) (rows_in (assembly_at s a) METHOD_DEF)

-- ---- one type, one method

-- whether a row bears the attribute
abbrev pub has_mark : List ℕ → ℕ → Bool
has_mark marks row = is_some (if_row (get_or marks row 0))

abbrev pub attributed_by : Assemblies → ℕ → List ℕ → ℕ → Option ℕ
attributed_by s a marks row = option_and_then (number_of s) (option_and_then (attribute_type s a) (if_row (get_or marks row 0)))

abbrev pub type_facts_by : Assemblies → ℕ → TypeMarks → ℕ → TypeFacts
type_facts_by s a t row = record {
  name = or_empty (full_name (assembly_at s a) row);
  kind = get_or t.kinds.items (row - 1) Class;
  enclosing = option_and_then (λ k. number_of s (type_id.Row a k)) (if_row (get_or t.around.items row 0));
  reference = t.reference;
  contract_class = attributed_by s a t.classes.items row;
  contract_class_for = attributed_by s a t.classes_for.items row;
  generated = has_mark t.generated.items row;
  generics = get_or t.generics.items (row - 1) 0;
}

abbrev pub method_facts_by : MethodMarks → ℕ → ℕ → ℕ → MethodFacts
method_facts_by m a row sig = record {
  assembly = a;
  row = row;
  sig = sig;
  generics = get_or m.generics.items (row - 1) 0;
  abbreviator = has_mark m.abbreviators.items row;
  invariant = has_mark m.invariants.items row;
  generated = has_mark m.generated.items row;
}

-- What is known of all types gives what is known of each.
abbrev pub GiveTypeFacts : Assemblies → ℕ → TypeMarks → Type 0
GiveTypeFacts s a t = AreTypeMarks s a t → (row : ℕ) → 1 ≤ row → row ≤ count_in (assembly_at s a) TYPE_DEF → AreTypeFacts s a row (type_facts_by s a t row)

-- What is known of all methods gives what is known of each, with the number of its signature.
abbrev pub GiveMethodFacts : Assemblies → ℕ → MethodMarks → Type 0
GiveMethodFacts s a m = AreMethodMarks s a m → (row sig : ℕ) → 1 ≤ row → row ≤ count_in (assembly_at s a) METHOD_DEF → sig ≡ sig_of s (id.Row a row) → method_facts_by m a row sig ≡ method_facts s a row
