-- What is known of all types and methods of an assembly gives what is known of each.
use Rattle.std.proofs.Common.{◌≡◌, ◌∙◌, ap, refl, arith, ℕ, ◌+◌, ◌-◌, ◌*◌, ◌≤◌, List, get_or}
use Rattle.std.specs.Prelude.{Option, is_some, map, option_and_then}
use Rattle.std.proofs.lemmas.List.FromFn.{get_or-map-range_with_len}
use Rattle.cil_base.specs.declared.tables.TheConstants.{METHOD_DEF, TYPE_DEF}
use Rattle.cil_model.specs.declared.program.Kind.{Kind}
use Rattle.cil_model.specs.declared.program.Kind.TheVariants.{Class}
use Rattle.set_names.specs.Names.{Name}
use Rattle.set_rows.specs.Sets.{Assembly, Assemblies, assembly_at, count_in, rows_in}
use Rattle.set_rows.specs.Owners.{if_row}
use Rattle.set_program.specs.declared.identity.TypeId.TheVariants as type_id
use Rattle.set_program.specs.Attributes.{attribute_on, attribute_type, abbreviator_attribute, invariant_attribute, generated_attribute, class_attribute, class_for_attribute}
use Rattle.set_program.specs.Environment.{number_of}
use Rattle.set_program.specs.Kinds.{kind_at, generics}
use Rattle.row_descriptions.specs.declared.methods.MethodFacts.{MethodFacts}
use Rattle.attribute_marks.specs.Marks.{AreMarks}
use Rattle.type_facts.specs.declared.types.TypeMarks.{TypeMarks}
use Rattle.type_facts.specs.declared.methods.MethodMarks.{MethodMarks}
use Rattle.type_facts.specs.Known.{AreTypeMarks, AreMethodMarks, GiveTypeFacts, GiveMethodFacts, has_mark, method_facts_by}

-- by row from 0
at_row : {A : Type 0} (f : ℕ → A) (x : Assembly) (table row : ℕ) (xs : List A) (d : A) → xs ≡ map f (rows_in x table) → 1 ≤ row → row ≤ count_in x table → get_or xs (row - 1) d ≡ f row
at_row {A} f x table row xs d e low high =
    ap (λ (l : List A). get_or l (row - 1) d) e ∙ get_or-map-range_with_len f 1 (count_in x table) (row - 1) row d (omega (arith, low, high)) (omega (arith, low))

marked : (s : Assemblies) (a : ℕ) (name : Name) (tag count row : ℕ) (marks : List ℕ) → AreMarks s a name tag count marks → 1 ≤ row → row ≤ count → has_mark marks row ≡ is_some (attribute_on s a name (row * 32 + tag))
marked s a name tag count row marks m low high = ap is_some (m.rows row low high)

pub types_known : (s : Assemblies) (a : ℕ) (t : TypeMarks) → GiveTypeFacts s a t
types_known s a t m row low high = record {
  name = refl;
  kind = at_row (kind_at s a) (assembly_at s a) TYPE_DEF row t.kinds.items Class m.kinds low high;
  enclosing = ap (option_and_then (λ k. number_of s (type_id.Row a k))) (m.around row low high);
  reference = m.reference;
  contract_class = ap (λ (o : Option ℕ). option_and_then (number_of s) (option_and_then (attribute_type s a) o)) (m.classes.rows row low high);
  contract_class_for = ap (λ (o : Option ℕ). option_and_then (number_of s) (option_and_then (attribute_type s a) o)) (m.classes_for.rows row low high);
  generated = marked s a generated_attribute 3 (count_in (assembly_at s a) TYPE_DEF) row t.generated.items m.generated low high;
  generics = at_row (λ r. generics (assembly_at s a) (r * 2)) (assembly_at s a) TYPE_DEF row t.generics.items 0 m.generics low high;
}

-- on a method
on_it : (s : Assemblies) (a : ℕ) (name : Name) (count row : ℕ) (marks : List ℕ) → AreMarks s a name 0 count marks → 1 ≤ row → row ≤ count → has_mark marks row ≡ is_some (attribute_on s a name (row * 32))
on_it s a name count row marks m low high = marked s a name 0 count row marks m low high ∙ ap (λ (n : ℕ). is_some (attribute_on s a name n)) plain
  where
    plain : row * 32 + 0 ≡ row * 32
    plain = omega arith

pub methods_known : (s : Assemblies) (a : ℕ) (m : MethodMarks) → GiveMethodFacts s a m
methods_known s a m k row sig low high e = λ i. record {
  assembly = a;
  row = row;
  sig = e i;
  generics = at_row (λ r. generics (assembly_at s a) (r * 2 + 1)) (assembly_at s a) METHOD_DEF row m.generics.items 0 k.generics low high i;
  abbreviator = on_it s a abbreviator_attribute (count_in (assembly_at s a) METHOD_DEF) row m.abbreviators.items k.abbreviators low high i;
  invariant = on_it s a invariant_attribute (count_in (assembly_at s a) METHOD_DEF) row m.invariants.items k.invariants low high i;
  generated = on_it s a generated_attribute (count_in (assembly_at s a) METHOD_DEF) row m.generated.items k.generated low high i;
}
