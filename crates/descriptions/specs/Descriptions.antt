-- The types, fields and methods of a program, each as its row says (ECMA-335, II.22.15, II.22.23, II.22.26, II.22.27, II.22.37).
use Rattle.std.specs.Prelude.{ℕ, ◌+◌, ◌*◌, ◌/◌, ◌%◌, ◌==◌, ◌&&◌, Bool, true, false, if◌then◌else◌, List, [], map, filter_map, Option, Some, None, option_map, option_and_then}
use Rattle.cil_base.specs.declared.tables.TheConstants.{FIELD, INTERFACE_IMPL, MEMBER_REF, METHOD_DEF, METHOD_IMPL, TYPE_DEF}
use Rattle.cil_model.specs.declared.ty.Ty.{Ty}
use Rattle.cil_model.specs.declared.ty.Ty.TheVariants as ty
use Rattle.cil_model.specs.declared.program.TypeDesc.{TypeDesc}
use Rattle.cil_model.specs.declared.program.FieldDesc.{FieldDesc}
use Rattle.cil_model.specs.declared.program.MethodDesc.{MethodDesc}
use Rattle.cil_model.specs.declared.program.Impl.{Impl}
use Rattle.cil_model.specs.declared.program.Kind.TheVariants.{Class}
use Rattle.set_names.specs.Names.{Name}
use Rattle.set_rows.specs.Sets.{Assembly, Assemblies, assembly_at, is_row, cell, blob, or_empty}
use Rattle.set_rows.specs.Owners.{owner}
use Rattle.set_types.specs.SignatureTypes.{ty_or}
use Rattle.set_signatures.specs.Blobs.{method_sig, is_field_blob}
use Rattle.set_signatures.specs.Shapes.{signature_numbers}
use Rattle.set_program.specs.declared.identity.TypeId.{TypeId}
use Rattle.set_program.specs.declared.identity.TypeId.TheVariants as type_id
use Rattle.set_program.specs.TypeNames.{full_name, enclosing}
use Rattle.set_program.specs.Attributes.{attribute_on, attribute_type, has_attribute, class_attribute, class_for_attribute, abbreviator_attribute, invariant_attribute, reference_attribute, generated_attribute, on_type, on_method, on_assembly}
use Rattle.set_program.specs.Environment.{number_of, number_or, coded_in, ty_at}
use Rattle.set_program.specs.Kinds.{kind_at, generics}
use Rattle.set_program.specs.Numbering.{Cell}
use Rattle.member_table.specs.declared.named.Named.{Named}
use Rattle.member_table.specs.declared.named.Named.TheVariants as named
use Rattle.member_table.specs.declared.named.MemberId.{MemberId}
use Rattle.member_table.specs.declared.named.MemberId.TheVariants as id
use Rattle.member_table.specs.Members.{member, is_type, parent_index}
use Rattle.member_table.specs.Numbers.{member_ids, member_number, outside_row}
use Rattle.descriptions.specs.declared.facts.NamedMember.{NamedMember}
use Rattle.row_descriptions.specs.declared.methods.MethodFacts.{MethodFacts}
use Rattle.row_descriptions.specs.declared.methods.Parameters.{Parameters}
use Rattle.row_descriptions.specs.RowLists.{rows_with, owned}
use Rattle.row_descriptions.specs.RowDescriptions.{field_ty, field_row, parameters_of, method_row}
use Rattle.descriptions.specs.Signatures.{signature_number}

-- ---- members by the rows that name them

abbrev pub number_in : Assemblies → Bool → MemberId → ℕ
number_in s is_field member = number_or 0 (member_number s is_field member)

abbrev pub named_as : Ty → ℕ → NamedMember
named_as t n = record { owner = t; number = n }

-- the type of a row of Field (column 4) or MethodDef (column 5)
abbrev pub owner_ty : Assemblies → ℕ → ℕ → ℕ → ℕ → Option Ty
owner_ty s a column table row = option_and_then (λ k. (coded_in s a).named (k * 4)) (owner (assembly_at s a) column table row)

abbrev pub field_at : Assemblies → ℕ → ℕ → Option NamedMember
field_at s a row = option_map (λ t. named_as t (number_in s true (id.Row a row))) (owner_ty s a 4 FIELD row)

abbrev pub method_of_row : Assemblies → ℕ → ℕ → Option NamedMember
method_of_row s a row = option_map (λ t. named_as t (number_in s false (id.Row a row))) (owner_ty s a 5 METHOD_DEF row)

abbrev pub of_named : Assemblies → Option Ty → Named → Option NamedMember
of_named s t (named.InSet f) = Some (named_as f.owner (number_in s f.is_field (id.Row f.assembly f.row)))
of_named s t (named.Outside m) = Some (named_as (ty_or ty.Opaque t) (number_in s m.shape.is_field (id.Outside m)))
of_named s t named.Missing = None

-- the type of a MemberRefParent index, where it is one's (II.22.25)
abbrev pub parent_ty : Assemblies → ℕ → ℕ → Option Ty
parent_ty s a parent = if is_type parent then ty_at s a (parent_index parent) else None

-- what a MemberRef row names
unfoldable pub reference_at : Assemblies → ℕ → ℕ → Option NamedMember
reference_at s a row = if is_row (assembly_at s a) MEMBER_REF row then of_named s (parent_ty s a (cell (assembly_at s a) MEMBER_REF row 0)) (member s a row) else None

-- what a MethodDefOrRef index names (II.24.2.6)
abbrev pub method_at : Assemblies → ℕ → ℕ → Option NamedMember
method_at s a coded = if coded % 2 == 0 then method_of_row s a (coded / 2) else reference_at s a (coded / 2)

-- ---- types

abbrev pub impl_of : Option NamedMember → Option NamedMember → Option Impl
impl_of None d = None
impl_of (Some b) None = None
impl_of (Some b) (Some d) = Some (record { owner = d.owner; body = b.number; declaration = d.number })

-- a MethodDefOrRef index of a MemberRef row with a field's signature
abbrev pub names_field : Assembly → ℕ → Bool
names_field x coded = (coded % 2 == 1) && is_field_blob (blob x MEMBER_REF (coded / 2) 2)

-- the method that an index of a MethodImpl row names; a field is none (II.22.27)
abbrev pub impl_method : Assemblies → ℕ → ℕ → Option NamedMember
impl_method s a coded = if names_field (assembly_at s a) coded then None else method_at s a coded

abbrev pub impl_at : Assemblies → ℕ → ℕ → Option Impl
impl_at s a k = impl_of (impl_method s a (cell (assembly_at s a) METHOD_IMPL k 1)) (impl_method s a (cell (assembly_at s a) METHOD_IMPL k 2))

-- the type that an attribute of a type names
abbrev pub attributed : Assemblies → ℕ → Name → ℕ → Option ℕ
attributed s a name row = option_and_then (number_of s) (option_and_then (attribute_type s a) (attribute_on s a name (on_type row)))

unfoldable pub type_row : Assemblies → ℕ → ℕ → TypeDesc
type_row s a row =
    let x = assembly_at s a in
    record {
      assembly = a;
      row = row;
      name = or_empty (full_name x row);
      base = ty_at s a (cell x TYPE_DEF row 3);
      kind = kind_at s a row;
      interfaces = filter_map (λ k. ty_at s a (cell x INTERFACE_IMPL k 1)) (rows_with x INTERFACE_IMPL 0 row);
      fields = map (λ k. number_in s true (id.Row a k)) (owned x 4 FIELD row);
      methods = map (λ k. number_in s false (id.Row a k)) (owned x 5 METHOD_DEF row);
      impls = filter_map (impl_at s a) (rows_with x METHOD_IMPL 0 row);
      enclosing = option_and_then (λ k. number_of s (type_id.Row a k)) (enclosing x row);
      flags = cell x TYPE_DEF row 0;
      outside = false;
      reference = has_attribute s a reference_attribute on_assembly;
      contract_class = attributed s a class_attribute row;
      contract_class_for = attributed s a class_for_attribute row;
      generated = has_attribute s a generated_attribute (on_type row);
      generics = generics x (row * 2);
    }

unfoldable pub outside_type : Name → TypeDesc
outside_type name = record { assembly = 0; row = 0; name = name; base = None; kind = Class; interfaces = []; fields = []; methods = []; impls = []; enclosing = None; flags = 0; outside = true; reference = false; contract_class = None; contract_class_for = None; generated = false; generics = 0 }

abbrev pub type_desc : Assemblies → TypeId → TypeDesc
type_desc s (type_id.Row a row) = type_row s a row
type_desc s (type_id.Outside name) = outside_type name

-- ---- fields

-- the type in the signature of the MemberRef row that names an outside field
abbrev pub outside_ty : Assemblies → Option Cell → Ty
outside_ty s None = ty.Opaque
outside_ty s (Some c) = field_ty (coded_in s c.0) (blob (assembly_at s c.0) MEMBER_REF c.1 2)

abbrev pub outside_field : Name → ℕ → Ty → FieldDesc
outside_field name owner t = record { owner = owner; name = name; ty = t; is_static = false; flags = 0 }

abbrev pub field_desc : Assemblies → MemberId → FieldDesc
field_desc s (id.Row a row) = field_row (assembly_at s a) (coded_in s a) row
field_desc s (id.Outside m) = outside_field m.shape.name (number_or 0 (number_of s (type_id.Outside m.owner))) (outside_ty s (outside_row s m))

-- ---- methods

-- the signature of a method as numbers
abbrev pub id_signature : Assemblies → MemberId → Option (List ℕ)
id_signature s (id.Row a row) = signature_numbers (coded_in s a) [] (blob (assembly_at s a) METHOD_DEF row 4)
id_signature s (id.Outside m) = Some m.shape.signature

-- those of all methods in order
unfoldable pub all_signatures : Assemblies → List (Option (List ℕ))
all_signatures s = map (id_signature s) (member_ids s false)

-- Two methods have one number just where their signatures are the same.
abbrev pub sig_of : Assemblies → MemberId → ℕ
sig_of s m = signature_number (all_signatures s) (id_signature s m)

abbrev pub method_facts : Assemblies → ℕ → ℕ → MethodFacts
method_facts s a row = record {
  assembly = a;
  row = row;
  sig = sig_of s (id.Row a row);
  generics = generics (assembly_at s a) (row * 2 + 1);
  abbreviator = has_attribute s a abbreviator_attribute (on_method row);
  invariant = has_attribute s a invariant_attribute (on_method row);
  generated = has_attribute s a generated_attribute (on_method row);
}

abbrev pub outside_parameters : Assemblies → Option Cell → Parameters
outside_parameters s None = record { params = []; result = ty.Opaque; is_static = false; generics = 0 }
outside_parameters s (Some c) = parameters_of (coded_in s c.0) (method_sig (blob (assembly_at s c.0) MEMBER_REF c.1 2))

abbrev pub outside_method : Name → ℕ → ℕ → Parameters → MethodDesc
outside_method name owner sig p = record {
  assembly = 0;
  row = 0;
  owner = owner;
  name = name;
  params = p.params;
  result = p.result;
  sig = sig;
  is_static = p.is_static;
  flags = 0;
  outside = true;
  abbreviator = false;
  invariant = false;
  generated = false;
  body = None;
  generics = p.generics;
}

abbrev pub method_desc : Assemblies → MemberId → MethodDesc
method_desc s (id.Row a row) = method_row (assembly_at s a) (coded_in s a) (method_facts s a row)
method_desc s (id.Outside m) = outside_method m.shape.name (number_or 0 (number_of s (type_id.Outside m.owner))) (sig_of s (id.Outside m)) (outside_parameters s (outside_row s m))
