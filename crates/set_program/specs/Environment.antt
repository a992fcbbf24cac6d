-- What definitions of a program's types, members and tokens share: the numbers of types, and what coded types lead to.
use Rattle.std.specs.Prelude.{ℕ, ◌==◌, ◌||◌, bytes_eq, Bool, if◌then◌else◌, List, [], ◌∷◌, ◌++◌, find, filter_map, flat_map, Option, Some, None, option_map, option_and_then, option_to_list}
use Rattle.cil_model.specs.declared.ty.Ty.{Ty}
use Rattle.cil_model.specs.declared.ty.Ty.TheVariants as ty
use Rattle.cil_semantics.specs.Core.{prim_names, failure_kind}
use Rattle.cli_sigs.specs.declared.types.SigTy.{SigTy}
use Rattle.set_program.specs.declared.identity.TypeId.{TypeId}
use Rattle.set_program.specs.declared.identity.TypeId.TheVariants.{Row, Outside}
use Rattle.set_names.specs.Names.{Name}
use Rattle.set_rows.specs.Sets.{Assembly, Assemblies, assembly_at, rows_in, blob, is_row}
use Rattle.set_types.specs.CodedIndexes.{tag, row_of}
use Rattle.set_program.specs.Numbering.{type_ids, number_in, order, outside_name}
use Rattle.set_names.specs.Distinct.{among}
use Rattle.set_signatures.specs.Blobs.{field_sig, method_sig, property_sig, local_sigs, spec_sig, instance_sigs, is_field_blob, first_byte}
use Rattle.set_program.specs.Attributes.{attribute_outside, named_id}
use Rattle.set_types.specs.SignatureTypes.{Coded, ty_of}
use Rattle.set_types.specs.SignatureRules.{method_types, values_within}
use Rattle.cil_base.specs.declared.tables.TheConstants.{FIELD, MEMBER_REF, METHOD_DEF, METHOD_SPEC, PROPERTY, STAND_ALONE_SIG, TYPE_SPEC}

unfoldable pub types_of : Assemblies → List TypeId
types_of s = type_ids s (attribute_outside s)

-- the number of a type
abbrev pub number_of : Assemblies → TypeId → Option ℕ
number_of s id = number_in (types_of s) id

-- ---- the signatures of an assembly's rows

abbrev pub types_or_none : {A : Type 0} → (A → List SigTy) → Option A → List SigTy
types_or_none f None = []
types_or_none f (Some v) = f v

abbrev pub member_types : List ℕ → List SigTy
member_types bytes = if is_field_blob bytes then option_to_list (field_sig bytes) else types_or_none method_types (method_sig bytes)

abbrev pub local_types : List ℕ → List SigTy
local_types bytes = if first_byte bytes == 0x07 then types_or_none (λ ts. ts) (local_sigs bytes) else []

-- the types in the signature of a row of Field, MethodDef, MemberRef, StandAloneSig, Property, TypeSpec or MethodSpec
abbrev pub row_types : Assembly → ℕ → ℕ → List SigTy
row_types x table row =
    if table == FIELD then option_to_list (field_sig (blob x FIELD row 2))
    else if table == METHOD_DEF then types_or_none method_types (method_sig (blob x METHOD_DEF row 4))
    else if table == MEMBER_REF then member_types (blob x MEMBER_REF row 2)
    else if table == STAND_ALONE_SIG then local_types (blob x STAND_ALONE_SIG row 0)
    else if table == PROPERTY then types_or_none method_types (property_sig (blob x PROPERTY row 2))
    else if table == TYPE_SPEC then option_to_list (spec_sig (blob x TYPE_SPEC row 0))
    else if table == METHOD_SPEC then types_or_none (λ ts. ts) (instance_sigs (blob x METHOD_SPEC row 1))
    else []

abbrev pub signature_tables : List ℕ
signature_tables = FIELD ∷ METHOD_DEF ∷ MEMBER_REF ∷ STAND_ALONE_SIG ∷ PROPERTY ∷ TYPE_SPEC ∷ METHOD_SPEC ∷ []

-- ---- outside types that a signature of the set says to be value types (II.23.1.16)

unfoldable pub values_in : Assemblies → ℕ → List Name
values_in s a =
    filter_map (λ coded. outside_name (named_id s a coded))
    (flat_map (λ table. flat_map (λ row. flat_map (values_within 1000) (row_types (assembly_at s a) table row)) (rows_in (assembly_at s a) table)) signature_tables)

-- An outside type is a value type where a signature of some assembly says so; the kind of a failure always, as signatures that are appended say so.
unfoldable pub is_value : Assemblies → Name → Bool
is_value s name = bytes_eq name failure_kind || among name (flat_map (values_in s) (order s))

-- ---- types of a program

abbrev pub prim_byte : Name → Option ℕ
prim_byte name = option_map (λ (row : ℕ × Name). row.0) (find (λ (row : ℕ × Name). bytes_eq name row.1) prim_names)

abbrev pub outside_ty : Assemblies → Name → Option ℕ → Ty
outside_ty s name None = ty.Outside name (is_value s name)
outside_ty s name (Some b) = ty.Prim b

abbrev pub number_or : ℕ → Option ℕ → ℕ
number_or other None = other
number_or other (Some k) = k

-- a type of the set by its number; a type with a byte of its own by that; any other by its name
abbrev pub ty_by_id : Assemblies → TypeId → Ty
ty_by_id s (Row a row) = ty.Known (number_or 0 (number_of s (Row a row)))
ty_by_id s (Outside name) = outside_ty s name (prim_byte name)

-- what the coded types of an assembly lead to
abbrev pub coded_in : Assemblies → ℕ → Coded
coded_in s a = record {
  named = λ coded. option_map (ty_by_id s) (named_id s a coded);
  number = λ coded. option_and_then (number_of s) (named_id s a coded);
  spec = λ row. if is_row (assembly_at s a) TYPE_SPEC row then spec_sig (blob (assembly_at s a) TYPE_SPEC row 0) else None;
}

-- the type that a TypeDefOrRef index of a row names, if it isn't 0 (II.24.2.6)
abbrev pub ty_at : Assemblies → ℕ → ℕ → Option Ty
ty_at s a coded =
    if row_of coded == 0 then None
    else if tag coded == 2 then option_map (ty_of (coded_in s a)) ((coded_in s a).spec (row_of coded))
    else (coded_in s a).named coded
