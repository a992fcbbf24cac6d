-- The attributes of Code Contracts on rows, and the types that they name (Code Contracts manual, "Contract classes"; ECMA-335, II.22.10, II.23.3).
use Rattle.std.specs.Prelude.{ℕ, ◌+◌, ◌*◌, ◌/◌, ◌%◌, max, nat_le, nat_lt, ◌==◌, ◌&&◌, ◌||◌, bytes_eq, Bool, false, is_some, if◌then◌else◌, List, [], ◌∷◌, ◌++◌, find, filter, filter_map, flat_map, Option, Some, None, option_and_then, codes}
use Rattle.cli_sigs.specs.Attributes.{before_comma, assembly_in}
use Rattle.cli_sigs.specs.declared.types.SigTy.{SigTy, out-SigTy}
use Rattle.cli_sigs.specs.declared.types.SigTy.TheOpen.{SigTy-F}
use Rattle.cli_sigs.specs.declared.types.MethodSig.{MethodSig}
use Rattle.set_program.specs.declared.identity.TypeId.{TypeId}
use Rattle.set_program.specs.declared.identity.TypeId.TheVariants.{Row, Outside}
use Rattle.set_names.specs.Names.{Name}
use Rattle.set_rows.specs.Sets.{Assembly, Assemblies, assembly_at, assembly_named, count_in, rows_in, cell, blob, is_row}
use Rattle.set_types.specs.CodedIndexes.{tag, row_of}
use Rattle.set_rows.specs.Owners.{owner}
use Rattle.set_program.specs.TypeNames.{full_name}
use Rattle.set_program.specs.References.{inside, in_named, found_in, reference}
use Rattle.set_signatures.specs.Blobs.{spec_sig, attribute_text}
use Rattle.set_program.specs.Numbering.{outside_name, order}
use Rattle.cil_base.specs.declared.tables.TheConstants.{CUSTOM_ATTRIBUTE, FIELD, MEMBER_REF, METHOD_DEF, TYPE_DEF, TYPE_REF, TYPE_SPEC}

-- ---- the types that own rows

abbrev pub field_owner : Assembly → ℕ → Option ℕ
field_owner x k = owner x 4 FIELD k

abbrev pub method_owner : Assembly → ℕ → Option ℕ
method_owner x k = owner x 5 METHOD_DEF k

-- ---- what TypeDefOrRef indexes name

-- the type of a TypeDef or TypeRef row
abbrev pub named_id : Assemblies → ℕ → ℕ → Option TypeId
named_id s a coded =
    if tag coded == 0 then (if is_row (assembly_at s a) TYPE_DEF (row_of coded) then Some (Row a (row_of coded)) else None)
    else if tag coded == 1 then (if is_row (assembly_at s a) TYPE_REF (row_of coded) then reference s a (row_of coded) else None)
    else None

abbrev pub name_of : Assemblies → Option TypeId → Option Name
name_of s None = None
name_of s (Some (Outside name)) = Some name
name_of s (Some (Row a row)) = full_name (assembly_at s a) row

abbrev pub defined : SigTy-F SigTy MethodSig → Option ℕ
defined (SigTy-F.Named value coded) = Some coded
defined (SigTy-F.Inst value coded args) = Some coded
defined _ = None

-- the TypeDefOrRef index that a MemberRefParent index leads to: itself, or that of the instance that a TypeSpec row holds
abbrev pub parent_coded : Assembly → ℕ → Option ℕ
parent_coded x parent =
    if parent % 8 == 0 then Some (parent / 8 * 4)
    else if parent % 8 == 1 then Some (parent / 8 * 4 + 1)
    else if parent % 8 == 4 then option_and_then (λ t. defined (out-SigTy t)) (spec_sig (blob x TYPE_SPEC (parent / 8) 0))
    else None

-- ---- attributes

-- the full name of the type of a CustomAttribute row
unfoldable pub attribute_name : Assemblies → ℕ → ℕ → Option Name
attribute_name s a k =
    let x = assembly_at s a in
    let type = cell x CUSTOM_ATTRIBUTE k 1 in
    if type % 8 == 2 then option_and_then (full_name x) (method_owner x (type / 8))
    else if type % 8 == 3 then option_and_then (λ coded. name_of s (named_id s a coded)) (parent_coded x (cell x MEMBER_REF (type / 8) 0))
    else None

abbrev pub is_attribute : Assemblies → ℕ → Name → ℕ → Bool
is_attribute s a name k = is_it (attribute_name s a k)
  where
    is_it : Option Name → Bool
    is_it None = false
    is_it (Some other) = bytes_eq name other

-- the first CustomAttribute row of a type on a parent, which is a HasCustomAttribute index
unfoldable pub attribute_on : Assemblies → ℕ → Name → ℕ → Option ℕ
attribute_on s a name parent = find (λ k. (cell (assembly_at s a) CUSTOM_ATTRIBUTE k 0 == parent) && is_attribute s a name k) (rows_in (assembly_at s a) CUSTOM_ATTRIBUTE)

abbrev pub in_contracts : Name → Name
in_contracts name = codes "System.Diagnostics.Contracts." ++ name

abbrev pub class_attribute : Name
class_attribute = in_contracts (codes "ContractClassAttribute")

abbrev pub class_for_attribute : Name
class_for_attribute = in_contracts (codes "ContractClassForAttribute")

abbrev pub abbreviator_attribute : Name
abbreviator_attribute = in_contracts (codes "ContractAbbreviatorAttribute")

abbrev pub invariant_attribute : Name
invariant_attribute = in_contracts (codes "ContractInvariantMethodAttribute")

abbrev pub reference_attribute : Name
reference_attribute = in_contracts (codes "ContractReferenceAssemblyAttribute")

abbrev pub generated_attribute : Name
generated_attribute = codes "System.Runtime.CompilerServices.CompilerGeneratedAttribute"

-- HasCustomAttribute indexes (II.24.2.6)
abbrev pub on_method : ℕ → ℕ
on_method row = row * 32

abbrev pub on_type : ℕ → ℕ
on_type row = row * 32 + 3

abbrev pub on_assembly : ℕ
on_assembly = 1 * 32 + 14

abbrev pub has_attribute : Assemblies → ℕ → Name → ℕ → Bool
has_attribute s a name parent = is_some (attribute_on s a name parent)

-- ---- the type that ContractClass or ContractClassFor names by a text

-- the names that `+` parts
abbrev pub parted : Name → List ℕ → List Name
parted part [] = part ∷ []
parted part (b ∷ rest) = if b == 0x2B then part ∷ parted [] rest else parted (part ++ b ∷ []) rest

abbrev pub inside_all : Assemblies → Option TypeId → List Name → Option TypeId
inside_all s found [] = found
inside_all s found (name ∷ names) = inside_all s (option_and_then (inside s name) found) names

abbrev pub named_in : Assemblies → Name → ℕ → Option Name → Option TypeId
named_in s name a None = found_in s name a
named_in s name a (Some assembly) = in_named (found_in s name) name (assembly_named s assembly)

abbrev pub by_parts : Assemblies → ℕ → Option Name → List Name → Option TypeId
by_parts s a assembly [] = None
by_parts s a assembly (name ∷ names) = inside_all s (named_in s name a assembly) names

-- in the assembly that stands behind the comma, else in this one
unfoldable pub text_type : Assemblies → ℕ → List ℕ → Option TypeId
text_type s a text = by_parts s a (assembly_in text) (parted [] (before_comma text))

-- the type that a CustomAttribute row of one of the two names; none where its blob is in no grammar, or the type isn't there
unfoldable pub attribute_type : Assemblies → ℕ → ℕ → Option TypeId
attribute_type s a k = option_and_then (text_type s a) (attribute_text (blob (assembly_at s a) CUSTOM_ATTRIBUTE k 2))

abbrev pub names_type : Assemblies → ℕ → ℕ → Bool
names_type s a k = is_attribute s a class_attribute k || is_attribute s a class_for_attribute k

-- the outside types that the attributes of all assemblies name, TARGET's last
unfoldable pub attribute_outside : Assemblies → List Name
attribute_outside s = flat_map (λ a. filter_map (λ k. outside_name (attribute_type s a k)) (filter (names_type s a) (rows_in (assembly_at s a) CUSTOM_ATTRIBUTE))) (order s)
