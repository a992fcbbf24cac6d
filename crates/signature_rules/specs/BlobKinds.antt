-- The grammars of the blobs that rows of Field, MethodDef, MemberRef, StandAloneSig, Property, TypeSpec and MethodSpec name (ECMA-335, II.23.2).
use Rattle.std.specs.Prelude.{ℕ, ◌==◌, if◌then◌else◌, List, [], option_to_list, Option, Some, None}
use Rattle.cil_base.specs.declared.tables.TheConstants.{FIELD, MEMBER_REF, METHOD_DEF, METHOD_SPEC, PROPERTY, STAND_ALONE_SIG, TYPE_SPEC}
use Rattle.cil_base.specs.declared.refusal.Place.{Place}
use Rattle.cil_base.specs.declared.refusal.Refusal.{Refusal}
use Rattle.cil_base.specs.declared.rule.Rule.{Rule}
use Rattle.cil_base.specs.declared.rule.Rule.TheVariants.{S1}
use Rattle.cli_sigs.specs.declared.types.SigTy.{SigTy}
use Rattle.cli_sigs.specs.Grammar.{IsMethodSig, IsPropertySig, IsFieldSig, IsLocals, IsTypeSpec, IsMethodSpec}
use Rattle.cli_sigs.specs.Answers.{AtLongest}
use Rattle.set_types.specs.SignatureRules.{method_types}
use Rattle.set_signatures.specs.Blobs.{field_sig, method_sig, property_sig, local_sigs, spec_sig, instance_sigs, is_field_blob, first_byte}
use Rattle.signature_rules.specs.declared.blobs.BlobKind.{BlobKind}
use Rattle.signature_rules.specs.declared.blobs.BlobKind.TheVariants as kind

-- the grammar of a row's blob
abbrev pub blob_kind : ℕ → List ℕ → Option BlobKind
blob_kind table bytes =
    if table == FIELD then Some kind.Field
    else if table == METHOD_DEF then Some kind.Method
    else if table == MEMBER_REF then Some (if is_field_blob bytes then kind.Field else kind.Method)
    else if table == STAND_ALONE_SIG then (if first_byte bytes == 0x07 then Some kind.Locals else None)
    else if table == PROPERTY then Some kind.Property
    else if table == TYPE_SPEC then Some kind.TypeSpec
    else if table == METHOD_SPEC then Some kind.MethodSpec
    else None

abbrev pub types_or_none : {A : Type 0} → (A → List SigTy) → Option A → List SigTy
types_or_none f None = []
types_or_none f (Some v) = f v

-- the types in a blob of this grammar
abbrev pub kind_types : BlobKind → List ℕ → List SigTy
kind_types kind.Field bytes = option_to_list (field_sig bytes)
kind_types kind.Method bytes = types_or_none method_types (method_sig bytes)
kind_types kind.Property bytes = types_or_none method_types (property_sig bytes)
kind_types kind.Locals bytes = types_or_none (λ ts. ts) (local_sigs bytes)
kind_types kind.TypeSpec bytes = option_to_list (spec_sig bytes)
kind_types kind.MethodSpec bytes = types_or_none (λ ts. ts) (instance_sigs bytes)

-- the blob is in no grammar of its kind, and the longest prefix of one ends there
abbrev pub IsBad : {A : Type 0} → (List ℕ → A → Type 0) → Rule → Place → List ℕ → Refusal → Type 0
IsBad {A} G rule p bytes r = ((v : A) → G bytes v → ⊥) × AtLongest rule p G bytes r

abbrev pub IsBadBlob : BlobKind → Place → List ℕ → Refusal → Type 0
IsBadBlob kind.Field p bytes r = IsBad IsFieldSig S1 p bytes r
IsBadBlob kind.Method p bytes r = IsBad IsMethodSig S1 p bytes r
IsBadBlob kind.Property p bytes r = IsBad IsPropertySig S1 p bytes r
IsBadBlob kind.Locals p bytes r = IsBad IsLocals S1 p bytes r
IsBadBlob kind.TypeSpec p bytes r = IsBad IsTypeSpec S1 p bytes r
IsBadBlob kind.MethodSpec p bytes r = IsBad IsMethodSpec S1 p bytes r
