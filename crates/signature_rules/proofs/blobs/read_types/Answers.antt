use Rattle.std.proofs.Common.{◌≡◌, sym, subst}
use Rattle.std.specs.Prelude.{IfOk}
use Rattle.cil_base.specs.declared.rule.Rule.TheVariants.{S1}
use Rattle.cil_base.specs.Refusals.{OnRefused}
use Rattle.cli_sigs.specs.Grammar.{IsMethodSig, IsPropertySig, IsFieldSig, IsLocals, IsTypeSpec, IsMethodSpec}
use Rattle.set_signatures.specs.Blobs.{field_sig, method_sig, property_sig, local_sigs, spec_sig, instance_sigs}
use Rattle.signature_rules.specs.declared.blobs.BlobKind.{BlobKind}
use Rattle.signature_rules.specs.declared.blobs.BlobKind.TheVariants as kind
use Rattle.signature_rules.specs.BlobKinds.{kind_types, IsBadBlob}
use Rattle.signature_rules.proofs.SignatureLaws.{one_read, method_read, list_read, is_bad, refused_as}
use Rattle.signature_rules.proofs.blobs.read_types.Goals as goal

pub returns-in-Field-clause-read : goal.returns-in-Field-clause-read
unfolding field_sig
returns-in-Field-clause-read c = subst (λ (k : BlobKind). IfOk c.types_of_one.result (λ tys. tys ≡ kind_types k c.args.blob.now)) (sym c.in-Field.is) (one_read c.read_field_sig.result (field_sig c.args.blob.now) c.types_of_one.result c.read_field_sig.ensures.read c.types_of_one.ensures.found)

pub returns-in-Field-clause-refused : goal.returns-in-Field-clause-refused
returns-in-Field-clause-refused c = subst (λ (k : BlobKind). OnRefused c.types_of_one.result (IsBadBlob k c.args.place c.args.blob.now)) (sym c.in-Field.is) (refused_as c.read_field_sig.result c.types_of_one.result (IsBadBlob kind.Field c.args.place c.args.blob.now) c.types_of_one.ensures.refused (is_bad IsFieldSig S1 c.args.place c.args.blob.now c.read_field_sig.result c.read_field_sig.ensures.only c.read_field_sig.ensures.refused))

pub returns-in-Method-clause-read : goal.returns-in-Method-clause-read
unfolding method_sig
returns-in-Method-clause-read c = subst (λ (k : BlobKind). IfOk c.types_of_signature.result (λ tys. tys ≡ kind_types k c.args.blob.now)) (sym c.in-Method.is) (method_read c.read_method_sig.result (method_sig c.args.blob.now) c.types_of_signature.result c.read_method_sig.ensures.read c.types_of_signature.ensures.found)

pub returns-in-Method-clause-refused : goal.returns-in-Method-clause-refused
returns-in-Method-clause-refused c = subst (λ (k : BlobKind). OnRefused c.types_of_signature.result (IsBadBlob k c.args.place c.args.blob.now)) (sym c.in-Method.is) (refused_as c.read_method_sig.result c.types_of_signature.result (IsBadBlob kind.Method c.args.place c.args.blob.now) c.types_of_signature.ensures.refused (is_bad IsMethodSig S1 c.args.place c.args.blob.now c.read_method_sig.result c.read_method_sig.ensures.only c.read_method_sig.ensures.refused))

pub returns-in-Property-clause-read : goal.returns-in-Property-clause-read
unfolding property_sig
returns-in-Property-clause-read c = subst (λ (k : BlobKind). IfOk c.types_of_signature-in-Property.result (λ tys. tys ≡ kind_types k c.args.blob.now)) (sym c.in-Property.is) (method_read c.read_property_sig.result (property_sig c.args.blob.now) c.types_of_signature-in-Property.result c.read_property_sig.ensures.read c.types_of_signature-in-Property.ensures.found)

pub returns-in-Property-clause-refused : goal.returns-in-Property-clause-refused
returns-in-Property-clause-refused c = subst (λ (k : BlobKind). OnRefused c.types_of_signature-in-Property.result (IsBadBlob k c.args.place c.args.blob.now)) (sym c.in-Property.is) (refused_as c.read_property_sig.result c.types_of_signature-in-Property.result (IsBadBlob kind.Property c.args.place c.args.blob.now) c.types_of_signature-in-Property.ensures.refused (is_bad IsPropertySig S1 c.args.place c.args.blob.now c.read_property_sig.result c.read_property_sig.ensures.only c.read_property_sig.ensures.refused))

pub returns-in-Locals-clause-read : goal.returns-in-Locals-clause-read
unfolding local_sigs
returns-in-Locals-clause-read c = subst (λ (k : BlobKind). IfOk c.read_locals.result (λ tys. tys ≡ kind_types k c.args.blob.now)) (sym c.in-Locals.is) (list_read c.read_locals.result (local_sigs c.args.blob.now) c.read_locals.ensures.read)

pub returns-in-Locals-clause-refused : goal.returns-in-Locals-clause-refused
returns-in-Locals-clause-refused c = subst (λ (k : BlobKind). OnRefused c.read_locals.result (IsBadBlob k c.args.place c.args.blob.now)) (sym c.in-Locals.is) (is_bad IsLocals S1 c.args.place c.args.blob.now c.read_locals.result c.read_locals.ensures.only c.read_locals.ensures.refused)

pub returns-in-TypeSpec-clause-read : goal.returns-in-TypeSpec-clause-read
unfolding spec_sig
returns-in-TypeSpec-clause-read c = subst (λ (k : BlobKind). IfOk c.types_of_one-in-TypeSpec.result (λ tys. tys ≡ kind_types k c.args.blob.now)) (sym c.in-TypeSpec.is) (one_read c.read_type_spec.result (spec_sig c.args.blob.now) c.types_of_one-in-TypeSpec.result c.read_type_spec.ensures.read c.types_of_one-in-TypeSpec.ensures.found)

pub returns-in-TypeSpec-clause-refused : goal.returns-in-TypeSpec-clause-refused
returns-in-TypeSpec-clause-refused c = subst (λ (k : BlobKind). OnRefused c.types_of_one-in-TypeSpec.result (IsBadBlob k c.args.place c.args.blob.now)) (sym c.in-TypeSpec.is) (refused_as c.read_type_spec.result c.types_of_one-in-TypeSpec.result (IsBadBlob kind.TypeSpec c.args.place c.args.blob.now) c.types_of_one-in-TypeSpec.ensures.refused (is_bad IsTypeSpec S1 c.args.place c.args.blob.now c.read_type_spec.result c.read_type_spec.ensures.only c.read_type_spec.ensures.refused))

pub returns-in-MethodSpec-clause-read : goal.returns-in-MethodSpec-clause-read
unfolding instance_sigs
returns-in-MethodSpec-clause-read c = subst (λ (k : BlobKind). IfOk c.read_method_spec.result (λ tys. tys ≡ kind_types k c.args.blob.now)) (sym c.in-MethodSpec.is) (list_read c.read_method_spec.result (instance_sigs c.args.blob.now) c.read_method_spec.ensures.read)

pub returns-in-MethodSpec-clause-refused : goal.returns-in-MethodSpec-clause-refused
returns-in-MethodSpec-clause-refused c = subst (λ (k : BlobKind). OnRefused c.read_method_spec.result (IsBadBlob k c.args.place c.args.blob.now)) (sym c.in-MethodSpec.is) (is_bad IsMethodSpec S1 c.args.place c.args.blob.now c.read_method_spec.result c.read_method_spec.ensures.only c.read_method_spec.ensures.refused)
