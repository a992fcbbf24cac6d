use Rattle.std.proofs.Common.{sym, subst}
use Rattle.std.specs.Prelude.{IfOk, Some}
use Rattle.cil_base.specs.declared.rule.Rule.TheVariants.{S1}
use Rattle.cli_sigs.specs.Grammar.{IsMethodSig, IsPropertySig, IsFieldSig, IsLocals, IsTypeSpec, IsMethodSpec}
use Rattle.signature_rules.specs.declared.blobs.BlobKind.{BlobKind}
use Rattle.set_blobs.specs.declared.forms.BlobForm.TheVariants as form
use Rattle.set_blobs.specs.Readings.{TellsBad}
use Rattle.set_blobs.proofs.BlobLaws.{answer_tells}
use Rattle.set_blobs.proofs.reading.signature_fault.Goals as goal

pub returns-in-Field : goal.returns-in-Field
returns-in-Field c =
    subst (λ (k : BlobKind). IfOk c.refusal_of.result (λ o. TellsBad (Some (form.Signature k)) c.args.place c.args.blob.now o)) (sym c.in-Field.is)
    (answer_tells IsFieldSig S1 c.args.place c.args.blob.now c.read_field_sig.result c.refusal_of.result c.read_field_sig.ensures.found c.read_field_sig.ensures.only c.read_field_sig.ensures.refused c.refusal_of.ensures)

pub returns-in-Method : goal.returns-in-Method
returns-in-Method c =
    subst (λ (k : BlobKind). IfOk c.refusal_of-in-Method.result (λ o. TellsBad (Some (form.Signature k)) c.args.place c.args.blob.now o)) (sym c.in-Method.is)
    (answer_tells IsMethodSig S1 c.args.place c.args.blob.now c.read_method_sig.result c.refusal_of-in-Method.result c.read_method_sig.ensures.found c.read_method_sig.ensures.only c.read_method_sig.ensures.refused c.refusal_of-in-Method.ensures)

pub returns-in-Property : goal.returns-in-Property
returns-in-Property c =
    subst (λ (k : BlobKind). IfOk c.refusal_of-in-Property.result (λ o. TellsBad (Some (form.Signature k)) c.args.place c.args.blob.now o)) (sym c.in-Property.is)
    (answer_tells IsPropertySig S1 c.args.place c.args.blob.now c.read_property_sig.result c.refusal_of-in-Property.result c.read_property_sig.ensures.found c.read_property_sig.ensures.only c.read_property_sig.ensures.refused c.refusal_of-in-Property.ensures)

pub returns-in-Locals : goal.returns-in-Locals
returns-in-Locals c =
    subst (λ (k : BlobKind). IfOk c.refusal_of-in-Locals.result (λ o. TellsBad (Some (form.Signature k)) c.args.place c.args.blob.now o)) (sym c.in-Locals.is)
    (answer_tells IsLocals S1 c.args.place c.args.blob.now c.read_locals.result c.refusal_of-in-Locals.result c.read_locals.ensures.found c.read_locals.ensures.only c.read_locals.ensures.refused c.refusal_of-in-Locals.ensures)

pub returns-in-TypeSpec : goal.returns-in-TypeSpec
returns-in-TypeSpec c =
    subst (λ (k : BlobKind). IfOk c.refusal_of-in-TypeSpec.result (λ o. TellsBad (Some (form.Signature k)) c.args.place c.args.blob.now o)) (sym c.in-TypeSpec.is)
    (answer_tells IsTypeSpec S1 c.args.place c.args.blob.now c.read_type_spec.result c.refusal_of-in-TypeSpec.result c.read_type_spec.ensures.found c.read_type_spec.ensures.only c.read_type_spec.ensures.refused c.refusal_of-in-TypeSpec.ensures)

pub returns-in-MethodSpec : goal.returns-in-MethodSpec
returns-in-MethodSpec c =
    subst (λ (k : BlobKind). IfOk c.refusal_of-in-MethodSpec.result (λ o. TellsBad (Some (form.Signature k)) c.args.place c.args.blob.now o)) (sym c.in-MethodSpec.is)
    (answer_tells IsMethodSpec S1 c.args.place c.args.blob.now c.read_method_spec.result c.refusal_of-in-MethodSpec.result c.read_method_spec.ensures.found c.read_method_spec.ensures.only c.read_method_spec.ensures.refused c.refusal_of-in-MethodSpec.ensures)
