use Rattle.std.proofs.Common.{sym, subst}
use Rattle.std.specs.Prelude.{IfOk, Some}
use Rattle.cil_base.specs.declared.rule.Rule.TheVariants.{S2}
use Rattle.cli_sigs.specs.Attributes.{IsTypeAttribute, IsBareAttribute}
use Rattle.set_blobs.specs.declared.forms.BlobForm.{BlobForm}
use Rattle.set_blobs.specs.Readings.{TellsBad}
use Rattle.set_blobs.proofs.BlobLaws.{answer_tells}
use Rattle.set_blobs.proofs.reading.form_fault.Goals as goal

pub returns-in-Text : goal.returns-in-Text
returns-in-Text c =
    subst (λ (f : BlobForm). IfOk c.refusal_of.result (λ o. TellsBad (Some f) c.args.place c.args.blob.now o)) (sym c.in-Text.is)
    (answer_tells IsTypeAttribute S2 c.args.place c.args.blob.now c.read_type_attribute.result c.refusal_of.result c.read_type_attribute.ensures.found c.read_type_attribute.ensures.only c.read_type_attribute.ensures.refused c.refusal_of.ensures)

pub returns-in-Bare : goal.returns-in-Bare
returns-in-Bare c =
    subst (λ (f : BlobForm). IfOk c.refusal_of-in-Bare.result (λ o. TellsBad (Some f) c.args.place c.args.blob.now o)) (sym c.in-Bare.is)
    (answer_tells IsBareAttribute S2 c.args.place c.args.blob.now c.read_bare_attribute.result c.refusal_of-in-Bare.result c.read_bare_attribute.ensures.found c.read_bare_attribute.ensures.only c.read_bare_attribute.ensures.refused c.refusal_of-in-Bare.ensures)
