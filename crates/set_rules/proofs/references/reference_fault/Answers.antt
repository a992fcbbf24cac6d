use Rattle.set_rules.proofs.RowTestLaws.{references_are}
use Rattle.set_rules.proofs.references.reference_fault.Goals as goal

pub returns : goal.returns
returns c = λ s h. references_are s c.args.a c.args.references.now c.unnamed_fault.result h c.unnamed_fault.ensures
