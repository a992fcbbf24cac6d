use Rattle.std.proofs.Common.{◌∙◌, sym}
use Rattle.set_rules.proofs.RowTestLaws.{not_taken}
use Rattle.set_rules.proofs.assemblies.assembly_fault.Goals as goal

pub returns : goal.returns
returns c = not_taken c.args.set.now c.args.a (sym c.is_taken.ensures ∙ c.if-is_taken.false)
