use Rattle.std.proofs.Common.{◌∙◌}
use Rattle.set_types.specs.CodedTypes.{coded_of}
use Rattle.signature_rules.proofs.SignatureLaws.{strays_step}
use Rattle.signature_rules.proofs.parameters.+strayer.Goals as goal

pub is_stray-returns : goal.is_stray-returns
is_stray-returns t c = c.layer_strays.ensures ∙ strays_step (coded_of c.args.coded.now) c.args.n c.args.m c.args.depth c.args.ty.now c.if-depth-eq0.false
