use Rattle.std.proofs.Common.{◌∙◌, ◌-◌}
use Rattle.signature_rules.proofs.SignatureLaws.{miscounts_step}
use Rattle.signature_rules.specs.ParameterCounts.{count_of}
use Rattle.signature_rules.proofs.parameters.+counter.Goals as goal

pub is_miscount-returns : goal.is_miscount-returns
is_miscount-returns t c = c.layer_miscounts.ensures ∙ miscounts_step (count_of c.args.parameters.now) c.args.depth c.args.ty.now c.if-depth-eq0.false
