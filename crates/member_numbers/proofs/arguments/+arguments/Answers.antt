use Rattle.std.proofs.Common.{◌∙◌}
use Rattle.set_types.specs.CodedTypes.{coded_of}
use Rattle.member_numbers.proofs.ArgumentLaws.{arguments_step, no_arguments}
use Rattle.member_numbers.proofs.arguments.+arguments.Goals as goal

pub arguments_within-returns-then-depth-eq0 : goal.arguments_within-returns-then-depth-eq0
arguments_within-returns-then-depth-eq0 t c = no_arguments (coded_of c.args.coded.now) c.args.depth c.args.ty.now c.if-depth-eq0.true

pub arguments_within-returns : goal.arguments_within-returns
arguments_within-returns t c = c.layer_arguments.ensures ∙ arguments_step (coded_of c.args.coded.now) c.args.depth c.args.ty.now c.if-depth-eq0.false
