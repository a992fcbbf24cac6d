use Rattle.std.proofs.Common.{◌∙◌, ap, List, ℕ, ◌++◌}
use Rattle.signature_rules.proofs.SignatureLaws.{values_step, on_ok_is}
use Rattle.set_types.specs.SignatureRules.{open_values, values_within}
use Rattle.cli_sigs.specs.declared.types.SigTy.{out-SigTy}
use Rattle.std.proofs.Common.{◌-◌}
use Rattle.signature_rules.proofs.values.+values.Goals as goal

pub push_values-returns : goal.push_values-returns
push_values-returns t c =
    on_ok_is c.push_layer.result c.args.out.now c.push_layer.new.out (open_values (values_within (c.args.depth - 1)) (out-SigTy c.args.ty.now)) (values_within c.args.depth c.args.ty.now)
    (values_step c.args.depth c.args.ty.now c.if-depth-eq0.false) c.push_layer.ensures
