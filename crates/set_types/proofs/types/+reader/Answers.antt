use Rattle.std.proofs.Common.{◌-◌}
use Rattle.cli_sigs.specs.declared.types.SigTy.{out-SigTy}
use Rattle.set_types.specs.CodedTypes.{coded_of}
use Rattle.set_types.specs.SignatureTypes.{ty_within, layer_ty}
use Rattle.set_types.proofs.TypeLaws.{ty_step, if_ok_is}
use Rattle.set_types.proofs.types.+reader.Goals as goal

pub type_at-returns : goal.type_at-returns
type_at-returns t c =
    if_ok_is c.layer_at.result (layer_ty (coded_of c.args.coded.now) (ty_within (coded_of c.args.coded.now) (c.args.depth - 1)) (out-SigTy c.args.ty.now)) (ty_within (coded_of c.args.coded.now) c.args.depth c.args.ty.now)
    (ty_step (coded_of c.args.coded.now) c.args.depth c.args.ty.now c.if-depth-eq0.false)
    c.layer_at.ensures
