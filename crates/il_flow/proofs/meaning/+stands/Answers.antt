use Rattle.std.proofs.Common.{◌∙◌, ap, sym}
use Rattle.std.specs.List.{list_all}
use Rattle.cil_model.specs.declared.ty.Ty as types
use Rattle.cil_model.specs.declared.ty.Ty.{out-Ty, out-roll-Ty}
use Rattle.cil_model.specs.declared.ty.Ty.TheOpen.{Ty-F}
use Rattle.il_flow.specs.Meanings.{stands}
use Rattle.il_flow.proofs.MeaningLaws.{instance_stands}
use Rattle.il_flow.proofs.meaning.+stands.Goals as goal

pub stands-returns-in-Inst : goal.stands-returns-in-Inst
unfolding types.roll-Ty types.out-Ty denote.Hole.Carrier.roll
stands-returns-in-Inst t c =
    c.each_stands.ensures
    ∙ ap (list_all (stands c.args.types c.args.methods)) c.as_slice.ensures
    ∙ sym (instance_stands c.args.types c.args.methods c.args.ty.now c.in-Inst.ty c.in-Inst.args (ap out-Ty c.in-Inst.is ∙ out-roll-Ty (Ty-F.Inst c.in-Inst.ty c.in-Inst.args)))
