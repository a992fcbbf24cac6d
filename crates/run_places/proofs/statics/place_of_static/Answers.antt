use Rattle.run_places.proofs.LayoutLaws.{instance_place, known_place}
use Rattle.run_places.proofs.statics.place_of_static.Goals as goal

pub returns-in-Known : goal.returns-in-Known
returns-in-Known c = known_place c.args.program.now c.args.field c.in-Known.k c.args.ty.now c.fields_of.result.now c.place_among.result c.in-Known.is c.fields_of.ensures c.place_among.ensures

pub returns-in-Inst : goal.returns-in-Inst
returns-in-Inst c =
    instance_place c.args.program.now c.args.field c.in-Inst.ty c.in-Inst.args c.args.ty.now c.fields_of-in-Inst.result.now c.place_among-in-Inst.result c.in-Inst.is c.fields_of-in-Inst.ensures c.place_among-in-Inst.ensures
