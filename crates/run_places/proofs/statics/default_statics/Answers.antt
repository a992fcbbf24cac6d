use Rattle.std.proofs.Common.{◌∙◌, ap, map, filter, List, []}
use Rattle.cil_model.specs.declared.ty.Ty.{Ty}
use Rattle.run_places.specs.Fields.{is_static_field}
use Rattle.cil_semantics.specs.Lookups.{field_of}
use Rattle.cil_semantics.specs.Places.{default_cell}
use Rattle.cil_semantics.specs.Types.{under}
use Rattle.run_values.proofs.DefaultLaws.{if_ok_is}
use Rattle.run_places.proofs.LayoutLaws.{instance_cells, known_cells}
use Rattle.run_places.proofs.statics.default_statics.Goals as goal

pub returns-in-Known : goal.returns-in-Known
returns-in-Known c = if_ok_is c.cells_of_fields.result _ _ (known_cells c.args.program.now c.in-Known.k c.args.ty.now c.fields_of.result.now c.in-Known.is c.fields_of.ensures) c.cells_of_fields.ensures

pub returns-in-Inst : goal.returns-in-Inst
returns-in-Inst c =
    if_ok_is c.cells_of_fields-in-Inst.result _ _
    (ap (λ (args : List Ty). map (λ f. default_cell c.args.program.now (under args [] (field_of c.args.program.now f).ty)) (filter (is_static_field c.args.program.now) c.fields_of-in-Inst.result.now)) c.as_slice.ensures
    ∙ instance_cells c.args.program.now c.in-Inst.ty c.in-Inst.args c.args.ty.now c.fields_of-in-Inst.result.now c.in-Inst.is c.fields_of-in-Inst.ensures)
    c.cells_of_fields-in-Inst.ensures
