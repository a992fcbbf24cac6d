use Rattle.std.proofs.Common.{◌∙◌, sym, ap}
use Rattle.cil_model.specs.declared.ty.Ty.TheVariants as ty
use Rattle.cil_semantics.specs.Types.{under, all_under}
use Rattle.look_ups.proofs.TypeLaws.{under_array, under_reference, under_instance}
use Rattle.look_ups.proofs.types.+under.Goals as goal

pub ty_under-returns-in_ok-new-in-Array : goal.ty_under-returns-in_ok-new-in-Array
ty_under-returns-in_ok-new-in-Array t c =
    ap ty.Array (c.in_ok-new-in-Array.ensures ∙ c.in_ok-ty_under-in-Array.ensures ∙ ap (under c.args.type_args.now c.args.method_args.now) c.get.ensures)
    ∙ sym (under_array c.args.type_args.now c.args.method_args.now c.args.ty.now c.in-Array.item c.in-Array.is)

pub ty_under-returns-in_ok-new-in-ByRef : goal.ty_under-returns-in_ok-new-in-ByRef
ty_under-returns-in_ok-new-in-ByRef t c =
    ap ty.ByRef (c.in_ok-new-in-ByRef.ensures ∙ c.in_ok-ty_under-in-ByRef.ensures ∙ ap (under c.args.type_args.now c.args.method_args.now) c.get-in-ByRef.ensures)
    ∙ sym (under_reference c.args.type_args.now c.args.method_args.now c.args.ty.now c.in-ByRef.item c.in-ByRef.is)

pub ty_under-returns-in_ok-all_under-in-Inst : goal.ty_under-returns-in_ok-all_under-in-Inst
ty_under-returns-in_ok-all_under-in-Inst t c =
    ap (ty.Inst c.in-Inst.ty) (c.in_ok-all_under-in-Inst.ensures ∙ ap (all_under c.args.type_args.now c.args.method_args.now) c.as_slice-in-Inst.ensures)
    ∙ sym (under_instance c.args.type_args.now c.args.method_args.now c.args.ty.now c.in-Inst.ty c.in-Inst.args c.in-Inst.is)
