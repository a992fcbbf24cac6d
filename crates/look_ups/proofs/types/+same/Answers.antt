use Rattle.std.proofs.Common.{◌∙◌, sym, ap, List}
use Rattle.cil_model.specs.declared.ty.Ty.{Ty, out-Ty}
use Rattle.cil_semantics.specs.Types.{same_ty, same_tys, is_array, is_by_ref, is_inst}
use Rattle.look_ups.proofs.TypeLaws.{same_array, same_reference, same_instance, not_same}
use Rattle.look_ups.proofs.types.+same.Goals as goal

pub is_same-returns-in-Array : goal.is_same-returns-in-Array
is_same-returns-in-Array t c = c.is_array_of.ensures ∙ ap (λ (i : Ty). is_array (same_ty i) (out-Ty c.args.b.now)) c.get.ensures ∙ sym (same_array c.args.a.now c.in-Array.item c.args.b.now c.in-Array.is)

pub is_same-returns-in-ByRef : goal.is_same-returns-in-ByRef
is_same-returns-in-ByRef t c = c.is_reference_to.ensures ∙ ap (λ (i : Ty). is_by_ref (same_ty i) (out-Ty c.args.b.now)) c.get-in-ByRef.ensures ∙ sym (same_reference c.args.a.now c.in-ByRef.item c.args.b.now c.in-ByRef.is)

pub is_same-returns-in-Inst : goal.is_same-returns-in-Inst
is_same-returns-in-Inst t c = c.is_instance.ensures ∙ ap (λ (ts : List Ty). is_inst c.in-Inst.ty (same_tys ts) (out-Ty c.args.b.now)) c.as_slice-in-Inst.ensures ∙ sym (same_instance c.args.a.now c.in-Inst.ty c.in-Inst.args c.args.b.now c.in-Inst.is)

pub are_same-returns-then-a-b : goal.are_same-returns-then-a-b
are_same-returns-then-a-b t c = not_same c.args.a.now c.args.b.now c.if-a-b.true
