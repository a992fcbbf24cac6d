use Rattle.std.proofs.Common.{◌∙◌, sym, ap}
use Rattle.cil_semantics.specs.Types.{has_parameter}
use Rattle.cil_semantics.specs.Words.{any}
use Rattle.look_ups.proofs.TypeLaws.{parameter_array, parameter_reference, parameter_instance}
use Rattle.look_ups.proofs.types.+parameter.Goals as goal

pub has_parameter-returns-in-Array : goal.has_parameter-returns-in-Array
has_parameter-returns-in-Array t c = c.has_parameter.ensures ∙ ap has_parameter c.get.ensures ∙ sym (parameter_array c.args.ty.now c.in-Array.item c.in-Array.is)

pub has_parameter-returns-in-ByRef : goal.has_parameter-returns-in-ByRef
has_parameter-returns-in-ByRef t c = c.has_parameter-in-ByRef.ensures ∙ ap has_parameter c.get-in-ByRef.ensures ∙ sym (parameter_reference c.args.ty.now c.in-ByRef.item c.in-ByRef.is)

pub has_parameter-returns-in-Inst : goal.has_parameter-returns-in-Inst
has_parameter-returns-in-Inst t c = c.have_parameter.ensures ∙ ap (any has_parameter) c.as_slice.ensures ∙ sym (parameter_instance c.args.ty.now c.in-Inst.ty c.in-Inst.args c.in-Inst.is)
