use Rattle.std.proofs.Common.{sym, ap}
use Rattle.std.specs.Prelude.{◌||◌}
use Rattle.cil_model.specs.declared.program.MethodDesc.{MethodDesc}
use Rattle.cil_model.specs.declared.ty.Ty as types
use Rattle.cil_semantics.specs.Lookups.{no_method}
use Rattle.contract_parts.specs.Flow.{has_result}
use Rattle.contract_parts.proofs.LookupLaws.{method_past}
use Rattle.contract_extract.proofs.rules.may_name_result.Goals as goal

pub returns-in-None : goal.returns-in-None
unfolding no_method types.out-Ty denote.Hole.Carrier.out denote.Hole.Carrier.hidden denote.Hole.Carrier.shown Rattle.cil_model.specs.declared.ty.Ty.TheBlock.hidden-the_row-Ty-1 Rattle.cil_model.specs.declared.ty.Ty.TheBlock.shown-the_row-Ty-1
returns-in-None c = sym (ap (λ (d : MethodDesc). has_result d || d.abbreviator) (method_past c.args.p.now c.args.m (sym c.in-None.ensures)))
