use Rattle.cil_model.specs.declared.ty.Ty as X
use Rattle.std.proofs.Common.{◌∙◌, ap}
use Rattle.cil_model.specs.declared.program.MethodDesc.{MethodDesc}
use Rattle.cil_semantics.specs.Lookups.{no_method}
use Rattle.il_flow.specs.Effects.{plain, count_arguments, count_results}
use Rattle.il_flow.proofs.FindLaws.{absent}
use Rattle.il_flow.proofs.effect.known_call.Goals as goal

pub returns-in-None : goal.returns-in-None
unfolding no_method X.out-Ty denote.Hole.Carrier.out
returns-in-None c =
    c.plain-in-None.ensures ∙ ap (λ (d : MethodDesc). plain (count_arguments d) (count_results d)) (absent c.args.program.now.methods c.args.method no_method c.in-None.ensures)
