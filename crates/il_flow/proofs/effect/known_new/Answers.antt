use Rattle.std.proofs.Common.{◌∙◌, ap, length}
use Rattle.cil_model.specs.declared.program.MethodDesc.{MethodDesc}
use Rattle.cil_semantics.specs.Lookups.{no_method}
use Rattle.il_flow.specs.Effects.{plain}
use Rattle.il_flow.proofs.FindLaws.{absent}
use Rattle.il_flow.proofs.effect.known_new.Goals as goal

pub returns-in-None : goal.returns-in-None
unfolding no_method
returns-in-None c =
    c.plain-in-None.ensures ∙ ap (λ (d : MethodDesc). plain (length d.params) 1) (absent c.args.program.now.methods c.args.method no_method c.in-None.ensures)
