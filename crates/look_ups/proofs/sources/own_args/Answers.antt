use Rattle.std.proofs.Common.{◌∙◌, sym, ap, ◌++◌, ◌∷◌, [], List, arith}
use Rattle.std.proofs.lemmas.List.FromFn.{map-range_with_len_more}
use Rattle.cil_model.specs.declared.ty.Ty.{Ty}
use Rattle.cil_model.specs.declared.ty.Ty.TheVariants.{Var}
use Rattle.look_ups.proofs.sources.own_args.Goals as goal

pub loop-k-preserved : goal.loop-k-preserved
loop-k-preserved c = c.in_ok-push.ensures.ok ∙ ap (λ (ts : List Ty). ts ++ Var c.loop-k.k ∷ []) c.loop-k.invariant ∙ sym (map-range_with_len_more Var 0 c.loop-k.k c.loop-k.k (omega arith))
