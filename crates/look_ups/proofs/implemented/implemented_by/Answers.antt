use Rattle.std.proofs.Common.{◌∙◌, ap, ◌++◌, ◌∷◌, [], List, length, arith}
use Rattle.cil_model.specs.declared.ty.Ty.{Ty}
use Rattle.cil_semantics.specs.Dispatch.{Seen}
use Rattle.look_ups.proofs.SourceLaws.{interfaces_end}
use Rattle.look_ups.proofs.implemented.implemented_by.Goals as goal

pub returns : goal.returns
returns c =
    c.in_ok-push.ensures.ok
    ∙ ap (λ (t : Ty). c.loop-owner.found ++ (t, c.args.method) ∷ []) c.in_ok-copied.ensures
    ∙ ap (λ (ss : List Seen). ss ++ (c.args.ty.now, c.args.method) ∷ [])
    (interfaces_end c.args.program.now (c.args.ty.now, c.args.method) c.loop-owner.owner-index c.loop-owner.found
    (omega (arith, c.loop-owner-test.false, ap length (c.as_slice-owner-items.ensures ∙ c.in_ok-interfaces.ensures)))
    c.loop-owner.invariant)
