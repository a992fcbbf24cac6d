use Rattle.std.proofs.Common.{◌∙◌, ap, ◌++◌, ◌∷◌, [], List, ℕ, add-one}
use Rattle.cil_model.specs.BodyCode.{cases, landing}
use Rattle.il_code.proofs.operand.targets_of.Goals as goal

pub loop-k-preserved : goal.loop-k-preserved
loop-k-preserved c =
    let n = c.land.ensures ∙ ap (landing c.args.end) c.four_in.ensures in
    rw add-one (c.in_ok-push.ensures.ok ∙ ap (λ (l : List ℕ). l ++ c.land.result ∷ []) c.loop-k.invariant ∙ ap (λ (v : ℕ). cases c.args.end c.args.bytes.now c.loop-k.k ++ v ∷ []) n)
