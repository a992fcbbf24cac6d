use Rattle.std.proofs.Common.{ap, ◌∙◌, ℕ, List, length}
use Rattle.std.proofs.lemmas.Result.{IfOk-weaker}
use Rattle.contract_extract.specs.Reach.{all_crossed, ends_up_to}
use Rattle.contract_extract.proofs.ReachLaws.{all_told}
use Rattle.contract_extract.proofs.reach.crossed_ends.Goals as goal

pub returns : goal.returns
returns c =
    IfOk-weaker c.spread.result _ _
    (λ out h. h ∙ ap (λ (l : List ℕ). ends_up_to l (length l)) c.deref.ensures.value ∙ all_told (length c.args.instrs.now) c.in_ok-ends.ends.items (all_crossed c.args.instrs.now) c.in_ok-ends.ensures)
    c.spread.ensures
