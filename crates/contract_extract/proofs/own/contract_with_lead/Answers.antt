use Rattle.std.proofs.Common.{◌≡◌, ◌∙◌, subst, Some, None, IfOk}
use Rattle.cil_base.specs.Refusals.{OnRefused, first_of}
use Rattle.contract_parts.specs.Flow.{Code}
use Rattle.contract_extract.specs.OwnContract.{own_contract}
use Rattle.contract_extract.specs.Rules.{tests}
use Rattle.contract_extract.proofs.own.contract_with_lead.Goals as goal

pub returns-clause-right : goal.returns-clause-right
returns-clause-right c =
    subst (λ (x : Code). IfOk c.checked_contract.result (λ contract. (contract ≡ own_contract x) × (first_of (tests x) ≡ None))) (c.new-block.ensures ∙ c.code-3.ensures) c.checked_contract.ensures.right

pub returns-clause-wrong : goal.returns-clause-wrong
returns-clause-wrong c =
    subst (λ (x : Code). OnRefused c.checked_contract.result (λ r. first_of (tests x) ≡ Some r)) (c.new-block.ensures ∙ c.code-3.ensures) c.checked_contract.ensures.wrong
