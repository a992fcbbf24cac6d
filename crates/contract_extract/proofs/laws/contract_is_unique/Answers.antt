use Rattle.contract_extract.proofs.MethodLaws.{has_one, breaks_none}
use Rattle.contract_extract.proofs.laws.contract_is_unique.Goals as goal

pub returns-clause-one : goal.returns-clause-one
returns-clause-one c = has_one

pub returns-clause-unbroken : goal.returns-clause-unbroken
returns-clause-unbroken c = breaks_none
