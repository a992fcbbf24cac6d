use Rattle.cil_base.proofs.RefusalLaws.{IfRefused-weaker}
use Rattle.set_check.specs.Sets.{bytes_of}
use Rattle.set_list.proofs.ListLaws.{contracts_refused}
use Rattle.set_list.proofs.list.list_read.Goals as goal

pub returns-in-Err-checked_contracts-clause-refused : goal.returns-in-Err-checked_contracts-clause-refused
returns-in-Err-checked_contracts-clause-refused c =
    IfRefused-weaker c.in-Err-checked_contracts.fault _ _ (λ r x. contracts_refused (bytes_of c.args.set.now) r c.in-Ok.ensures.accepted x) c.in-Err-checked_contracts.ensures.refused
