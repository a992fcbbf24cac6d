use Rattle.std.proofs.Common.{rules}
use Rattle.cil_model.proofs.MethodListLaws.{set-with_body}
use Rattle.cil_model.proofs.methods.MethodDescs.set_body.Goals as goal

pub returns-clause-body : goal.returns-clause-body
returns-clause-body c = search (rules, set-with_body)
