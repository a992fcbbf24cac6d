use Rattle.std.proofs.Common.{◌≡◌, sym, ap, rules}
use Rattle.std.specs.Prelude.{Option, None}
use Rattle.cil_model.specs.declared.body.Body.{Body}
use Rattle.cil_model.specs.declared.program.MethodDesc.{MethodDesc}
use Rattle.cil_semantics.specs.Words.{maybe}
use Rattle.cil_semantics.specs.Lookups.{method_of, no_method}
use Rattle.cil_semantics.specs.Unwind.{no_body}
use Rattle.contract_parts.proofs.LookupLaws.{method_past}
use Rattle.own_contracts.specs.Calls.{has_call}
use Rattle.own_contracts.proofs.contracts.calls_contract.Goals as goal

pub returns-in-None-body : goal.returns-in-None-body
unfolding no_body
returns-in-None-body c =
    let none : (method_of c.args.program.now c.args.m).body ≡ None = search (rules, c.get.ensures, c.in-Some.ensures, c.in-Some.is, c.in-None-body.is) in
    sym (ap (λ (o : Option Body). has_call c.args.program.now (maybe no_body (λ b. b) o).instrs) none)

pub returns-in-None : goal.returns-in-None
unfolding no_method no_body
returns-in-None c = sym (ap (λ (d : MethodDesc). has_call c.args.program.now (maybe no_body (λ b. b) d.body).instrs) (method_past c.args.program.now c.args.m (sym c.in-None.ensures)))
