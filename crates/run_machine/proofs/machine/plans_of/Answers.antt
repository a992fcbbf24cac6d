use Rattle.std.proofs.Common.{rules, ◌≡◌, ◌∙◌, ap, ℕ, length}
use Rattle.std.specs.Prelude.{map}
use Rattle.std.specs.List.{range_with_len}
use Rattle.cil_model.specs.declared.contract.Contracts.{Contracts}
use Rattle.cil_model.specs.declared.program.Program.{Program}
use Rattle.cil_semantics.specs.Unwind.{plan_at}
use Rattle.run_machine.proofs.PlanLaws.{one_more, are_plans}
use Rattle.run_machine.proofs.machine.plans_of.Goals as goal

pub loop-method-preserved : goal.loop-method-preserved
loop-method-preserved c =
    one_more (plan_at c.args.contracts.now c.args.program.now) c.loop-method.method c.loop-method.plans.items c.push.new.self.items c.in_ok-method_plan.field-0 c.in_ok-push.ensures.items c.in_ok-method_plan.ensures c.loop-method.invariant

pub returns : goal.returns
returns c =
    let p : Program = c.args.program.now in
    let k : Contracts = c.args.contracts.now in
    let all : c.loop-method.method ≡ length p.methods = search rules in
    are_plans p k c.loop-method.plans.items (c.loop-method.invariant ∙ ap (λ (n : ℕ). map (plan_at k p) (range_with_len 0 n)) all)
