use Rattle.std.proofs.Common.{◌∙◌, sym, ap}
use Rattle.std.specs.Prelude.{Option}
use Rattle.il_opcodes.specs.declared.class.Class.{Class}
use Rattle.cil_model.specs.declared.program.Meaning.{Meaning}
use Rattle.cil_semantics.specs.Acts.{UseStatic, on_static, on_top}
use Rattle.cil_semantics.specs.Instructions.{act_of_class}
use Rattle.cil_semantics.specs.State.{with_stack}
use Rattle.cil_semantics.specs.declared.state.Access.TheVariants.{Write}
use Rattle.run_acts.proofs.dispatch.on_places.Goals as goal

pub returns-in_ok-answer-in-StoreStatic : goal.returns-in_ok-answer-in-StoreStatic
unfolding act_of_class
returns-in_ok-answer-in-StoreStatic c = λ here i e.
    let p = c.args.program.now in
    let l = c.args.local.now in
    c.in_ok-answer-in-StoreStatic.ensures
    ∙ ap (λ (m : Option Meaning). on_top l.stack (λ v rest. on_static p m (λ t q. UseStatic t (Write q v) (with_stack l rest)))) e
    ∙ sym (ap (λ (k : Class). act_of_class p here i c.args.world.now l k) c.in-StoreStatic.is)
