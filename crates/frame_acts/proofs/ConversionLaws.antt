-- A checked conversion takes its operand from the stack.
use Rattle.std.proofs.Common.{◌≡◌, ◌∙◌, ap, sym, List, ◌∷◌, Bool}
use Rattle.cil_model.specs.declared.value.Value.{Value}
use Rattle.cil_semantics.specs.Acts as acts
use Rattle.cil_semantics.specs.declared.Local.{Local}
use Rattle.cil_semantics.specs.declared.number.Numeric.{Numeric}
use Rattle.il_opcodes.specs.declared.class.NumberKind.{NumberKind}
use Rattle.run_numbers.specs.Answers.{act_of}
use Rattle.run_numbers.specs.declared.answer.Answer.{Answer}

pub converts : (u : Bool) (kind : NumberKind) (l : Local) (x : Value) (rest : List Value) (n : Numeric) (r : Answer) (a : acts.Act)
    → a ≡ act_of r (record l { stack = rest })
    → n ≡ acts.numeric x
    → l.stack ≡ x ∷ rest
    → ((m : Local) (s : List Value) → act_of r (record m { stack = s }) ≡ acts.if_some (acts.read_number u n) (λ z. acts.convert_checked kind z m s))
    → a ≡ acts.on_top l.stack (λ x rest. acts.if_some (acts.read_number u (acts.numeric x)) (λ z. acts.convert_checked kind z l rest))
converts u kind l x rest n r a e same popped h =
    e
    ∙ h l rest
    ∙ ap (λ (m : Numeric). acts.if_some (acts.read_number u m) (λ z. acts.convert_checked kind z l rest)) same
    ∙ sym (ap (λ (s : List Value). acts.on_top s (λ y more. acts.if_some (acts.read_number u (acts.numeric y)) (λ z. acts.convert_checked kind z l more))) popped)
