use Rattle.std.proofs.Common.{◌≡◌, ◌∙◌, rules}
use Rattle.cil_model.specs.declared.program.Meaning.TheVariants.{OfField}
use Rattle.std.specs.Prelude.{Some}
use Rattle.cil_model.specs.declared.value.Value.{Value}
use Rattle.cil_semantics.specs.Acts.{Load, field_of_value}
use Rattle.cil_semantics.specs.Places.{Anything}
use Rattle.cil_semantics.specs.State.{with_stack}
use Rattle.std.specs.Option.{option_copied}
use Rattle.field_acts.proofs.FieldLaws.{loaded}
use Rattle.field_acts.proofs.fields.load_field.Goals as goal

pub returns : goal.returns
returns c =
    let named : option_copied c.args.meaning ≡ Some (OfField c.in-Some-OfField.owner c.in-Some-OfField.field) = search rules in
    c.in_ok-answer.ensures
    ∙ c.in_ok-found.ensures (λ q. Load q Anything (with_stack c.args.local.now c.pop.new.self)) (λ (v : Value). field_of_value c.args.program.now c.in-Some-OfField.owner c.in-Some-OfField.field v (with_stack c.args.local.now c.pop.new.self) c.pop.new.self)
    ∙ loaded c.args.program.now c.args.world.now (option_copied c.args.meaning) c.in-Some-OfField.owner c.in-Some-OfField.field c.args.local.now c.in-Some.v c.pop.new.self named c.in-Some.ensures
