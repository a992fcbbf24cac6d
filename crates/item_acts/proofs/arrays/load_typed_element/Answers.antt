use Rattle.std.proofs.Common.{◌≡◌, ◌∙◌, rules}
use Rattle.cil_model.specs.declared.program.Meaning.TheVariants.{OfType}
use Rattle.std.specs.Prelude.{Some}
use Rattle.std.specs.Option.{option_copied}
use Rattle.item_acts.proofs.ItemLaws.{loaded}
use Rattle.item_acts.proofs.arrays.load_typed_element.Goals as goal

pub returns-in_ok-answer-in-Some-OfType : goal.returns-in_ok-answer-in-Some-OfType
returns-in_ok-answer-in-Some-OfType c =
    let named : option_copied c.args.meaning ≡ Some (OfType c.in-Some-OfType.ty) = search rules in
    c.in_ok-answer-in-Some-OfType.ensures
    ∙ loaded c.args.program.now c.args.world.now (option_copied c.args.meaning) c.args.local.now c.in-Some-OfType.ty c.storage_of.result named c.storage_of.ensures
