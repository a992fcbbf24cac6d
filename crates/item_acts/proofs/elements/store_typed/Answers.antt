use Rattle.std.proofs.Common.{◌∙◌, ap}
use Rattle.std.specs.Prelude.{Option}
use Rattle.cil_model.specs.declared.value.Value.{Value}
use Rattle.cil_semantics.specs.Acts.{on_item}
use Rattle.cil_semantics.specs.declared.Local.{Local}
use Rattle.item_acts.proofs.ItemLaws.{stores}
use Rattle.item_acts.proofs.elements.store_typed.Goals as goal

pub returns : goal.returns
returns c = λ (l : Local).
    let p = c.args.program.now in
    let w = c.args.world.now in
    c.in_ok-answer.ensures l
    ∙ c.in_ok-place.ensures (stores p w c.in_ok-left.left l)
    ∙ ap (λ (left : Option Value). on_item w c.args.popped.at.x c.args.popped.at.y (stores p w left l)) c.in_ok-left.ensures
