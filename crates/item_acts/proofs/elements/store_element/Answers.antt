use Rattle.std.proofs.Common.{◌∙◌, ap, sym, List}
use Rattle.std.specs.Prelude.{Option}
use Rattle.cil_model.specs.declared.value.Value.{Value}
use Rattle.cil_semantics.specs.Acts.{on_item, store_item}
use Rattle.cil_semantics.specs.Places.{stored}
use Rattle.cil_semantics.specs.State.{with_stack}
use Rattle.item_acts.proofs.ItemLaws.{stores}
use Rattle.item_acts.proofs.elements.store_element.Goals as goal

pub returns : goal.returns
returns c =
    let p = c.args.program.now in
    let w = c.args.world.now in
    let l = with_stack c.args.local.now c.pop_stored.new.stack in
    c.in_ok-answer.ensures l
    ∙ c.in_ok-place.ensures (stores p w c.stored_as.result l)
    ∙ ap (λ (left : Option Value). on_item w c.in-Some.popped.at.x c.in-Some.popped.at.y (stores p w left l)) c.stored_as.ensures
    ∙ sym (ap (λ (s : List Value). store_item p w c.args.local.now (stored c.args.storage) s) c.in-Some.ensures)
