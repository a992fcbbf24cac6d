use Rattle.std.proofs.Common.{◌∙◌, sym, ap, ℤ, [], ◌∷◌, w64}
use Rattle.std.proofs.lemmas.Int.{to_z-of_z}
use Rattle.cil_model.specs.declared.value.Pointer.TheVariants.{Inside}
use Rattle.cil_semantics.specs.Acts.{at_index}
use Rattle.item_acts.proofs.ItemLaws.{array_place}
use Rattle.item_acts.specs.Found.{item_act}
use Rattle.item_acts.proofs.items.place_in.Goals as goal

pub returns-in_ok-place-in-Array : goal.returns-in_ok-place-in-Array
returns-in_ok-place-in-Array c = λ go.
    array_place c.args.world.now c.args.k c.len.result c.in-Some.found.now c.in-Array.field-0 c.args.index go (item_act c.in_ok-place-in-Array.place c.args.world.now go) (sym c.in-Some.ensures) c.in-Array.is c.len.ensures
    (λ t e. c.in_ok-place-in-Array.ensures c.args.world.now go t e
    ∙ ap (λ (z : ℤ). at_index c.len.result z (λ j. go (Inside c.args.k (j ∷ [])) t)) (to_z-of_z w64 c.args.index c.ranges.index))
