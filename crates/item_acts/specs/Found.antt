-- What looking for an item of an array answers, in the machine's acts (own).
use Rattle.std.specs.Prelude.{ℕ, [], ◌∷◌, Option, codes, option_and_then}
use Rattle.cil_model.specs.declared.ty.Ty.{Ty}
use Rattle.cil_model.specs.declared.value.Pointer.{Pointer}
use Rattle.cil_model.specs.declared.value.Pointer.TheVariants.{Inside}
use Rattle.cil_semantics.specs.declared.World.{World}
use Rattle.cil_semantics.specs.State.{object_at}
use Rattle.cil_semantics.specs.Acts.{Act, Stuck, Raise, if_some, item_type, null_reference, out_of_range}
use Rattle.item_acts.specs.declared.items.ItemPlace.{ItemPlace}
use Rattle.item_acts.specs.declared.items.ItemPlace.TheVariants as item

-- the type of the items of the k-th object
abbrev pub items_of : World → ℕ → Option Ty
items_of w k = option_and_then item_type (object_at w k)

-- what is done with a place in an array and the type of its items
abbrev pub item_act : ItemPlace → World → (Pointer → Ty → Act) → Act
item_act item.Null w go = null_reference
item_act item.OutOfRange w go = out_of_range
item_act item.Stuck w go = Stuck
item_act (item.At k j) w go = if_some (items_of w k) (λ t. go (Inside k (j ∷ [])) t)

-- a reference goes into an array of another type (ECMA-335, III.4.26)
abbrev pub mismatch_act : Act
mismatch_act = Raise (codes "System.ArrayTypeMismatchException")
