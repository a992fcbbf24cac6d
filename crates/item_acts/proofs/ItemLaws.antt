-- Items of arrays, in the machine's acts.
use Rattle.std.proofs.Common.{◌≡◌, ◌∙◌, sym, ap, ℕ, ℤ, [], ◌∷◌, length}
use Rattle.std.specs.Prelude.{Option, Some, ◌&&◌, not, if◌then◌else◌, option_and_then}
use Rattle.cil_model.specs.declared.ty.Ty.{Ty, out-Ty}
use Rattle.cil_model.specs.declared.ty.Ty.TheVariants as ty
use Rattle.cil_model.specs.declared.value.Pointer.{Pointer}
use Rattle.cil_model.specs.declared.value.Pointer.TheVariants.{Inside}
use Rattle.cil_model.specs.declared.value.Value.{Value}
use Rattle.cil_model.specs.declared.program.Program.{Program}
use Rattle.cil_model.specs.declared.program.Meaning.{Meaning}
use Rattle.cil_model.specs.declared.program.Meaning.TheVariants.{OfType}
use Rattle.cil_semantics.specs.Acts.{Act, Load, Store, at_index, fits_item, if_some, item_type, item_type_at, on_item, on_two, on_type}
use Rattle.cil_semantics.specs.Places.{Storage, is_reference, storage}
use Rattle.cil_semantics.specs.State.{object_at, with_stack}
use Rattle.cil_semantics.specs.declared.Local.{Local}
use Rattle.cil_semantics.specs.declared.Object.{Object}
use Rattle.cil_semantics.specs.declared.World.{World}
use Rattle.look_ups.proofs.TypeLaws.{array_out}
use Rattle.item_acts.specs.Found.{items_of, mismatch_act}

-- the act at an index of the k-th object, which is an array
pub array_place : (w : World) (k n : ℕ) (o : Object) (i : Ty) (index : ℤ) (go : Pointer → Ty → Act) (act : Act) → object_at w k ≡ Some o → o.ty ≡ ty.Array i → n ≡ length o.cells → ((t : Ty) → items_of w k ≡ Some t → act ≡ at_index n index (λ j. go (Inside k (j ∷ [])) t)) → act ≡ if_some (object_at w k) (λ (o : Object). if_some (item_type o) (λ t. at_index (length o.cells) index (λ j. go (Inside k (j ∷ [])) t)))
array_place w k n o i index go act there is_array count place =
    place i (ap (option_and_then item_type) there ∙ typed)
    ∙ ap (λ (m : ℕ). at_index m index (λ j. go (Inside k (j ∷ [])) i)) count
    ∙ sym (ap (λ (x : Option Object). if_some x (λ (o : Object). if_some (item_type o) (λ t. at_index (length o.cells) index (λ j. go (Inside k (j ∷ [])) t)))) there
    ∙ ap (λ (x : Option Ty). if_some x (λ t. at_index (length o.cells) index (λ j. go (Inside k (j ∷ [])) t))) typed)
  where
    typed : item_type o ≡ Some i
    typed = ap item_type_at (ap out-Ty is_array ∙ array_out i)

-- ldelem of a type
pub loaded : (p : Program) (w : World) (m : Option Meaning) (l : Local) (t : Ty) (h : Storage) → m ≡ Some (OfType t) → h ≡ storage p t → on_two l.stack (λ a n rest. on_item w a n (λ q u. Load q h (with_stack l rest))) ≡ on_type m (λ t. on_two l.stack (λ a n rest. on_item w a n (λ q u. Load q (storage p t) (with_stack l rest))))
loaded p w m l t h e k =
    ap (λ (s : Storage). on_two l.stack (λ a n rest. on_item w a n (λ q u. Load q s (with_stack l rest)))) k
    ∙ sym (ap (λ (x : Option Meaning). on_type x (λ t. on_two l.stack (λ a n rest. on_item w a n (λ q u. Load q (storage p t) (with_stack l rest))))) e)

-- what a store leaves goes where the index leads, unless it is of another type
abbrev pub stores : Program → World → Option Value → Local → Pointer → Ty → Act
stores p w left l q t = if_some left (λ x. if is_reference (storage p t) && not (fits_item p w t x) then mismatch_act else Store q x l)
