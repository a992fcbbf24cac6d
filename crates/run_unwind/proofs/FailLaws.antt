-- The statics of a type whose initializer has failed, among those of all.
use Rattle.std.proofs.Common.{◌≡◌, ◌∙◌, sym, ap, ℕ, List, [], ◌∷◌, ◌++◌}
use Rattle.std.specs.Prelude.{Option, None, Some, slice_get, slice_set}
use Rattle.cil_model.specs.declared.ty.Ty.{Ty}
use Rattle.cil_semantics.specs.Types.{same_ty}
use Rattle.cil_semantics.specs.Unwind.{set_statics}
use Rattle.cil_semantics.specs.Words.{maybe}
use Rattle.cil_semantics.specs.declared.Init.TheVariants.{Failed}
use Rattle.cil_semantics.specs.declared.Statics.{Statics}
use Rattle.run_places.specs.Owners.{owner_place}
use Rattle.run_places.proofs.OwnerLaws.{no_owner, owner_found, owner_set, pushed_owner}
use Rattle.run_unwind.specs.Unwound.{failed_statics}

abbrev fresh : Ty → ℕ → Statics
fresh t y = record { owner = t; init = Some (Failed y); cells = [] }

abbrev failed : ℕ → Statics → Statics
failed y s = record s { init = Some (Failed y) }

abbrev failed_for : Ty → ℕ → List Statics → Option Statics → List Statics
failed_for t y ss o = set_statics (same_ty t) (maybe (fresh t y) (failed y) o) ss

pub first_failed : (t : Ty) (y : ℕ) (ss : List Statics) → None ≡ owner_place t ss → ss ++ fresh t y ∷ [] ≡ failed_statics t y ss
first_failed t y ss e = sym (ap (failed_for t y ss) (no_owner t ss e) ∙ pushed_owner t ss (fresh t y) e)

pub later_failed : (t : Ty) (y : ℕ) (ss : List Statics) (k : ℕ) (s : Statics) → Some k ≡ owner_place t ss → slice_get ss k ≡ Some s → slice_set ss k (failed y s) ≡ failed_statics t y ss
later_failed t y ss k s e i = sym (ap (failed_for t y ss) (owner_found t ss k e ∙ i) ∙ owner_set t ss k (failed y s) e)
