-- An act that takes values from the stack, or waits for a result or a type, is fine where what it goes on with is.
use Rattle.std.proofs.Common.{◌≡◌, ℕ, Bool, true, false, List, [], ◌∷◌, Option, Some, None, refl}
use Rattle.std.specs.Prelude.{if◌then◌else◌}
use Rattle.cil_model.specs.declared.ty.Ty.{Ty}
use Rattle.cil_model.specs.declared.value.Value.{Value}
use Rattle.cil_model.specs.declared.program.Meaning.{Meaning}
use Rattle.cil_model.specs.declared.program.Meaning.TheVariants.{OfType}
use Rattle.cil_semantics.specs.Acts.{Act, on_top, on_two, if_some, on_type}
use Rattle.object_validity.specs.Known.{KnownValue, KnownValues, KnownAct}

module _ (b : ℕ) where
  abbrev Fine : Act → Type 0
  Fine a = KnownAct b a

  pub top_fine : (s : List Value) (go : Value → List Value → Act) → KnownValues b s → ((v : Value) (rest : List Value) → KnownValue b v → KnownValues b rest → Fine (go v rest)) → Fine (on_top s go)
  top_fine [] go fine h = tt
  top_fine (v ∷ rest) go fine h = h v rest fine.0 fine.1

  pub two_fine : (s : List Value) (go : Value → Value → List Value → Act) → KnownValues b s → ((x y : Value) (rest : List Value) → KnownValue b x → KnownValue b y → KnownValues b rest → Fine (go x y rest)) → Fine (on_two s go)
  two_fine [] go fine h = tt
  two_fine (y ∷ []) go fine h = tt
  two_fine (y ∷ x ∷ rest) go fine h = h x y rest fine.1.0 fine.0 fine.1.1

  pub some_fine : {X : Type 0} (o : Option X) (go : X → Act) → ((x : X) → o ≡ Some x → Fine (go x)) → Fine (if_some o go)
  some_fine None go h = tt
  some_fine (Some x) go h = h x refl

  pub type_fine : (m : Option Meaning) (go : Ty → Act) → ((t : Ty) → Fine (go t)) → Fine (on_type m go)
  type_fine None go h = tt
  type_fine (Some (OfType t)) go h = h t
  type_fine (Some _) go h = tt

  pub either_fine : (c : Bool) (x y : Act) → Fine x → Fine y → Fine (if c then x else y)
  either_fine true x y fx fy = fx
  either_fine false x y fx fy = fy
