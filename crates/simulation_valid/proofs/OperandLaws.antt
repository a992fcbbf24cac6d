-- An act that takes values from the stack, or waits for a result or a type, is fine where what it goes on with is.
use Rattle.std.proofs.Common.{◌≡◌, Bool, true, false, List, [], ◌∷◌, Option, Some, None, refl}
use Rattle.std.specs.Prelude.{if◌then◌else◌}
use Rattle.cil_model.specs.declared.ty.Ty.{Ty}
use Rattle.cil_model.specs.declared.value.Value.{Value}
use Rattle.cil_model.specs.declared.contract.Contracts.{Contracts}
use Rattle.cil_model.specs.declared.program.Program.{Program}
use Rattle.cil_model.specs.declared.program.MethodDesc.{MethodDesc}
use Rattle.cil_model.specs.declared.program.Meaning.{Meaning}
use Rattle.cil_model.specs.declared.program.Meaning.TheVariants.{OfType}
use Rattle.cil_semantics.specs.declared.state.Frame.{Frame}
use Rattle.cil_semantics.specs.Acts.{Act, on_top, on_two, if_some, on_type}
use Rattle.cil_semantics.specs.Checks.{AddedNumbers}
use Rattle.splice_facts.specs.WellFormed.{Bounds, WellFormedValue, WellFormedValues}
use Rattle.splice_facts.specs.Related.{Rewritten, bounds}
use Rattle.simulation_valid.specs.Steps.{FineAct}

module _ (p : Program) (k : Contracts) (ms : List MethodDesc) (g : AddedNumbers) (r : Rewritten p k ms g) (f : Frame) (fs : List Frame) where
  abbrev Bs : Bounds
  Bs = bounds p k ms g r

  abbrev Fine : Act → Type 0
  Fine a = FineAct p k ms g r f fs a

  pub top_fine : (s : List Value) (go : Value → List Value → Act) → WellFormedValues Bs s → ((v : Value) (rest : List Value) → WellFormedValue Bs v → WellFormedValues Bs rest → Fine (go v rest)) → Fine (on_top s go)
  top_fine [] go fine h = tt
  top_fine (v ∷ rest) go fine h = h v rest fine.0 fine.1

  pub two_fine : (s : List Value) (go : Value → Value → List Value → Act) → WellFormedValues Bs s → ((x y : Value) (rest : List Value) → WellFormedValue Bs x → WellFormedValue Bs y → WellFormedValues Bs rest → Fine (go x y rest)) → Fine (on_two s go)
  two_fine [] go fine h = tt
  two_fine (y ∷ []) go fine h = tt
  two_fine (y ∷ x ∷ rest) go fine h = h x y rest fine.1.0 fine.0 fine.1.1

  pub some_fine : {X : Type 0} (o : Option X) (go : X → Act) → ((x : X) → o ≡ Some x → Fine (go x)) → Fine (if_some o go)
  some_fine None go h = tt
  some_fine (Some x) go h = h x refl

  pub type_fine : (m : Option Meaning) (go : Ty → Act) → ((t : Ty) → Fine (go t)) → Fine (on_type m go)
  type_fine None go h = tt
  type_fine (Some (OfType t)) go h = h t
  type_fine (Some _) go h = tt

  pub either_fine : (b : Bool) (x y : Act) → Fine x → Fine y → Fine (if b then x else y)
  either_fine true x y fx fy = fx
  either_fine false x y fx fy = fy
