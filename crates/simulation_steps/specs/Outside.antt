-- Calls outside in both runs: the same answer, over frames with their twins and worlds that are alike.
use Rattle.std.specs.Prelude.{◌≡◌, ℕ, List, [], ◌∷◌, length, map, Option, Some, None}
use Rattle.cil_model.specs.declared.ty.Ty.{Ty}
use Rattle.cil_model.specs.declared.value.Value.{Value, out-Value}
use Rattle.cil_model.specs.declared.value.Pointer.{Pointer}
use Rattle.cil_model.specs.declared.contract.Contracts.{Contracts}
use Rattle.cil_model.specs.declared.program.Program.{Program}
use Rattle.cil_model.specs.declared.program.MethodDesc.{MethodDesc}
use Rattle.cil_semantics.specs.declared.state.Cell.{Cell}
use Rattle.cil_semantics.specs.declared.state.World.{World}
use Rattle.cil_semantics.specs.declared.state.Statics.{Statics}
use Rattle.cil_semantics.specs.declared.state.Frame.{Frame}
use Rattle.cil_semantics.specs.declared.state.Continuation.{Continuation}
use Rattle.cil_semantics.specs.Frames.{stored_args}
use Rattle.cil_semantics.specs.Outside.{by_ref_args, pointer_in, Answer, Returned, Threw, Unfit, Member, ask}
use Rattle.cil_semantics.specs.Checks.{AddedNumbers}
use Rattle.splice_facts.specs.Grown.{beside}
use Rattle.splice_facts.specs.WellFormed.{WellFormedPointer}
use Rattle.splice_facts.specs.Exceptions.{IsObject}
use Rattle.splice_facts.specs.Related.{Rewritten, written, bounds, Under, AllStand, count_groups}
use Rattle.simulation_steps.specs.Steps.{BesideIn}

abbrev pub values_of : List Cell → List Value
values_of cells = map (λ (c : Cell). c.value) cells

module _ (p : Program) (k : Contracts) (ms : List MethodDesc) (g : AddedNumbers) (r : Rewritten p k ms g) where
  -- n frames with their twins, c of them in groups, and worlds of a depth that are alike
  pub record Both (b b' : Continuation) (n c d : ℕ) (gs gs' : List Frame) (w w' : World) : Type 0 where
    pub under : Under p k ms g r b b' gs gs'
    pub others : AllStand p k ms g r gs
    pub many : length gs ≡ n
    pub groups : count_groups gs ≡ c
    pub statics : List Statics
    pub alike : BesideIn p k ms g r w statics
    pub world : w' ≡ beside statics w
    pub depth : w.depth ≡ d

  -- the worlds alone
  pub record BothWorlds (d : ℕ) (w w' : World) : Type 0 where
    pub statics : List Statics
    pub alike : BesideIn p k ms g r w statics
    pub world : w' ≡ beside statics w
    pub depth : w.depth ≡ d

  abbrev pub BothIf : Continuation → Continuation → (n c d : ℕ) → Option (List Frame × World) → Option (List Frame × World) → Type 0
  BothIf b b' n c d None None = Unit {0}
  BothIf b b' n c d (Some x) (Some x') = Both b b' n c d x.0 x'.0 x.1 x'.1
  BothIf b b' n c d o o' = ⊥

  -- the same value, the same exception, or neither fits
  abbrev pub BothAnswer : Continuation → Continuation → (n c d : ℕ) → Answer → Answer → Type 0
  BothAnswer b b' n c d (Returned v gs w) (Returned v' gs' w') = (v' ≡ v) × Both b b' n c d gs gs' w w'
  BothAnswer b b' n c d (Threw x gs w) (Threw x' gs' w') = (x' ≡ x) × Both b b' n c d gs gs' w w' × IsObject (length w.heap) x
  BothAnswer b b' n c d (Unfit w) (Unfit w') = BothWorlds d w w'
  BothAnswer b b' n c d a a' = ⊥

  -- the pointers among by-reference arguments lead to places that are there
  abbrev pub WellFormedRefs : List (Ty × Value) → Type 0
  WellFormedRefs [] = Unit {0}
  WellFormedRefs (a ∷ rest) = ((q : Pointer) → pointer_in (out-Value a.1) ≡ Some q → WellFormedPointer (bounds p k ms g r) q) × WellFormedRefs rest

  -- A call outside takes the same reply in both runs, records the same, and stores back what it gives by reference.
  abbrev pub AsksAlike : Type 0
  AsksAlike =
      (b b' : Continuation) (m : Member) (values : List Value) (fs fs' : List Frame) (w : World) (ss : List Statics) → Under p k ms g r b b' fs fs' → AllStand p k ms g r fs → BesideIn p k ms g r w ss → ((cells : List Cell) → stored_args p m.params values ≡ Some cells → WellFormedRefs (by_ref_args m.params (values_of cells)))
      → BothAnswer b b' (length fs) (count_groups fs) w.depth (ask p m values fs w) (ask (written p k ms g r) m values fs' (beside ss w))
