-- Branches, and instructions that load and store through a pointer on the stack, leave well-formed values.
use Rattle.std.proofs.Common.{◌≡◌, Bool, true, false, List, [], ◌∷◌, Option, Some, None, refl}
use Rattle.cil_model.specs.declared.value.Value.{Value, out-Value, I4, Null}
use Rattle.cil_model.specs.declared.value.Value as val
use Rattle.cil_model.specs.declared.value.Value.TheOpen.{Value-F}
use Rattle.cil_model.specs.declared.value.Pointer.{Pointer}
use Rattle.cil_model.specs.declared.body.Operand.{Operand}
use Rattle.cil_model.specs.declared.body.Operand.TheVariants.{Target}
use Rattle.cil_model.specs.declared.contract.Contracts.{Contracts}
use Rattle.cil_model.specs.declared.program.Program.{Program}
use Rattle.cil_model.specs.declared.program.MethodDesc.{MethodDesc}
use Rattle.il_opcodes.specs.declared.class.Storage.{Storage}
use Rattle.cil_semantics.specs.Places.{stored}
use Rattle.cil_semantics.specs.declared.state.Frame.{Frame}
use Rattle.cil_semantics.specs.Acts.{Act, Load, Store, on_top, on_two, if_some, branch, is_wanted, truth, on_pointer}
use Rattle.cil_semantics.specs.Instructions.{throw_value}
use Rattle.cil_semantics.specs.Checks.{AddedNumbers}
use Rattle.splice_facts.specs.WellFormed.{Bounds, WellFormedValue, WellFormedValues, WellFormedPointer}
use Rattle.splice_facts.specs.Related.{Rewritten, bounds}
use Rattle.simulation_valid.specs.Keeping.{ValidPlaces}
use Rattle.simulation_valid.specs.Steps.{FineAct}
use Rattle.simulation_valid.proofs.UnwindValidLaws.{restacked}
use Rattle.simulation_valid.proofs.MoveValidLaws.{stored_seen}

module _ (p : Program) (k : Contracts) (ms : List MethodDesc) (g : AddedNumbers) (r : Rewritten p k ms g) (f : Frame) (fs : List Frame) (places : ValidPlaces p k ms g r f fs) where
  abbrev Bs : Bounds
  Bs = bounds p k ms g r

  abbrev Fine : Act → Type 0
  Fine a = FineAct p k ms g r f fs a

  -- a branch is taken, or passed over
  pub branch_fine : (o : Operand) (b : Bool) (s : List Value) → WellFormedValues Bs s → Fine (branch o b (record f.local { stack = s }))
  branch_fine (Target t) true s h = (restacked p k ms g r f s fs places h, refl)
  branch_fine (Target t) false s h = (tt, restacked p k ms g r f s fs places h, refl)
  branch_fine _ b s h = tt

  pub jumps_fine : (o : Operand) → Fine (branch o true f.local)
  jumps_fine o = branch_fine o true f.local.stack places.fine.stack

  pub branches_fine : (o : Operand) (wanted : Bool) (s : List Value) → WellFormedValues Bs s → Fine (on_top s (λ v rest. if_some (truth v) (λ b. branch o (is_wanted wanted b) (record f.local { stack = rest }))))
  branches_fine o wanted [] h = tt
  branches_fine o wanted (v ∷ rest) h = by_truth (truth v)
    where
      by_truth : (c : Option Bool) → Fine (if_some c (λ b. branch o (is_wanted wanted b) (record f.local { stack = rest })))
      by_truth None = tt
      by_truth (Some b) = branch_fine o (is_wanted wanted b) rest h.1

  -- an act behind a pointer on the stack
  pub at_pointer : (v : Value) (go : Pointer → Act) → WellFormedValue Bs v → ((q : Pointer) → WellFormedPointer Bs q → Fine (go q)) → Fine (on_pointer v go)
  unfolding val.out-Value denote.Hole.Carrier.out
  at_pointer (val.Ptr q) go fv h = h q fv
  at_pointer _ go fv h = tt

  pub loads_indirect : (h : Storage) (s : List Value) → WellFormedValues Bs s → Fine (on_top s (λ q rest. on_pointer q (λ x. Load x h (record f.local { stack = rest }))))
  loads_indirect h [] fv = tt
  loads_indirect h (v ∷ rest) fv = at_pointer v (λ x. Load x h (record f.local { stack = rest })) fv.0 (λ q fq. (restacked p k ms g r f rest fs places fv.1, refl, fq))

  pub stores_indirect : (h : Storage) (s : List Value) → WellFormedValues Bs s → Fine (on_two s (λ q v rest. on_pointer q (λ x. if_some (stored h v) (λ y. Store x y (record f.local { stack = rest })))))
  stores_indirect h [] fv = tt
  stores_indirect h (v ∷ []) fv = tt
  stores_indirect h (v ∷ q ∷ rest) fv = at_pointer q (λ x. if_some (stored h v) (λ y. Store x y (record f.local { stack = rest }))) fv.1.0 (λ x fq. by_stored x fq (stored h v) refl)
    where
      by_stored : (x : Pointer) → WellFormedPointer Bs x → (o : Option Value) → stored h v ≡ o → Fine (if_some o (λ y. Store x y (record f.local { stack = rest })))
      by_stored x fq None e = tt
      by_stored x fq (Some y) e = (restacked p k ms g r f rest fs places fv.1.1, refl, fq, stored_seen Bs h v y fv.0 e)

  pub throws_fine : (s : List Value) → Fine (on_top s (λ v rest. throw_value (out-Value v)))
  throws_fine [] = tt
  throws_fine (v ∷ rest) = by_value (out-Value v)
    where
      by_value : (o : Value-F Value) → Fine (throw_value o)
      by_value Value-F.Null = tt
      by_value (Value-F.Obj x) = tt
      by_value _ = tt
