-- Branches, and instructions that load and store through a pointer on the stack, leave references to objects that are there.
use Rattle.std.proofs.Common.{◌≡◌, ℕ, Bool, true, false, List, [], ◌∷◌, Option, Some, None, refl}
use Rattle.cil_model.specs.declared.value.Value.{Value, out-Value, I4, Null}
use Rattle.cil_model.specs.declared.value.Value as val
use Rattle.cil_model.specs.declared.value.Pointer.{Pointer}
use Rattle.cil_model.specs.declared.body.Operand.{Operand}
use Rattle.cil_model.specs.declared.body.Operand.TheVariants.{Target}
use Rattle.cil_model.specs.declared.program.Program.{Program}
use Rattle.il_opcodes.specs.declared.class.Storage.{Storage}
use Rattle.cil_semantics.specs.Places.{stored}
use Rattle.cil_semantics.specs.Acts.{Act, Load, Store, on_top, on_two, if_some, branch, is_wanted, truth, on_pointer}
use Rattle.cil_semantics.specs.Instructions.{throw_value}
use Rattle.cil_semantics.specs.declared.state.Local.{Local}
use Rattle.object_validity.specs.Known.{KnownValue, KnownValues, KnownLocal, KnownAct}
use Rattle.object_validity.proofs.GrowthLaws.{restacked}
use Rattle.object_validity.proofs.ChangeLaws.{stored_seen}

module _ (p : Program) (b : ℕ) (l : Local) (known : KnownLocal b l) where
  abbrev Fine : Act → Type 0
  Fine a = KnownAct b a

  -- a branch is taken, or passed over
  pub branch_fine : (o : Operand) (c : Bool) (s : List Value) → KnownValues b s → Fine (branch o c (record l { stack = s }))
  branch_fine (Target t) true s h = restacked b l s known h
  branch_fine (Target t) false s h = restacked b l s known h
  branch_fine _ c s h = tt

  pub jumps_fine : (o : Operand) → Fine (branch o true l)
  jumps_fine o = branch_fine o true l.stack known.stack

  pub branches_fine : (o : Operand) (wanted : Bool) (s : List Value) → KnownValues b s → Fine (on_top s (λ v rest. if_some (truth v) (λ c. branch o (is_wanted wanted c) (record l { stack = rest }))))
  branches_fine o wanted [] h = tt
  branches_fine o wanted (v ∷ rest) h = by_truth (truth v)
    where
      by_truth : (c : Option Bool) → Fine (if_some c (λ c. branch o (is_wanted wanted c) (record l { stack = rest })))
      by_truth None = tt
      by_truth (Some c) = branch_fine o (is_wanted wanted c) rest h.1

  -- an act behind a pointer on the stack
  pub at_pointer : (v : Value) (go : Pointer → Act) → KnownValue b v → ((q : Pointer) → Fine (go q)) → Fine (on_pointer v go)
  unfolding val.out-Value denote.Hole.Carrier.out
  at_pointer (val.Ptr q) go fv h = h q
  at_pointer _ go fv h = tt

  pub loads_indirect : (h : Storage) (s : List Value) → KnownValues b s → Fine (on_top s (λ q rest. on_pointer q (λ x. Load x h (record l { stack = rest }))))
  loads_indirect h [] fv = tt
  loads_indirect h (v ∷ rest) fv = at_pointer v (λ x. Load x h (record l { stack = rest })) fv.0 (λ q. restacked b l rest known fv.1)

  pub stores_indirect : (h : Storage) (s : List Value) → KnownValues b s → Fine (on_two s (λ q v rest. on_pointer q (λ x. if_some (stored h v) (λ y. Store x y (record l { stack = rest })))))
  stores_indirect h [] fv = tt
  stores_indirect h (v ∷ []) fv = tt
  stores_indirect h (v ∷ q ∷ rest) fv = at_pointer q (λ x. if_some (stored h v) (λ y. Store x y (record l { stack = rest }))) fv.1.0 (λ x. by_stored x (stored h v) refl)
    where
      by_stored : (x : Pointer) → (o : Option Value) → stored h v ≡ o → Fine (if_some o (λ y. Store x y (record l { stack = rest })))
      by_stored x None e = tt
      by_stored x (Some y) e = (stored_seen b h v y fv.0 e, restacked b l rest known fv.1.1)

  throws_one : (v : Value) → KnownValue b v → Fine (throw_value (out-Value v))
  unfolding val.out-Value denote.Hole.Carrier.out
  throws_one val.Null h = tt
  throws_one (val.Obj x) h = h
  throws_one _ h = tt

  pub throws_fine : (s : List Value) → KnownValues b s → Fine (on_top s (λ v rest. throw_value (out-Value v)))
  throws_fine [] h = tt
  throws_fine (v ∷ rest) h = throws_one v h.0
