-- From an entry both runs begin in states that go together, and the first in a valid one.
use Rattle.std.proofs.Common.{ℕ, ◌+◌, ◌<◌, List, [], refl, sym, subst, arith}
use Rattle.cil_model.specs.declared.ty.Ty.{Known}
use Rattle.cil_model.specs.declared.ty.Ty as types
use Rattle.cil_model.specs.declared.value.Value.{Value}
use Rattle.cil_model.specs.declared.contract.Contracts.{Contracts}
use Rattle.cil_model.specs.declared.program.Program.{Program}
use Rattle.cil_model.specs.declared.program.MethodDesc.{MethodDesc}
use Rattle.cil_model.specs.declared.run.Reply.{Reply}
use Rattle.cil_model.specs.NoContracts.{no_contracts}
use Rattle.cil_semantics.specs.Lookups.{method_of, args_of}
use Rattle.cil_semantics.specs.declared.state.Continuation.TheVariants.{Push}
use Rattle.cil_semantics.specs.Frames.{owner_type, param_types, enter}
use Rattle.cil_semantics.specs.Outside.{fits}
use Rattle.cil_semantics.specs.Checks.{AddedNumbers}
use Rattle.cil_semantics.specs.Machine.{start, empty_world}
use Rattle.machine_laws.specs.Same.{IsEntry}
use Rattle.splice_facts.specs.Bodies.{with_methods}
use Rattle.splice_facts.specs.Spliced.{Beside, cost}
use Rattle.splice_facts.specs.Related.{Rewritten, ReachesIn, Under, per_frame, written, bounds}
use Rattle.simulation_steps.proofs.EnterLaws.{enters}
use Rattle.simulation_steps.proofs.DelegateLaws.{owner_below}
use Rattle.simulation_valid.specs.Keeping.{NoneVoid, StaysValid}
use Rattle.simulation_valid.proofs.EnterValidLaws.{enters_valid}
use Rattle.simulation_valid.proofs.FitsLaws.{fits_fine, each_fine}

no_arguments : (p : Program) (j : ℕ) → NoneVoid p (args_of (Known j))
unfolding types.out-Ty denote.Hole.Carrier.out
no_arguments p j = tt

module _ (p : Program) (k : Contracts) (ms : List MethodDesc) (g : AddedNumbers) (r : Rewritten p k ms g) where
  nothing_beside : (rs : List Reply) → Beside p k (with_methods p ms) g r.types r.depths (empty_world rs) []
  nothing_beside rs = record { statics = refl; depth = refl; bare = refl; failures = tt }

  pub starts_alike : (m : ℕ) (args : List Value) (rs : List Reply) → m < r.methods → ReachesIn p k ms g r (cost k p + per_frame p k ms g r 2) (start p k m args rs) (start (written p k ms g r) no_contracts m args rs)
  starts_alike m args rs old =
      subst (λ j. ReachesIn p k ms g r (cost k p + per_frame p k ms g r 2) (start p k m args rs) (enter (with_methods p ms) no_contracts (Known j) m [] args Push [] (empty_world rs))) (sym (r.same_methods m).owner)
      (enters p k ms g r (owner_type p m []) m [] args Push Push [] [] (empty_world rs) [] old (owner_below p k ms g r m [] old) (Under.bottom Push tt) refl refl tt (nothing_beside rs) (omega arith) refl)

  pub starts_valid : (m : ℕ) (args : List Value) (rs : List Reply) → m < r.methods → IsEntry p m args → StaysValid p k ms g r (start p k m args rs)
  starts_valid m args rs old entry =
      enters_valid p k ms g r (owner_type p m []) m [] args Push [] (empty_world rs) old (owner_below p k ms g r m [] old) (no_arguments p (method_of p m).owner) tt
      (each_fine (bounds p k ms g r) (fits p (empty_world [])) (λ t v e. fits_fine (bounds p k ms g r) 1001 p (empty_world []) t v e) (param_types p (owner_type p m []) m []) args entry.fitting) (λ cells. tt)
      (record { tail = record { placed = tt; others = tt; returning = tt; heights = tt }; begun = refl; waiting = λ f c d. tt; world = record { heap = tt; statics = tt }; fine_back = tt; count = refl; deep = omega arith })
