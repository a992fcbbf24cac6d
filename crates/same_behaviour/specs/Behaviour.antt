-- Same behaviour of an input and the program that is written for it.
use Rattle.std.specs.Prelude.{◌≡◌, ℕ, ◌+◌, ◌*◌, ◌<◌, ◌≤◌, List, length}
use Rattle.cil_model.specs.declared.value.Value.{Value}
use Rattle.cil_model.specs.declared.contract.Contracts.{Contracts}
use Rattle.cil_model.specs.declared.program.Program.{Program}
use Rattle.cil_model.specs.declared.program.MethodDesc.{MethodDesc}
use Rattle.cil_model.specs.declared.run.Reply.{Reply}
use Rattle.cil_model.specs.declared.run.Outcome.{Outcome}
use Rattle.cil_semantics.specs.declared.state.World.{World}
use Rattle.cil_semantics.specs.Checks.{AddedNumbers}
use Rattle.cil_semantics.specs.State.{Ended}
use Rattle.cil_semantics.specs.Machine.{run, plain_run}
use Rattle.machine_laws.specs.Same.{IsEntry, KeepsIdentities, NamesAdded, SameWorld, bound_of}
use Rattle.machine_laws.specs.Simulation.{EndsAlike, IsPrefix, trace_of}
use Rattle.splice_facts.specs.Related.{Rewritten, written}
use Rattle.grown_runs.specs.Grown.{GrowsAround}

-- For each entry among the first methods, all replies and each number of steps, the runs end together and tell the same, but for statics of types beyond the first.
pub record SameAmong (types methods : ℕ) (p : Program) (k : Contracts) (g : AddedNumbers) (p' : Program) : Type 0 where
  pub ends_only : (m : ℕ) (args : List Value) (rs : List Reply) (n : ℕ) (o : Outcome) (w' : World) → m < methods → IsEntry p m args → plain_run p' m args rs n ≡ Ended o w' → EndsAlike (λ w. SameWorld types w w') (run p k g m args rs n) o
  pub ends_too : (m : ℕ) (args : List Value) (rs : List Reply) (n : ℕ) (o : Outcome) (w : World) → m < methods → IsEntry p m args → run p k g m args rs n ≡ Ended o w → EndsAlike (SameWorld types w) (plain_run p' m args rs (bound_of k p * (n + 1))) o
  pub writes_no_more : (m : ℕ) (args : List Value) (rs : List Reply) (n : ℕ) → m < methods → IsEntry p m args → IsPrefix (trace_of (plain_run p' m args rs n)) (trace_of (run p k g m args rs n))
  pub writes_no_less : (m : ℕ) (args : List Value) (rs : List Reply) (n : ℕ) → m < methods → IsEntry p m args → IsPrefix (trace_of (run p k g m args rs n)) (trace_of (plain_run p' m args rs (bound_of k p * (n + 1))))

-- What leads from an input to the programs of a rewriting, beside the facts on its bodies.
pub record OfInput (p0 p : Program) (k : Contracts) (ms : List MethodDesc) (g : AddedNumbers) (r : Rewritten p k ms g) : Type 0 where
  pub grows : GrowsAround p0 p k g.exception
  pub types : r.types ≡ length p0.types
  pub methods : r.methods ≡ length p0.methods
  pub identities : KeepsIdentities p0 (written p k ms g r)
  pub added : NamesAdded p0 (written p k ms g r) k.target g
