-- What was told stays told, in a step and in a run.
use Rattle.std.proofs.Common.{◌≡◌, ℕ, ◌+◌, ◌≤◌, List, ◌++◌, refl, ap, append_assoc, arith}
use Rattle.cil_model.specs.declared.value.Value.{Value}
use Rattle.cil_model.specs.declared.contract.Contracts.{Contracts}
use Rattle.cil_model.specs.declared.program.Program.{Program}
use Rattle.cil_model.specs.declared.run.Reply.{Reply}
use Rattle.cil_semantics.specs.Checks.{AddedNumbers}
use Rattle.cil_semantics.specs.declared.state.Item.{Item}
use Rattle.cil_semantics.specs.State.{State, Next, Running, Ended, unrecorded, recorded_after, goes_after}
use Rattle.cil_semantics.specs.Machine.{step, step_frames, start, runs, run, and_then}
use Rattle.machine_laws.specs.Simulation.{IsPrefix, trace_of, Grows}
use Rattle.machine_laws.proofs.LiftLaws.{prefix_refl, grown_from}

after_grows : (before : List Item) (x : Next) → IsPrefix before (trace_of (goes_after before x))
after_grows before (Running s) = (s.world.trace, refl)
after_grows before (Ended o w) = (w.trace, refl)

pub step_grows : (p : Program) (k : Contracts) (g : AddedNumbers) → Grows (step p k g)
unfolding step
step_grows p k g s = after_grows s.world.trace (step_frames p k g s.frames (unrecorded s.world))

-- what is told before a step is behind it as it was, and changes nothing else
pub recorded_twice : (before t : List Item) (x : Next) → goes_after (before ++ t) x ≡ goes_after before (goes_after t x)
recorded_twice before t (Running s) = ap (λ z. Running (record s { world = record s.world { trace = z } })) (append_assoc before t s.world.trace)
recorded_twice before t (Ended o w) = ap (λ z. Ended o (record w { trace = z })) (append_assoc before t w.trace)

pub recorded_is_unread : (p : Program) (k : Contracts) (g : AddedNumbers) (before : List Item) (s : State) → step p k g (record s { world = recorded_after before s.world }) ≡ goes_after before (step p k g s)
unfolding step
recorded_is_unread p k g before s = recorded_twice before s.world.trace (step_frames p k g s.frames (unrecorded s.world))

run_from : (go : State → Next) → Grows go → (x : Next) (n j : ℕ) → IsPrefix (trace_of (and_then x (runs go n))) (trace_of (and_then x (runs go (n + j))))
run_from go g (Running s) n j = let le : n ≤ n + j = omega arith in grown_from go g n (n + j) s le
run_from go g (Ended o w) n j = prefix_refl w.trace

pub run_grows : (p : Program) (k : Contracts) (g : AddedNumbers) (m : ℕ) (args : List Value) (rs : List Reply) (n j : ℕ) → IsPrefix (trace_of (run p k g m args rs n)) (trace_of (run p k g m args rs (n + j)))
unfolding run
run_grows p k g m args rs n j = run_from (step p k g) (step_grows p k g) (start p k m args rs) n j
