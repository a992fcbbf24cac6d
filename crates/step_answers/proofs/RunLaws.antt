-- From single steps to whole runs.
use Rattle.std.proofs.Common.{◌≡◌, ℕ, zero, suc, ◌+◌, ◌≤◌, ◌<◌, List, ◌∷◌, refl, sym, ap, ◌∙◌, subst, arith}
use Rattle.cil_model.specs.declared.contract.Contracts.{Contracts}
use Rattle.cil_model.specs.declared.program.Program.{Program}
use Rattle.cil_model.specs.declared.program.MethodDesc.{MethodDesc}
use Rattle.cil_model.specs.NoContracts.{no_contracts}
use Rattle.cil_semantics.specs.declared.state.Frame.{Frame}
use Rattle.cil_semantics.specs.declared.state.World.{World}
use Rattle.cil_semantics.specs.State.{State, Next, Running, Ended}
use Rattle.cil_semantics.specs.Checks.{AddedNumbers}
use Rattle.cil_semantics.specs.Machine.{step, runs, start, and_then, unused_numbers}
use Rattle.cil_model.specs.declared.value.Value.{Value}
use Rattle.cil_model.specs.declared.run.Reply.{Reply}
use Rattle.machine_laws.specs.Same.{IsEntry, bound_of, plain_step}
use Rattle.machine_laws.specs.Simulation.{Lifted, Simulates, Match, weight}
use Rattle.machine_laws.proofs.LiftLaws.{lifts}
use Rattle.machine_laws.proofs.GrowthLaws.{step_grows}
use Rattle.splice_facts.specs.Bodies.{with_methods}
use Rattle.splice_facts.specs.Grown.{beside}
use Rattle.splice_facts.specs.Related.{Rewritten, AlikeWorlds, AnswersIn, Related, Frames, laid_by, per_frame}
use Rattle.splice_facts.specs.Spliced.{cost}
use Rattle.simulation_steps.specs.Steps.{BesideIn}
use Rattle.simulation_valid.specs.Keeping.{Sound, StaysValid}
use Rattle.simulation_valid.proofs.StartLaws.{starts_alike, starts_valid}
use Rattle.valid_calls.proofs.DispatchLaws.{steps_stay}
use Rattle.object_validity.specs.Known.{References, KeepsReferences}
use Rattle.object_validity.proofs.PerformLaws.{entries_known}
use Rattle.object_validity.proofs.StepLaws.{each_step_known}
use Rattle.step_answers.proofs.ObjectLaws.{objects_there}
use Rattle.step_answers.specs.Runs.{AnsweredWhole, RunsAnswered}
use Rattle.step_answers.proofs.EntryLaws.{entries_begin}
use Rattle.step_answers.proofs.SiteLaws.{runs_here}
use Rattle.step_answers.proofs.JoinLaws.{steps_answered}

module _ (p : Program) (k : Contracts) (ms : List MethodDesc) (g : AddedNumbers) (r : Rewritten p k ms g) where
  abbrev p' : Program
  p' = with_methods p ms

  abbrev E : World → World → Type 0
  E = AlikeWorlds r.types

  abbrev R : State → State → Type 0
  R = Related p k ms g r

  abbrev laid : State → ℕ
  laid = laid_by p k ms g r

  -- the states of both runs, with what the first keeps
  pub record Going (s s' : State) : Type 0 where
    pub related : R s s'
    pub sound : Sound p k ms g r s
    pub references : References s

  -- one step
  record Stepped (s s' : State) : Type 0 where
    pub answer : AnswersIn p k ms g r (bound_of k p + laid s) (step p k g s) (Running s')
    pub sound : StaysValid p k ms g r (step p k g s)
    pub references : KeepsReferences (step p k g s)

  from_frames : (xs ys : List Frame) (w : World) (ss : _) → Frames p k ms g r xs ys → BesideIn p k ms g r w ss → Sound p k ms g r (record { frames = xs; world = w }) → References (record { frames = xs; world = w }) → Stepped (record { frames = xs; world = w }) (record { frames = ys; world = beside ss w })
  from_frames xs ys w ss (Frames.top f f' fs fs' pair here under) bes sound refs =
      record {
        answer = steps_answered p k ms g r f f' fs fs' w ss (Frames.top f f' fs fs' pair here under) bes sound (objects_there p k ms g r f fs w refs);
        sound = steps_stay p k ms g r f fs w (runs_here p k ms g r f f' fs fs' w here under sound) ((sound.valid.heights).0);
        references = each_step_known p k g (record { frames = f ∷ fs; world = w }) refs;
      }

  stepped : (s s' : State) → Going s s' → Stepped s s'
  stepped s s' h =
      let x = from_frames s.frames s'.frames s.world (h.related).statics (h.related).frames (h.related).alike h.sound h.references in
      subst (λ w. Stepped s (record { frames = s'.frames; world = w })) (sym (h.related).world) x

  -- what a step comes to goes on so
  goes_on : (s s' : State) → Going s s' → (x y : Next) → step p k g s ≡ x → Match E R x y → StaysValid p k ms g r x → KeepsReferences x → Match E Going x y
  goes_on s s' h (Running u) (Running u') e m v refs =
      record { related = m; sound = v; references = refs }
  goes_on s s' h (Ended o w) (Ended o' w') e m v refs = m
  goes_on s s' h (Running u) (Ended o' w') e m v refs = absurd m
  goes_on s s' h (Ended o w) (Running u') e m v refs = absurd m

  abbrev pub Answer : State → State → Type 0
  Answer s s' = (j : ℕ) × (suc j + weight laid (step p k g s) ≤ bound_of k p + laid s) × Match E Going (step p k g s) (runs (plain_step p') (suc j) s')

  pub answers : (s s' : State) → Going s s' → Answer s s'
  answers s s' h = let x = stepped s s' h in by_steps ((x.answer).reaches).steps (x.answer).moves ((x.answer).reaches).most ((x.answer).reaches).same x.sound x.references
    where
      by_steps : (j : ℕ) → 1 ≤ j → j + weight laid (step p k g s) ≤ bound_of k p + laid s → Match E R (step p k g s) (runs (plain_step p') j s') → StaysValid p k ms g r (step p k g s) → KeepsReferences (step p k g s) → Answer s s'
      by_steps zero some most same v refs = absurd (omega (arith, some))
      by_steps (suc j) some most same v refs = (j, most, goes_on s s' h (step p k g s) (runs (plain_step p') (suc j) s') refl same v refs)

  simulates : Simulates (step p k g) (plain_step p') E Going laid (bound_of k p)
  simulates =
      record {
        same_trace = λ s s' h. sym (ap (λ (w : World). w.trace) (h.related).world);
        same_recorded = λ w w' e. e.trace;
        answer = answers;
        grows = step_grows p' no_contracts (unused_numbers p');
      }

  -- ---- from an entry

  begun : (s t : State) (j : ℕ) → Sound p k ms g r s → References s → j + laid s ≤ bound_of k p → Match E R (Running s) (runs (plain_step p') j t) → Lifted (step p k g) (plain_step p') E (bound_of k p) s t
  begun s t j sound refs le same = by_next (runs (plain_step p') j t) refl same
    where
      by_next : (y : Next) → runs (plain_step p') j t ≡ y → Match E R (Running s) y → Lifted (step p k g) (plain_step p') E (bound_of k p) s t
      by_next (Running s') e m = lifts (step p k g) (plain_step p') E Going laid (bound_of k p) simulates j s s' t (record { related = m; sound = sound; references = refs }) e le
      by_next (Ended o w) e m = absurd m

  -- both runs of an entry are in states that go together, the second after some steps
  pub begins_going : (m : ℕ) (args : List Value) (rs : List Reply) (s : State) → m < r.methods → IsEntry p m args → start p k m args rs ≡ Running s → (s' : State) × Going s s'
  begins_going m args rs s old entry starts =
      let a = starts_alike p k ms g r m args rs old in
      by_start (start p' no_contracts m args rs) a.steps (subst (λ z. Match E R z (and_then (start p' no_contracts m args rs) (runs (plain_step p') a.steps))) starts a.same) (subst (StaysValid p k ms g r) starts (starts_valid p k ms g r m args rs old entry)) (subst KeepsReferences starts (entries_known p k m args rs entry))
    where
      by_next : (y : Next) → Match E R (Running s) y → Sound p k ms g r s → References s → (s' : State) × Going s s'
      by_next (Running s') same sound refs = (s', record { related = same; sound = sound; references = refs })
      by_next (Ended o w) same sound refs = absurd same

      by_start : (y : Next) (j : ℕ) → Match E R (Running s) (and_then y (runs (plain_step p') j)) → Sound p k ms g r s → References s → (s' : State) × Going s s'
      by_start (Running t) j same sound refs = by_next (runs (plain_step p') j t) same sound refs
      by_start (Ended o w) j same sound refs = absurd same

  answers_whole : (m : ℕ) (args : List Value) (rs : List Reply) (s : State) → m < r.methods → IsEntry p m args → start p k m args rs ≡ Running s → AnsweredWhole p k ms g r m args rs s
  answers_whole m args rs s old entry starts =
      let a = starts_alike p k ms g r m args rs old in
      by_start (start p' no_contracts m args rs) refl a.steps
      (subst (λ z. a.steps + weight laid z ≤ cost k p + per_frame p k ms g r 2) starts a.most)
      (subst (λ z. Match E R z (and_then (start p' no_contracts m args rs) (runs (plain_step p') a.steps))) starts a.same)
      (subst (StaysValid p k ms g r) starts (starts_valid p k ms g r m args rs old entry))
      (subst KeepsReferences starts (entries_known p k m args rs entry))
    where
      by_start : (y : Next) → start p' no_contracts m args rs ≡ y → (j : ℕ) → j + laid s ≤ cost k p + per_frame p k ms g r 2 → Match E R (Running s) (and_then (start p' no_contracts m args rs) (runs (plain_step p') j)) → Sound p k ms g r s → References s
          → (t : State) × (start p' no_contracts m args rs ≡ Running t) × Lifted (step p k g) (plain_step p') E (bound_of k p) s t
      by_start (Running t) e j le same sound refs = (t, e, begun s t j sound refs (omega (arith, le)) (subst (λ y. Match E R (Running s) (and_then y (runs (plain_step p') j))) e same))
      by_start (Ended o w) e j le same sound refs = absurd (subst (λ y. Match E R (Running s) (and_then y (runs (plain_step p') j))) e same)

  pub runs_answered : RunsAnswered p k ms g r
  runs_answered m args rs old entry = let b = entries_begin p k m args rs entry in (b.0, b.1, answers_whole m args rs b.0 old entry b.1)
