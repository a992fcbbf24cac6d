-- From single steps to whole runs.
use Rattle.std.proofs.Common.{◌≡◌, ℕ, zero, suc, ◌<◌, List, [], ◌∷◌, length, refl, sym, ap, ◌∙◌, subst}
use Rattle.cil_model.specs.declared.value.Value.{Value}
use Rattle.cil_model.specs.declared.contract.Contracts.{Contracts}
use Rattle.cil_model.specs.declared.program.Program.{Program}
use Rattle.cil_model.specs.declared.program.MethodDesc.{MethodDesc}
use Rattle.cil_model.specs.declared.run.Reply.{Reply}
use Rattle.cil_semantics.specs.declared.state.Frame.{Frame}
use Rattle.cil_semantics.specs.declared.state.World.{World}
use Rattle.cil_semantics.specs.declared.state.Continuation.TheVariants.{Push}
use Rattle.cil_semantics.specs.State.{State, Next, Running, Ended}
use Rattle.cil_semantics.specs.Frames.{enter, owner_type}
use Rattle.cil_semantics.specs.Checks.{AddedNumbers}
use Rattle.cil_semantics.specs.Machine.{step, runs, run, start, and_then, empty_world}
use Rattle.machine_laws.specs.Answers.{IsOld}
use Rattle.machine_laws.specs.Same.{IsEntry, plain_step}
use Rattle.machine_laws.specs.Simulation.{Match}
use Rattle.splice_facts.specs.Bodies.{with_methods}
use Rattle.splice_facts.specs.Related.{Rewritten, AlikeWorlds, Frames}
use Rattle.simulation_valid.specs.Keeping.{Sound}
use Rattle.step_answers.proofs.SiteLaws.{runs_here}
use Rattle.step_answers.proofs.EntryLaws.{entries_begin}
use Rattle.step_answers.proofs.RunLaws.{Going, answers, begins_going}
use Rattle.grown_runs.specs.Grown.{GrowsAround}
use Rattle.grown_runs.specs.Looks.{LooksAlike}
use Rattle.grown_runs.specs.Runs.{RunsAlike}
use Rattle.grown_runs.proofs.AlikeLaws.{HeldWorld, HeldNext, Alike, given}
use Rattle.grown_runs.proofs.LookLaws.{looks_alike}
use Rattle.grown_runs.proofs.EnterLaws.{owner_same, owner_old, enters}
use Rattle.grown_runs.proofs.OutsideLaws.{owns}
use Rattle.grown_runs.proofs.EntryLaws.{entries_same}
use Rattle.grown_runs.proofs.StepLaws.{steps_alike}

module _ (p0 p : Program) (k : Contracts) (ms : List MethodDesc) (g : AddedNumbers) (r : Rewritten p k ms g) (h : GrowsAround p0 p k g.exception) (ty : r.types ≡ length p0.types) (me : r.methods ≡ length p0.methods) where
  l : LooksAlike p0 p g.exception
  l = looks_alike p0 p k g.exception h

  abbrev A : (Program → Next) → Type 0
  A F = Alike p0 p g.exception F

  abbrev Held : World → Type 0
  Held w = HeldWorld p0 g.exception w

  abbrev Goes : State → State → Type 0
  Goes s s' = Going p k ms g r s s'

  -- a step from a state that goes with one of the written program's run
  from_frames : (xs ys : List Frame) (w : World) → Frames p k ms g r xs ys → Sound p k ms g r (record { frames = xs; world = w }) → Held w → A (λ q. step q k g (record { frames = xs; world = w }))
  from_frames xs ys w (Frames.top f f' fs fs' pair here under) sound held = steps_alike p0 p k ms g r h l ty me f fs w (runs_here p k ms g r f f' fs fs' w here under sound) held

  stepped : (s s' : State) → Goes s s' → Held s.world → A (λ q. step q k g s)
  stepped s s' go held = from_frames s.frames s'.frames s.world go.related.frames go.sound held

  same_runs : (n : ℕ) (s s' : State) → Goes s s' → Held s.world → runs (step p k g) n s ≡ runs (step p0 k g) n s
  same_runs zero s s' go held = refl
  same_runs (suc n) s s' go held =
      let x = stepped s s' go held in
      let y = answers p k ms g r s s' go in
      by_next (λ u u' go2 held2. same_runs n u u' go2 held2) (step p k g s) (runs (plain_step (with_methods p ms)) (suc y.0) s') x.1 y.2 ∙ ap (λ z. and_then z (runs (step p0 k g) n)) x.0
    where
      by_next : ((u u' : State) → Goes u u' → Held u.world → runs (step p k g) n u ≡ runs (step p0 k g) n u) → (x y : Next) → HeldNext p0 g.exception x → Match (AlikeWorlds r.types) Goes x y → and_then x (runs (step p k g) n) ≡ and_then x (runs (step p0 k g) n)
      by_next again (Running u) (Running u') held2 m = again u u' m held2
      by_next again (Running u) (Ended o w) held2 m = absurd m
      by_next again (Ended o w) y held2 m = refl

  starts : (m : ℕ) (args : List Value) (rs : List Reply) → m < length p0.methods → A (λ q. start q k m args rs)
  starts m args rs own =
      given p0 p g.exception (λ q. owner_type q m []) (λ q t. enter q k t m [] args Push [] (empty_world rs)) (owner_same p0 p k g.exception h l (owns p0 p k ms g r h l ty me) m [] own)
      (enters p0 p k g.exception h l (owns p0 p k ms g r h l ty me) (owner_type p m []) m [] args Push [] (empty_world rs) (subst (λ t. IsOld p0 t) (sym (owner_same p0 p k g.exception h l (owns p0 p k ms g r h l ty me) m [] own)) (owner_old p0 p k g.exception h l (owns p0 p k ms g r h l ty me) m [] own)) own tt tt)

  pub runs_stay : RunsAlike p0 p k g
  unfolding run
  runs_stay m args rs n entry =
      let x = starts m args rs entry.there in
      let grown = entries_same p0 p k g.exception h m args entry in
      let b = entries_begin p k m args rs grown in
      let old : m < r.methods = subst (λ j. m < j) (sym me) entry.there in
      let y = begins_going p k ms g r m args rs b.0 old grown b.1 in
      ap (λ z. and_then z (runs (step p0 k g) n)) (sym x.0 ∙ b.1)
      ∙ sym (same_runs n b.0 y.0 y.1 (subst (HeldNext p0 g.exception) b.1 x.1)) ∙ ap (λ z. and_then z (runs (step p k g) n)) (sym b.1)
