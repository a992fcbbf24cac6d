-- Whole runs stay in shape.
use Rattle.std.proofs.Common.{◌≡◌, ℕ, zero, suc, Bool, true, false, List, [], ◌∷◌, Option, Some, None, Ok, refl, sym, ap, ◌∙◌, get_or}
use Rattle.std.specs.Prelude.{map, if◌then◌else◌, option_map}
use Rattle.cil_model.specs.declared.body.Body.{Body}
use Rattle.cil_model.specs.declared.body.Instr.{Instr}
use Rattle.cil_model.specs.declared.contract.Contracts.{Contracts}
use Rattle.cil_model.specs.declared.contract.Effective.{Effective}
use Rattle.cil_model.specs.declared.program.Program.{Program}
use Rattle.cil_model.specs.declared.run.Reply.{Reply}
use Rattle.cil_model.specs.declared.value.Value.{Value}
use Rattle.cil_model.specs.NoContracts.{no_contracts}
use Rattle.cil_semantics.specs.declared.state.Continuation.TheVariants.{Push}
use Rattle.cil_semantics.specs.Checks.{AddedNumbers}
use Rattle.cil_semantics.specs.Contracted.{plan_for, plan_of, is_visible}
use Rattle.cil_semantics.specs.Lookups.{method_of}
use Rattle.cil_semantics.specs.Unwind.{body_of, count_locals}
use Rattle.cil_semantics.specs.Frames.{owner_type}
use Rattle.cil_semantics.specs.Machine.{step, runs, run, start, and_then, empty_world}
use Rattle.cil_semantics.specs.State.{State, Next, Running, Ended}
use Rattle.il_flow.specs.declared.answer.Heights.{Heights}
use Rattle.il_flow.specs.declared.effect.Effect.{Effect}
use Rattle.il_flow.specs.declared.mark.Mark.{Mark}
use Rattle.il_flow.specs.declared.mark.Mark.TheVariants.{Unseen, Waits, Passed}
use Rattle.il_flow.specs.Heights.{Agrees, HeightsAnswer, has_height, height_at, height_told}
use Rattle.il_flow.proofs.MapLaws.{found_map}
use Rattle.flow_laws.specs.Shapes.{HeightsOf, InShape, NextInShape}
use Rattle.flow_laws.specs.Measured.{Measured, IsPlain, CallsAsSaid, told_height}
use Rattle.flow_laws.proofs.CallLaws.{enters}
use Rattle.flow_laws.proofs.StepLaws.{step_keeps_shape}

-- ---- a plain run has no plan

none_of : (b c : Bool) → ◌≡◌ {A = Option Effective} (if b then None else (if c then None else None)) None
none_of true c = refl
none_of false true = refl
none_of false false = refl

pub plain_runs : (p : Program) → IsPlain p no_contracts
unfolding plan_for
plain_runs p m = ap (option_map (plan_of no_contracts.settings (is_visible p m) (count_locals p m (body_of p m).locals))) (none_of (method_of p m).outside _)

module _ (p : Program) (k : Contracts) (g : AddedNumbers) (height : HeightsOf) (plain : IsPlain p k) (ok : Measured p height) where
  pub starts_in_shape : (m : ℕ) (args : List Value) (rs : List Reply) → NextInShape p height (start p k m args rs)
  starts_in_shape m args rs = enters p k height plain ok (owner_type p m []) m [] args Push [] (empty_world rs) (λ a. tt) tt

  abbrev SaidFrom : State → Type 0
  SaidFrom s = (j : ℕ) (t : State) → runs (step p k g) j s ≡ Running t → CallsAsSaid p t.frames

  runs_in_shape : (n : ℕ) (s : State) → InShape p height s → SaidFrom s → NextInShape p height (runs (step p k g) n s)
  runs_in_shape zero s h said = h
  runs_in_shape (suc n) s h said = go (λ t i f. runs_in_shape n t i f) (step p k g s) refl (step_keeps_shape p k g height plain ok s h (said 0 s refl))
    where
      go : ((t : State) → InShape p height t → SaidFrom t → NextInShape p height (runs (step p k g) n t)) → (x : Next) → step p k g s ≡ x → NextInShape p height x → NextInShape p height (and_then x (runs (step p k g) n))
      go rest (Running t) e i = rest t i (λ j u f. said (suc j) u (ap (λ y. and_then y (runs (step p k g) j)) e ∙ f))
      go rest (Ended o w) e i = tt

  pub run_in_shape : (m : ℕ) (args : List Value) (rs : List Reply) → ((j : ℕ) (t : State) → run p k g m args rs j ≡ Running t → CallsAsSaid p t.frames) → (n : ℕ) → NextInShape p height (run p k g m args rs n)
  unfolding run
  run_in_shape m args rs said n = go (start p k m args rs) refl (starts_in_shape m args rs)
    where
      go : (x : Next) → start p k m args rs ≡ x → NextInShape p height x → NextInShape p height (and_then x (runs (step p k g) n))
      go (Running s) e h = runs_in_shape n s h (λ j t f. said j t (ap (λ y. and_then y (runs (step p k g) j)) e ∙ f))
      go (Ended o w) e h = tt

-- ---- heights that were found are such heights

told_at : (ms : List Mark) (q : ℕ) → height_at ms q ≡ (if get_or (map has_height ms) q false then Some (get_or (map height_told ms) q 0) else None)
told_at [] q = refl
told_at (Unseen ∷ ms) zero = refl
told_at (Waits h ∷ ms) zero = refl
told_at (Passed h ∷ ms) zero = refl
told_at (m ∷ ms) (suc q) = told_at ms q

alike_agrees : (effect : Instr → Effect) (b : Body) (h h' : ℕ → Option ℕ) → ((q : ℕ) → h' q ≡ h q) → Agrees effect b h → Agrees effect b h'
alike_agrees effect b h h' same a =
    record {
      begins = λ q j m below. same q ∙ a.begins q j m below;
      goes = λ n j t i e at m below. same t ∙ a.goes n j t i (sym (same n) ∙ e) at m below;
      can_go = λ n j i e at. a.can_go n j i (sym (same n) ∙ e) at;
      fits = a.fits;
      tries = λ q j e t. a.tries q j (sym (same q) ∙ e) t;
    }

pub answer_agrees : (effect : Instr → Effect) (b : Body) (found : Heights) → HeightsAnswer effect b (Ok found) → Agrees effect b (told_height found)
answer_agrees effect b found a =
    alike_agrees effect b (height_at a.0) (told_height found)
    (λ q. ap (λ (l : List Bool). if get_or l q false then Some (get_or found.heights q 0) else None) a.3 ∙ ap (λ (l : List ℕ). if get_or (map has_height a.0) q false then Some (get_or l q 0) else None) a.2 ∙ sym (told_at a.0 q))
    (found_map effect b a.0 a.1)
