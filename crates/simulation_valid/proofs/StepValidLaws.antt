-- The heights of what an act leaves are those of the body, so a step at an instruction that calls nothing needs well-formed values alone.
use Rattle.std.proofs.Common.{◌≡◌, ◌<◌, true, false, List, [], Option, Some, None, refl, sym, ◌∙◌, subst, length}
use Rattle.std.proofs.lemmas.List.{length-append}
use Rattle.cil_model.specs.declared.body.Instr.{Instr}
use Rattle.cil_model.specs.declared.contract.Contracts.{Contracts}
use Rattle.cil_model.specs.declared.program.Program.{Program}
use Rattle.cil_model.specs.declared.program.MethodDesc.{MethodDesc}
use Rattle.cil_semantics.specs.declared.state.World.{World}
use Rattle.cil_semantics.specs.declared.state.Frame.{Frame}
use Rattle.cil_semantics.specs.Acts.{Act, Stuck, GoOn, Jump, Raise, Throw, Rethrow, Leave, EndHandler, Return, Load, Store, Copy, UseStatic, CallMember, CallVirtual, NewObject, LoadVirtualFunction}
use Rattle.cil_semantics.specs.Instructions.{act}
use Rattle.cil_semantics.specs.Contracted.{Plan}
use Rattle.cil_semantics.specs.Unwind.{body_of, plan_at, here_of}
use Rattle.cil_semantics.specs.Checks.{AddedNumbers}
use Rattle.cil_semantics.specs.Machine.{run_plain}
use Rattle.cil_semantics.specs.Tokens.{Here, local_tys}
use Rattle.cil_semantics.specs.Frames.{clause_tys}
use Rattle.cil_semantics.specs.declared.state.ProgramPoint.{ProgramPoint}
use Rattle.cil_semantics.specs.declared.state.ProgramPoint.TheVariants.{LeadIn, InGroup, Rest}
use Rattle.il_opcodes.specs.Opcodes.{class_of}
use Rattle.splice_facts.specs.Grown.{NamesLocals}
use Rattle.splice_facts.specs.Input.{is_group, never_in_clause, PiecesIf, LeavesHeight}
use Rattle.splice_facts.specs.Layout.{IsHere, fetch}
use Rattle.splice_facts.specs.Related.{Rewritten, HasHeight, bounds}
use Rattle.simulation_valid.proofs.HeightLaws.{and_none, but_none}
use Rattle.simulation_valid.specs.Keeping.{StaysValid}
use Rattle.simulation_valid.specs.Steps.{RunsHere, FineAct, MayStep, ValidAct}
use Rattle.simulation_valid.proofs.ClassActLaws.{classes_fine}
use Rattle.simulation_valid.proofs.PerformValidLaws.{performs_valid}
use Rattle.simulation_valid.proofs.UnwindValidLaws.{places_of}

module _ (p : Program) (k : Contracts) (ms : List MethodDesc) (g : AddedNumbers) (r : Rewritten p k ms g) where
  -- an act leaves the heights that the body has
  abbrev HasHeights : Frame → Act → Type 0
  HasHeights f a = (plan : Plan) (old : f.method < r.methods) (e : plan_at k p f.method ≡ Some plan) → is_group f.at ≡ false → LeavesHeight p (r.heights f.method plan old e).height f.at a

  act_valid : (a : Act) (f : Frame) (fs : List Frame) → HasHeights f a → FineAct p k ms g r f fs a → ValidAct p k ms g r f fs a
  act_valid Stuck f fs h v = v
  act_valid (GoOn made l) f fs h v = (v.0, record { places = v.1; same = v.2; height = λ plan old e outer. and_none (length l.stack) _ (h plan old e outer) })
  act_valid (Jump t l) f fs h v = (v.0, v.1, λ plan old e outer. and_none (length l.stack) _ (h plan old e outer))
  act_valid (Raise name) f fs h v = v
  act_valid (Throw x) f fs h v = v
  act_valid Rethrow f fs h v = v
  act_valid (Leave t) f fs h v = (v, λ plan old e. h plan old e v)
  act_valid EndHandler f fs h v = v
  act_valid Return f fs h v = v
  act_valid (Load q s l) f fs h v = (record { places = v.0; same = v.1; height = λ plan old e outer. h plan old e outer }, v.2)
  act_valid (Store q x l) f fs h v = (record { places = v.0; same = v.1; height = λ plan old e outer. and_none (length l.stack) _ (h plan old e outer) }, v.2, v.3)
  act_valid (Copy to from s l) f fs h v = (record { places = v.0; same = v.1; height = λ plan old e outer. and_none (length l.stack) _ (h plan old e outer) }, v.2, v.3)
  act_valid (UseStatic t c l) f fs h v = (record { places = v.0; same = v.1; height = λ plan old e outer. h plan old e outer }, v.2, v.3, v.4)
  act_valid (CallMember c l) f fs h v = absurd v
  act_valid (CallVirtual c l) f fs h v = absurd v
  act_valid (NewObject c l) f fs h v = absurd v
  act_valid (LoadVirtualFunction c l) f fs h v = absurd v

  -- a local that an instruction names is one that the method has
  named_there : (f : Frame) (fs : List Frame) (w : World) (i : Instr) → RunsHere p k ms g r f fs w → fetch p k g (plan_at k p f.method) f.method f.at ≡ Some i → NamesLocals ((bounds p k ms g r).width f.method) (class_of i.op) i.operand
  named_there f fs w i a found =
      let here : Here = record { number = 0; method = f.method; type_args = []; method_args = [] } in
      subst (λ n. NamesLocals n (class_of i.op) i.operand) (length-append (local_tys p here (body_of p f.method).locals) (clause_tys p here (plan_at k p f.method)))
      ((r.input f.method a.top.frame.stands.old).names f.at i a.here found here refl)

  -- what leaves a part stands in no clause
  outside_groups : (plan : Option Plan) (f : Frame) (i : Instr) → PiecesIf p k g f.method plan → IsHere plan f.at → fetch p k g plan f.method f.at ≡ Some i → never_in_clause (class_of i.op) ≡ true → is_group f.at ≡ false
  outside_groups None f i facts here found e = at_rest f.at here
    where
      at_rest : (at : ProgramPoint) → IsHere None at → is_group at ≡ false
      at_rest (LeadIn q) h = refl
      at_rest (InGroup gr j q) h = absurd h
      at_rest (Rest q) h = refl
  outside_groups (Some plan) f i facts here found e = by_place f.at here found
    where
      by_place : (at : ProgramPoint) → IsHere (Some plan) at → fetch p k g (Some plan) f.method at ≡ Some i → is_group at ≡ false
      by_place (LeadIn q) h s = refl
      by_place (InGroup gr j q) h s = let z : true ≡ false = sym e ∙ facts.no_such gr j q i h s in absurd (cc z)
      by_place (Rest q) h s = refl

  pub acts_fine : (i : Instr) (f : Frame) (fs : List Frame) (w : World) → RunsHere p k ms g r f fs w → fetch p k g (plan_at k p f.method) f.method f.at ≡ Some i → MayStep p k ms g r i f fs w (class_of i.op) → FineAct p k ms g r f fs (act p (here_of f fs) i w f.local)
  unfolding act
  acts_fine i f fs w a found may =
      classes_fine p k ms g r f fs (places_of p k ms g r f fs a.top.frame a.top.as_named) i w a.top.below.world
      (r.names f.method f.at i (here_of f fs) a.top.frame.stands.old refl a.top.as_named.2 a.top.as_named.3 a.here found) a.top.frame.leads (class_of i.op) (named_there f fs w i a found)
      (λ e. outside_groups (plan_at k p f.method) f i (r.input f.method a.top.frame.stands.old).pieces a.here found e) may

  pub step_of_act : (i : Instr) (f : Frame) (fs : List Frame) (w : World) → RunsHere p k ms g r f fs w → HasHeight p k ms g r f f.at 0 → fetch p k g (plan_at k p f.method) f.method f.at ≡ Some i → FineAct p k ms g r f fs (act p (here_of f fs) i w f.local) → StaysValid p k ms g r (run_plain p k g i f fs w)
  step_of_act i f fs w a height found fine =
      performs_valid p k ms g r (act p (here_of f fs) i w f.local) f fs w a
      (act_valid (act p (here_of f fs) i w f.local) f fs
      (λ plan old e outer. (r.heights f.method plan old e).keeps f.at i (here_of f fs) w f.local refl (subst (λ o. IsHere o f.at) e a.here) outer (subst (λ o. fetch p k g o f.method f.at ≡ Some i) e found) (but_none (length f.local.stack) _ (height plan old e outer))) fine)

  pub steps_valid : (i : Instr) (f : Frame) (fs : List Frame) (w : World) → RunsHere p k ms g r f fs w → HasHeight p k ms g r f f.at 0 → fetch p k g (plan_at k p f.method) f.method f.at ≡ Some i → MayStep p k ms g r i f fs w (class_of i.op) → StaysValid p k ms g r (run_plain p k g i f fs w)
  steps_valid i f fs w a height found may = step_of_act i f fs w a height found (acts_fine i f fs w a found may)
