-- Which law keeps the state valid, by where the topmost frame stands and what stands there.
use Rattle.std.proofs.Common.{◌≡◌, ℕ, Bool, true, false, List, ◌∷◌, Option, Some, None, refl, sym, ap, ◌∙◌, subst}
use Rattle.std.proofs.lemmas.Bool.{eqb-true}
use Rattle.std.specs.Prelude.{slice_get, ◌==◌, if◌then◌else◌, option_map, option_and_then}
use Rattle.cil_model.specs.declared.body.Instr.{Instr}
use Rattle.cil_model.specs.declared.contract.ClauseKind.{ClauseKind}
use Rattle.cil_model.specs.declared.contract.Contracts.{Contracts}
use Rattle.cil_model.specs.declared.contract.Group.{Group}
use Rattle.cil_model.specs.declared.contract.Old.{Old}
use Rattle.cil_model.specs.declared.program.Program.{Program}
use Rattle.cil_model.specs.declared.program.MethodDesc.{MethodDesc}
use Rattle.cil_model.specs.declared.program.Meaning.{Meaning}
use Rattle.cil_model.specs.declared.program.Meaning.TheVariants.{OfMethod}
use Rattle.cil_model.specs.declared.value.Value.{Value, out-Value}
use Rattle.cil_model.specs.declared.value.Value as val
use Rattle.cil_model.specs.declared.value.Pointer.{Pointer}
use Rattle.il_opcodes.specs.Opcodes.{class_of}
use Rattle.il_opcodes.specs.declared.class.Class.{Class}
use Rattle.il_opcodes.specs.declared.class.Class.TheVariants as class
use Rattle.cil_semantics.specs.Core.{Name}
use Rattle.cil_semantics.specs.Places.{storage}
use Rattle.cil_semantics.specs.Tokens.{meaning_here, own_meaning, ref_type}
use Rattle.cil_semantics.specs.Contracted.{Piece, Plan}
use Rattle.cil_semantics.specs.Unwind.{body_of, plan_at, piece_at, here_of}
use Rattle.cil_semantics.specs.Frames.{if_there, load}
use Rattle.cil_semantics.specs.Calls.{pointed}
use Rattle.cil_semantics.specs.ContractCalls.{contract_call, static_call, abbreviator_call}
use Rattle.cil_semantics.specs.declared.contract_call.ContractCall.{ContractCall}
use Rattle.cil_semantics.specs.declared.contract_call.ContractCall.TheVariants.{EndsClause, EndsBlock, Abbreviates, GivesResult, ReadsArgument, TakesOld, ChecksHere, NoContractCall}
use Rattle.cil_semantics.specs.Checks.{AddedNumbers, Failure, Condition, goes_on_from, recalled, inline_label, inline_number, capture}
use Rattle.cil_semantics.specs.Machine.{relocated, relocated_instr, run_plain, run_in_body, run_in_piece, read_argument, step_piece, step_body, step_at, step_frames, step}
use Rattle.cil_semantics.specs.State.{Next, Running, Ended, unrecorded, goes_after, with_stack}
use Rattle.cil_semantics.specs.declared.state.Frame.{Frame}
use Rattle.cil_semantics.specs.declared.state.Item.{Item}
use Rattle.cil_semantics.specs.declared.state.Local.{Local}
use Rattle.cil_semantics.specs.Returns.{piece_over}
use Rattle.cil_semantics.specs.declared.state.ProgramPoint.{ProgramPoint}
use Rattle.cil_semantics.specs.declared.state.ProgramPoint.TheVariants.{LeadIn, InGroup, Rest}
use Rattle.cil_semantics.specs.declared.state.World.{World}
use Rattle.splice_facts.specs.Layout.{fetch}
use Rattle.splice_facts.specs.WellFormed.{WellFormedValue, WellFormedValues, WellFormedPointer}
use Rattle.splice_facts.specs.Related.{Rewritten, HasHeight, bounds}
use Rattle.splice_facts.specs.Input.{is_group, CallsMember}
use Rattle.simulation_calls.proofs.InlineLaws.{call_checks}
use Rattle.simulation_checks.proofs.MakeLaws.{made_is}
use Rattle.simulation_valid.specs.Keeping.{StaysValid}
use Rattle.simulation_valid.specs.Steps.{RunsHere, MayStep, MakesValid}
use Rattle.simulation_valid.proofs.UnwindValidLaws.{places_of, restacked}
use Rattle.simulation_valid.proofs.MoveValidLaws.{loads_valid, relocal}
use Rattle.simulation_valid.proofs.ClauseValidLaws.{clauses_end_valid, captures_valid, recalls_valid, results_valid, inline_checks_valid}
use Rattle.simulation_valid.proofs.StepValidLaws.{steps_valid}
use Rattle.valid_calls.proofs.CallStepLaws.{call_stays, new_stays}
use Rattle.valid_calls.proofs.ExceptionValidLaws.{exceptions_valid}
use Rattle.valid_calls.proofs.VirtualStepLaws.{virtual_step, function_step}

-- ---- a contract call names no local

class_call : class_of 0x28 ≡ class.Call
unfolding Rattle.il_opcodes.specs.Opcodes.class_of Rattle.il_opcodes.specs.Opcodes.opcode_of Rattle.il_opcodes.specs.Opcodes.the_opcodes
class_call = refl

class_virtual : class_of 0x6F ≡ class.CallVirtual
unfolding Rattle.il_opcodes.specs.Opcodes.class_of Rattle.il_opcodes.specs.Opcodes.opcode_of Rattle.il_opcodes.specs.Opcodes.the_opcodes
class_virtual = refl

unmoved : (n : ℕ) (p : Program) (i : Instr) (kd : ClauseKind) → contract_call p i ≡ ChecksHere kd → relocated_instr n i ≡ i
unfolding contract_call
unmoved n p i kd e = by_op (i.op == 0x28) (i.op == 0x6F) refl refl e
  where
    by_class : (c : Class) → class_of i.op ≡ c → relocated n c i.operand ≡ i.operand → relocated_instr n i ≡ i
    by_class c s same = ap (λ o. record i { operand = o }) (ap (λ d. relocated n d i.operand) s ∙ same)

    by_op : (a b : Bool) → (i.op == 0x28) ≡ a → (i.op == 0x6F) ≡ b → (if a then static_call p (own_meaning p i.operand) else if b then abbreviator_call p (own_meaning p i.operand) else NoContractCall) ≡ ChecksHere kd → relocated_instr n i ≡ i
    by_op true b s t q = by_class class.Call (ap class_of (eqb-true i.op 0x28 s) ∙ class_call) refl
    by_op false true s t q = by_class class.CallVirtual (ap class_of (eqb-true i.op 0x6F t) ∙ class_virtual) refl
    by_op false false s t q = absurd (cc q)

module _ (p : Program) (k : Contracts) (ms : List MethodDesc) (g : AddedNumbers) (r : Rewritten p k ms g) where
  abbrev Stays : Next → Type 0
  Stays x = StaysValid p k ms g r x

  pointer_fine : (v : Value) (q : Pointer) → WellFormedValue (bounds p k ms g r) v → pointed (out-Value v) ≡ Some q → WellFormedPointer (bounds p k ms g r) q
  unfolding Rattle.cil_model.specs.declared.value.Value.out-Value denote.Hole.Carrier.out
  pointer_fine (val.Ptr q0) q fine e = let y : q0 ≡ q = cc e in subst (WellFormedPointer (bounds p k ms g r)) y fine
  pointer_fine _ q fine e = absurd (cc e)

  told : (before : List Item) (x : Next) → Stays x → Stays (goes_after before x)
  told before (Running s) h =
      record {
        valid = record { frames = h.valid.frames; heights = h.valid.heights; world = record { heap = h.valid.world.heap; statics = h.valid.world.statics }; depth = h.valid.depth; deep = h.valid.deep };
        returning = h.returning;
      }
  told before (Ended o w) h = tt

  module _ (f : Frame) (fs : List Frame) (w : World) (a : RunsHere p k ms g r f fs w) (height : HasHeight p k ms g r f f.at 0) where
    -- an instruction that is no contract call
    runs_valid : (i : Instr) → fetch p k g (plan_at k p f.method) f.method f.at ≡ Some i → Stays (run_plain p k g i f fs w)
    runs_valid i found = by_class (class_of i.op) refl
      where
        by_class : (c : Class) → class_of i.op ≡ c → Stays (run_plain p k g i f fs w)
        by_class class.Call e = call_stays p k ms g r i f fs w a height found e (r.gives f.method f.at i (here_of f fs) a.top.frame.stands.old refl a.here found (subst CallsMember (sym e) tt))
        by_class class.NewObject e = new_stays p k ms g r i f fs w a height found e
        by_class class.CallVirtual e = virtual_step p k ms g r i f fs w a height found e (r.gives f.method f.at i (here_of f fs) a.top.frame.stands.old refl a.here found (subst CallsMember (sym e) tt))
        by_class class.LoadVirtualFunction e = function_step p k ms g r i f fs w a height found e
        by_class c e = steps_valid p k ms g r i f fs w a height found (subst (MayStep p k ms g r i f fs w) (sym e) tt)

    checks_here : (c : Plan) (kd : ClauseKind) (home : ℕ) (label : Name) (i : Instr) → plan_at k p f.method ≡ Some c → fetch p k g (Some c) f.method f.at ≡ Some i → contract_call p i ≡ ChecksHere kd → Stays (Rattle.cil_semantics.specs.Checks.check_inline p k g c kd home label i f fs w)
    checks_here c kd home label i e found call = inline_checks_valid p k ms g r c kd home label i f fs w e found call a height (λ o v t text ek. absurd (call_checks p i kd call ek))

    -- in the lead-in and the rest
    body_valid : (c : Plan) (q : ℕ) → plan_at k p f.method ≡ Some c → fetch p k g (Some c) f.method f.at ≡ slice_get (body_of p f.method).instrs q → Stays (step_body p k g c q f fs w)
    body_valid c q e there = by_instr (slice_get (body_of p f.method).instrs q) there
      where
        by_call : (i : Instr) → fetch p k g (Some c) f.method f.at ≡ Some i → (x : ContractCall) → contract_call p i ≡ x → Stays (run_in_body p k g c x i f fs w)
        by_call i s (ChecksHere kd) call = checks_here c kd f.method _ i e s call
        by_call i s _ call = runs_valid i (subst (λ o. fetch p k g o f.method f.at ≡ Some i) (sym e) s)

        by_instr : (o : Option Instr) → fetch p k g (Some c) f.method f.at ≡ o → Stays (if_there o w (λ i. run_in_body p k g c (contract_call p i) i f fs w))
        by_instr None s = tt
        by_instr (Some i) s = by_call i s (contract_call p i) refl

    -- in a piece of a group
    module _ (c : Plan) (gr : Group) (j q : ℕ) (e : plan_at k p f.method ≡ Some c) (at : f.at ≡ InGroup gr j q) where
      outer_never : (X : Type 0) → is_group f.at ≡ false → X
      outer_never X o = let z : true ≡ false = sym (ap is_group at) ∙ o in absurd (cc z)

      reads_valid : (m : Option Meaning) (s : List Value) → WellFormedValues (bounds p k ms g r) s → Stays (read_argument p k g m s f fs w)
      reads_valid (Some (OfMethod owner m (t ∷ ts))) (v ∷ rest) fine = by_pointer (pointed (out-Value v)) (λ q1 s. pointer_fine v q1 fine.0 s)
        where
          by_pointer : (o : Option Pointer) → ((q1 : Pointer) → o ≡ Some q1 → WellFormedPointer (bounds p k ms g r) q1) → Stays (if_there o w (λ q1. load p k q1 (storage p t) f (with_stack f.local rest) fs w))
          by_pointer None h = tt
          by_pointer (Some q1) h =
              loads_valid p k ms g r q1 (storage p t) f (with_stack f.local rest) fs w a.top
              (record { places = restacked p k ms g r f rest fs (places_of p k ms g r f fs a.top.frame a.top.as_named) fine.1; same = refl; height = λ plan old e1 outer. outer_never _ outer }) (h q1 refl)
      reads_valid _ s fine = tt

      -- what a failed Requires<E> of a clause makes
      made : (x : Piece) (o : Condition) → piece_at (Some c) gr j ≡ Some x → WellFormedValues (bounds p k ms g r) o.rest
          → let l : Local = with_stack f.local o.rest in MakesValid p k ms g r (record { kind = x.clause.kind; exception = option_and_then (ref_type p (here_of f fs)) x.clause.exception; home = x.clause.home; user = o.user; label = x.clause.label }) (goes_on_from p k (record f { local = l } ∷ fs) (λ v. piece_over p k c gr j (record f { local = l }) fs v)) (record f { local = l } ∷ fs) w.depth
      made x o there fine =
          let l : Local = with_stack f.local o.rest in
          let failure : Failure = record { kind = x.clause.kind; exception = option_and_then (ref_type p (here_of f fs)) x.clause.exception; home = x.clause.home; user = o.user; label = x.clause.label } in
          exceptions_valid p k ms g r failure (λ v. piece_over p k c gr j (record f { local = l }) fs v) (record f { local = l }) fs w
          (record { top = relocal p k ms g r f l fs w a.top (restacked p k ms g r f o.rest fs (places_of p k ms g r f fs a.top.frame a.top.as_named) fine) refl; here = a.here; placed = a.placed }) (ap is_group at)
          (λ t d kd mt set. let y = r.exceptions f.method c gr j x (here_of f fs) t d a.top.frame.stands.old refl e there kd (made_is failure t mt) set in (y.0, y.1 a.top.as_named.2 a.top.as_named.3))

      piece_valid : (x : Piece) → piece_at (Some c) gr j ≡ Some x → Stays (step_piece p k g c gr j x q (recalled x q) f fs w)
      piece_valid x there = by_old (recalled x q)
        where
          fetched : (i : Instr) → slice_get x.clause.instrs q ≡ Some i → fetch p k g (Some c) f.method f.at ≡ Some (relocated_instr x.first_local i)
          fetched i s =
              ap (λ y. fetch p k g (Some c) f.method y) at ∙ ap (option_and_then (λ (y : Piece). option_map (relocated_instr y.first_local) (slice_get y.clause.instrs q))) there
              ∙ ap (option_map (relocated_instr x.first_local)) s

          plainly : (i : Instr) → slice_get x.clause.instrs q ≡ Some i → Stays (run_plain p k g (relocated_instr x.first_local i) f fs w)
          plainly i s = runs_valid (relocated_instr x.first_local i) (subst (λ o. fetch p k g o f.method f.at ≡ Some (relocated_instr x.first_local i)) (sym e) (fetched i s))

          by_capture : (o : Option ℕ) → Stays (if_there o w (λ n. capture p k c gr j n f f.local.stack fs w))
          by_capture None = tt
          by_capture (Some n) = captures_valid p k ms g r c gr j q n f f.local.stack fs w e at a a.top.frame.fine.stack

          by_call : (i : Instr) → slice_get x.clause.instrs q ≡ Some i → (y : ContractCall) → contract_call p i ≡ y → Stays (run_in_piece p k g c gr j x y q i f fs w)
          by_call i s (EndsClause kd) call = clauses_end_valid p k ms g r c gr j q x i f fs w e at a (λ o fine. made x o there fine)
          by_call i s GivesResult call = results_valid p k ms g r gr j q f fs w at a
          by_call i s ReadsArgument call = reads_valid (meaning_here p (here_of f fs) i) f.local.stack a.top.frame.fine.stack
          by_call i s TakesOld call = by_capture x.captures
          by_call i s (ChecksHere kd) call = checks_here c kd x.clause.home _ i e (fetched i s ∙ ap (λ z. Some z) (unmoved x.first_local p i kd call)) call
          by_call i s EndsBlock call = plainly i s
          by_call i s Abbreviates call = plainly i s
          by_call i s NoContractCall call = plainly i s

          by_instr : (o : Option Instr) → slice_get x.clause.instrs q ≡ o → Stays (if_there o w (λ i. run_in_piece p k g c gr j x (contract_call p i) q i f fs w))
          by_instr None s = tt
          by_instr (Some i) s = by_call i s (contract_call p i) refl

          by_old : (o : Option (ℕ × Old)) → Stays (step_piece p k g c gr j x q o f fs w)
          by_old None = by_instr (slice_get x.clause.instrs q) refl
          by_old (Some o) = recalls_valid p k ms g r x o gr j q f fs w at a

    -- wherever it stands
    step_valid : Stays (step_frames p k g (f ∷ fs) w)
    step_valid = by_plan (plan_at k p f.method) refl
      where
        by_instr : (o : Option Instr) → fetch p k g None f.method f.at ≡ o → plan_at k p f.method ≡ None → Stays (if_there o w (λ i. run_plain p k g i f fs w))
        by_instr None s e = tt
        by_instr (Some i) s e = runs_valid i (subst (λ y. fetch p k g y f.method f.at ≡ Some i) (sym e) s)

        bare : (at : ProgramPoint) → f.at ≡ at → plan_at k p f.method ≡ None → Stays (step_at p k g None at f fs w)
        bare (LeadIn q) s e = by_instr (slice_get (body_of p f.method).instrs q) (ap (fetch p k g None f.method) s) e
        bare (Rest q) s e = by_instr (slice_get (body_of p f.method).instrs q) (ap (fetch p k g None f.method) s) e
        bare (InGroup gr j q) s e = absurd (subst (λ y. Rattle.splice_facts.specs.Layout.IsHere None y) s (subst (λ o. Rattle.splice_facts.specs.Layout.IsHere o f.at) e a.here))

        by_piece : (c : Plan) (gr : Group) (j q : ℕ) → plan_at k p f.method ≡ Some c → f.at ≡ InGroup gr j q → (o : Option Piece) → piece_at (Some c) gr j ≡ o → Stays (if_there o w (λ x. step_piece p k g c gr j x q (recalled x q) f fs w))
        by_piece c gr j q e s None t = tt
        by_piece c gr j q e s (Some x) t = piece_valid c gr j q e s x t

        at_plan : (c : Plan) (at : ProgramPoint) → f.at ≡ at → plan_at k p f.method ≡ Some c → Stays (step_at p k g (Some c) at f fs w)
        at_plan c (LeadIn q) s e = body_valid c q e (ap (fetch p k g (Some c) f.method) s)
        at_plan c (Rest q) s e = body_valid c q e (ap (fetch p k g (Some c) f.method) s)
        at_plan c (InGroup gr j q) s e = by_piece c gr j q e s (piece_at (Some c) gr j) refl

        by_plan : (o : Option Plan) → plan_at k p f.method ≡ o → Stays (step_at p k g o f.at f fs w)
        by_plan None e = bare f.at refl e
        by_plan (Some c) e = at_plan c f.at refl e

  pub steps_stay : (f : Frame) (fs : List Frame) (w : World) → RunsHere p k ms g r f fs (unrecorded w) → HasHeight p k ms g r f f.at 0 → Stays (step p k g (record { frames = f ∷ fs; world = w }))
  unfolding step
  steps_stay f fs w a height = told w.trace (step_frames p k g (f ∷ fs) (unrecorded w)) (step_valid f fs (unrecorded w) a height)
