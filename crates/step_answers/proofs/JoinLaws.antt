-- A step of both runs, wherever the topmost frame stands.
use Rattle.std.proofs.Common.{◌≡◌, ℕ, zero, suc, ◌+◌, ◌*◌, ◌<◌, ◌≤◌, Bool, true, false, List, [], ◌∷◌, length, Option, Some, None, refl, sym, ap, ◌∙◌, subst, arith}
use Rattle.std.proofs.lemmas.Bool.{eqb-true}
use Rattle.std.specs.Prelude.{◌==◌, ◌||◌, map, slice_get, if◌then◌else◌, IsTrue, is_some, option_map, option_and_then, take}
use Rattle.cil_semantics.specs.Words.{maybe}
use Rattle.cil_model.specs.declared.body.Instr.{Instr}
use Rattle.cil_model.specs.declared.contract.ClauseKind.{ClauseKind}
use Rattle.cil_model.specs.declared.contract.Contracts.{Contracts}
use Rattle.cil_model.specs.declared.contract.Group.{Group}
use Rattle.cil_model.specs.declared.contract.Group.TheVariants as group
use Rattle.cil_model.specs.declared.contract.Old.{Old}
use Rattle.cil_model.specs.declared.program.Program.{Program}
use Rattle.cil_model.specs.declared.program.MethodDesc.{MethodDesc}
use Rattle.il_opcodes.specs.Opcodes.{class_of}
use Rattle.il_opcodes.specs.declared.class.Class.{Class}
use Rattle.il_opcodes.specs.declared.class.Class.TheVariants as class
use Rattle.cil_semantics.specs.Core.{Name}
use Rattle.cil_semantics.specs.declared.state.Cell.{Cell}
use Rattle.cil_semantics.specs.declared.state.World.{World}
use Rattle.cil_semantics.specs.declared.state.Statics.{Statics}
use Rattle.cil_semantics.specs.declared.state.Frame.{Frame}
use Rattle.cil_semantics.specs.declared.state.ProgramPoint.{ProgramPoint}
use Rattle.cil_semantics.specs.declared.state.ProgramPoint.TheVariants.{LeadIn, InGroup, Rest}
use Rattle.cil_semantics.specs.State.{Next, Running, unrecorded, with_stack}
use Rattle.cil_semantics.specs.Tokens.{own_meaning}
use Rattle.cil_semantics.specs.Contracted.{Piece, Plan, pieces, olds_of}
use Rattle.cil_semantics.specs.Unwind.{body_of, plan_at, piece_at, here_of, place_in}
use Rattle.cil_semantics.specs.Frames.{stuck, if_there, captured_tys}
use Rattle.cil_semantics.specs.Returns.{returns, piece_over}
use Rattle.cil_semantics.specs.ContractCalls.{contract_call, static_call, abbreviator_call, has_message, is_check, count_checks}
use Rattle.cil_semantics.specs.declared.contract_call.ContractCall.{ContractCall}
use Rattle.cil_semantics.specs.declared.contract_call.ContractCall.TheVariants.{EndsClause, EndsBlock, Abbreviates, GivesResult, ReadsArgument, TakesOld, ChecksHere, NoContractCall}
use Rattle.cil_semantics.specs.Checks.{AddedNumbers, check, Condition, condition_in, recalled, inline_label, inline_number, capture, check_inline, end_clause}
use Rattle.cil_semantics.specs.Machine.{relocated, relocated_instr, run_plain, run_in_body, run_in_piece, step_piece, step_body, step_at, step_frames, step, perform}
use Rattle.machine_laws.specs.Same.{bound_of}
use Rattle.splice_facts.specs.Bodies.{with_methods}
use Rattle.splice_facts.specs.Grown.{beside}
use Rattle.splice_facts.specs.Layout.{Marks, IsHere, fetch}
use Rattle.splice_facts.specs.Input.{PieceFacts, is_group}
use Rattle.splice_facts.specs.Spliced.{Beside, Paired, Groups, IsPlainAt, IsInline, Current, StaysIn, has_exit, has_any, is_copied, from_here, failure_cost, clause_failure}
use Rattle.splice_facts.specs.Related.{Rewritten, FramePair, Frames, Under, Waits, TopPair, laid_by, count_groups, in_group}
use Rattle.splice_facts.proofs.ComesLaws.{moves_to_end}
use Rattle.simulation.proofs.UnwindLaws as Unwinding
use Rattle.simulation.proofs.ArriveLaws as Arriving
use Rattle.simulation_calls.specs.Failures.{InPiece}
use Rattle.simulation_calls.specs.Inline.{AtCheck}
use Rattle.simulation_calls.proofs.RetLaws.{rets_lifted}
use Rattle.simulation_calls.proofs.InlineLaws.{captures_old, recalls_old, gives_result, loads_through, checks_here}
use Rattle.simulation_checks.proofs.MakeLaws.{clause_done}
use Rattle.simulation_valid.specs.Keeping.{Sound}
use Rattle.simulation_valid.specs.Steps.{RunsHere}
use Rattle.simulation_valid.proofs.HeightLaws.{but_none}
use Rattle.step_answers.specs.Answering.{ObjectsThere, StepsAnswered}
use Rattle.step_answers.proofs.SiteLaws.{top_pair, runs_here, current_too, from_twin, any_there, step_answered}
use Rattle.step_answers.proofs.CopyLaws.{copied_answered, ends_answered, act_returns}

map_length : {X Y : Type 0} (h : X → Y) (xs : List X) → length (map h xs) ≡ length xs
map_length h [] = refl
map_length h (x ∷ xs) = ap suc (map_length h xs)

there_is : (cs : List Cell) (n : ℕ) → n < length cs → (c : Cell) × (slice_get cs n ≡ Some c)
there_is [] n l = absurd (omega (arith, l))
there_is (c ∷ cs) zero l = (c, refl)
there_is (c ∷ cs) (suc n) l = there_is cs n (omega (arith, l))

both_true : (a b : Bool) → b ≡ true → (a || b) ≡ true
both_true true b e = refl
both_true false b e = e

-- an instruction of a clause is the same contract call with its locals moved
class_call : class_of 0x28 ≡ class.Call
unfolding class_of Rattle.il_opcodes.specs.Opcodes.opcode_of Rattle.il_opcodes.specs.Opcodes.the_opcodes
class_call = refl

class_virtual : class_of 0x6F ≡ class.CallVirtual
unfolding class_of Rattle.il_opcodes.specs.Opcodes.opcode_of Rattle.il_opcodes.specs.Opcodes.the_opcodes
class_virtual = refl

abbrev call_by : Program → Bool → Bool → Instr → ContractCall
call_by p a b j = if a then static_call p (own_meaning p j.operand) else if b then abbreviator_call p (own_meaning p j.operand) else NoContractCall

same_call : (n : ℕ) (p : Program) (i : Instr) → contract_call p (relocated_instr n i) ≡ contract_call p i
unfolding contract_call
same_call n p i = by_op (i.op == 0x28) (i.op == 0x6F) refl refl
  where
    unmoved : (c : Class) → class_of i.op ≡ c → relocated n c i.operand ≡ i.operand → relocated n (class_of i.op) i.operand ≡ i.operand
    unmoved c s e = ap (λ d. relocated n d i.operand) s ∙ e

    by_op : (a b : Bool) → (i.op == 0x28) ≡ a → (i.op == 0x6F) ≡ b → call_by p a b (relocated_instr n i) ≡ call_by p a b i
    by_op true b s t = ap (λ o. static_call p (own_meaning p o)) (unmoved class.Call (ap class_of (eqb-true i.op 0x28 s) ∙ class_call) refl)
    by_op false true s t = ap (λ o. abbreviator_call p (own_meaning p o)) (unmoved class.CallVirtual (ap class_of (eqb-true i.op 0x6F t) ∙ class_virtual) refl)
    by_op false false s t = refl

module _ (p : Program) (k : Contracts) (ms : List MethodDesc) (g : AddedNumbers) (r : Rewritten p k ms g) where
  abbrev p' : Program
  p' = with_methods p ms

  abbrev An : ℕ → Next → Next → Type 0
  An n x y = Unwinding.An p k ms g r n x y

  abbrev mk : ℕ → Marks
  mk m = r.marks m

  module _ (f f' : Frame) (fs fs' : List Frame) (w : World) (ss : List Statics) (pair : FramePair p k ms g r ((mk f.method).places f.at) f fs f') (here : IsHere (plan_at k p f.method) f.at) (under : Under p k ms g r f.continuation f'.continuation fs fs') (bes : Beside p k p' g r.types r.depths w ss)
      (sound : Sound p k ms g r (record { frames = f ∷ fs; world = w })) (objects : ObjectsThere p k ms g r f fs w) where
    abbrev w0 : World
    w0 = unrecorded w

    abbrev N : ℕ
    N = bound_of k p + laid_by p k ms g r (record { frames = f ∷ fs; world = w })

    abbrev Goal : Type 0
    Goal = An N (step p k g (record { frames = f ∷ fs; world = w })) (Running (record { frames = f' ∷ fs'; world = beside ss w }))

    abbrev From : Next
    From = Running (record { frames = f' ∷ fs'; world = beside ss w0 })

    t : TopPair p k ms g r f f' fs fs' w0 ss
    t = top_pair p k ms g r f f' fs fs' w ss pair here under bes sound

    a : RunsHere p k ms g r f fs w0
    a = runs_here p k ms g r f f' fs fs' w here under sound

    copied : (i : Instr) → fetch p k g (plan_at k p f.method) f.method f.at ≡ Some i → IsPlainAt p k p' g r.types r.depths f.method (plan_at k p f.method) f.at i → step_frames p k g (f ∷ fs) w0 ≡ run_plain p k g i f fs w0 → Goal
    copied i found plain first = copied_answered p k ms g r f f' fs fs' w ss pair here under bes sound objects i found plain first

    ended : fetch p k g (plan_at k p f.method) f.method f.at ≡ None → step_frames p k g (f ∷ fs) w0 ≡ stuck w0 → Goal
    ended e first = ends_answered p k ms g r f f' fs fs' w ss pair here under bes sound objects e first

    -- what the topmost frame does is answered from its twin
    answered : (n : ℕ) (x : Next) → n ≤ N → step_frames p k g (f ∷ fs) w0 ≡ x → An n x From → Goal
    answered n x le e h = step_answered p k ms g r n N f fs (f' ∷ fs') w ss le (subst (λ y. An n y From) (sym e) h)

    scene : Paired p k p' g r.types r.depths (mk f.method) f fs fs' w0 pair.extra ss
    scene = record { keeps = pair.keeps; beside = t.alike; numbers = Unwinding.as_many p k ms g r f.continuation f'.continuation fs fs' under; deep = t.deep }

    -- ---- with contracts

    module _ (c : Plan) (e : plan_at k p f.method ≡ Some c) where
      is_here : IsHere (Some c) f.at
      is_here = subst (λ o. IsHere o f.at) e here

      facts : PieceFacts p k g f.method c
      facts = Arriving.pieces_of p k ms g r f.method c e (t.stands).old

      seams : Groups p k p' g r.types r.depths f.method c (mk f.method)
      seams = Arriving.groups_of p k ms g r f.method c e (t.stands).old

      at_plan : (x : Next) → step_at p k g (Some c) f.at f fs w0 ≡ x → step_frames p k g (f ∷ fs) w0 ≡ x
      at_plan x s = ap (λ o. step_at p k g o f.at f fs w0) e ∙ s

      found_in : (i : Instr) → fetch p k g (Some c) f.method f.at ≡ Some i → fetch p k g (plan_at k p f.method) f.method f.at ≡ Some i
      found_in i s = subst (λ o. fetch p k g o f.method f.at ≡ Some i) (sym e) s

      plain_in : (i : Instr) → IsPlainAt p k p' g r.types r.depths f.method (Some c) f.at i → IsPlainAt p k p' g r.types r.depths f.method (plan_at k p f.method) f.at i
      plain_in i s = subst (λ o. IsPlainAt p k p' g r.types r.depths f.method o f.at i) (sym e) s

      -- Assert and Assume
      checked : (i : Instr) (kd : ClauseKind) (home : ℕ) (label : Name) (hs : _) → f'.handling ≡ hs → Current p k p' g r.types r.depths f.method f.at hs → Waits (plan_at k p f.method) (mk f.method) (length (body_of p f.method).regions) f.at f.handling hs → Rattle.simulation_calls.specs.Inline.NotRecalled p k ms g r c f.at → IsInline p k p' g r.types r.depths c f.method f fs f.at i kd home label
          → step_frames p k g (f ∷ fs) w0 ≡ check_inline p k g c kd home label i f fs w0 → Goal
      checked i kd home label hs eh cu wa un is first =
          answered (failure_cost k p + (2 * Unwinding.cst p k ms g r + Unwinding.lay p k ms g r (suc (length fs)))) _ (omega arith) first
          (subst (λ y. An (failure_cost k p + (2 * Unwinding.cst p k ms g r + Unwinding.lay p k ms g r (suc (length fs)))) (check_inline p k g c kd home label i f fs w0) y) (from_twin p k ms g r f f' fs fs' w0 ss hs pair eh)
          (checks_here p k ms g r c i kd label home f pair.extra f'.continuation hs fs fs' w0 ss
          (record { plan = e; here = is_here; unrecalled = un; stands = t.stands; keeps = pair.keeps; waits = wa; current = cu; under = under; others = t.others; alike = t.alike; deep = t.deep; count = t.count }) is))

      -- ---- in the lead-in and the rest

      module _ (outer : is_group f.at ≡ false) where
        handlers_hold : Current p k p' g r.types r.depths f.method f.at f'.handling
        handlers_hold = current_too p k ms g r f f' f.at outer pair.waits (a.top.frame.current outer)

        not_recalled : (at : ProgramPoint) → is_group at ≡ false → Rattle.simulation_calls.specs.Inline.NotRecalled p k ms g r c at
        not_recalled (LeadIn q) n = tt
        not_recalled (Rest q) n = tt
        not_recalled (InGroup gr j q) n = absurd (cc n)

        -- a `ret` of a body whose exit is checked
        lifted : (q : ℕ) (i : Instr) → f.at ≡ Rest q → fetch p k g (Some c) f.method f.at ≡ Some i → class_of i.op ≡ class.Return → has_exit p k p' g r.types r.depths c ≡ true → step_frames p k g (f ∷ fs) w0 ≡ run_plain p k g i f fs w0 → Goal
        lifted q i at s ret exits first =
            answered n _ (omega arith) (first ∙ ap (λ b. perform p k g b f fs w0) (act_returns p (here_of f fs) i w0 f.local ret))
            (subst (λ y. An n (returns p k f fs w0) y) (from_twin p k ms g r f f' fs fs' w0 ss f'.handling t.pair refl)
            (rets_lifted p k ms g r c q i f f' fs fs' w0 ss
            (record { top = t; outside = t.count ∙ ap (λ z. in_group z + count_groups fs) at ∙ none_more (count_groups fs); fine_back = a.top.frame.fine_back; heap = (a.top.below.world).heap; back = objects.back; named = a.top.as_named.0 })
            e at s ret (Unwinding.none_thrown p k ms g r f.thrown (subst (λ z. Rattle.splice_facts.specs.Related.FitsAt (Unwinding.Fits p k ms g r) z f.thrown) at (t.stands).fits)) exits handlers_hold
            (λ v given. (r.heights f.method c (t.stands).old e).returns f i v refl a.top.as_named.0 is_here outer s ret given (but_none (length f.local.stack) _ ((sound.valid.heights).0 c (t.stands).old e outer)))))
          where
            n : ℕ
            n = 5 * Unwinding.cst p k ms g r + Unwinding.lay p k ms g r (suc (suc (length fs)))

            none_more : (m : ℕ) → 0 + m ≡ m
            none_more m = omega arith

        plainly : (i : Instr) (x : ContractCall) → contract_call p i ≡ x → is_check x ≡ false → fetch p k g (Some c) f.method f.at ≡ Some i → step_frames p k g (f ∷ fs) w0 ≡ run_plain p k g i f fs w0 → Goal
        plainly i x call no_check s first = by_place f.at refl
          where
            unchecked : is_check (contract_call p i) ≡ false
            unchecked = ap is_check call ∙ no_check

            by_exit : (q : ℕ) → f.at ≡ Rest q → (b : Bool) → has_exit p k p' g r.types r.depths c ≡ b → (ret : Class) → class_of i.op ≡ ret → Goal
            by_exit q at true ex class.Return er = lifted q i at s er ex first
            by_exit q at false ex ret er = copied i (found_in i s) (plain_in i (subst (λ z. IsPlainAt p k p' g r.types r.depths f.method (Some c) z i) (sym at) (unchecked, λ yes. let z : false ≡ true = sym ex ∙ yes in absurd (cc z)))) first
            by_exit q at true ex ret er = copied i (found_in i s) (plain_in i (subst (λ z. IsPlainAt p k p' g r.types r.depths f.method (Some c) z i) (sym at) (unchecked, λ yes same. let z : ret ≡ class.Return = sym er ∙ same in absurd (cc z)))) first

            by_place : (at : ProgramPoint) → f.at ≡ at → Goal
            by_place (LeadIn q) at = copied i (found_in i s) (plain_in i (subst (λ z. IsPlainAt p k p' g r.types r.depths f.method (Some c) z i) (sym at) unchecked)) first
            by_place (Rest q) at = by_exit q at (has_exit p k p' g r.types r.depths c) refl (class_of i.op) refl
            by_place (InGroup gr j q) at = let z : true ≡ false = sym (ap is_group at) ∙ outer in absurd (cc z)

        in_body : (q : ℕ) → fetch p k g (Some c) f.method f.at ≡ slice_get (body_of p f.method).instrs q → place_in f.at ≡ q → step_frames p k g (f ∷ fs) w0 ≡ step_body p k g c q f fs w0 → Goal
        in_body q same own first = by_instr (slice_get (body_of p f.method).instrs q) refl
          where
            inline_at : (at : ProgramPoint) → is_group at ≡ false → place_in at ≡ q → (i : Instr) (kd : ClauseKind) → slice_get (body_of p f.method).instrs q ≡ Some i → contract_call p i ≡ ChecksHere kd
                → IsInline p k p' g r.types r.depths c f.method f fs at i kd f.method (inline_label c.effective.asserts (inline_number p c.effective.asserts (body_of p f.method).instrs at))
            inline_at (LeadIn q2) n o i kd s call = (ap (slice_get (body_of p f.method).instrs) o ∙ s, call, refl, refl)
            inline_at (Rest q2) n o i kd s call = (ap (slice_get (body_of p f.method).instrs) o ∙ s, call, refl, refl)
            inline_at (InGroup gr j q2) n o i kd s call = absurd (cc n)

            by_call : (i : Instr) → slice_get (body_of p f.method).instrs q ≡ Some i → (x : ContractCall) → contract_call p i ≡ x → step_frames p k g (f ∷ fs) w0 ≡ run_in_body p k g c x i f fs w0 → Goal
            by_call i s (ChecksHere kd) call d = checked i kd f.method _ f'.handling refl handlers_hold pair.waits (not_recalled f.at outer) (inline_at f.at outer own i kd s call) d
            by_call i s (EndsClause kd) call d = plainly i (EndsClause kd) call refl (same ∙ s) d
            by_call i s EndsBlock call d = plainly i EndsBlock call refl (same ∙ s) d
            by_call i s Abbreviates call d = plainly i Abbreviates call refl (same ∙ s) d
            by_call i s GivesResult call d = plainly i GivesResult call refl (same ∙ s) d
            by_call i s ReadsArgument call d = plainly i ReadsArgument call refl (same ∙ s) d
            by_call i s TakesOld call d = plainly i TakesOld call refl (same ∙ s) d
            by_call i s NoContractCall call d = plainly i NoContractCall call refl (same ∙ s) d

            by_instr : (o : Option Instr) → slice_get (body_of p f.method).instrs q ≡ o → Goal
            by_instr None s = ended (subst (λ y. fetch p k g y f.method f.at ≡ None) (sym e) (same ∙ s)) (first ∙ ap (λ o. if_there o w0 (λ i. run_in_body p k g c (contract_call p i) i f fs w0)) s)
            by_instr (Some i) s = by_call i s (contract_call p i) refl (first ∙ ap (λ o. if_there o w0 (λ i1. run_in_body p k g c (contract_call p i1) i1 f fs w0)) s)

      -- ---- in a group

      module _ (gr : Group) (j q : ℕ) (at : f.at ≡ InGroup gr j q) (x : Piece) (there : piece_at (Some c) gr j ≡ Some x) where
        idle : (f.handling ≡ []) × (f'.handling ≡ [])
        idle = subst (λ z. Waits (plan_at k p f.method) (mk f.method) (length (body_of p f.method).regions) z f.handling f'.handling) at pair.waits

        at_piece : IsHere (Some c) (InGroup gr j q)
        at_piece = subst (IsHere (Some c)) at is_here

        kept : (g2 : Group) → gr ≡ g2 → StaysIn p k p' g r.types r.depths c g2 f f.local.result
        kept group.Entry s = tt
        kept group.Inline s = tt
        kept group.Throw s = any_there p k ms g r (pieces c group.Throw) j x (subst (λ z. piece_at (Some c) z j ≡ Some x) s there)
        kept group.Exit s = (
          ap (λ b. b || has_any p k p' g r.types r.depths (pieces c group.Invariant)) (any_there p k ms g r (pieces c group.Exit) j x (subst (λ z. piece_at (Some c) z j ≡ Some x) s there)),
          (subst (λ z. Rattle.simulation_valid.specs.Keeping.KeepsReturned p f z) (at ∙ ap (λ z. InGroup z j q) s) a.top.counted).1,
        )
        kept group.Invariant s = (
          both_true (has_any p k p' g r.types r.depths (pieces c group.Exit)) _ (any_there p k ms g r (pieces c group.Invariant) j x (subst (λ z. piece_at (Some c) z j ≡ Some x) s there)),
          (subst (λ z. Rattle.simulation_valid.specs.Keeping.KeepsReturned p f z) (at ∙ ap (λ z. InGroup z j q) s) a.top.counted).1,
        )

        inside : InPiece p k ms g r c gr j q x f pair.extra f'.continuation fs fs' w0 ss
        inside =
            record {
              plan = e;
              at = at;
              piece = there;
              here = here;
              stands = t.stands;
              stays = kept gr refl;
              keeps = pair.keeps;
              bare = idle.0;
              under = under;
              others = t.others;
              fine_back = a.top.frame.fine_back;
              alike = t.alike;
              deep = t.deep;
              count = t.count ∙ ap (λ z. in_group z + count_groups fs) at;
              heap = (a.top.below.world).heap;
              thrown = objects.thrown;
              back = objects.back;
              named = a.top.as_named.0;
            }

        -- from the twin, with no handler that runs
        by_seam : (n : ℕ) (y : Next) → n ≤ N → step_frames p k g (f ∷ fs) w0 ≡ y → An n y (from_here p k p' g r.types r.depths (mk f.method) f pair.extra f'.continuation fs' w0 ss []) → Goal
        by_seam n y le first h = answered n y le first (subst (An n y) (from_twin p k ms g r f f' fs fs' w0 ss [] pair idle.1) h)

        recalls : (o : ℕ × Old) → recalled x q ≡ Some o → step_frames p k g (f ∷ fs) w0 ≡ Rattle.cil_semantics.specs.Machine.recall p k g x o f fs w0 → Goal
        recalls o s first =
            let many : length f.local.captured ≡ length (olds_of c.clauses) = count_olds in
            let cell = there_is f.local.captured (x.first_captured + o.0) (omega (arith, many, facts.olds gr j q x o at_piece there s)) in
            by_seam (Unwinding.cst p k ms g r + Unwinding.lay p k ms g r (suc (length fs))) _ (omega arith) first (recalls_old p k ms g r c gr j q x f pair.extra f'.continuation fs fs' w0 ss inside o cell.0 s cell.1)
          where
            count_olds : length f.local.captured ≡ length (olds_of c.clauses)
            count_olds =
                sym (map_length (λ (y : Cell). y.ty) f.local.captured) ∙ ap length (a.top.frame.captured ∙ ap (captured_tys p (here_of f fs)) e)
                ∙ map_length _ (map (λ (y : Old). y.ty) (olds_of c.clauses)) ∙ map_length (λ (y : Old). y.ty) (olds_of c.clauses)

        module _ (un : recalled x q ≡ None) where
          fetched : (i : Instr) → slice_get x.clause.instrs q ≡ Some i → fetch p k g (Some c) f.method f.at ≡ Some (relocated_instr x.first_local i)
          fetched i s =
              ap (λ y. fetch p k g (Some c) f.method y) at ∙ ap (option_and_then (λ (y : Piece). option_map (relocated_instr y.first_local) (slice_get y.clause.instrs q))) there
              ∙ ap (option_map (relocated_instr x.first_local)) s

          as_it_is : (i : Instr) → slice_get x.clause.instrs q ≡ Some i → (y : ContractCall) → contract_call p i ≡ y → IsTrue (is_copied p k p' g r.types r.depths y) → step_frames p k g (f ∷ fs) w0 ≡ run_plain p k g (relocated_instr x.first_local i) f fs w0 → Goal
          as_it_is i s y call is first =
              copied (relocated_instr x.first_local i) (found_in _ (fetched i s))
              (plain_in _ (subst (λ z. IsPlainAt p k p' g r.types r.depths f.method (Some c) z (relocated_instr x.first_local i)) (sym at)
              (subst (λ z. IsTrue (is_copied p k p' g r.types r.depths z)) (sym (same_call x.first_local p i ∙ call)) is, λ x2 there2. let z : Some x ≡ Some x2 = sym there ∙ there2 in let same : x ≡ x2 = cc z in subst (λ y2. recalled y2 q ≡ None) same un))) first

          ends : (i : Instr) (kd : ClauseKind) → slice_get x.clause.instrs q ≡ Some i → contract_call p i ≡ EndsClause kd → step_frames p k g (f ∷ fs) w0 ≡ end_clause p k g c gr j x i f fs w0 → Goal
          ends i kd s call first = by_condition (condition_in (has_message p i) f.local.stack) refl
            where
              n : ℕ
              n = failure_cost k p + (4 * Unwinding.cst p k ms g r + Unwinding.lay p k ms g r (suc (suc (length fs))))

              by_condition : (o : Option Condition) → condition_in (has_message p i) f.local.stack ≡ o → Goal
              by_condition None d =
                  by_seam (Unwinding.cst p k ms g r + 0) (stuck w0) (omega arith) (first ∙ ap (λ o. if_there o w0 (λ (y : Condition). check p k g (clause_failure p k p' g r.types r.depths f fs x y.user) y.holds (record f { local = with_stack f.local y.rest } ∷ fs) w0 (λ v. piece_over p k c gr j (record f { local = with_stack f.local y.rest }) fs v))) d)
                  (Unwinding.answer_by p k ms g r (Unwinding.cst p k ms g r) 0 _ _ _ (moves_to_end p' (Unwinding.cst p k ms g r) _ _ _ (seams.checks_stuck gr j q x i kd f fs fs' w0 pair.extra ss f'.continuation refl at is_here there s call scene d)) (Arriving.stuck_both p k ms g r 0 w0 ss t.alike))
              by_condition (Some o) d =
                  by_seam n _ (omega arith) (first ∙ ap (λ o1. if_there o1 w0 (λ (y : Condition). check p k g (clause_failure p k p' g r.types r.depths f fs x y.user) y.holds (record f { local = with_stack f.local y.rest } ∷ fs) w0 (λ v. piece_over p k c gr j (record f { local = with_stack f.local y.rest }) fs v))) d)
                  (clause_done p k ms g r c gr j q x f pair.extra f'.continuation fs fs' w0 ss o inside (seams.checks gr j q x i kd o f fs fs' w0 pair.extra ss f'.continuation refl at is_here there s call scene d))

          takes : (i : Instr) → slice_get x.clause.instrs q ≡ Some i → contract_call p i ≡ TakesOld → step_frames p k g (f ∷ fs) w0 ≡ if_there x.captures w0 (λ n. capture p k c gr j n f f.local.stack fs w0) → Goal
          takes i s call first = by_capture x.captures refl
            where
              by_capture : (o : Option ℕ) → x.captures ≡ o → Goal
              by_capture None d = let z : false ≡ true = sym (ap is_some d) ∙ facts.takes gr j q x i at_piece there un s call in absurd (cc z)
              by_capture (Some n) d =
                  by_seam (Unwinding.cst p k ms g r + (4 * Unwinding.cst p k ms g r + Unwinding.lay p k ms g r (suc (suc (length fs))))) _ (omega arith) (first ∙ ap (λ o. if_there o w0 (λ n1. capture p k c gr j n1 f f.local.stack fs w0)) d)
                  (captures_old p k ms g r c gr j q x f pair.extra f'.continuation fs fs' w0 ss inside n i d s call)

          checks_in_clause : (i : Instr) (kd : ClauseKind) → slice_get x.clause.instrs q ≡ Some i → contract_call p i ≡ ChecksHere kd → step_frames p k g (f ∷ fs) w0 ≡ run_in_piece p k g c gr j x (ChecksHere kd) q i f fs w0 → Goal
          checks_in_clause i kd s call first =
              checked i kd x.clause.home (maybe [] (λ name. name) (slice_get x.clause.inline (count_checks p (take q x.clause.instrs)))) [] idle.1 (subst (λ z. Current p k p' g r.types r.depths f.method z []) (sym at) (tt, refl)) (subst (λ z. Waits (plan_at k p f.method) (mk f.method) (length (body_of p f.method).regions) z f.handling []) (sym at) (idle.0, refl))
              (subst (Rattle.simulation_calls.specs.Inline.NotRecalled p k ms g r c) (sym at) (λ x2 there2. let z : Some x ≡ Some x2 = sym there ∙ there2 in let same : x ≡ x2 = cc z in subst (λ y2. recalled y2 q ≡ None) same un))
              (subst (λ z. IsInline p k p' g r.types r.depths c f.method f fs z i kd x.clause.home (maybe [] (λ name. name) (slice_get x.clause.inline (count_checks p (take q x.clause.instrs))))) (sym at) (x, there, s, call, refl, refl)) first

          by_call : (i : Instr) → slice_get x.clause.instrs q ≡ Some i → (y : ContractCall) → contract_call p i ≡ y → step_frames p k g (f ∷ fs) w0 ≡ run_in_piece p k g c gr j x y q i f fs w0 → Goal
          by_call i s (EndsClause kd) call d = ends i kd s call d
          by_call i s GivesResult call d = by_seam (Unwinding.cst p k ms g r + Unwinding.lay p k ms g r (suc (length fs))) _ (omega arith) d (gives_result p k ms g r c gr j q x f pair.extra f'.continuation fs fs' w0 ss inside i s call a.top.frame.has_result un)
          by_call i s ReadsArgument call d = by_seam (Unwinding.cst p k ms g r + Unwinding.lay p k ms g r (suc (length fs))) _ (omega arith) d (loads_through p k ms g r c gr j q x f pair.extra f'.continuation fs fs' w0 ss inside i s call un a.top.frame.fine.stack)
          by_call i s TakesOld call d = takes i s call d
          by_call i s (ChecksHere kd) call d = checks_in_clause i kd s call d
          by_call i s EndsBlock call d = as_it_is i s EndsBlock call refl d
          by_call i s Abbreviates call d = as_it_is i s Abbreviates call refl d
          by_call i s NoContractCall call d = as_it_is i s NoContractCall call refl d

          by_instr : (o : Option Instr) → slice_get x.clause.instrs q ≡ o → step_frames p k g (f ∷ fs) w0 ≡ if_there o w0 (λ i. run_in_piece p k g c gr j x (contract_call p i) q i f fs w0) → Goal
          by_instr None s d = ended (subst (λ y. fetch p k g y f.method f.at ≡ None) (sym e) (ap (λ y. fetch p k g (Some c) f.method y) at ∙ ap (option_and_then (λ (y : Piece). option_map (relocated_instr y.first_local) (slice_get y.clause.instrs q))) there ∙ ap (option_map (relocated_instr x.first_local)) s)) d
          by_instr (Some i) s d = by_call i s (contract_call p i) refl d

        in_clause : step_frames p k g (f ∷ fs) w0 ≡ step_piece p k g c gr j x q (recalled x q) f fs w0 → Goal
        in_clause first = by_old (recalled x q) refl
          where
            by_old : (o : Option (ℕ × Old)) → recalled x q ≡ o → Goal
            by_old None s = by_instr s (slice_get x.clause.instrs q) refl (first ∙ ap (λ o. step_piece p k g c gr j x q o f fs w0) s)
            by_old (Some o) s = recalls o s (first ∙ ap (λ o1. step_piece p k g c gr j x q o1 f fs w0) s)

      by_piece : (gr : Group) (j q : ℕ) → f.at ≡ InGroup gr j q → Goal
      by_piece gr j q at =
          let h = subst (IsHere (Some c)) at is_here in
          in_clause gr j q at h.0 h.1 (at_plan _ (ap (λ z. step_at p k g (Some c) z f fs w0) at ∙ ap (λ o. if_there o w0 (λ x. step_piece p k g c gr j x q (recalled x q) f fs w0)) h.1))

      with_contracts : (at : ProgramPoint) → f.at ≡ at → Goal
      with_contracts (LeadIn q) s = in_body (ap is_group s) q (ap (fetch p k g (Some c) f.method) s) (ap place_in s) (at_plan _ (ap (λ z. step_at p k g (Some c) z f fs w0) s))
      with_contracts (Rest q) s = in_body (ap is_group s) q (ap (fetch p k g (Some c) f.method) s) (ap place_in s) (at_plan _ (ap (λ z. step_at p k g (Some c) z f fs w0) s))
      with_contracts (InGroup gr j q) s = by_piece gr j q s

    -- ---- without contracts

    module _ (e : plan_at k p f.method ≡ None) where
      bare_fetch : (at : ProgramPoint) → f.at ≡ at → IsHere None at → fetch p k g None f.method f.at ≡ slice_get (body_of p f.method).instrs (place_in f.at)
      bare_fetch (LeadIn q) s h = absurd h
      bare_fetch (Rest q) s h = ap (fetch p k g None f.method) s ∙ ap (λ z. slice_get (body_of p f.method).instrs (place_in z)) (sym s)
      bare_fetch (InGroup gr j q) s h = absurd h

      bare : Goal
      bare = by_instr (slice_get (body_of p f.method).instrs (place_in f.at)) refl
        where
          same : fetch p k g (plan_at k p f.method) f.method f.at ≡ slice_get (body_of p f.method).instrs (place_in f.at)
          same = ap (λ o. fetch p k g o f.method f.at) e ∙ bare_fetch f.at refl (subst (λ o. IsHere o f.at) e here)

          first : (o : Option Instr) → slice_get (body_of p f.method).instrs (place_in f.at) ≡ o → step_frames p k g (f ∷ fs) w0 ≡ if_there o w0 (λ i. run_plain p k g i f fs w0)
          first o s = ap (λ z. step_at p k g z f.at f fs w0) e ∙ ap (λ z. if_there z w0 (λ i. run_plain p k g i f fs w0)) s

          by_instr : (o : Option Instr) → slice_get (body_of p f.method).instrs (place_in f.at) ≡ o → Goal
          by_instr None s = ended (same ∙ s) (first None s)
          by_instr (Some i) s = copied i (same ∙ s) (subst (λ o. IsPlainAt p k p' g r.types r.depths f.method o f.at i) (sym e) tt) (first (Some i) s)

    by_plan : (o : Option Plan) → plan_at k p f.method ≡ o → Goal
    by_plan None e = bare e
    by_plan (Some c) e = with_contracts c e f.at refl

  pub steps_answered : StepsAnswered p k ms g r
  steps_answered f f' fs fs' w ss (Frames.top f1 f1' gs gs' pair here under) bes sound objects = by_plan f f' fs fs' w ss pair here under bes sound objects (plan_at k p f.method) refl
