-- `fail` where failures don't throw: it reports a failure, tells of it where the reply isn't null, and returns.
use Rattle.std.proofs.Common.{◌≡◌, ℕ, suc, ◌+◌, true, false, List, [], ◌∷◌, length, Some, None, refl, sym, ap, ◌∙◌, subst, arith}
use Rattle.std.specs.Prelude.{slice_get, option_and_then, if◌then◌else◌, nat_le, take, drop, reverse}
use Rattle.cil_base.specs.declared.token.Token.{Token}
use Rattle.cil_model.specs.declared.ty.Ty.{Ty, Known}
use Rattle.cil_model.specs.declared.value.Value.{Value, out-Value, Null, Obj, Text}
use Rattle.cil_model.specs.declared.value.Value as values
use Rattle.cil_model.specs.declared.body.Instr.{Instr}
use Rattle.cil_model.specs.declared.contract.ClauseKind.{ClauseKind}
use Rattle.cil_model.specs.declared.contract.ClauseKind.TheVariants as kind
use Rattle.cil_model.specs.declared.program.Program.{Program}
use Rattle.cil_model.specs.declared.program.Meaning.TheVariants.{OfMethod}
use Rattle.cil_model.specs.NoContracts.{no_contracts}
use Rattle.cil_semantics.specs.Core.{class_named, string_ty, helper_name}
use Rattle.cil_semantics.specs.declared.state.Cell.{Cell}
use Rattle.il_opcodes.specs.declared.class.Storage.TheVariants.{Reference}
use Rattle.cil_semantics.specs.Places.{stored}
use Rattle.cil_semantics.specs.declared.state.Local.{Local as LocalState}
use Rattle.cil_semantics.specs.declared.state.World.{World}
use Rattle.cil_semantics.specs.declared.state.ProgramPoint.TheVariants.{Rest}
use Rattle.cil_semantics.specs.declared.state.Handling.{Handling}
use Rattle.cil_semantics.specs.declared.state.Frame.{Frame}
use Rattle.cil_semantics.specs.State.{Next, unrecorded, recorded_after, goes_after, with_stack}
use Rattle.cil_semantics.specs.Tokens.{Here, meaning_of, meaning_here, token_here, if_little, meaning_under}
use Rattle.cil_semantics.specs.Acts.{truth, with_this, arity, CallMember}
use Rattle.cil_semantics.specs.Unwind.{body_of, here_of, goes_at, unwind}
use Rattle.cil_semantics.specs.Frames.{stuck, stored_args}
use Rattle.cil_semantics.specs.Outside.{Answer, Returned, Threw, Unfit, ask}
use Rattle.cil_semantics.specs.Calls.{call_member, on_answer}
use Rattle.cil_semantics.specs.Checks.{AddedNumbers, Failure, kind_number, label_text, number_value, event_member, trigger_member, Sequel, failing, reported, replied, triggered, fail_with}
use Rattle.machine_laws.specs.Same.{plain_step}
use Rattle.splice_facts.specs.Comes.{Comes}
use Rattle.splice_laws.specs.Straight.{ldarg, ldnull, dup, pop, brtrue, call, frame_at, at_place}
use Rattle.splice_laws.specs.Helpers.{HasRuntime, int32, nothing}
use Rattle.splice_laws.specs.HelperRuns.{HelpersRun}
use Rattle.splice_laws.specs.Fails.{NotMade, FitsFail, FailRuns, fail_cost}
use Rattle.splice_facts.proofs.ComesLaws.{comes_at_once, comes_within, arrives_plain}
use Rattle.splice_facts.proofs.AskFrameLaws.{with_frames, ask_frames, event_plain, trigger_plain}
use Rattle.splice_laws.proofs.StraightLaws.{one_step, goes_one, jumps_one, steps_by, world_back, does_ldarg, does_ldnull, does_dup, does_pop, tests_brtrue, acts_call, called}
use Rattle.splice_laws.proofs.LeavingLaws.{unwind_told}
use Rattle.splice_laws.proofs.HelperCallLaws.{callee, calls, code_is, returns_behind, passes_through, int_kept, enter_runs, leave_runs}
use Rattle.splice_laws.proofs.AskLaws.{told_answer, Refers, RefersTo, ask_told, ask_refers, calls_event}
use Rattle.splice_laws.proofs.FailLaws.{three_there, text_stored, small_kind, nothing_kept, as_string, passes_one}
use Rattle.seam_laws.specs.QuietFail.{HasQuietFail, quiet_code}
use Rattle.seam_laws.proofs.TriggerLaws.{trigger_told, calls_trigger}

text_refers : (u : List ℕ) → Refers (out-Value (Text u))
unfolding values.out-Value denote.Hole.Carrier.out
text_refers u = tt

null_falls : truth Null ≡ Some false
unfolding values.out-Value denote.Hole.Carrier.out
null_falls = refl

object_holds : (k : ℕ) → truth (Obj k) ≡ Some true
unfolding values.out-Value denote.Hole.Carrier.out
object_holds k = refl

text_holds : (u : List ℕ) → truth (Text u) ≡ Some true
unfolding values.out-Value denote.Hole.Carrier.out
text_holds u = refl

module _ (p : Program) where
  abbrev cell : Ty → Value → Cell
  cell t v = record { ty = t; value = v }

  names_member : (here : Here) (a : ℕ) (t : Token) (m : ℕ) → meaning_of p a t ≡ Some (OfMethod (class_named helper_name) m []) → meaning_here p here (call a t) ≡ Some (OfMethod (class_named helper_name) m [])
  unfolding token_here
  names_member here a t m e = ap (option_and_then (λ x. if_little (meaning_under here.type_args here.method_args x))) e

  module _ (c guard : ℕ) (r : HasRuntime p c guard) (g : AddedNumbers) (fail : ℕ) (hf : HasQuietFail p g fail r.assembly) where
    abbrev params : List Ty
    params = int32 ∷ string_ty ∷ string_ty ∷ []

    abbrev code : List Instr
    code = quiet_code r.assembly hf.event hf.trigger

    abbrev at_code : (j : ℕ) (i : Instr) → slice_get code j ≡ Some i → slice_get (body_of p fail).instrs j ≡ Some i
    at_code j i e = ap (λ is. slice_get is j) (code_is p c guard r fail params nothing code hf.is) ∙ e

    module _ (f : Frame) (l : LocalState) (rest : List Value) (q : ℕ) (hs : List Handling) (fs : List Frame) (x : Failure) (makes : World → Ty → ℕ → List Value → Next) (notmade : NotMade x.kind) (ref : stored Reference x.user ≡ Some x.user) where
      abbrev FS : List Frame
      FS = frame_at f (with_stack l rest) q hs ∷ fs

      abbrev kd : Value
      kd = number_value x

      abbrev cells : List Cell
      cells = cell int32 kd ∷ cell string_ty x.user ∷ cell string_ty (label_text x) ∷ []

      abbrev G : Frame
      G = callee p c guard r fail cells

      abbrev l0 : LocalState
      l0 = G.local

      abbrev here : Here
      here = here_of G FS

      abbrev T : Sequel
      T = record { passes = λ v. goes_at p f (Rest (q + 1)) (with_stack l rest) hs fs v; throws = λ v y. unwind p no_contracts false FS v y; makes = makes; stops = λ v. stuck v }

      all_passed : stored_args p params (kd ∷ x.user ∷ label_text x ∷ []) ≡ Some cells
      all_passed =
          passes_one p int32 kd kd (string_ty ∷ string_ty ∷ []) (x.user ∷ label_text x ∷ []) (cell string_ty x.user ∷ cell string_ty (label_text x) ∷ []) (int_kept p (kind_number x.kind) (small_kind x.kind))
          (passes_one p string_ty x.user x.user (string_ty ∷ []) (label_text x ∷ []) (cell string_ty (label_text x) ∷ []) (as_string p x.user x.user ref) (passes_one p string_ty (label_text x) (label_text x) [] [] [] (as_string p (label_text x) (label_text x) (text_stored _)) refl))

      returns : (st : List Value) (j : ℕ) (w : World) → slice_get code j ≡ Some Rattle.splice_laws.specs.Straight.ret → Comes p 1 (at_place G (with_stack l0 st) j [] FS w) (T.passes w)
      returns st j w e =
          one_step p G (with_stack l0 st) j [] FS w 0 _ _ (returns_behind p c guard r fail params nothing code hf.is cells (with_stack l0 st) (with_stack l rest) j q f hs fs w None e (nothing_kept p st))
          (comes_at_once p 0 _ _ refl)

      -- ---- it is told of

      abbrev GT : List Frame
      GT = frame_at G l0 14 [] ∷ FS

      abbrev told : Value → List Value
      told v = kd ∷ v ∷ x.user ∷ label_text x ∷ Null ∷ []

      abbrev AT : Value → World → Answer
      AT v w = ask p (trigger_member g) (told v) [] (unrecorded w)

      triggered_so : (A : Answer) (w : World) → Comes p 1 (goes_after w.trace (on_answer p no_contracts (with_frames GT A))) (triggered p g false x T (with_frames fs (told_answer w.trace A)))
      triggered_so (Returned None gs u) w =
          subst (λ z. Comes p 1 z (T.passes (recorded_after w.trace u))) (sym (ap (goes_after w.trace) (arrives_plain p (frame_at G l0 14 []) (Rest 15) l0 [] FS u))) (returns [] 15 (recorded_after w.trace u) refl)
      triggered_so (Returned (Some v) gs u) w =
          subst (λ z. Comes p 1 z (T.passes (recorded_after w.trace u))) (sym (ap (goes_after w.trace) (arrives_plain p (frame_at G l0 14 []) (Rest 15) (with_stack l0 (v ∷ [])) [] FS u))) (returns (v ∷ []) 15 (recorded_after w.trace u) refl)
      triggered_so (Threw y gs u) w = comes_at_once p 1 _ _ (unwind_told p w.trace false GT u y ∙ passes_through p c guard r fail params nothing code hf.is cells l0 14 FS (recorded_after w.trace u) y)
      triggered_so (Unfit u) w = comes_at_once p 1 _ _ refl

      asked_there : (v : Value) (w : World) → ask p (trigger_member g) (told v) fs w ≡ with_frames fs (told_answer w.trace (AT v w))
      asked_there v w =
          ask_frames p (trigger_member g) (told v) fs w (trigger_plain g)
          ∙ ap (λ u. with_frames fs (ask p (trigger_member g) (told v) [] u)) (sym (world_back w))
          ∙ ap (with_frames fs) (trigger_told p g w.trace (told v) (unrecorded w))

      with_this_five : with_this p g.trigger ≡ 5
      with_this_five = ap (λ b. if b then arity p g.trigger else suc (arity p g.trigger)) (hf.trigger_is).static ∙ ap length (hf.trigger_is).params

      trigger_step : (v : Value) (w : World) → plain_step p (record { frames = frame_at G (with_stack l0 (Null ∷ label_text x ∷ x.user ∷ v ∷ kd ∷ [])) 14 [] ∷ FS; world = w }) ≡ goes_after w.trace (on_answer p no_contracts (with_frames GT (AT v w)))
      trigger_step v w =
          let l4 = with_stack l0 (Null ∷ label_text x ∷ x.user ∷ v ∷ kd ∷ []) in
          steps_by p G l4 14 [] FS w (call r.assembly hf.trigger) (λ z. CallMember (called p here (class_named helper_name) g.trigger [] (reverse (take (with_this p g.trigger) l4.stack))) (with_stack l4 (drop (with_this p g.trigger) l4.stack))) (at_code 14 _ refl)
          (acts_call p here r.assembly hf.trigger (class_named helper_name) g.trigger [] l4 (names_member here r.assembly hf.trigger g.trigger hf.trigger_token) (ap (λ n. nat_le n 5) with_this_five))
          ∙ ap (λ n. goes_after w.trace (call_member p no_contracts (class_named helper_name) g.trigger [] (reverse (take n l4.stack)) (frame_at G (with_stack l4 (drop n l4.stack)) 14 [] ∷ FS) (unrecorded w))) with_this_five
          ∙ ap (goes_after w.trace) (calls_trigger p g hf.trigger_is (told v) GT (unrecorded w))
          ∙ ap (λ z. goes_after w.trace (on_answer p no_contracts z)) (ask_frames p (trigger_member g) (told v) GT (unrecorded w) (trigger_plain g))

      tells : (v : Value) (w : World) → Comes p 5 (at_place G (with_stack l0 (v ∷ kd ∷ [])) 11 [] FS w) (triggered p g false x T (ask p (trigger_member g) (told v) fs w))
      tells v w =
          let l1 = with_stack l0 (v ∷ kd ∷ []) in
          let l2 = with_stack l0 (x.user ∷ v ∷ kd ∷ []) in
          let l3 = with_stack l0 (label_text x ∷ x.user ∷ v ∷ kd ∷ []) in
          let l4 = with_stack l0 (Null ∷ label_text x ∷ x.user ∷ v ∷ kd ∷ []) in
          one_step p G l1 11 [] FS w 4 _ _ (goes_one p G l1 l2 11 [] FS w (ldarg 1) (at_code 11 _ refl) (does_ldarg p here 1 (cell string_ty x.user) l1 refl) refl)
          (one_step p G l2 12 [] FS w 3 _ _ (goes_one p G l2 l3 12 [] FS w (ldarg 2) (at_code 12 _ refl) (does_ldarg p here 2 (cell string_ty (label_text x)) l2 refl) refl)
          (one_step p G l3 13 [] FS w 2 _ _ (goes_one p G l3 l4 13 [] FS w ldnull (at_code 13 _ refl) (does_ldnull p here l3) refl)
          (one_step p G l4 14 [] FS w 1 _ _ (trigger_step v w)
          (subst (λ z. Comes p 1 (goes_after w.trace (on_answer p no_contracts (with_frames GT (AT v w)))) (triggered p g false x T z)) (sym (asked_there v w)) (triggered_so (AT v w) w)))))

      by_any_kind : (k0 : ClauseKind) (text : Value) (w : World) → NotMade k0 → fail_with p g false x T k0 text fs w ≡ triggered p g false x T (ask p (trigger_member g) (told text) fs w)
      by_any_kind kind.Requires text w n = refl
      by_any_kind kind.RequiresOf text w n = absurd n
      by_any_kind kind.Ensures text w n = refl
      by_any_kind kind.Throws text w n = refl
      by_any_kind kind.Invariant text w n = refl
      by_any_kind kind.Assert text w n = refl
      by_any_kind kind.Assume text w n = refl

      -- ---- behind the reply

      goes_true : (v : Value) (w : World) → truth v ≡ Some true → Comes p 7 (at_place G (with_stack l0 (v ∷ kd ∷ [])) 6 [] FS w) (fail_with p g false x T x.kind v fs w)
      goes_true v w e =
          subst (λ z. Comes p 7 (at_place G (with_stack l0 (v ∷ kd ∷ [])) 6 [] FS w) z) (sym (by_any_kind x.kind v w notmade))
          (one_step p G (with_stack l0 (v ∷ kd ∷ [])) 6 [] FS w 6 _ _ (goes_one p G (with_stack l0 (v ∷ kd ∷ [])) (with_stack l0 (v ∷ v ∷ kd ∷ [])) 6 [] FS w dup (at_code 6 _ refl) (does_dup p here v (kd ∷ []) l0) refl)
          (one_step p G (with_stack l0 (v ∷ v ∷ kd ∷ [])) 7 [] FS w 5 _ _ (jumps_one p G (with_stack l0 (v ∷ v ∷ kd ∷ [])) (with_stack l0 (v ∷ kd ∷ [])) 7 11 [] FS w (brtrue 11) (at_code 7 _ refl) (tests_brtrue p here 11 v (v ∷ kd ∷ []) l0 true e) refl)
          (tells v w)))

      goes_false : (v : Value) (w : World) → truth v ≡ Some false → Comes p 7 (at_place G (with_stack l0 (v ∷ kd ∷ [])) 6 [] FS w) (T.passes w)
      goes_false v w e =
          comes_within p 5 7 _ _ (omega arith)
          (one_step p G (with_stack l0 (v ∷ kd ∷ [])) 6 [] FS w 4 _ _ (goes_one p G (with_stack l0 (v ∷ kd ∷ [])) (with_stack l0 (v ∷ v ∷ kd ∷ [])) 6 [] FS w dup (at_code 6 _ refl) (does_dup p here v (kd ∷ []) l0) refl)
          (one_step p G (with_stack l0 (v ∷ v ∷ kd ∷ [])) 7 [] FS w 3 _ _ (goes_one p G (with_stack l0 (v ∷ v ∷ kd ∷ [])) (with_stack l0 (v ∷ kd ∷ [])) 7 [] FS w (brtrue 11) (at_code 7 _ refl) (tests_brtrue p here 11 v (v ∷ kd ∷ []) l0 false e) refl)
          (one_step p G (with_stack l0 (v ∷ kd ∷ [])) 8 [] FS w 2 _ _ (goes_one p G (with_stack l0 (v ∷ kd ∷ [])) (with_stack l0 (kd ∷ [])) 8 [] FS w pop (at_code 8 _ refl) (does_pop p here v (kd ∷ []) l0) refl)
          (one_step p G (with_stack l0 (kd ∷ [])) 9 [] FS w 1 _ _ (goes_one p G (with_stack l0 (kd ∷ [])) l0 9 [] FS w pop (at_code 9 _ refl) (does_pop p here kd [] l0) refl) (returns [] 10 w refl)))))

      replied_so : (v : Value) (w : World) → Refers (out-Value v) → Comes p 7 (at_place G (with_stack l0 (v ∷ kd ∷ [])) 6 [] FS w) (replied p g false x T (out-Value v) fs w)
      unfolding values.out-Value denote.Hole.Carrier.out
      replied_so values.Null w h = goes_false Null w null_falls
      replied_so (values.Obj k) w h = goes_true (Obj k) w (object_holds k)
      replied_so (values.Text u) w h = goes_true (Text u) w (text_holds u)
      replied_so (values.I4 z) w h = absurd h
      replied_so (values.I8 z) w h = absurd h
      replied_so (values.Native z) w h = absurd h
      replied_so (values.Ptr z) w h = absurd h
      replied_so (values.Struct' shape parts) w h = absurd h
      replied_so (values.Func z z2) w h = absurd h
      replied_so (values.Opaque z) w h = absurd h

      -- ---- what the event answers

      abbrev lk : LocalState
      lk = with_stack l0 (kd ∷ [])

      abbrev GS : List Frame
      GS = frame_at G lk 5 [] ∷ FS

      abbrev vals : List Value
      vals = kd ∷ x.user ∷ label_text x ∷ Null ∷ []

      abbrev A0 : World → Answer
      A0 w = ask p (event_member g (label_text x)) vals [] (unrecorded w)

      answered_so : (A : Answer) (w : World) → RefersTo A → Comes p 7 (goes_after w.trace (on_answer p no_contracts (with_frames GS A))) (reported p g false x T fs (with_frames fs (told_answer w.trace A)))
      answered_so (Returned None gs u) w h = absurd h
      answered_so (Returned (Some v) gs u) w h =
          subst (λ z. Comes p 7 z (replied p g false x T (out-Value v) fs (recorded_after w.trace u))) (sym (ap (goes_after w.trace) (arrives_plain p (frame_at G lk 5 []) (Rest 6) (with_stack l0 (v ∷ kd ∷ [])) [] FS u)))
          (replied_so v (recorded_after w.trace u) h)
      answered_so (Threw y gs u) w h = comes_at_once p 7 _ _ (unwind_told p w.trace false GS u y ∙ passes_through p c guard r fail params nothing code hf.is cells lk 5 FS (recorded_after w.trace u) y)
      answered_so (Unfit u) w h = comes_at_once p 7 _ _ refl

      default_is : (v : Value) × ((event_member g (label_text x)).default ≡ Some v) × Refers (out-Value v)
      default_is = (label_text x, refl, text_refers _)

      asked_here : (w : World) → ask p (event_member g (label_text x)) vals fs w ≡ with_frames fs (told_answer w.trace (A0 w))
      asked_here w =
          ask_frames p (event_member g (label_text x)) vals fs w (event_plain g (label_text x))
          ∙ ap (λ u. with_frames fs (ask p (event_member g (label_text x)) vals [] u)) (sym (world_back w))
          ∙ ap (with_frames fs) (ask_told p (event_member g (label_text x)) refl default_is (event_plain g (label_text x)) w.trace vals (unrecorded w))

      with_this_four : with_this p g.event ≡ 4
      with_this_four = ap (λ b. if b then arity p g.event else suc (arity p g.event)) (hf.event_is).static ∙ ap length (hf.event_is).params

      event_step : (w : World) → plain_step p (record { frames = frame_at G (with_stack l0 (Null ∷ label_text x ∷ x.user ∷ kd ∷ kd ∷ [])) 5 [] ∷ FS; world = w }) ≡ goes_after w.trace (on_answer p no_contracts (with_frames GS (A0 w)))
      event_step w =
          let l4 = with_stack l0 (Null ∷ label_text x ∷ x.user ∷ kd ∷ kd ∷ []) in
          steps_by p G l4 5 [] FS w (call r.assembly hf.event) (λ z. CallMember (called p here (class_named helper_name) g.event [] (reverse (take (with_this p g.event) l4.stack))) (with_stack l4 (drop (with_this p g.event) l4.stack))) (at_code 5 _ refl)
          (acts_call p here r.assembly hf.event (class_named helper_name) g.event [] l4 (names_member here r.assembly hf.event g.event hf.event_token) (ap (λ n. nat_le n 5) with_this_four))
          ∙ ap (λ n. goes_after w.trace (call_member p no_contracts (class_named helper_name) g.event [] (reverse (take n l4.stack)) (frame_at G (with_stack l4 (drop n l4.stack)) 5 [] ∷ FS) (unrecorded w))) with_this_four
          ∙ ap (goes_after w.trace) (calls_event p g hf.event_is kd x.user (label_text x) GS (unrecorded w))
          ∙ ap (λ z. goes_after w.trace (on_answer p no_contracts z)) (ask_frames p (event_member g (label_text x)) vals GS (unrecorded w) (event_plain g (label_text x)))

      whole : (a : ℕ) (t : Token) (w : World) → slice_get (body_of p f.method).instrs q ≡ Some (call a t) → meaning_of p a t ≡ Some (OfMethod (Known c) fail []) → FitsFail g c w
          → Comes p fail_cost (at_place f (with_stack l (label_text x ∷ x.user ∷ kd ∷ rest)) q hs fs w) (failing p g false x T fs w)
      unfolding failing
      whole a t w there token fit =
          let L = with_stack l (label_text x ∷ x.user ∷ kd ∷ rest) in
          let l2 = with_stack l0 (kd ∷ kd ∷ []) in
          let l3 = with_stack l0 (x.user ∷ kd ∷ kd ∷ []) in
          let l4 = with_stack l0 (label_text x ∷ x.user ∷ kd ∷ kd ∷ []) in
          let l5 = with_stack l0 (Null ∷ label_text x ∷ x.user ∷ kd ∷ kd ∷ []) in
          comes_within p 14 fail_cost _ _ (omega arith)
          (one_step p f L q hs fs w 13 _ _ (calls p c guard r fail params nothing code hf.is f L (with_stack l rest) q hs fs w a t (kd ∷ x.user ∷ label_text x ∷ []) cells fit.depth there token (three_there (length rest)) refl refl all_passed fit.held)
          (one_step p G l0 0 [] FS w 12 _ _ (goes_one p G l0 lk 0 [] FS w (ldarg 0) (at_code 0 _ refl) (does_ldarg p here 0 (cell int32 kd) l0 refl) refl)
          (one_step p G lk 1 [] FS w 11 _ _ (goes_one p G lk l2 1 [] FS w (ldarg 0) (at_code 1 _ refl) (does_ldarg p here 0 (cell int32 kd) lk refl) refl)
          (one_step p G l2 2 [] FS w 10 _ _ (goes_one p G l2 l3 2 [] FS w (ldarg 1) (at_code 2 _ refl) (does_ldarg p here 1 (cell string_ty x.user) l2 refl) refl)
          (one_step p G l3 3 [] FS w 9 _ _ (goes_one p G l3 l4 3 [] FS w (ldarg 2) (at_code 3 _ refl) (does_ldarg p here 2 (cell string_ty (label_text x)) l3 refl) refl)
          (one_step p G l4 4 [] FS w 8 _ _ (goes_one p G l4 l5 4 [] FS w ldnull (at_code 4 _ refl) (does_ldnull p here l4) refl)
          (one_step p G l5 5 [] FS w 7 _ _ (event_step w)
          (subst (λ z. Comes p 7 (goes_after w.trace (on_answer p no_contracts (with_frames GS (A0 w)))) (reported p g false x T fs z)) (sym (asked_here w))
          (answered_so (A0 w) w (ask_refers p (event_member g (label_text x)) refl default_is (event_plain g (label_text x)) vals (unrecorded w)))))))))))

    quiet_fail_runs : FailRuns p g false c fail (FitsFail g c)
    quiet_fail_runs f l rest q hs fs w a t x makes there token notmade ref fit = whole f l rest q hs fs x makes notmade ref a t w there token fit

pub quiet_helpers_run : (p : Program) (g : AddedNumbers) (owner guard : ℕ) (r : HasRuntime p owner guard) (fail : ℕ) → HasQuietFail p g fail r.assembly → HelpersRun p g false owner guard
quiet_helpers_run p g owner guard r fail h =
    record {
      assembly = r.assembly;
      enter = r.enter;
      enter_outer = r.enter_outer;
      leave = r.leave;
      fail = fail;
      enters = enter_runs p owner guard r r.enter guard r.enter_is;
      enters_outer = enter_runs p owner guard r r.enter_outer 0 r.enter_outer_is;
      leaves = leave_runs p owner guard r r.leave_is;
      fails = quiet_fail_runs p owner guard r g fail h;
    }
