-- `fail` reports a failure, and then returns or throws.
use Rattle.std.proofs.Common.{◌≡◌, ℕ, suc, ◌+◌, ◌≤◌, true, false, List, [], ◌∷◌, length, Some, None, refl, sym, ap, ◌∙◌, subst, arith}
use Rattle.std.specs.Prelude.{slice_get, option_map, option_and_then, if◌then◌else◌, nat_le, take, drop, reverse}
use Rattle.cil_base.specs.declared.token.Token.{Token}
use Rattle.cil_model.specs.declared.ty.Ty.{Ty, Known}
use Rattle.cil_model.specs.declared.ty.Ty as types
use Rattle.cil_model.specs.declared.value.Value.{Value, out-Value, I4, Null, Obj, Text}
use Rattle.cil_model.specs.declared.value.Value as values
use Rattle.cil_model.specs.declared.value.Value.TheOpen.{Value-F}
use Rattle.cil_model.specs.declared.body.Instr.{Instr}
use Rattle.cil_model.specs.declared.contract.ClauseKind.{ClauseKind}
use Rattle.cil_model.specs.declared.contract.ClauseKind.TheVariants as kind
use Rattle.cil_model.specs.declared.program.Program.{Program}
use Rattle.cil_model.specs.declared.program.Meaning.TheVariants.{OfMethod}
use Rattle.cil_model.specs.NoContracts.{no_contracts}
use Rattle.cil_semantics.specs.Core.{class_named, string_ty, helper_name}
use Rattle.cil_semantics.specs.declared.state.Cell.{Cell}
use Rattle.il_opcodes.specs.declared.class.Storage.TheVariants.{Reference}
use Rattle.cil_semantics.specs.Places.{storage, prim_storage, stored, stored_in}
use Rattle.cil_semantics.specs.declared.state.Local.{Local as LocalState}
use Rattle.cil_semantics.specs.declared.state.World.{World}
use Rattle.cil_semantics.specs.declared.state.ProgramPoint.TheVariants.{Rest}
use Rattle.cil_semantics.specs.declared.state.Handling.{Handling}
use Rattle.cil_semantics.specs.declared.state.Frame.{Frame}
use Rattle.cil_semantics.specs.State.{Next, unrecorded, recorded_after, goes_after, with_stack, with_object, next_object}
use Rattle.cil_semantics.specs.Tokens.{Here, meaning_of, meaning_here, token_here, if_little, meaning_under}
use Rattle.cil_semantics.specs.Acts.{truth, truth_at, with_this, arity, CallMember, Throw}
use Rattle.cil_semantics.specs.Unwind.{body_of, here_of, goes_at, find_statics, unwind}
use Rattle.cil_semantics.specs.Frames.{stuck, stored_args}
use Rattle.cil_semantics.specs.Returns.{kept_as}
use Rattle.cil_semantics.specs.Outside.{Answer, Returned, Threw, Unfit, ask}
use Rattle.cil_semantics.specs.Calls.{call_member, on_answer}
use Rattle.cil_semantics.specs.Checks.{AddedNumbers, Failure, kind_number, label_text, number_value, contract_failure, event_member}
use Rattle.machine_laws.specs.Same.{plain_step}
use Rattle.splice_facts.specs.Comes.{Comes}
use Rattle.splice_facts.specs.Layout.{HasDepth}
use Rattle.cil_semantics.specs.Checks.{Sequel, failing, reported, replied, fail_with}
use Rattle.splice_laws.specs.Straight.{ldarg, ldnull, dup, pop, throw, brtrue, call, frame_at, at_place}
use Rattle.splice_laws.specs.Helpers.{HasRuntime, int32, nothing}
use Rattle.splice_laws.specs.Fails.{NotMade, FitsFail, HasFail, FailRuns, fail_cost, fail_code}
use Rattle.splice_facts.proofs.ComesLaws.{comes_at_once, comes_on, comes_within, arrives_plain}
use Rattle.splice_facts.proofs.StoreLaws.{stored_plain}
use Rattle.splice_laws.proofs.StraightLaws.{one_step, goes_one, jumps_one, steps_by, world_back, does_ldarg, does_ldnull, does_dup, does_pop, tests_brtrue, acts_call, acts_throw, called}
use Rattle.splice_laws.proofs.LeavingLaws.{unwind_told}
use Rattle.splice_laws.proofs.HelperCallLaws.{callee, calls, code_is, returns_behind, passes_through, int_kept}
use Rattle.splice_facts.proofs.AskFrameLaws.{with_frames, ask_frames, event_plain}
use Rattle.splice_laws.proofs.AskLaws.{told_answer, Refers, RefersTo, Leaves_statics, ask_told, ask_refers, ask_leaves, calls_event}

pub three_there : (n : ℕ) → nat_le 3 (suc (suc (suc n))) ≡ true
three_there n = grind arith

pub text_stored : (u : List ℕ) → stored Reference (Text u) ≡ Some (Text u)
unfolding values.out-Value denote.Hole.Carrier.out
text_stored u = refl

text_refers : (u : List ℕ) → Refers (out-Value (Text u))
unfolding values.out-Value denote.Hole.Carrier.out
text_refers u = tt

pub small_kind : (kd : ClauseKind) → kind_number kd ≤ 200
small_kind kind.Requires = omega arith
small_kind kind.RequiresOf = omega arith
small_kind kind.Ensures = omega arith
small_kind kind.Throws = omega arith
small_kind kind.Invariant = omega arith
small_kind kind.Assert = omega arith
small_kind kind.Assume = omega arith

module _ (p : Program) where
  string_place : storage p string_ty ≡ Reference
  unfolding storage prim_storage types.out-Ty denote.Hole.Carrier.out
  string_place = refl

  pub nothing_kept : (s : List Value) → kept_as p nothing (storage p nothing) s ≡ Some None
  unfolding storage prim_storage types.out-Ty denote.Hole.Carrier.out
  nothing_kept s = refl

  pub as_string : (v x : Value) → stored Reference v ≡ Some x → stored_in p string_ty v ≡ Some x
  as_string v x e = stored_plain p string_ty Reference v string_place tt ∙ e

  abbrev cell : Ty → Value → Cell
  cell t v = record { ty = t; value = v }

  pub passes_one : (t : Ty) (v x : Value) (ts : List Ty) (vs : List Value) (cs : List Cell) → stored_in p t v ≡ Some x → stored_args p ts vs ≡ Some cs → stored_args p (t ∷ ts) (v ∷ vs) ≡ Some (cell t x ∷ cs)
  passes_one t v x ts vs cs e r =
      ap (λ o. option_and_then (λ c. option_map (λ zs. c ∷ zs) (stored_args p ts vs)) (option_map (λ w. cell t w) o)) e ∙ ap (option_map (λ zs. cell t x ∷ zs)) r

  names_member : (here : Here) (a : ℕ) (t : Token) (m : ℕ) → meaning_of p a t ≡ Some (OfMethod (class_named helper_name) m []) → meaning_here p here (call a t) ≡ Some (OfMethod (class_named helper_name) m [])
  unfolding token_here
  names_member here a t m e = ap (option_and_then (λ x. if_little (meaning_under here.type_args here.method_args x))) e

  module _ (c guard : ℕ) (r : HasRuntime p c guard) (g : AddedNumbers) (fail : ℕ) (hf : HasFail p g c fail r.assembly) where
    abbrev params : List Ty
    params = int32 ∷ string_ty ∷ string_ty ∷ []

    abbrev code : List Instr
    code = fail_code r.assembly hf.event hf.ctor

    abbrev at_code : (j : ℕ) (i : Instr) → slice_get code j ≡ Some i → slice_get (body_of p fail).instrs j ≡ Some i
    at_code j i e = ap (λ is. slice_get is j) (code_is p c guard r fail params nothing code hf.is) ∙ e

    -- ---- from where `fail` was called

    module _ (f : Frame) (l : LocalState) (rest : List Value) (q : ℕ) (hs : List Handling) (fs : List Frame) (x : Failure) (makes : World → Ty → ℕ → List Value → Next) (notmade : NotMade x.kind) (ref : stored Reference x.user ≡ Some x.user) where
      abbrev FS : List Frame
      FS = frame_at f (with_stack l rest) q hs ∷ fs

      abbrev cells : List Cell
      cells = cell int32 (number_value x) ∷ cell string_ty x.user ∷ cell string_ty (label_text x) ∷ []

      abbrev G : Frame
      G = callee p c guard r fail cells

      abbrev l0 : LocalState
      l0 = G.local

      abbrev vals : List Value
      vals = number_value x ∷ x.user ∷ label_text x ∷ Null ∷ []

      abbrev T : Sequel
      T = record { passes = λ v. goes_at p f (Rest (q + 1)) (with_stack l rest) hs fs v; throws = λ v y. unwind p no_contracts false FS v y; makes = makes; stops = λ v. stuck v }

      all_passed : stored_args p params (number_value x ∷ x.user ∷ label_text x ∷ []) ≡ Some cells
      all_passed =
          passes_one int32 (number_value x) (number_value x) (string_ty ∷ string_ty ∷ []) (x.user ∷ label_text x ∷ []) (cell string_ty x.user ∷ cell string_ty (label_text x) ∷ []) (int_kept p (kind_number x.kind) (small_kind x.kind))
          (passes_one string_ty x.user x.user (string_ty ∷ []) (label_text x ∷ []) (cell string_ty (label_text x) ∷ []) (as_string x.user x.user ref) (passes_one string_ty (label_text x) (label_text x) [] [] [] (as_string (label_text x) (label_text x) (text_stored _)) refl))

      -- it throws the failure's exception
      throws_own : (v : Value) (w : World) → FitsFail g c w → Comes p 18 (at_place G (with_stack l0 (v ∷ [])) 9 [] FS w) (unwind p no_contracts false FS (with_object p (contract_failure g x) w) (next_object w))
      throws_own v w fit =
          let here : Here = here_of G FS in
          let w2 : World = with_object p (contract_failure g x) w in
          let l1 = with_stack l0 (number_value x ∷ []) in
          let l2 = with_stack l0 (x.user ∷ number_value x ∷ []) in
          let l3 = with_stack l0 (label_text x ∷ x.user ∷ number_value x ∷ []) in
          one_step p G (with_stack l0 (v ∷ [])) 9 [] FS w 17 _ _ (goes_one p G (with_stack l0 (v ∷ [])) l0 9 [] FS w pop (at_code 9 _ refl) (does_pop p here v [] l0) refl)
          (one_step p G l0 10 [] FS w 16 _ _ (goes_one p G l0 l1 10 [] FS w (ldarg 0) (at_code 10 _ refl) (does_ldarg p here 0 (cell int32 (number_value x)) l0 refl) refl)
          (one_step p G l1 11 [] FS w 15 _ _ (goes_one p G l1 l2 11 [] FS w (ldarg 1) (at_code 11 _ refl) (does_ldarg p here 1 (cell string_ty x.user) l1 refl) refl)
          (one_step p G l2 12 [] FS w 14 _ _ (goes_one p G l2 l3 12 [] FS w (ldarg 2) (at_code 12 _ refl) (does_ldarg p here 2 (cell string_ty (label_text x)) l2 refl) refl)
          (comes_on p 13 1 _ _ _ (hf.makes G l0 [] 13 FS w x (at_code 13 _ refl) ref fit)
          (one_step p G (with_stack l0 (Obj (next_object w) ∷ [])) 14 [] FS w2 0 _ _
          (steps_by p G (with_stack l0 (Obj (next_object w) ∷ [])) 14 [] FS w2 throw (λ z. Throw (next_object w)) (at_code 14 _ refl) (acts_throw p here (next_object w) [] l0)
          ∙ unwind_told p w2.trace false (frame_at G (with_stack l0 (Obj (next_object w) ∷ [])) 14 [] ∷ FS) (unrecorded w2) (next_object w)
          ∙ ap (λ u. unwind p no_contracts false (frame_at G (with_stack l0 (Obj (next_object w) ∷ [])) 14 [] ∷ FS) u (next_object w)) (world_back w2)
          ∙ passes_through p c guard r fail params nothing code hf.is cells (with_stack l0 (Obj (next_object w) ∷ [])) 14 FS w2 (next_object w))
          (comes_at_once p 0 _ _ refl))))))

      by_any_kind : (kd : ClauseKind) (text : Value) (w : World) → NotMade kd → fail_with p g true x T kd text fs w ≡ unwind p no_contracts false FS (with_object p (contract_failure g x) w) (next_object w)
      by_any_kind kind.Requires text w n = refl
      by_any_kind kind.RequiresOf text w n = absurd n
      by_any_kind kind.Ensures text w n = refl
      by_any_kind kind.Throws text w n = refl
      by_any_kind kind.Invariant text w n = refl
      by_any_kind kind.Assert text w n = refl
      by_any_kind kind.Assume text w n = refl

      -- behind the reply
      replied_so : (v : Value) (w : World) → FitsFail g c w → Refers (out-Value v) → Comes p 20 (at_place G (with_stack l0 (v ∷ [])) 5 [] FS w) (replied p g true x T (out-Value v) fs w)
      replied_so v w fit h =
          one_step p G (with_stack l0 (v ∷ [])) 5 [] FS w 19 _ _ (goes_one p G (with_stack l0 (v ∷ [])) (with_stack l0 (v ∷ v ∷ [])) 5 [] FS w dup (at_code 5 _ refl) (does_dup p (here_of G FS) v [] l0) refl)
          (by_value (out-Value v) refl h)
        where
          here : Here
          here = here_of G FS

          goes_true : truth v ≡ Some true → Comes p 19 (at_place G (with_stack l0 (v ∷ v ∷ [])) 6 [] FS w) (unwind p no_contracts false FS (with_object p (contract_failure g x) w) (next_object w))
          goes_true e =
              one_step p G (with_stack l0 (v ∷ v ∷ [])) 6 [] FS w 18 _ _ (jumps_one p G (with_stack l0 (v ∷ v ∷ [])) (with_stack l0 (v ∷ [])) 6 9 [] FS w (brtrue 9) (at_code 6 _ refl) (tests_brtrue p here 9 v (v ∷ []) l0 true e) refl)
              (throws_own v w fit)

          goes_false : truth v ≡ Some false → Comes p 19 (at_place G (with_stack l0 (v ∷ v ∷ [])) 6 [] FS w) (goes_at p f (Rest (q + 1)) (with_stack l rest) hs fs w)
          goes_false e =
              comes_within p 3 19 _ _ (omega arith)
              (one_step p G (with_stack l0 (v ∷ v ∷ [])) 6 [] FS w 2 _ _ (goes_one p G (with_stack l0 (v ∷ v ∷ [])) (with_stack l0 (v ∷ [])) 6 [] FS w (brtrue 9) (at_code 6 _ refl) (tests_brtrue p here 9 v (v ∷ []) l0 false e) refl)
              (one_step p G (with_stack l0 (v ∷ [])) 7 [] FS w 1 _ _ (goes_one p G (with_stack l0 (v ∷ [])) l0 7 [] FS w pop (at_code 7 _ refl) (does_pop p here v [] l0) refl)
              (one_step p G l0 8 [] FS w 0 _ _ (returns_behind p c guard r fail params nothing code hf.is cells l0 (with_stack l rest) 8 q f hs fs w None refl (nothing_kept []))
              (comes_at_once p 0 _ _ refl))))

          by_value : (o : Value-F Value) → out-Value v ≡ o → Refers o → Comes p 19 (at_place G (with_stack l0 (v ∷ v ∷ [])) 6 [] FS w) (replied p g true x T o fs w)
          by_value Value-F.Null e h1 = goes_false (ap truth_at e)
          by_value (Value-F.Obj k) e h1 = subst (λ z. Comes p 19 (at_place G (with_stack l0 (v ∷ v ∷ [])) 6 [] FS w) z) (sym (by_any_kind x.kind (Obj k) w notmade)) (goes_true (ap truth_at e))
          by_value (Value-F.Text u) e h1 = subst (λ z. Comes p 19 (at_place G (with_stack l0 (v ∷ v ∷ [])) 6 [] FS w) z) (sym (by_any_kind x.kind (Text u) w notmade)) (goes_true (ap truth_at e))
          by_value (Value-F.I4 z) e h1 = absurd h1
          by_value (Value-F.I8 z) e h1 = absurd h1
          by_value (Value-F.Native z) e h1 = absurd h1
          by_value (Value-F.Ptr z) e h1 = absurd h1
          by_value (Value-F.Struct z) e h1 = absurd h1
          by_value (Value-F.Func z1 z2) e h1 = absurd h1
          by_value (Value-F.Opaque z) e h1 = absurd h1

      -- what the event answers
      abbrev GS : List Frame
      GS = frame_at G l0 4 [] ∷ FS

      told_fits : (t : World) (u : World) → FitsFail g c t → u.statics ≡ t.statics → FitsFail g c (recorded_after t.trace u)
      told_fits t u fit e = record { depth = fit.depth; held = subst (λ ss. HasDepth fit.depth (find_statics (Known c) ss)) (sym e) fit.held; bare = ap (find_statics (Known g.exception)) e ∙ fit.bare }

      answered_so : (A : Answer) (w : World) → FitsFail g c w → RefersTo A → Leaves_statics w A → Comes p 20 (goes_after w.trace (on_answer p no_contracts (with_frames GS A))) (reported p g true x T fs (with_frames fs (told_answer w.trace A)))
      answered_so (Returned None gs u) w fit h keep = absurd h
      answered_so (Returned (Some v) gs u) w fit h keep =
          subst (λ z. Comes p 20 z (replied p g true x T (out-Value v) fs (recorded_after w.trace u))) (sym (ap (goes_after w.trace) (arrives_plain p (frame_at G l0 4 []) (Rest 5) (with_stack l0 (v ∷ [])) [] FS u)))
          (replied_so v (recorded_after w.trace u) (told_fits w u fit keep) h)
      answered_so (Threw y gs u) w fit h keep =
          comes_at_once p 20 _ _ (unwind_told p w.trace false GS u y ∙ passes_through p c guard r fail params nothing code hf.is cells l0 4 FS (recorded_after w.trace u) y)
      answered_so (Unfit u) w fit h keep = comes_at_once p 20 _ _ refl

      default_is : (v : Value) × ((event_member g (label_text x)).default ≡ Some v) × Refers (out-Value v)
      default_is = (label_text x, refl, text_refers _)

      with_this_four : with_this p g.event ≡ 4
      with_this_four = ap (λ b. if b then arity p g.event else suc (arity p g.event)) (hf.event_is).static ∙ ap length (hf.event_is).params

      abbrev A0 : World → Answer
      A0 w = ask p (event_member g (label_text x)) vals [] (unrecorded w)

      asked_here : (w : World) → ask p (event_member g (label_text x)) vals fs w ≡ with_frames fs (told_answer w.trace (A0 w))
      asked_here w =
          ask_frames p (event_member g (label_text x)) vals fs w (event_plain g (label_text x))
          ∙ ap (λ u. with_frames fs (ask p (event_member g (label_text x)) vals [] u)) (sym (world_back w))
          ∙ ap (with_frames fs) (ask_told p (event_member g (label_text x)) refl default_is (event_plain g (label_text x)) w.trace vals (unrecorded w))

      event_step : (w : World) → plain_step p (record { frames = frame_at G (with_stack l0 (Null ∷ label_text x ∷ x.user ∷ number_value x ∷ [])) 4 [] ∷ FS; world = w }) ≡ goes_after w.trace (on_answer p no_contracts (with_frames GS (A0 w)))
      event_step w =
          let l4 = with_stack l0 (Null ∷ label_text x ∷ x.user ∷ number_value x ∷ []) in
          steps_by p G l4 4 [] FS w (call r.assembly hf.event) (λ z. CallMember (called p (here_of G FS) (class_named helper_name) g.event [] (reverse (take (with_this p g.event) l4.stack))) (with_stack l4 (drop (with_this p g.event) l4.stack))) (at_code 4 _ refl)
          (acts_call p (here_of G FS) r.assembly hf.event (class_named helper_name) g.event [] l4 (names_member (here_of G FS) r.assembly hf.event g.event hf.event_token) (ap (λ n. nat_le n 4) with_this_four))
          ∙ ap (λ n. goes_after w.trace (call_member p no_contracts (class_named helper_name) g.event [] (reverse (take n l4.stack)) (frame_at G (with_stack l4 (drop n l4.stack)) 4 [] ∷ FS) (unrecorded w))) with_this_four
          ∙ ap (goes_after w.trace) (calls_event p g hf.event_is (number_value x) x.user (label_text x) GS (unrecorded w))
          ∙ ap (λ z. goes_after w.trace (on_answer p no_contracts z)) (ask_frames p (event_member g (label_text x)) vals GS (unrecorded w) (event_plain g (label_text x)))

      whole : (a : ℕ) (t : Token) (w : World) → slice_get (body_of p f.method).instrs q ≡ Some (call a t) → meaning_of p a t ≡ Some (OfMethod (Known c) fail []) → FitsFail g c w
          → Comes p fail_cost (at_place f (with_stack l (label_text x ∷ x.user ∷ number_value x ∷ rest)) q hs fs w) (failing p g true x T fs w)
      unfolding failing
      whole a t w there token fit =
          let L = with_stack l (label_text x ∷ x.user ∷ number_value x ∷ rest) in
          let here : Here = here_of G FS in
          let l1 = with_stack l0 (number_value x ∷ []) in
          let l2 = with_stack l0 (x.user ∷ number_value x ∷ []) in
          let l3 = with_stack l0 (label_text x ∷ x.user ∷ number_value x ∷ []) in
          let l4 = with_stack l0 (Null ∷ label_text x ∷ x.user ∷ number_value x ∷ []) in
          comes_within p 26 fail_cost _ _ (omega arith)
          (one_step p f L q hs fs w 25 _ _ (calls p c guard r fail params nothing code hf.is f L (with_stack l rest) q hs fs w a t (number_value x ∷ x.user ∷ label_text x ∷ []) cells fit.depth there token (three_there (length rest)) refl refl all_passed fit.held)
          (one_step p G l0 0 [] FS w 24 _ _ (goes_one p G l0 l1 0 [] FS w (ldarg 0) (at_code 0 _ refl) (does_ldarg p here 0 (cell int32 (number_value x)) l0 refl) refl)
          (one_step p G l1 1 [] FS w 23 _ _ (goes_one p G l1 l2 1 [] FS w (ldarg 1) (at_code 1 _ refl) (does_ldarg p here 1 (cell string_ty x.user) l1 refl) refl)
          (one_step p G l2 2 [] FS w 22 _ _ (goes_one p G l2 l3 2 [] FS w (ldarg 2) (at_code 2 _ refl) (does_ldarg p here 2 (cell string_ty (label_text x)) l2 refl) refl)
          (one_step p G l3 3 [] FS w 21 _ _ (goes_one p G l3 l4 3 [] FS w ldnull (at_code 3 _ refl) (does_ldnull p here l3) refl)
          (one_step p G l4 4 [] FS w 20 _ _ (event_step w)
          (subst (λ z. Comes p 20 (goes_after w.trace (on_answer p no_contracts (with_frames GS (A0 w)))) (reported p g true x T fs z)) (sym (asked_here w))
          (answered_so (A0 w) w fit (ask_refers p (event_member g (label_text x)) refl default_is (event_plain g (label_text x)) vals (unrecorded w)) (ask_leaves p (event_member g (label_text x)) refl default_is (event_plain g (label_text x)) vals (unrecorded w))))))))))

    -- what the facts on checks ask of `fail`, where failures throw
    pub fail_runs : FailRuns p g true c fail (FitsFail g c)
    fail_runs f l rest q hs fs w a t x makes there token notmade ref fit = whole f l rest q hs fs x makes notmade ref a t w there token fit
