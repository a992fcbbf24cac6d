-- `report` raises the event and answers its reply.
use Rattle.std.proofs.Common.{◌≡◌, ℕ, suc, false, List, [], ◌∷◌, length, Some, None, refl, sym, ap, ◌∙◌, subst, arith}
use Rattle.std.specs.Prelude.{slice_get, option_map, option_and_then, if◌then◌else◌, nat_le, take, drop, reverse}
use Rattle.cil_base.specs.declared.token.Token.{Token}
use Rattle.cil_model.specs.declared.ty.Ty.{Ty, Known}
use Rattle.cil_model.specs.declared.ty.Ty as types
use Rattle.cil_model.specs.declared.value.Value.{Value, out-Value, Null, Obj, Text}
use Rattle.cil_model.specs.declared.value.Value as values
use Rattle.cil_model.specs.declared.body.Instr.{Instr}
use Rattle.cil_model.specs.declared.program.Program.{Program}
use Rattle.cil_model.specs.declared.program.Meaning.TheVariants.{OfMethod}
use Rattle.cil_model.specs.NoContracts.{no_contracts}
use Rattle.cil_semantics.specs.Core.{class_named, string_ty, helper_name}
use Rattle.cil_semantics.specs.Types.{under}
use Rattle.cil_semantics.specs.declared.state.Cell.{Cell}
use Rattle.il_opcodes.specs.declared.class.Storage.TheVariants.{Reference}
use Rattle.cil_semantics.specs.Places.{storage, prim_storage, stored}
use Rattle.cil_semantics.specs.declared.state.Local.{Local as LocalState}
use Rattle.cil_semantics.specs.declared.state.World.{World}
use Rattle.cil_semantics.specs.declared.state.ProgramPoint.TheVariants.{Rest}
use Rattle.cil_semantics.specs.declared.state.Handling.{Handling}
use Rattle.cil_semantics.specs.declared.state.Frame.{Frame}
use Rattle.cil_semantics.specs.State.{unrecorded, recorded_after, goes_after, with_stack}
use Rattle.cil_semantics.specs.Tokens.{Here, meaning_of, meaning_here, token_here, if_little, meaning_under}
use Rattle.cil_semantics.specs.Acts.{with_this, arity, CallMember}
use Rattle.cil_semantics.specs.Unwind.{body_of, here_of}
use Rattle.cil_semantics.specs.Frames.{stored_args}
use Rattle.cil_semantics.specs.Returns.{kept_as}
use Rattle.cil_semantics.specs.Outside.{Answer, Returned, Threw, Unfit, ask}
use Rattle.cil_semantics.specs.Calls.{call_member, on_answer}
use Rattle.cil_semantics.specs.Checks.{AddedNumbers, Failure, kind_number, label_text, number_value, event_member}
use Rattle.machine_laws.specs.Same.{plain_step}
use Rattle.splice_facts.specs.Comes.{Comes}
use Rattle.splice_laws.specs.Straight.{ldarg, ldnull, call, frame_at, at_place}
use Rattle.splice_laws.specs.Helpers.{HasRuntime, int32}
use Rattle.splice_laws.specs.Fails.{FitsFail}
use Rattle.splice_facts.proofs.ComesLaws.{comes_at_once, arrives_plain}
use Rattle.splice_facts.proofs.AskFrameLaws.{with_frames, ask_frames, event_plain}
use Rattle.splice_laws.proofs.StraightLaws.{one_step, goes_one, steps_by, world_back, does_ldarg, does_ldnull, acts_call, called}
use Rattle.splice_laws.proofs.LeavingLaws.{unwind_told}
use Rattle.splice_laws.proofs.HelperCallLaws.{callee, calls, code_is, returns_behind, passes_through, int_kept}
use Rattle.splice_laws.proofs.AskLaws.{told_answer, Refers, RefersTo, ask_told, ask_refers, calls_event}
use Rattle.splice_laws.proofs.FailLaws.{three_there, text_stored, small_kind, as_string, passes_one}
use Rattle.requires_laws.specs.ReportCode.{report_code, HasReport, on_reply, asked, ReportRuns}

text_refers : (u : List ℕ) → Refers (out-Value (Text u))
unfolding values.out-Value denote.Hole.Carrier.out
text_refers u = tt

-- what refers to something is kept in a place of a reference
refers_stored : (v : Value) → Refers (out-Value v) → stored Reference v ≡ Some v
unfolding values.out-Value denote.Hole.Carrier.out
refers_stored values.Null h = refl
refers_stored (values.Obj k) h = refl
refers_stored (values.Text u) h = refl
refers_stored (values.I4 z) h = absurd h
refers_stored (values.I8 z) h = absurd h
refers_stored (values.Native z) h = absurd h
refers_stored (values.Ptr z) h = absurd h
refers_stored (values.Struct' shape parts) h = absurd h
refers_stored (values.Func z z2) h = absurd h
refers_stored (values.Opaque z) h = absurd h

refers_with : (fs : List Frame) (a : Answer) → RefersTo a → RefersTo (with_frames fs a)
refers_with fs (Returned None gs w) h = h
refers_with fs (Returned (Some v) gs w) h = h
refers_with fs (Threw y gs w) h = h
refers_with fs (Unfit w) h = h

module _ (p : Program) where
  abbrev cell : Ty → Value → Cell
  cell t v = record { ty = t; value = v }

  names_member : (here : Here) (a : ℕ) (t : Token) (m : ℕ) → meaning_of p a t ≡ Some (OfMethod (class_named helper_name) m []) → meaning_here p here (call a t) ≡ Some (OfMethod (class_named helper_name) m [])
  unfolding token_here
  names_member here a t m e = ap (option_and_then (λ x. if_little (meaning_under here.type_args here.method_args x))) e

  reply_kept : (v : Value) → Refers (out-Value v) → kept_as p (under [] [] string_ty) (storage p (under [] [] string_ty)) (v ∷ []) ≡ Some (Some v)
  unfolding storage prim_storage types.out-Ty denote.Hole.Carrier.out
  reply_kept v h = ap (option_map Some) (as_string p v v (refers_stored v h))

  default_is : (g : AddedNumbers) (x : Failure) → (v : Value) × ((event_member g (label_text x)).default ≡ Some v) × Refers (out-Value v)
  default_is g x = (label_text x, refl, text_refers _)

  -- the reply is null, a text or an object
  pub reply_refers : (g : AddedNumbers) (x : Failure) (fs : List Frame) (w : World) → RefersTo (asked p g x fs w)
  reply_refers g x fs w =
      let m = event_member g (label_text x) in
      let vs = number_value x ∷ x.user ∷ label_text x ∷ Null ∷ [] in
      subst RefersTo (sym (ask_frames p m vs fs w (event_plain g (label_text x)))) (refers_with fs (ask p m vs [] w) (ask_refers p m refl (default_is g x) (event_plain g (label_text x)) vs w))

  module _ (c guard : ℕ) (r : HasRuntime p c guard) (g : AddedNumbers) (report : ℕ) (hr : HasReport p g report r.assembly) where
    abbrev params : List Ty
    params = int32 ∷ string_ty ∷ string_ty ∷ []

    abbrev code : List Instr
    code = report_code r.assembly hr.event

    abbrev at_code : (j : ℕ) (i : Instr) → slice_get code j ≡ Some i → slice_get (body_of p report).instrs j ≡ Some i
    at_code j i e = ap (λ is. slice_get is j) (code_is p c guard r report params string_ty code hr.is) ∙ e

    module _ (f : Frame) (l : LocalState) (rest : List Value) (q : ℕ) (hs : List Handling) (fs : List Frame) (x : Failure) (ref : stored Reference x.user ≡ Some x.user) where
      abbrev FS : List Frame
      FS = frame_at f (with_stack l rest) q hs ∷ fs

      abbrev kd : Value
      kd = number_value x

      abbrev cells : List Cell
      cells = cell int32 kd ∷ cell string_ty x.user ∷ cell string_ty (label_text x) ∷ []

      abbrev G : Frame
      G = callee p c guard r report cells

      abbrev l0 : LocalState
      l0 = G.local

      abbrev here : Here
      here = here_of G FS

      all_passed : stored_args p params (kd ∷ x.user ∷ label_text x ∷ []) ≡ Some cells
      all_passed =
          passes_one p int32 kd kd (string_ty ∷ string_ty ∷ []) (x.user ∷ label_text x ∷ []) (cell string_ty x.user ∷ cell string_ty (label_text x) ∷ []) (int_kept p (kind_number x.kind) (small_kind x.kind))
          (passes_one p string_ty x.user x.user (string_ty ∷ []) (label_text x ∷ []) (cell string_ty (label_text x) ∷ []) (as_string p x.user x.user ref) (passes_one p string_ty (label_text x) (label_text x) [] [] [] (as_string p (label_text x) (label_text x) (text_stored _)) refl))

      abbrev GS : List Frame
      GS = frame_at G l0 4 [] ∷ FS

      abbrev vals : List Value
      vals = kd ∷ x.user ∷ label_text x ∷ Null ∷ []

      abbrev A0 : World → Answer
      A0 w = ask p (event_member g (label_text x)) vals [] (unrecorded w)

      answered_so : (A : Answer) (w : World) → RefersTo A → Comes p 1 (goes_after w.trace (on_answer p no_contracts (with_frames GS A))) (on_reply p f l rest q hs fs (with_frames fs (told_answer w.trace A)))
      answered_so (Returned None gs u) w h = absurd h
      answered_so (Returned (Some v) gs u) w h =
          subst (λ z. Comes p 1 z (on_reply p f l rest q hs fs (Returned (Some v) fs (recorded_after w.trace u)))) (sym (ap (goes_after w.trace) (arrives_plain p (frame_at G l0 4 []) (Rest 5) (with_stack l0 (v ∷ [])) [] FS u)))
          (one_step p G (with_stack l0 (v ∷ [])) 5 [] FS (recorded_after w.trace u) 0 _ _ (returns_behind p c guard r report params string_ty code hr.is cells (with_stack l0 (v ∷ [])) (with_stack l rest) 5 q f hs fs (recorded_after w.trace u) (Some v) refl (reply_kept v h))
          (comes_at_once p 0 _ _ refl))
      answered_so (Threw y gs u) w h = comes_at_once p 1 _ _ (unwind_told p w.trace false GS u y ∙ passes_through p c guard r report params string_ty code hr.is cells l0 4 FS (recorded_after w.trace u) y)
      answered_so (Unfit u) w h = comes_at_once p 1 _ _ refl

      asked_here : (w : World) → asked p g x fs w ≡ with_frames fs (told_answer w.trace (A0 w))
      asked_here w =
          ask_frames p (event_member g (label_text x)) vals fs w (event_plain g (label_text x))
          ∙ ap (λ u. with_frames fs (ask p (event_member g (label_text x)) vals [] u)) (sym (world_back w))
          ∙ ap (with_frames fs) (ask_told p (event_member g (label_text x)) refl (default_is g x) (event_plain g (label_text x)) w.trace vals (unrecorded w))

      with_this_four : with_this p g.event ≡ 4
      with_this_four = ap (λ b. if b then arity p g.event else suc (arity p g.event)) (hr.event_is).static ∙ ap length (hr.event_is).params

      event_step : (w : World) → plain_step p (record { frames = frame_at G (with_stack l0 (Null ∷ label_text x ∷ x.user ∷ kd ∷ [])) 4 [] ∷ FS; world = w }) ≡ goes_after w.trace (on_answer p no_contracts (with_frames GS (A0 w)))
      event_step w =
          let l4 = with_stack l0 (Null ∷ label_text x ∷ x.user ∷ kd ∷ []) in
          steps_by p G l4 4 [] FS w (call r.assembly hr.event) (λ z. CallMember (called p here (class_named helper_name) g.event [] (reverse (take (with_this p g.event) l4.stack))) (with_stack l4 (drop (with_this p g.event) l4.stack))) (at_code 4 _ refl)
          (acts_call p here r.assembly hr.event (class_named helper_name) g.event [] l4 (names_member here r.assembly hr.event g.event hr.event_token) (ap (λ n. nat_le n 4) with_this_four))
          ∙ ap (λ n. goes_after w.trace (call_member p no_contracts (class_named helper_name) g.event [] (reverse (take n l4.stack)) (frame_at G (with_stack l4 (drop n l4.stack)) 4 [] ∷ FS) (unrecorded w))) with_this_four
          ∙ ap (goes_after w.trace) (calls_event p g hr.event_is kd x.user (label_text x) GS (unrecorded w))
          ∙ ap (λ z. goes_after w.trace (on_answer p no_contracts z)) (ask_frames p (event_member g (label_text x)) vals GS (unrecorded w) (event_plain g (label_text x)))

      whole : (a : ℕ) (t : Token) (w : World) → slice_get (body_of p f.method).instrs q ≡ Some (call a t) → meaning_of p a t ≡ Some (OfMethod (Known c) report []) → FitsFail g c w
          → Comes p 8 (at_place f (with_stack l (label_text x ∷ x.user ∷ kd ∷ rest)) q hs fs w) (on_reply p f l rest q hs fs (asked p g x fs w))
      whole a t w there token fit =
          let L = with_stack l (label_text x ∷ x.user ∷ kd ∷ rest) in
          let l1 = with_stack l0 (kd ∷ []) in
          let l2 = with_stack l0 (x.user ∷ kd ∷ []) in
          let l3 = with_stack l0 (label_text x ∷ x.user ∷ kd ∷ []) in
          let l4 = with_stack l0 (Null ∷ label_text x ∷ x.user ∷ kd ∷ []) in
          Rattle.splice_facts.proofs.ComesLaws.comes_within p 7 8 _ _ (omega arith)
          (one_step p f L q hs fs w 6 _ _ (calls p c guard r report params string_ty code hr.is f L (with_stack l rest) q hs fs w a t (kd ∷ x.user ∷ label_text x ∷ []) cells fit.depth there token (three_there (length rest)) refl refl all_passed fit.held)
          (one_step p G l0 0 [] FS w 5 _ _ (goes_one p G l0 l1 0 [] FS w (ldarg 0) (at_code 0 _ refl) (does_ldarg p here 0 (cell int32 kd) l0 refl) refl)
          (one_step p G l1 1 [] FS w 4 _ _ (goes_one p G l1 l2 1 [] FS w (ldarg 1) (at_code 1 _ refl) (does_ldarg p here 1 (cell string_ty x.user) l1 refl) refl)
          (one_step p G l2 2 [] FS w 3 _ _ (goes_one p G l2 l3 2 [] FS w (ldarg 2) (at_code 2 _ refl) (does_ldarg p here 2 (cell string_ty (label_text x)) l2 refl) refl)
          (one_step p G l3 3 [] FS w 2 _ _ (goes_one p G l3 l4 3 [] FS w ldnull (at_code 3 _ refl) (does_ldnull p here l3) refl)
          (one_step p G l4 4 [] FS w 1 _ _ (event_step w)
          (subst (λ z. Comes p 1 (goes_after w.trace (on_answer p no_contracts (with_frames GS (A0 w)))) (on_reply p f l rest q hs fs z)) (sym (asked_here w))
          (answered_so (A0 w) w (ask_refers p (event_member g (label_text x)) refl (default_is g x) (event_plain g (label_text x)) vals (unrecorded w))))))))))

    pub report_runs : ReportRuns p g c report
    report_runs f l rest q hs fs w a t x there token ref fit = whole f l rest q hs fs x ref a t w there token fit
