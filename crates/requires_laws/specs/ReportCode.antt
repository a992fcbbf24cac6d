-- The helper that reports the failure of a Requires<E> and answers the reply (own; ContractHelper.RaiseContractFailedEvent of the class library).
use Rattle.std.specs.Prelude.{◌≡◌, ℕ, ◌+◌, false, List, [], ◌∷◌, slice_get, Some, None}
use Rattle.cil_base.specs.declared.token.Token.{Token}
use Rattle.cil_model.specs.declared.ty.Ty.{Known}
use Rattle.cil_model.specs.declared.value.Value.{Value, Null}
use Rattle.cil_model.specs.declared.body.Instr.{Instr}
use Rattle.cil_model.specs.declared.program.Program.{Program}
use Rattle.cil_model.specs.declared.program.Meaning.TheVariants.{OfMethod}
use Rattle.cil_model.specs.NoContracts.{no_contracts}
use Rattle.cil_semantics.specs.Core.{class_named, kind_ty, string_ty, exception_ty, helper_name, event_name}
use Rattle.il_opcodes.specs.declared.class.Storage.TheVariants.{Reference}
use Rattle.cil_semantics.specs.Places.{stored}
use Rattle.cil_semantics.specs.declared.state.Local.{Local as LocalState}
use Rattle.cil_semantics.specs.declared.state.World.{World}
use Rattle.cil_semantics.specs.declared.state.ProgramPoint.TheVariants.{Rest}
use Rattle.cil_semantics.specs.declared.state.Handling.{Handling}
use Rattle.cil_semantics.specs.declared.state.Frame.{Frame}
use Rattle.cil_semantics.specs.State.{Next, with_stack}
use Rattle.cil_semantics.specs.Tokens.{meaning_of}
use Rattle.cil_semantics.specs.Unwind.{body_of, goes_at, unwind}
use Rattle.cil_semantics.specs.Frames.{stuck}
use Rattle.cil_semantics.specs.Outside.{Answer, Returned, Threw, Unfit, ask}
use Rattle.cil_semantics.specs.Checks.{AddedNumbers, Failure, label_text, number_value, event_member}
use Rattle.machine_laws.specs.Same.{IsHelper}
use Rattle.splice_facts.specs.Comes.{Comes}
use Rattle.splice_laws.specs.Straight.{call, ldarg, ldnull, ret, frame_at, at_place}
use Rattle.splice_laws.specs.Helpers.{IsStaticCode, int32}
use Rattle.splice_laws.specs.Fails.{FitsFail}

-- string report(int32 kind, string user, string label)
abbrev pub report_code : ℕ → Token → List Instr
report_code a event = ldarg 0 ∷ ldarg 1 ∷ ldarg 2 ∷ ldnull ∷ call a event ∷ ret ∷ []

pub record HasReport (p' : Program) (g : AddedNumbers) (report a : ℕ) : Type 0 where
  pub event : Token
  pub is : IsStaticCode p' report (int32 ∷ string_ty ∷ string_ty ∷ []) string_ty (report_code a event)
  pub event_token : meaning_of p' a event ≡ Some (OfMethod (class_named helper_name) g.event [])
  pub event_is : IsHelper p' g.event event_name (kind_ty ∷ string_ty ∷ string_ty ∷ exception_ty ∷ []) string_ty

-- the reply is pushed, an exception is thrown on
abbrev pub on_reply : Program → Frame → LocalState → List Value → ℕ → List Handling → List Frame → Answer → Next
on_reply p' f l rest q hs fs (Returned None gs w) = stuck w
on_reply p' f l rest q hs fs (Returned (Some v) gs w) = goes_at p' f (Rest (q + 1)) (with_stack l (v ∷ rest)) hs fs w
on_reply p' f l rest q hs fs (Threw y gs w) = unwind p' no_contracts false (frame_at f (with_stack l rest) q hs ∷ fs) w y
on_reply p' f l rest q hs fs (Unfit w) = stuck w

abbrev pub asked : Program → AddedNumbers → Failure → List Frame → World → Answer
asked p' g x fs w = ask p' (event_member g (label_text x)) (number_value x ∷ x.user ∷ label_text x ∷ Null ∷ []) fs w

-- from its call on, within 8 steps
abbrev pub ReportRuns : (p' : Program) (g : AddedNumbers) (owner report : ℕ) → Type 0
ReportRuns p' g owner report =
    (f : Frame) (l : LocalState) (rest : List Value) (q : ℕ) (hs : List Handling) (fs : List Frame) (w : World) (a : ℕ) (t : Token) (x : Failure)
    → slice_get (body_of p' f.method).instrs q ≡ Some (call a t) → meaning_of p' a t ≡ Some (OfMethod (Known owner) report []) → stored Reference x.user ≡ Some x.user → FitsFail g owner w
    → Comes p' 8 (at_place f (with_stack l (label_text x ∷ x.user ∷ number_value x ∷ rest)) q hs fs w) (on_reply p' f l rest q hs fs (asked p' g x fs w))
