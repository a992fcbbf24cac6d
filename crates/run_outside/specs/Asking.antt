-- What a call outside came to, where frames and world are changed in place (own).
use Rattle.std.specs.Prelude.{ℕ, drop, Bool, List, [], Option, Some, None, option_and_then, ◌≡◌, if◌then◌else◌, codes}
use Rattle.cil_model.specs.declared.ty.Ty.{Ty}
use Rattle.cil_model.specs.declared.value.Value.{Value, out-Value}
use Rattle.cil_model.specs.declared.program.Program.{Program}
use Rattle.cil_model.specs.declared.run.ReplyResult.{ReplyResult}
use Rattle.cil_model.specs.declared.run.ReplyResult.TheVariants as reply
use Rattle.cil_semantics.specs.Core.{Name, class_named}
use Rattle.cil_semantics.specs.Frames.{write}
use Rattle.cil_semantics.specs.Lookups.{is_sub}
use Rattle.cil_semantics.specs.Outside as outside
use Rattle.cil_semantics.specs.Outside.{Answer, Returned, Threw, by_ref_args, fits, given, stored_back}
use Rattle.cil_semantics.specs.Places.{is_void, storage, stored_in}
use Rattle.cil_semantics.specs.declared.Frame.{Frame}
use Rattle.cil_semantics.specs.declared.World.{World}
use Rattle.cil_semantics.specs.State.{next_object, with_object}
use Rattle.cil_semantics.specs.Words.{maybe}
use Rattle.run_outside.specs.declared.asked.Asked.{Asked}
use Rattle.run_outside.specs.declared.asked.Asked.TheVariants as asked
use Rattle.run_outside.specs.declared.judging.Judged.{Judged}
use Rattle.run_outside.specs.declared.judging.Judged.TheVariants as judgement
use Rattle.run_outside.specs.declared.member.Member.{Member}

-- the member that a record of the code stands for
abbrev pub as_member : Member → outside.Member
as_member m = record { number = m.number; name = m.name; params = m.params; result = m.result; default = m.default }

-- two worlds tell the same, and their objects take as many cells
pub record TellsSame (w x : World) : Type 0 where
  pub trace : w.trace ≡ x.trace
  pub cells : w.cells ≡ x.cells

-- a run ends at what doesn't fit, so of the world only what is told counts
abbrev pub IsUnfit : World → Answer → Type 0
IsUnfit w (Returned v fs x) = ⊥
IsUnfit w (Threw k fs x) = ⊥
IsUnfit w (outside.Unfit x) = TellsSame w x

-- the answer, with these frames and this world
abbrev pub Answers : Asked → List Frame → World → Answer → Type 0
Answers (asked.Returned v) fs w a = a ≡ Returned v fs w
Answers (asked.Threw k) fs w a = a ≡ Threw k fs w
Answers asked.Unfit fs w a = IsUnfit w a

-- frames and world after one value is stored through the argument of a parameter that refers to a type, if that may be done
abbrev pub one_stored : Program → Ty → Value → Value → List Frame → World → Option (List Frame × World)
one_stored p t a v fs w = if fits p w t v then option_and_then (λ q. write p fs w q v) (outside.pointer_in (out-Value a)) else None

-- frames and world once the values from the n-th on are stored through these arguments, if those before could be stored
abbrev pub stored_on : Program → List Ty → List Value → List Value → Option ℕ → List Frame → World → Option (List Frame × World)
stored_on p ts vs back None fs w = None
stored_on p ts vs back (Some n) fs w = stored_back p (by_ref_args ts vs) (drop n back) fs w

-- ---- what a reply comes to

abbrev pub is_exception : Program → Name → Bool
is_exception p name = is_sub p (class_named name) (class_named (codes "System.Exception"))

abbrev pub judged_throw : Program → Name → Judged
judged_throw p name = if is_exception p name then judgement.Throws name else judgement.FitsNot

abbrev pub judged_void : Program → Ty → Judged
judged_void p t = if is_void (storage p t) then judgement.Gives None else judgement.FitsNot

abbrev pub judged_given : Program → World → Ty → Value → Judged
judged_given p w t v = if fits p w t v then maybe judgement.FitsNot (λ x. judgement.Gives (Some x)) (stored_in p t v) else judgement.FitsNot

-- what the result of a reply comes to, once its by-reference values are stored
abbrev pub judged : Program → outside.Member → World → ReplyResult → Judged
judged p m w reply.Default = judgement.Gives m.default
judged p m w reply.Void = judged_void p m.result
judged p m w (reply.Given v) = judged_given p w m.result v
judged p m w (reply.Throw name) = judged_throw p name

-- a reply that says nothing is recorded as what it gave
abbrev pub told : Option Value → ReplyResult → ReplyResult
told default reply.Default = given default
told default reply.Void = reply.Void
told default (reply.Given v) = reply.Given v
told default (reply.Throw name) = reply.Throw name

-- the answer that comes of it, once the call is recorded
abbrev pub concluded : Program → Judged → List Frame → World → Answer → Answer
concluded p (judgement.Gives v) fs w other = Returned v fs w
concluded p (judgement.Throws name) fs w other = Threw (next_object w) fs (with_object p (record { ty = class_named name; cells = [] }) w)
concluded p judgement.FitsNot fs w other = other
