-- What each step keeps of references.
use Rattle.std.specs.Prelude.{ℕ, suc, Bool, List}
use Rattle.cil_model.specs.declared.ty.Ty.{Ty}
use Rattle.cil_model.specs.declared.value.Value.{Value}
use Rattle.cil_model.specs.declared.body.Instr.{Instr}
use Rattle.cil_model.specs.declared.contract.Contracts.{Contracts}
use Rattle.cil_model.specs.declared.program.Program.{Program}
use Rattle.cil_semantics.specs.declared.state.Local.{Local}
use Rattle.cil_semantics.specs.declared.state.World.{World}
use Rattle.cil_semantics.specs.declared.state.Frame.{Frame}
use Rattle.cil_semantics.specs.Tokens.{Here}
use Rattle.cil_semantics.specs.Instructions.{act}
use Rattle.cil_semantics.specs.Unwind.{unwind}
use Rattle.cil_semantics.specs.Frames.{enter}
use Rattle.cil_semantics.specs.Returns.{returns}
use Rattle.cil_semantics.specs.Acts.{Act}
use Rattle.cil_semantics.specs.Checks.{AddedNumbers}
use Rattle.cil_semantics.specs.Calls.{outside_call}
use Rattle.cil_semantics.specs.Outside.{Member, Answer, Returned, Threw, Unfit, ask}
use Rattle.cil_semantics.specs.Machine.{perform, start, step}
use Rattle.cil_semantics.specs.State.{State}
use Rattle.cil_semantics.specs.declared.state.Handling.{Handling}
use Rattle.cil_model.specs.declared.run.Reply.{Reply}
use Rattle.machine_laws.specs.Same.{IsEntry}
use Rattle.cil_semantics.specs.declared.state.Continuation.{Continuation}
use Rattle.splice_facts.specs.Exceptions.{IsObject, CausesThere, ThrowsObject}
use Rattle.object_validity.specs.Known.{KnownValues, KnownIf, KnownLocal, KnownWorld, KnownContinuation, KnownFrame, KnownFrames, KnownAct, References, KeepsReferences}

-- An instruction, whatever its class, leaves, throws, stores and passes references to objects that are there, with those that it makes.
abbrev pub ActsKeepReferences : Type 0
ActsKeepReferences = (b : ℕ) (p : Program) (here : Here) (i : Instr) (w : World) (l : Local) → KnownWorld b w → KnownLocal b l → KnownAct b (act p here i w l)

-- An exception that is an object goes down the frames.
abbrev pub UnwindsKnown : Type 0
UnwindsKnown = (p : Program) (k : Contracts) (b : ℕ) (skip : Bool) (fs : List Frame) (w : World) (x : ℕ) → KnownFrames b fs → KnownWorld b w → IsObject b x → KeepsReferences (unwind p k skip fs w x)

-- A method is entered, behind its type's initializer.
abbrev pub EntersKnown : Type 0
EntersKnown =
    (p : Program) (k : Contracts) (b : ℕ) (owner : Ty) (m : ℕ) (args : List Ty) (values : List Value) (back : Continuation) (fs : List Frame) (w : World) → KnownValues b values → KnownContinuation b back → KnownFrames b fs → KnownWorld b w → KeepsReferences (enter p k owner m args values back fs w)

-- `ret`, with the groups at exit.
abbrev pub ReturnsKnown : Type 0
ReturnsKnown = (p : Program) (k : Contracts) (b : ℕ) (f : Frame) (fs : List Frame) (w : World) → KnownFrame b f → KnownFrames b fs → KnownWorld b w → KeepsReferences (returns p k f fs w)

-- An act is performed, whatever it asks for.
abbrev pub PerformsKnown : Type 0
PerformsKnown = (p : Program) (k : Contracts) (g : AddedNumbers) (b : ℕ) (a : Act) (f : Frame) (fs : List Frame) (w : World) → KnownAct b a → KnownFrame b f → KnownFrames b fs → KnownWorld b w → KeepsReferences (perform p k g a f fs w)

-- What an instruction throws, or a handler throws on, is an object.
abbrev pub ThrowsKnown : Type 0
ThrowsKnown = (b : ℕ) (p : Program) (here : Here) (i : Instr) (w : World) (l : Local) (hs : List Handling) → KnownWorld b w → KnownLocal b l → CausesThere b hs → ThrowsObject b hs (act p here i w l)

-- A run of an entry begins so.
abbrev pub EntriesKnown : Type 0
EntriesKnown = (p : Program) (k : Contracts) (m : ℕ) (args : List Value) (rs : List Reply) → IsEntry p m args → KeepsReferences (start p k m args rs)

-- what a call outside came to; an exception is one object more
abbrev pub AnswerKnown : ℕ → Answer → Type 0
AnswerKnown b (Returned v fs w) = KnownIf b v × KnownFrames b fs × KnownWorld b w
AnswerKnown b (Threw x fs w) = IsObject (suc b) x × KnownFrames (suc b) fs × KnownWorld (suc b) w
AnswerKnown b (Unfit w) = Unit {0}

-- A call outside takes its reply, whatever that gives.
abbrev pub AsksKnown : Type 0
AsksKnown = (p : Program) (b : ℕ) (m : Member) (values : List Value) (fs : List Frame) (w : World) → KnownIf b m.default → KnownFrames b fs → KnownWorld b w → AnswerKnown b (ask p m values fs w)

abbrev pub OutsideKnown : Type 0
OutsideKnown = (p : Program) (k : Contracts) (b : ℕ) (owner : Ty) (m : ℕ) (args : List Ty) (values : List Value) (fs : List Frame) (w : World) → KnownValues b values → KnownFrames b fs → KnownWorld b w → KeepsReferences (outside_call p k owner m args values fs w)

-- A step of any state whose references lead to objects comes to such a state, or ends.
abbrev pub StepsKnown : Type 0
StepsKnown = (p : Program) (k : Contracts) (g : AddedNumbers) (s : State) → References s → KeepsReferences (step p k g s)
