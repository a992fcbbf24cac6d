-- References that lead to objects: in values, at any depth, in frames and in the world, where the heap has so many objects (ECMA-335, I.12.1.1.2).
use Rattle.std.specs.Prelude.{◌≡◌, ℕ, suc, List, [], ◌∷◌, length, Option, Some, None}
use Rattle.cil_model.specs.declared.value.Value.{Value, Row_of-Value, end_of-Value, more_of-Value}
use Rattle.cil_model.specs.declared.value.Value as val
use Rattle.cil_semantics.specs.declared.state.Cell.{Cell}
use Rattle.cil_semantics.specs.declared.state.Local.{Local}
use Rattle.cil_semantics.specs.declared.state.Object.{Object}
use Rattle.cil_semantics.specs.declared.state.Statics.{Statics}
use Rattle.cil_semantics.specs.declared.state.World.{World}
use Rattle.cil_semantics.specs.declared.state.Frame.{Frame}
use Rattle.cil_semantics.specs.declared.state.Continuation.{Continuation}
use Rattle.cil_semantics.specs.declared.state.Continuation.TheVariants.{Push, PushObject, PushStruct, ThrowObject, BeginCallee, UseField, TryNext}
use Rattle.cil_semantics.specs.declared.state.Access.{Access}
use Rattle.cil_semantics.specs.declared.state.Access.TheVariants.{Read, Write, PointTo}
use Rattle.cil_semantics.specs.State.{State, Next, Running, Ended}
use Rattle.cil_semantics.specs.Acts.{Act, Call, Stuck, GoOn, Jump, Raise, Throw, Rethrow, Leave, EndHandler, Return, Load, Store, Copy, UseStatic, CallMember, CallVirtual, NewObject, LoadVirtualFunction}
use Rattle.splice_facts.specs.Exceptions.{IsObject, ObjectIf, FailureThere, CausesThere}

module _ (b : ℕ) where
  abbrev mutual
    pub KnownValue : Value → Type 0
    KnownValue (val.I4 z) = Unit {0}
    KnownValue (val.I8 z) = Unit {0}
    KnownValue (val.Native z) = Unit {0}
    KnownValue val.Null = Unit {0}
    KnownValue (val.Obj k) = IsObject b k
    KnownValue (val.Text units) = Unit {0}
    KnownValue (val.Ptr q) = Unit {0}
    KnownValue (val.Struct' shape parts) = AllKnown parts
    KnownValue (val.Func m u) = Unit {0}
    KnownValue (val.Opaque bytes) = Unit {0}

    pub AllKnown : {m : _} → Row_of-Value m → Type 0
    AllKnown end_of-Value = Unit {0}
    AllKnown (more_of-Value v rest) = KnownValue v × AllKnown rest

  abbrev pub KnownValues : List Value → Type 0
  KnownValues [] = Unit {0}
  KnownValues (v ∷ vs) = KnownValue v × KnownValues vs

  abbrev pub KnownCells : List Cell → Type 0
  KnownCells [] = Unit {0}
  KnownCells (c ∷ cs) = KnownValue c.value × KnownCells cs

  abbrev pub KnownIf : Option Value → Type 0
  KnownIf None = Unit {0}
  KnownIf (Some v) = KnownValue v

  pub record KnownLocal (l : Local) : Type 0 where
    pub args : KnownCells l.args
    pub locals : KnownCells l.locals
    pub captured : KnownCells l.captured
    pub result : KnownIf l.result
    pub stack : KnownValues l.stack

  abbrev pub KnownObjects : List Object → Type 0
  KnownObjects [] = Unit {0}
  KnownObjects (o ∷ os) = KnownCells o.cells × KnownObjects os

  -- also of what a failed initializer keeps
  abbrev pub KnownStatics : List Statics → Type 0
  KnownStatics [] = Unit {0}
  KnownStatics (s ∷ ss) = FailureThere b s.init × KnownCells s.cells × KnownStatics ss

  pub record KnownWorld (w : World) : Type 0 where
    pub count : length w.heap ≡ b
    pub heap : KnownObjects w.heap
    pub statics : KnownStatics w.statics

  abbrev pub KnownAccess : Access → Type 0
  KnownAccess (Read q) = Unit {0}
  KnownAccess (Write q v) = KnownValue v
  KnownAccess (PointTo q) = Unit {0}

  abbrev pub KnownContinuation : Continuation → Type 0
  KnownContinuation Push = Unit {0}
  KnownContinuation (PushObject v) = KnownValue v
  KnownContinuation PushStruct = Unit {0}
  KnownContinuation (ThrowObject x) = IsObject b x
  KnownContinuation BeginCallee = Unit {0}
  KnownContinuation (UseField a) = KnownAccess a
  KnownContinuation (TryNext exists target left) = KnownValue target

  pub record KnownFrame (f : Frame) : Type 0 where
    pub local : KnownLocal f.local
    pub handling : CausesThere b f.handling
    pub thrown : ObjectIf b f.thrown
    pub back : KnownContinuation f.continuation

  abbrev pub KnownFrames : List Frame → Type 0
  KnownFrames [] = Unit {0}
  KnownFrames (f ∷ fs) = KnownFrame f × KnownFrames fs

-- each reference of the state leads to an object that is there
pub record References (s : State) : Type 0 where
  pub objects : ℕ
  pub frames : KnownFrames objects s.frames
  pub world : KnownWorld objects s.world

-- and so in the state that a step comes to, if any
abbrev pub KeepsReferences : Next → Type 0
KeepsReferences (Running s) = References s
KeepsReferences (Ended o w) = Unit {0}

-- what an act has made, in order, and then its frame
abbrev pub KnownMade : ℕ → List Object → Local → Type 0
KnownMade b [] l = KnownLocal b l
KnownMade b (o ∷ os) l = KnownCells b o.cells × KnownMade (suc b) os l

abbrev pub KnownCall : ℕ → Call → Local → Type 0
KnownCall b c l = KnownValues b c.values × KnownLocal b l

-- what an act leaves, throws, stores and passes
abbrev pub KnownAct : ℕ → Act → Type 0
KnownAct b Stuck = Unit {0}
KnownAct b (GoOn made l) = KnownMade b made l
KnownAct b (Jump t l) = KnownLocal b l
KnownAct b (Raise name) = Unit {0}
KnownAct b (Throw x) = IsObject b x
KnownAct b Rethrow = Unit {0}
KnownAct b (Leave t) = Unit {0}
KnownAct b EndHandler = Unit {0}
KnownAct b Return = Unit {0}
KnownAct b (Load q h l) = KnownLocal b l
KnownAct b (Store q v l) = KnownValue b v × KnownLocal b l
KnownAct b (Copy to from h l) = KnownLocal b l
KnownAct b (UseStatic t a l) = KnownAccess b a × KnownLocal b l
KnownAct b (CallMember c l) = KnownCall b c l
KnownAct b (CallVirtual c l) = KnownCall b c l
KnownAct b (NewObject c l) = KnownCall b c l
KnownAct b (LoadVirtualFunction c l) = KnownCall b c l
