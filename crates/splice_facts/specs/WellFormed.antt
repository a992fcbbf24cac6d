-- What a run of the input can have in its places: no pointer to a local that the method lacks, no static of what was appended, no method that was appended, and no function or object with void among its type arguments.
use Rattle.std.specs.Prelude.{◌≡◌, ℕ, ◌<◌, false, List, [], ◌∷◌, Option, Some, None, IsTrue}
use Rattle.cil_model.specs.declared.ty.Ty.{Ty}
use Rattle.cil_model.specs.declared.program.Program.{Program}
use Rattle.cil_semantics.specs.Lookups.{args_of}
use Rattle.cil_semantics.specs.Places.{storage, is_void}
use Rattle.cil_model.specs.declared.value.Value.{Value, Row_of-Value, end_of-Value, more_of-Value}
use Rattle.cil_model.specs.declared.value.Value as val
use Rattle.cil_model.specs.declared.value.Pointer.{Pointer}
use Rattle.cil_model.specs.declared.value.Pointer.TheVariants.{Arg, Local, Inside, Static}
use Rattle.machine_laws.specs.Answers.{is_below}
use Rattle.cil_semantics.specs.declared.state.Cell.{Cell}
use Rattle.cil_semantics.specs.declared.state.Local.{Local as LocalState}
use Rattle.cil_semantics.specs.declared.state.Object.{Object}
use Rattle.cil_semantics.specs.declared.state.Statics.{Statics}
use Rattle.cil_semantics.specs.declared.state.World.{World}
use Rattle.cil_semantics.specs.declared.state.Continuation.{Continuation}
use Rattle.cil_semantics.specs.declared.state.Continuation.TheVariants.{Push, PushObject, PushStruct, ThrowObject, BeginCallee, UseField, TryNext}
use Rattle.cil_semantics.specs.declared.state.Access.{Access}
use Rattle.cil_semantics.specs.declared.state.Access.TheVariants.{Read, Write, PointTo}

-- no type argument is void (ECMA-335, II.23.2.14)
abbrev pub NoneVoid : Program → List Ty → Type 0
NoneVoid p [] = Unit {0}
NoneVoid p (t ∷ ts) = (is_void (storage p t) ≡ false) × NoneVoid p ts

-- how many locals a frame of each method has, and how many types and methods the input has
pub record Bounds : Type 0 where
  pub program : Program
  pub width : ℕ → ℕ
  pub types : ℕ
  pub methods : ℕ

module _ (b : Bounds) where
  abbrev pub WellFormedPointer : Pointer → Type 0
  WellFormedPointer (Arg f m i is) = Unit {0}
  WellFormedPointer (Local f m i is) = i < b.width m
  WellFormedPointer (Inside o is) = Unit {0}
  WellFormedPointer (Static t f is) = IsTrue (is_below b.types t)

  abbrev mutual
    pub WellFormedValue : Value → Type 0
    WellFormedValue (val.I4 z) = Unit {0}
    WellFormedValue (val.I8 z) = Unit {0}
    WellFormedValue (val.Native z) = Unit {0}
    WellFormedValue val.Null = Unit {0}
    WellFormedValue (val.Obj k) = Unit {0}
    WellFormedValue (val.Text units) = Unit {0}
    WellFormedValue (val.Ptr q) = WellFormedPointer q
    WellFormedValue (val.Struct' shape parts) = AllWellFormed parts
    WellFormedValue (val.Func m u) = (m < b.methods) × NoneVoid b.program u.type_args × NoneVoid b.program u.method_args
    WellFormedValue (val.Opaque bytes) = Unit {0}

    pub AllWellFormed : {m : _} → Row_of-Value m → Type 0
    AllWellFormed end_of-Value = Unit {0}
    AllWellFormed (more_of-Value v rest) = WellFormedValue v × AllWellFormed rest

  abbrev pub WellFormedValues : List Value → Type 0
  WellFormedValues [] = Unit {0}
  WellFormedValues (v ∷ vs) = WellFormedValue v × WellFormedValues vs

  abbrev pub WellFormedCells : List Cell → Type 0
  WellFormedCells [] = Unit {0}
  WellFormedCells (c ∷ cs) = WellFormedValue c.value × WellFormedCells cs

  abbrev pub WellFormedIf : Option Value → Type 0
  WellFormedIf None = Unit {0}
  WellFormedIf (Some v) = WellFormedValue v

  pub record WellFormedLocal (l : LocalState) : Type 0 where
    pub args : WellFormedCells l.args
    pub locals : WellFormedCells l.locals
    pub captured : WellFormedCells l.captured
    pub result : WellFormedIf l.result
    pub stack : WellFormedValues l.stack

  abbrev pub WellFormedObject : Object → Type 0
  WellFormedObject o = NoneVoid b.program (args_of o.ty) × WellFormedCells o.cells

  abbrev pub WellFormedObjects : List Object → Type 0
  WellFormedObjects [] = Unit {0}
  WellFormedObjects (o ∷ os) = WellFormedObject o × WellFormedObjects os

  abbrev pub WellFormedStatics : List Statics → Type 0
  WellFormedStatics [] = Unit {0}
  WellFormedStatics (s ∷ ss) = IsTrue (is_below b.types s.owner) × WellFormedCells s.cells × WellFormedStatics ss

  pub record WellFormedWorld (w : World) : Type 0 where
    pub heap : WellFormedObjects w.heap
    pub statics : WellFormedStatics w.statics

  abbrev pub WellFormedAccess : Access → Type 0
  WellFormedAccess (Read q) = WellFormedPointer q
  WellFormedAccess (Write q v) = WellFormedPointer q × WellFormedValue v
  WellFormedAccess (PointTo q) = WellFormedPointer q

  abbrev pub WellFormedContinuation : Continuation → Type 0
  WellFormedContinuation Push = Unit {0}
  WellFormedContinuation (PushObject v) = WellFormedValue v
  WellFormedContinuation PushStruct = Unit {0}
  WellFormedContinuation (ThrowObject x) = Unit {0}
  WellFormedContinuation BeginCallee = Unit {0}
  WellFormedContinuation (UseField a) = WellFormedAccess a
  WellFormedContinuation (TryNext exists target left) = WellFormedValue target
