-- Where an instruction leads: on behind it, or by a jump or `leave` to a target of its operand; only a call calls, and only `ret` returns (ECMA-335, Partition III).
use Rattle.std.specs.Prelude.{◌≡◌, ℕ, false, Option}
use Rattle.cil_model.specs.declared.body.Instr.{Instr}
use Rattle.cil_model.specs.declared.program.Program.{Program}
use Rattle.il_opcodes.specs.declared.class.Class.{Class}
use Rattle.il_opcodes.specs.declared.class.Class.TheVariants as class
use Rattle.il_opcodes.specs.Opcodes.{class_of}
use Rattle.cil_semantics.specs.declared.state.World.{World}
use Rattle.cil_semantics.specs.declared.state.Local.{Local}
use Rattle.cil_semantics.specs.declared.state.ProgramPoint.{ProgramPoint}
use Rattle.cil_semantics.specs.Tokens.{Here}
use Rattle.cil_semantics.specs.Contracted.{Plan}
use Rattle.cil_semantics.specs.Unwind.{moved_to, next_place}
use Rattle.cil_semantics.specs.Acts.{Act, GoOn, Load, Store, Copy, UseStatic, Jump, Leave, Return, CallMember, CallVirtual, NewObject, LoadVirtualFunction}
use Rattle.cil_semantics.specs.Instructions.{act}
use Rattle.splice_facts.specs.Layout.{CanArrive, LeadsOn, Onward, never_falls}

-- a class whose instructions call nothing and don't return
abbrev pub CallsNothing : Class → Type 0
CallsNothing class.Call = ⊥
CallsNothing class.CallVirtual = ⊥
CallsNothing class.NewObject = ⊥
CallsNothing class.LoadVirtualFunction = ⊥
CallsNothing class.Return = ⊥
CallsNothing c = Unit {0}

module _ (X : Type 0) (plan : Option Plan) (at : ProgramPoint) where
  -- what is said of where it goes on, or that its target is a place
  abbrev pub LedBy : Act → Type 0
  LedBy (Jump t l) = CanArrive plan (moved_to t at)
  LedBy (Leave t) = CanArrive plan (moved_to t at)
  LedBy Return = ⊥
  LedBy (CallMember c l) = ⊥
  LedBy (CallVirtual c l) = ⊥
  LedBy (NewObject c l) = ⊥
  LedBy (LoadVirtualFunction c l) = ⊥
  LedBy (GoOn made l) = X
  LedBy (Load q h l) = X
  LedBy (Store q v l) = X
  LedBy (Copy q r h l) = X
  LedBy (UseStatic t a l) = X
  LedBy a = Unit {0}

  -- Where targets are places and a run goes on behind the instruction, an act leads to one of them.
  abbrev pub ActsLedBy : Type 0
  ActsLedBy = (p : Program) (here : Here) (i : Instr) (w : World) (l : Local) → CallsNothing (class_of i.op) → (never_falls (class_of i.op) ≡ false → X) → LeadsOn plan at i.operand → LedBy (act p here i w l)

-- it goes on behind its instruction
abbrev pub InstructionsLeadOn : Type 0
InstructionsLeadOn = (plan : Option Plan) (places : ProgramPoint → ℕ) (at : ProgramPoint) → ActsLedBy (Onward plan places at (next_place at)) plan at
