-- A frame and its twin with more locals, and what the twin's instruction wants.
use Rattle.std.specs.Prelude.{◌≡◌, ℕ, ◌<◌, List, [], ◌++◌, map, None}
use Rattle.cil_base.specs.declared.token.Token.{Token}
use Rattle.cil_model.specs.declared.body.Instr.{Instr}
use Rattle.cil_model.specs.declared.body.Operand.{Operand}
use Rattle.cil_model.specs.declared.body.Operand.TheVariants.{Index, Target, Targets, Tok}
use Rattle.cil_model.specs.declared.program.Program.{Program}
use Rattle.cil_semantics.specs.declared.state.Cell.{Cell}
use Rattle.cil_semantics.specs.declared.state.World.{World}
use Rattle.cil_semantics.specs.declared.state.Statics.{Statics}
use Rattle.cil_semantics.specs.declared.state.Local.{Local}
use Rattle.il_opcodes.specs.declared.class.Class.{Class}
use Rattle.il_opcodes.specs.declared.class.Class.TheVariants.{LoadLocal, StoreLocal, LocalAddress}
use Rattle.cil_semantics.specs.Tokens.{Here, meaning_here, constrained_here}
use Rattle.cil_semantics.specs.Acts.{Act, Stuck, GoOn, Jump, Raise, Throw, Rethrow, Leave, EndHandler, Return, Load, Store, Copy, UseStatic, CallMember, CallVirtual, NewObject, LoadVirtualFunction}

-- Captured values stand behind the locals, and behind them what the checks need.
abbrev pub grow : List Cell → Local → Local
grow ex l = record { args = l.args; locals = l.locals ++ (l.captured ++ ex); captured = []; result = None; stack = l.stack }

-- the world of the plain run: other statics, and no depth but what they hold
abbrev pub beside : List Statics → World → World
beside ss w = record w { statics = ss; depth = 0 }

abbrev pub grow_act : (ℕ → ℕ) → List Cell → Act → Act
grow_act to ex Stuck = Stuck
grow_act to ex (GoOn made l) = GoOn made (grow ex l)
grow_act to ex (Jump t l) = Jump (to t) (grow ex l)
grow_act to ex (Raise name) = Raise name
grow_act to ex (Throw x) = Throw x
grow_act to ex Rethrow = Rethrow
grow_act to ex (Leave t) = Leave (to t)
grow_act to ex EndHandler = EndHandler
grow_act to ex Return = Return
grow_act to ex (Load q h l) = Load q h (grow ex l)
grow_act to ex (Store q v l) = Store q v (grow ex l)
grow_act to ex (Copy q r h l) = Copy q r h (grow ex l)
grow_act to ex (UseStatic t a l) = UseStatic t a (grow ex l)
grow_act to ex (CallMember c l) = CallMember c (grow ex l)
grow_act to ex (CallVirtual c l) = CallVirtual c (grow ex l)
grow_act to ex (NewObject c l) = NewObject c (grow ex l)
grow_act to ex (LoadVirtualFunction c l) = LoadVirtualFunction c (grow ex l)

-- targets moved, and another token
abbrev pub copy_operand : (ℕ → ℕ) → ℕ × Token → Operand → Operand
copy_operand to x (Target t) = Target (to t)
copy_operand to x (Targets ts) = Targets (map to ts)
copy_operand to x (Tok a t) = Tok x.0 x.1
copy_operand to x o = o

-- One instruction stands for another of a method: the same code, targets moved, and tokens of the same meaning.
pub record IsCopy (p p' : Program) (m : ℕ) (to : ℕ → ℕ) (i i' : Instr) : Type 0 where
  pub op : i'.op ≡ i.op
  pub named : ℕ × Token
  pub operand : i'.operand ≡ copy_operand to named i.operand
  pub meaning : (here : Here) → here.method ≡ m → meaning_here p' here i' ≡ meaning_here p here i
  pub constrained : (here : Here) → here.method ≡ m → constrained_here p' here i' ≡ constrained_here p here i

-- it names no local from n on
abbrev pub NamesBelow : ℕ → Operand → Type 0
NamesBelow n (Index i) = i < n
NamesBelow n o = Unit {0}

abbrev pub NamesLocals : ℕ → Class → Operand → Type 0
NamesLocals n LoadLocal o = NamesBelow n o
NamesLocals n StoreLocal o = NamesBelow n o
NamesLocals n LocalAddress o = NamesBelow n o
NamesLocals n c o = Unit {0}
