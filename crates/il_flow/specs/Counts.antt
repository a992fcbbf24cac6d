-- How many values the machine's act of each class takes and leaves, and that the table of instructions says the same.
use Rattle.std.specs.Prelude.{ℕ, ◌+◌, ◌≡◌, Bool, true, false, ◌&&◌, ◌==◌, length, Option, Some, None}
use Rattle.il_opcodes.specs.declared.opcode.Opcode.{Opcode}
use Rattle.il_opcodes.specs.declared.class.Class.{Class}
use Rattle.il_opcodes.specs.declared.class.Class.TheVariants as class
use Rattle.cil_semantics.specs.declared.state.Access.{Access}
use Rattle.cil_semantics.specs.declared.state.Access.TheVariants.{Read, Write, PointTo}
use Rattle.cil_semantics.specs.declared.state.Local.{Local}
use Rattle.cil_semantics.specs.Acts.{Act, GoOn, Jump, Load, Store, Copy, UseStatic, LoadVirtualFunction}

-- none for calls, ret and what the machine doesn't run (each instruction's stack transition in ECMA-335, III.3 and III.4)
abbrev pub counts : Class → Option (ℕ × ℕ)
counts class.Nop = Some (0, 0)
counts class.LoadArgument = Some (0, 1)
counts class.StoreArgument = Some (1, 0)
counts class.ArgumentAddress = Some (0, 1)
counts class.LoadLocal = Some (0, 1)
counts class.StoreLocal = Some (1, 0)
counts class.LocalAddress = Some (0, 1)
counts class.LoadNull = Some (0, 1)
counts class.LoadInt = Some (0, 1)
counts class.LoadLong = Some (0, 1)
counts class.LoadString = Some (0, 1)
counts class.LoadToken = Some (0, 1)
counts class.SizeOf = Some (0, 1)
counts class.LoadFunction = Some (0, 1)
counts class.Duplicate = Some (1, 2)
counts class.Pop = Some (1, 0)
counts (class.Binary op) = Some (2, 1)
counts (class.Shift s) = Some (2, 1)
counts (class.Unary u) = Some (1, 1)
counts (class.Convert t) = Some (1, 1)
counts (class.ConvertChecked u t) = Some (1, 1)
counts (class.Compare t) = Some (2, 1)
counts class.Jump = Some (0, 0)
counts class.Switch = Some (1, 0)
counts (class.Branch wanted) = Some (1, 0)
counts (class.CompareBranch t wanted) = Some (2, 0)
counts (class.LoadIndirect h) = Some (1, 1)
counts (class.StoreIndirect h) = Some (2, 0)
counts class.CopyObject = Some (2, 0)
counts class.LoadObject = Some (1, 1)
counts class.StoreObject = Some (2, 0)
counts class.InitObject = Some (1, 0)
counts class.CastClass = Some (1, 1)
counts class.IsInstance = Some (1, 1)
counts class.Unbox = Some (1, 1)
counts class.Box = Some (1, 1)
counts class.UnboxAny = Some (1, 1)
counts class.Throw = Some (1, 0)
counts class.Rethrow = Some (0, 0)
counts class.LoadField = Some (1, 1)
counts class.FieldAddress = Some (1, 1)
counts class.StoreField = Some (2, 0)
counts class.LoadStatic = Some (0, 1)
counts class.StaticAddress = Some (0, 1)
counts class.StoreStatic = Some (1, 0)
counts class.NewArray = Some (1, 1)
counts class.ArrayLength = Some (1, 1)
counts class.ElementAddress = Some (2, 1)
counts class.LoadTypedElement = Some (2, 1)
counts class.StoreTypedElement = Some (3, 0)
counts (class.LoadElement h) = Some (2, 1)
counts (class.StoreElement h) = Some (3, 0)
counts class.EndFinally = Some (0, 0)
counts class.Leave = Some (0, 0)
counts class.Call = None
counts class.CallVirtual = None
counts class.NewObject = None
counts class.LoadVirtualFunction = Some (1, 1)
counts class.Return = None
counts class.Unsupported = None
counts class.Prefix = Some (0, 0)

abbrev pub same_count : Option ℕ → ℕ → Bool
same_count None n = false
same_count (Some k) n = k == n

abbrev pub counts_agree : Opcode → Option (ℕ × ℕ) → Bool
counts_agree o None = true
counts_agree o (Some c) = same_count o.pops c.0 && same_count o.pushes c.1

-- the table's row of an instruction says how many values the machine's act takes and leaves
abbrev pub row_agrees : Opcode → Bool
row_agrees o = counts_agree o (counts o.class)

-- how many values the use of a static field pushes
abbrev pub pushed_by : Access → ℕ
pushed_by (Read q) = 1
pushed_by (Write q v) = 0
pushed_by (PointTo q) = 1

-- Where an act goes on in its frame, the stack has this height then. Of an act that calls, empties the stack or ends the frame this says nothing.
abbrev pub Leaves : ℕ → Act → Type 0
Leaves n (GoOn made l) = length l.stack ≡ n
Leaves n (Jump t l) = length l.stack ≡ n
Leaves n (Load q h l) = length l.stack + 1 ≡ n
Leaves n (Store q v l) = length l.stack ≡ n
Leaves n (Copy to from h l) = length l.stack ≡ n
Leaves n (UseStatic t a l) = length l.stack + pushed_by a ≡ n
Leaves n (LoadVirtualFunction c l) = length l.stack + 1 ≡ n
Leaves n _ = Unit {0}

-- Where the stack has the values that are taken, the act takes and leaves so many.
abbrev pub TakesAndLeaves : Option (ℕ × ℕ) → Local → Act → Type 0
TakesAndLeaves None l a = Unit {0}
TakesAndLeaves (Some c) l a = (m : ℕ) → length l.stack ≡ c.0 + m → Leaves (m + c.1) a
