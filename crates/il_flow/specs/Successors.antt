-- Where control goes from an instruction (ECMA-335, III.3 and III.4, in each instruction's section).
use Rattle.std.specs.Prelude.{ℕ, ◌+◌, Bool, true, false, List, [], ◌∷◌, Option, Some, None, if◌then◌else◌}
use Rattle.cil_model.specs.declared.body.Operand.{Operand}
use Rattle.cil_model.specs.declared.body.Operand.TheVariants.{Target, Targets}
use Rattle.cil_model.specs.declared.body.Instr.{Instr}
use Rattle.il_opcodes.specs.declared.opcode.Opcode.{Opcode}
use Rattle.il_opcodes.specs.declared.class.Class.{Class}
use Rattle.il_opcodes.specs.declared.class.Class.TheVariants as class
use Rattle.il_opcodes.specs.Opcodes.{opcode_of}

-- Control goes on to the next instruction, but not from br, ret, throw, rethrow, leave and endfinally.
abbrev pub class_goes_on : Class → Bool
class_goes_on class.Jump = false
class_goes_on class.Return = false
class_goes_on class.Throw = false
class_goes_on class.Rethrow = false
class_goes_on class.Leave = false
class_goes_on class.EndFinally = false
class_goes_on _ = true

abbrev pub goes_on : Option Opcode → Bool
goes_on None = true
goes_on (Some o) = class_goes_on o.class

-- the places that a branch names
abbrev pub targets : Operand → List ℕ
targets (Target t) = t ∷ []
targets (Targets ts) = ts
targets _ = []

-- the places to which control goes from the instruction at a place; the one behind the last instruction is the code's end
abbrev pub successors : ℕ → Instr → List ℕ
successors k i = if goes_on (opcode_of i.op) then (k + 1) ∷ targets i.operand else targets i.operand
