-- How many values an instruction takes from the stack and leaves there (ECMA-335, III.1.7.2 and each instruction's stack transition).
use Rattle.std.specs.Prelude.{ℕ, ◌+◌, ◌-◌, true, false, length, Option, Some, None, unwrap_or, if◌then◌else◌}
use Rattle.cil_model.specs.declared.ty.Ty.{out-Ty}
use Rattle.cil_model.specs.declared.body.Operand.{Operand}
use Rattle.cil_model.specs.declared.body.Operand.TheVariants.{Tok}
use Rattle.cil_model.specs.declared.body.Instr.{Instr}
use Rattle.il_opcodes.specs.declared.opcode.Opcode.{Opcode}
use Rattle.il_opcodes.specs.declared.class.Class.{Class}
use Rattle.il_opcodes.specs.declared.class.Class.TheVariants as class
use Rattle.cil_model.specs.declared.program.Program.{Program}
use Rattle.cil_model.specs.declared.program.MethodDesc.{MethodDesc}
use Rattle.cil_model.specs.declared.program.Meaning.{Meaning}
use Rattle.cil_model.specs.declared.program.Meaning.TheVariants.{OfMethod}
use Rattle.il_opcodes.specs.Opcodes.{opcode_of}
use Rattle.cil_semantics.specs.Types.{is_prim}
use Rattle.cil_semantics.specs.Lookups.{method_of, no_method}
use Rattle.cil_semantics.specs.Tokens.{meaning_of}
use Rattle.il_flow.specs.declared.effect.Effect.{Effect}

-- void is no value (II.23.2.11)
abbrev pub count_results : MethodDesc → ℕ
count_results d = if is_prim 0x01 (out-Ty d.result) then 0 else 1

-- `this` and the parameters
abbrev pub count_arguments : MethodDesc → ℕ
count_arguments d = if d.is_static then length d.params else length d.params + 1

abbrev pub method_meant : Program → Option Meaning → MethodDesc
method_meant p (Some (OfMethod owner m args)) = method_of p m
method_meant p _ = no_method

-- the method that an instruction calls
abbrev pub member : Program → Operand → MethodDesc
member p (Tok assembly token) = method_meant p (meaning_of p assembly token)
member p _ = no_method

abbrev pub plain : ℕ → ℕ → Effect
plain takes leaves = record { takes = takes; leaves = leaves; takes_all = false; empties = false }

-- call, callvirt and newobj go by the member's signature, ret by the method's own (III.3.19, 3.57, 4.2, 4.21); leave empties the stack (III.3.46)
abbrev pub effect_by : MethodDesc → MethodDesc → Opcode → Class → Effect
effect_by own called o class.Call = plain (count_arguments called) (count_results called)
effect_by own called o class.CallVirtual = plain (count_arguments called) (count_results called)
effect_by own called o class.NewObject = plain (length called.params) 1
effect_by own called o class.Return = record { takes = count_results own; leaves = 0; takes_all = true; empties = false }
effect_by own called o class.Leave = record { takes = 0; leaves = 0; takes_all = false; empties = true }
effect_by own called o _ = plain (unwrap_or o.pops 0) (unwrap_or o.pushes 0)

abbrev pub effect_in : MethodDesc → MethodDesc → Option Opcode → Effect
effect_in own called None = plain 0 0
effect_in own called (Some o) = effect_by own called o o.class

-- what an instruction of a method does to the stack's height
abbrev pub effect_of : Program → MethodDesc → Instr → Effect
effect_of p own i = effect_in own (member p i.operand) (opcode_of i.op)

-- the height behind an instruction
abbrev pub height_after : Effect → ℕ → ℕ
height_after e h = if e.empties then 0 else h - e.takes + e.leaves
