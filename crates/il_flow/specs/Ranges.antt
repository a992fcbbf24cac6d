-- Closed ranges of instructions, and the arguments of a call.
use Rattle.std.specs.Prelude.{ℕ, zero, suc, ◌+◌, Bool, true, false, ◌&&◌, ◌||◌, ◌==◌, not, nat_le, List, get_or, Option, Some, None, option_and_then, if◌then◌else◌}
use Rattle.std.specs.List.{list_any, list_all, enumerate_from}
use Rattle.cil_model.specs.declared.body.Body.{Body}
use Rattle.cil_model.specs.declared.body.Instr.{Instr}
use Rattle.cil_model.specs.declared.body.Region.{Region}
use Rattle.il_opcodes.specs.declared.opcode.Opcode.{Opcode}
use Rattle.il_opcodes.specs.declared.class.Class.{Class}
use Rattle.il_opcodes.specs.declared.class.Class.TheVariants as class
use Rattle.il_opcodes.specs.Opcodes.{opcode_of}
use Rattle.cil_semantics.specs.Unwind.{holds_place}
use Rattle.il_flow.specs.declared.effect.Effect.{Effect}
use Rattle.il_flow.specs.Successors.{targets}

-- ret, throw, rethrow and leave
abbrev pub class_ends : Class → Bool
class_ends class.Return = true
class_ends class.Throw = true
class_ends class.Rethrow = true
class_ends class.Leave = true
class_ends _ = false

abbrev pub ends_range : Option Opcode → Bool
ends_range None = false
ends_range (Some o) = class_ends o.class

-- a part of a region begins or ends behind the range's first place and before its end
abbrev pub cuts : ℕ → ℕ → Region → Bool
cuts from to r =
    holds_place (from + 1) to r.try_from || (holds_place (from + 1) to r.try_to
    || (holds_place (from + 1) to r.handler_from || holds_place (from + 1) to r.handler_to))

-- the last place below a number that passes
abbrev pub last_below : (ℕ → Bool) → ℕ → Option ℕ
last_below test zero = None
last_below test (suc n) = if test n then Some n else last_below test n

abbrev pub with_end : ℕ → Option ℕ → Option (ℕ × ℕ)
with_end to None = None
with_end to (Some from) = Some (from, to)

-- an instruction outside a range: its branches lead neither right behind the range nor into it, but to its first place
abbrev pub stays_out : ℕ → ℕ → Instr → Bool
stays_out from to i = list_all (λ t. not (holds_place (from + 1) (to + 1) t)) (targets i.operand)

module _ (effect : Instr → Effect) (heights : List ℕ) where
  -- an instruction of the range: it leaves the values that lay there before, isn't one of those four, and its branches stay or lead right behind the range
  abbrev pub stays_in : ℕ → ℕ → ℕ × Instr → Bool
  stays_in from to x =
      nat_le (get_or heights from 0 + (effect x.1).takes) (get_or heights x.0 0)
      && (not (ends_range (opcode_of x.1.op)) && list_all (λ t. holds_place from (to + 1) t) (targets x.1.operand))

  abbrev pub is_right : ℕ → ℕ → ℕ × Instr → Bool
  is_right from to x = if holds_place from to x.0 then stays_in from to x else stays_out from to x.1

  -- the range pushes exactly one value
  abbrev pub pushes_one : ℕ → ℕ → Bool
  pushes_one from to = get_or heights to 0 == get_or heights from 0 + 1

  module _ (b : Body) where
    -- a range of instructions is closed
    unfoldable pub is_closed : ℕ → ℕ → Bool
    is_closed from to =
        not (list_any (cuts from to) b.regions) && list_all (is_right from to) (enumerate_from 0 b.instrs)

    abbrev pub is_argument : ℕ → ℕ → Bool
    is_argument from to = pushes_one from to && is_closed from to

    -- where the shortest such range begins that ends at a place
    unfoldable pub last_argument : ℕ → Option ℕ
    last_argument to = last_below (λ from. is_argument from to) to

    -- the range of the argument that so many others follow, at a place right behind the last of them
    unfoldable pub argument_before : ℕ → ℕ → Option (ℕ × ℕ)
    argument_before zero to = with_end to (last_argument to)
    argument_before (suc n) to = option_and_then (argument_before n) (last_argument to)
