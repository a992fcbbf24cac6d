-- A body with the heights of its stack, and its boundaries and arguments by them (ECMA-335, III.1.7.4 and III.1.7.5).
use Rattle.std.specs.Prelude.{ℕ, Bool, not, List, get_or, Option, option_map}
use Rattle.std.specs.List.{enumerate_from}
use Rattle.cil_model.specs.declared.ty.Ty.{out-Ty}
use Rattle.cil_model.specs.declared.body.Body.{Body}
use Rattle.cil_model.specs.declared.body.Instr.{Instr}
use Rattle.cil_model.specs.declared.program.Program.{Program}
use Rattle.cil_model.specs.declared.program.MethodDesc.{MethodDesc}
use Rattle.cil_semantics.specs.Types.{is_prim}
use Rattle.cil_semantics.specs.Lookups.{method_of}
use Rattle.il_flow.specs.declared.effect.Effect.{Effect}
use Rattle.il_flow.specs.Effects.{effect_of, height_after}
use Rattle.il_flow.specs.Boundaries.{the_boundaries}
use Rattle.il_flow.specs.Ranges.{argument_before}

-- A body of a method of a program, with the height before each instruction (0 where no path reaches it) and whether a path reaches it.
pub record Code : Type 0 where
  pub program : Program
  pub method : ℕ
  pub body : Body
  pub heights : List ℕ
  pub reached : List Bool

abbrev pub effect : Code → Instr → Effect
effect c = effect_of c.program (method_of c.program c.method)

-- the height behind the instruction at a place
abbrev pub height_behind : Code → ℕ × Instr → ℕ
height_behind c x = height_after (effect c x.1) (get_or c.heights x.0 0)

-- a method without a result has void (II.23.2.11)
abbrev pub has_result : MethodDesc → Bool
has_result d = not (is_prim 0x01 (out-Ty d.result))

-- the instructions with their places
abbrev pub placed : Code → List (ℕ × Instr)
placed c = enumerate_from 0 c.body.instrs

abbrev pub boundaries : Code → List ℕ
boundaries c = the_boundaries c.body c.heights

-- the range of the argument that so many others follow, at a place right behind the last of them
abbrev pub argument : Code → ℕ → ℕ → Option (ℕ × ℕ)
argument c n to = argument_before (effect c) c.heights c.body n to

-- where the last argument of the call at a place begins
abbrev pub last_argument : Code → ℕ → Option ℕ
last_argument c at = option_map (λ (r : ℕ × ℕ). r.0) (argument c 0 at)
