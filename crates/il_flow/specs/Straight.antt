-- Some steps of the search for heights.
use Rattle.std.specs.Prelude.{ℕ, List, Option, Result, Err, MatchOption}
use Rattle.cil_model.specs.declared.body.Body.{Body}
use Rattle.cil_model.specs.declared.body.Instr.{Instr}
use Rattle.il_flow.specs.declared.effect.Effect.{Effect}
use Rattle.il_flow.specs.declared.mark.Mark.{Mark}
use Rattle.il_flow.specs.Heights.{Finds}

-- The search comes from the old marks to the new ones, or to a fault.
abbrev pub FindsMore : (Instr → Effect) → Body → (old new : List Mark) → Option ℕ → Type 0
FindsMore effect b old new fault =
    MatchOption fault ((r : Result (List Mark) ℕ) → Finds effect b new r → Finds effect b old r) (λ q. Finds effect b old (Err q))
