-- The failing test of the lowest offset, where the rules of the tests come in order.
use Rattle.std.specs.Prelude.{ℕ, Bool, true, ◌&&◌, nat_lt, List, [], ◌∷◌, Option, Some, None, if◌then◌else◌}
use Rattle.cil_base.specs.declared.rule.Rule.{Rule}
use Rattle.cil_base.specs.declared.refusal.Place.{Place}
use Rattle.cil_base.specs.declared.refusal.Refusal.{Refusal}
use Rattle.cil_base.specs.Refusals.{Test, refusal}

abbrev pub test : Rule → Place → ℕ → Bool → Test
test rule place at fails = record { refusal = refusal rule place at; fails = fails }

abbrev pub beats : Refusal → Option Refusal → Bool
beats r None = true
beats r (Some s) = nat_lt r.at s.at

-- the refusal of a test that fails at a lower offset than the best before it
abbrev pub lowered : Option Refusal → Test → Option Refusal
lowered best t = if t.fails && beats t.refusal best then Some t.refusal else best

abbrev pub lowest : Option Refusal → List Test → Option Refusal
lowest best [] = best
lowest best (t ∷ ts) = lowest (lowered best t) ts
