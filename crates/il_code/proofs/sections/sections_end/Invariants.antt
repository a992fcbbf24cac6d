use Rattle.std.proofs.Common.{◌≡◌, ◌≤◌, ◌+◌, ◌-◌, ℕ, length}
use Rattle.std.specs.Option.{option_map}
use Rattle.cil_model.specs.BodyLayout.{sections_at}
use Rattle.il_code.proofs.sections.sections_end.Given as goal

abbrev pub invariant-sections : goal.invariant-sections
invariant-sections l = (l.at ≤ length l.bytes) × ((k : ℕ) × (length l.bytes ≤ k + l.at) × (option_map (λ x. x.1) (sections_at l.bytes k l.at) ≡ option_map (λ x. x.1) (sections_at l.bytes (length l.bytes) l.from)))

abbrev pub decreases-sections : goal.decreases-sections
decreases-sections l = length l.bytes - l.at
