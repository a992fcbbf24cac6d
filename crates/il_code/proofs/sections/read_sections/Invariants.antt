use Rattle.std.proofs.Common.{◌≡◌, ◌≤◌, ◌+◌, ◌-◌, ℕ, length}
use Rattle.cil_model.specs.BodyLayout.{before, sections_at}
use Rattle.il_code.proofs.sections.read_sections.Given as goal

abbrev pub invariant-sections : goal.invariant-sections
invariant-sections l = (l.at ≤ length l.bytes) × ((k : ℕ) × (length l.bytes ≤ k + l.at) × (before l.clauses (sections_at l.bytes k l.at) ≡ sections_at l.bytes (length l.bytes) l.from))

abbrev pub decreases-sections : goal.decreases-sections
decreases-sections l = length l.bytes - l.at
