use Rattle.std.proofs.Common.{◌≡◌, ◌≤◌, ◌+◌, ◌-◌, ℕ, length}
use Rattle.cil_model.specs.BodyCode.{prefixed, instr_at}
use Rattle.il_code.proofs.instr.read_instr.Given as goal

abbrev pub invariant-codes : goal.invariant-codes
invariant-codes l = (l.taken ≤ length l.bytes) × ((k : ℕ) × (length l.bytes ≤ k + l.taken) × (prefixed l.assembly l.at l.bytes k l.constrained l.flags l.taken ≡ instr_at l.assembly l.at l.bytes))

abbrev pub decreases-codes : goal.decreases-codes
decreases-codes l = length l.bytes - l.taken
