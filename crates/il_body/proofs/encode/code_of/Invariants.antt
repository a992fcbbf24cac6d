use Rattle.std.proofs.Common.{◌≡◌, ℕ, ◌+◌, ◌*◌, ◌^◌, ◌≤◌, ◌++◌, length, drop}
use Rattle.cil_model.specs.ValidBody.{AllValid}
use Rattle.il_body.specs.BodyEncoding.{code_from, weight}
use Rattle.il_body.proofs.encode.code_of.Given as goal

abbrev pub invariant-loop-i : goal.invariant-loop-i
invariant-loop-i l = (length l.code.items + 24 * weight (drop l.i-index l.instrs) ≤ 24 * 2 ^ 22) × (l.code.items ++ code_from l.offsets (length l.code.items) (drop l.i-index l.instrs) ≡ code_from l.offsets 0 l.instrs) × ((a : ℕ) × (count : ℕ) × (count ≤ length l.offsets) × AllValid a count (drop l.i-index l.instrs))
