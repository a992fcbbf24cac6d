use Rattle.std.proofs.Common.{◌≡◌, ℕ, ◌≤◌, ◌++◌, length, drop}
use Rattle.cil_model.specs.ValidBody.{AllBelow}
use Rattle.il_body.specs.BodyEncoding.{case_bytes}
use Rattle.il_body.proofs.instr.push_cases.Given as goal

abbrev pub invariant-loop-k : goal.invariant-loop-k
invariant-loop-k l = (l.out.items ++ case_bytes l.offsets l.end (drop l.k-index l.ks) ≡ l.initial.out.items ++ case_bytes l.offsets l.end l.ks) × ((count : ℕ) × (count ≤ length l.offsets) × AllBelow count (drop l.k-index l.ks))
