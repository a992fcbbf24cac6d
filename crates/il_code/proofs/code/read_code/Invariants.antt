use Rattle.std.proofs.Common.{◌≡◌, ◌<◌, ◌≤◌, ◌-◌, ℕ, length, drop, get_or}
use Rattle.cil_model.specs.BodyCode.{Reads}
use Rattle.il_code.specs.Answers.{Rise, reader_of}
use Rattle.il_code.proofs.code.read_code.Given as goal

abbrev pub invariant-loop-at : goal.invariant-loop-at
invariant-loop-at l = record {
  inside : l.at ≤ length l.code;
  read : Reads (reader_of l.form l.place.assembly) 0 l.code l.instrs.items l.offsets l.at (drop l.at l.code);
  rise : Rise l.offsets;
  below : (j : ℕ) → j < length l.offsets → get_or l.offsets j 0 < l.at;
  few : length l.offsets ≤ l.at;
  each : length l.instrs.items ≡ length l.offsets;
}

abbrev pub decreases-loop-at : goal.decreases-loop-at
decreases-loop-at l = length l.code - l.at
