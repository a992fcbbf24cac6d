use Rattle.std.proofs.Common.{◌≡◌, ◌≤◌, ℕ, false}
use Rattle.set_types.specs.CodedTypes.{coded_of}
use Rattle.set_signatures.specs.Shapes.{is_same}
use Rattle.members.specs.MemberRows.{is_declared}
use Rattle.members.proofs.declaring.first_declared.Given as goal

-- no row so far
abbrev pub invariant-loop-k : goal.invariant-loop-k
invariant-loop-k l = (r : ℕ) → 1 ≤ r → r ≤ l.k → is_declared l.rows (coded_of l.coded) l.args (is_same l.x) l.x.is_field l.row r ≡ false
