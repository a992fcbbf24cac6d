use Rattle.std.proofs.Common.{◌≡◌, ◌≤◌, ◌+◌, ◌==◌, ℕ, length}
use Rattle.std.specs.Prelude.{filter}
use Rattle.std.specs.List.{range_with_len}
use Rattle.cil_base.specs.declared.tables.TheConstants.{GENERIC_PARAM}
use Rattle.set_rows.specs.Sets.{cell}
use Rattle.set_program.specs.Kinds.{generics}
use Rattle.member_rules.proofs.generic_params.counted.Given as goal

-- what is left of the rows, and no more than those before
abbrev pub invariant-loop-k : goal.invariant-loop-k
invariant-loop-k l = ((n : ℕ) → l.k + n ≡ l.all → l.count + length (filter (λ g. cell l.rows GENERIC_PARAM g 2 == l.owner) (range_with_len (l.k + 1) n)) ≡ generics l.rows l.owner) × (l.count ≤ l.k)
