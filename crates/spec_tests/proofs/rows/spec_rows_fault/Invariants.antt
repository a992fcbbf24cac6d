use Rattle.std.proofs.Common.{◌≡◌, ◌+◌, ℕ}
use Rattle.std.specs.Prelude.{flat_map}
use Rattle.std.specs.List.{range_with_len}
use Rattle.cil_base.specs.declared.tables.TheConstants.{TYPE_SPEC}
use Rattle.cil_base.specs.Refusals.{first_of}
use Rattle.member_table.specs.MemberRules.{member_tests}
use Rattle.member_tests.specs.MemberTables.{member_table_tests}
use Rattle.spec_tests.proofs.rows.spec_rows_fault.Given as goal

-- no test of a row before fails
abbrev pub invariant-loop-k : goal.invariant-loop-k
invariant-loop-k l = (n : ℕ) → l.k + n ≡ l.count → first_of (flat_map (member_tests l.tables l.a TYPE_SPEC) (range_with_len (l.k + 1) n)) ≡ first_of (member_table_tests l.tables l.a TYPE_SPEC)
