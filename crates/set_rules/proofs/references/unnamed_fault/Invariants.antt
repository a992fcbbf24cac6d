use Rattle.std.proofs.Common.{◌≡◌, ◌+◌, ℕ}
use Rattle.std.specs.Prelude.{flat_map}
use Rattle.std.specs.List.{range_with_len}
use Rattle.cil_base.specs.declared.rule.Rule.TheVariants.{N1}
use Rattle.cil_base.specs.Refusals.{first_of}
use Rattle.set_rules.specs.RowTests.{row_test, is_unnamed}
use Rattle.set_rules.proofs.references.unnamed_fault.Given as goal

-- no test of a row before fails
abbrev pub invariant-loop-k : goal.invariant-loop-k
invariant-loop-k l =
    (n : ℕ) → l.k + n ≡ l.count
    → first_of (flat_map (row_test N1 l.a l.table (is_unnamed l.ids)) (range_with_len (l.k + 1) n)) ≡ first_of (flat_map (row_test N1 l.a l.table (is_unnamed l.ids)) (range_with_len 1 l.count))
