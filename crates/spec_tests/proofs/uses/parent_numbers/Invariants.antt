use Rattle.std.proofs.Common.{◌≡◌}
use Rattle.std.specs.Prelude.{map}
use Rattle.std.specs.List.{range_with_len}
use Rattle.cil_base.specs.declared.tables.TheConstants.{METHOD_IMPL}
use Rattle.set_rows.specs.Sets.{cell}
use Rattle.spec_tests.specs.SpecTests.{parent_spec}
use Rattle.spec_tests.proofs.uses.parent_numbers.Given as goal

abbrev pub invariant-loop-k : goal.invariant-loop-k
invariant-loop-k l = l.numbers.items ≡ map (λ i. parent_spec l.rows (cell l.rows METHOD_IMPL i l.column)) (range_with_len 1 l.k)
