use Rattle.std.proofs.Common.{◌≡◌, ◌+◌, ◌++◌, ℕ}
use Rattle.std.specs.Prelude.{flat_map}
use Rattle.std.specs.List.{range_with_len}
use Rattle.value_types.specs.CodedValues.{row_values, table_values}
use Rattle.value_types.proofs.coded.push_table.Given as goal

-- what was appended so far with that of the rows that are left
abbrev pub invariant-loop-k : goal.invariant-loop-k
invariant-loop-k l =
    (n : ℕ) → l.k + n ≡ l.count → l.out ++ flat_map (row_values l.rows l.table l.column) (range_with_len (l.k + 1) n) ≡ l.initial.out ++ table_values l.rows l.table l.column
