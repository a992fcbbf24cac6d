use Rattle.std.proofs.Common.{◌≡◌, ◌+◌, ◌-◌}
use Rattle.std.specs.Prelude.{filter_map, option_map}
use Rattle.std.specs.List.{range_with_len}
use Rattle.set_types.specs.CodedTypes.{coded_of}
use Rattle.row_descriptions.specs.TokenTables.{all_noted}
use Rattle.row_descriptions.specs.UserTexts.{token_row}
use Rattle.descriptions.specs.Facts.{meaning_by}
use Rattle.descriptions.specs.TokenFacts.{table_tokens_by}
use Rattle.descriptions.proofs.tokens.note_table.Given as goal

-- what is left of the table
abbrev pub invariant-loop-k : goal.invariant-loop-k
invariant-loop-k l =
    all_noted l.tokens (filter_map (λ row. option_map (token_row l.assembly l.table row) (meaning_by l.rows (coded_of l.coded) l.facts l.table row)) (range_with_len (l.k + 1) (l.count - l.k)))
    ≡ all_noted l.initial.tokens (table_tokens_by l.rows (coded_of l.coded) l.facts l.assembly l.table)
