use Rattle.std.proofs.Common.{sym, [], rules}
use Rattle.std.proofs.lemmas.List.{get_or_past}
use Rattle.cli_tables.specs.Schema.{the_tables}
use Rattle.cli_tables.proofs.SchemaLaws.{borrowed_at}
use Rattle.cli_tables.proofs.LayoutLaws.{few_columns}
use Rattle.cli_tables.proofs.schema.columns.Goals as goal

pub returns-then-table-lt-TABLE_COUNT-clause-columns : goal.returns-then-table-lt-TABLE_COUNT-clause-columns
unfolding the_tables
returns-then-table-lt-TABLE_COUNT-clause-columns c = search (rules, borrowed_at)

pub returns-then-table-lt-TABLE_COUNT-clause-few : goal.returns-then-table-lt-TABLE_COUNT-clause-few
returns-then-table-lt-TABLE_COUNT-clause-few c = rw (returns-then-table-lt-TABLE_COUNT-clause-columns c) (few_columns c.args.table)

pub returns-else-table-lt-TABLE_COUNT-clause-columns : goal.returns-else-table-lt-TABLE_COUNT-clause-columns
unfolding the_tables
returns-else-table-lt-TABLE_COUNT-clause-columns c = sym (get_or_past the_tables c.args.table [] c.if-table-lt-TABLE_COUNT.false)
