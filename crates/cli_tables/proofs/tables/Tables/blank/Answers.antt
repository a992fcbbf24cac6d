use Rattle.std.proofs.Common.{subst, sym, ap, ◌∙◌}
use Rattle.cli_tables.specs.Tables.{rows_of, IsShaped}
use Rattle.cli_tables.proofs.BlankLaws.{no_rows, blank_shape}
use Rattle.cli_tables.proofs.tables.Tables.blank.Goals as goal

pub invariant_of-result : goal.invariant_of-result
invariant_of-result c = subst IsShaped (sym c.in_ok-blank_tables.ensures) blank_shape

pub returns-clause-rows : goal.returns-clause-rows
returns-clause-rows c table = ap (λ t. rows_of t table) c.in_ok-blank_tables.ensures ∙ no_rows table
