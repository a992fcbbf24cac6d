use Rattle.std.proofs.Common.{sym, subst}
use Rattle.std.specs.Prelude.{MatchOption}
use Rattle.cil_base.specs.Refusals.{First, NoneBroken}
use Rattle.cli_heaps.specs.Root as root
use Rattle.cli_heaps.specs.Root.{Metadata}
use Rattle.cli_tables.specs.Tables.{AreIn}
use Rattle.assembly_rewrite.specs.Rewrite.{IsContract}
use Rattle.assembly_rewrite.proofs.contract_rows.first_contract_row.Goals as goal

pub first_of_tables-requires : goal.first_of_tables-requires
first_of_tables-requires c = subst (λ (m : Metadata). AreIn (root.tables m.bytes) c.tables.result.now) (sym c.heaps.ensures) c.tables.ensures.cells

pub returns : goal.returns
returns c =
    subst (λ (m : Metadata). MatchOption c.first_of_tables.result (NoneBroken (IsContract m.bytes m.assembly)) (First (IsContract m.bytes m.assembly))) c.heaps.ensures c.first_of_tables.ensures
