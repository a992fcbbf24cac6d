use Rattle.std.proofs.Common.{ℕ, List, set, sym, subst}
use Rattle.cli_tables.specs.Tables.{HasCell, IsSet}
use Rattle.cli_tables.specs.Stream.{kind_of}
use Rattle.cli_tables.proofs.GrowthLaws.{column_small}
use Rattle.cli_tables.proofs.SetLaws.{cell_is_set, cell_shape}
use Rattle.cli_tables.proofs.tables.Tables.set.Goals as goal

pub invariant_of-self : goal.invariant_of-self
invariant_of-self c =
    cell_shape c.self.inside.tables.items c.args.table c.args.row c.args.column c.args.value c.index_mut.result.now c.set.new.self c.self.invariant
    (subst (λ (ts : List (List (List ℕ))). HasCell ts c.args.table c.args.row c.args.column) (sym c.self.view_is) c.requires.cell) c.index_mut.ensures.value c.set.ensures (column_small (kind_of c.args.table c.args.column) c.args.value c.requires.fits c.ranges.value.fits)

pub returns : goal.returns
returns c =
    subst (λ (ts : List (List (List ℕ))). IsSet ts c.args.table c.args.row c.args.column c.args.value (set c.self.inside.tables.items c.args.table c.set.new.self)) c.self.view_is
    (cell_is_set c.self.inside.tables.items c.args.table c.args.row c.args.column c.args.value c.index_mut.result.now c.set.new.self c.self.invariant
    (subst (λ (ts : List (List (List ℕ))). HasCell ts c.args.table c.args.row c.args.column) (sym c.self.view_is) c.requires.cell) c.index_mut.ensures.value c.set.ensures)
