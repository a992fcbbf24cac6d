use Rattle.std.proofs.Common.{◌+◌, ◌<◌, ◌^◌, ℕ, List, set, sym, subst, arith}
use Rattle.std.specs.Prelude.{OnOk}
use Rattle.cli_tables.specs.Tables.{rows_of, IsAppended}
use Rattle.cli_tables.proofs.GrowthLaws.{one_each, row_is, pushed_shape, pushed_table}
use Rattle.cli_tables.proofs.tables.Tables.push.Goals as goal

pub invariant_of-self : goal.invariant_of-self
invariant_of-self c =
    pushed_shape c.push.result c.self.inside.tables.items c.args.table c.args.cells.now c.index_mut.result.now c.push.new.self c.self.invariant (row_is c.args.table c.args.cells.now c.requires.row (λ i. omega (arith, c.type_inv.cells i)))
    (subst (λ (ts : List (List (List ℕ))). rows_of ts c.args.table + 1 < 2 ^ 32) (sym c.self.view_is) c.requires.room) c.index_mut.ensures.value c.push.ensures.ok c.push.ensures.err

pub returns-clause-ok : goal.returns-clause-ok
returns-clause-ok c =
    subst (λ (ts : List (List (List ℕ))). OnOk c.push.result (IsAppended ts c.args.table c.args.cells.now (set c.self.inside.tables.items c.args.table c.push.new.self))) c.self.view_is
    (pushed_table c.push.result c.self.inside.tables.items c.args.table c.args.cells.now c.index_mut.result.now c.push.new.self c.self.invariant (row_is c.args.table c.args.cells.now c.requires.row (λ i. omega (arith, c.type_inv.cells i))) c.index_mut.ensures.value c.push.ensures.ok)

pub push-requires : goal.push-requires
push-requires c =
    one_each c.self.inside.tables.items c.args.table c.args.cells.now c.index_mut.result.now c.self.invariant (row_is c.args.table c.args.cells.now c.requires.row (λ i. omega (arith, c.type_inv.cells i))) c.index_mut.ensures.value
