use Rattle.std.proofs.Common.{◌<◌, ℕ, [], List, length, get_or, ◌∙◌, sym, ap, arith}
use Rattle.cli_tables.specs.Schema.{the_tables, columns_of}
use Rattle.cli_tables.specs.Stream.{count_of}
use Rattle.cli_tables.specs.Written.{pieces, row_bytes, table_bytes}
use Rattle.cli_tables.proofs.GrowthLaws.{has_table_at, read_back}
use Rattle.cli_tables.proofs.WrittenLaws.{rows_counted}
use Rattle.cli_tables.proofs.PieceLaws.{pieces_begun, pieces_pushed}
use Rattle.cli_tables.proofs.written.push_tables.Goals as goal

pub loop-table-init : goal.loop-table-init
loop-table-init c = pieces_begun c.args.out.now.items (table_bytes c.args.sizes.now c.args.tables.now)

last_read : 0 < length (columns_of 44)
unfolding the_tables
last_read = omega arith

pub bounds-tables-table : goal.bounds-tables-table
bounds-tables-table c = omega (arith, has_table_at c.args.tables.now 44 c.requires.shaped last_read)

pub push_table-requires : goal.push_table-requires
push_table-requires c column lt =
    ap (λ (cs : List (List ℕ)). length (get_or cs column [])) (read_back c.args.tables.now c.loop-table.table c.index-tables-table.result (omega (arith, has_table_at c.args.tables.now 44 c.requires.shaped last_read)) c.index-tables-table.is)
    ∙ c.requires.shaped.rows c.loop-table.table column lt ∙ sym (rows_counted c.args.sizes.now c.args.tables.now c.loop-table.table c.requires.shaped c.requires.fit)

pub loop-table-preserved : goal.loop-table-preserved
loop-table-preserved c =
    let t = c.loop-table.table in
    let s = c.args.sizes.now in
    pieces_pushed c.args.out.now.items c.loop-table.out.items c.push_table.new.out.items (pieces (row_bytes s t c.index-tables-table.result) (count_of s t)) (table_bytes s c.args.tables.now) t c.loop-table.invariant
    c.in_ok-push_table.ensures
    (ap (λ (cs : List (List ℕ)). pieces (row_bytes s t cs) (count_of s t)) (read_back c.args.tables.now c.loop-table.table c.index-tables-table.result (omega (arith, has_table_at c.args.tables.now 44 c.requires.shaped last_read)) c.index-tables-table.is))
