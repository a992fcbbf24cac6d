use Rattle.cli_tables.proofs.GrowthLaws.{undone_at}
use Rattle.cli_tables.proofs.table.push_row.Goals as goal

pub returns-in-Err-clause-err : goal.returns-in-Err-clause-err
returns-in-Err-clause-err c =
    undone_at c.args.columns.now.items c.loop-k.columns.items c.pop_row.new.columns.items c.args.cells.now c.loop-k.k c.push.new.self c.index_mut.result.now
    c.loop-k.invariant c.in-Err.ensures.err c.index_mut.ensures.value c.pop_row.ensures
