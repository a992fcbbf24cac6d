use Rattle.std.proofs.Common.{◌∙◌, ◌+◌, ◌≤◌, length, arith}
use Rattle.cli_tables.specs.Stream.{sizes_of}
use Rattle.cli_tables.proofs.StreamLaws.{bytes_below_none}
use Rattle.cli_tables.proofs.ReadingLaws.{none_below_more, refused_of_all, none_at_all, tables_push, next_start, next_within}
use Rattle.cli_tables.proofs.reading.read_tables.Goals as goal

pub loop-table-init : goal.loop-table-init
loop-table-init c = record {
  read = c.new-tables.ensures.items;
  place = omega (arith, c.rows_start_of-start.ensures.start, bytes_below_none (sizes_of c.args.stream.now));
  near = omega (arith, c.rows_start_of-start.ensures.start, c.requires.whole);
  clean = λ q h lt. absurd (omega arith);
}

pub returns-in-Err-clause-refused : goal.returns-in-Err-clause-refused
returns-in-Err-clause-refused c = refused_of_all c.args.heaps.now.bytes c.args.stream.now c.args.assembly c.loop-table.table c.in-Err.fault c.loop-table.invariant.clean c.in-Err.ensures.refused

pub overflow_add-start : goal.overflow_add-start
overflow_add-start c =
    let e : c.loop-table.start + c.table_bytes-start.result ≤ length c.args.stream.now =
    next_within c.args.stream.now c.args.sizes.now c.loop-table.table c.loop-table.start c.table_bytes-start.result c.requires.sizes c.loop-table.invariant.place c.table_bytes-start.ensures.size c.in-Ok.ensures.within in
    omega (arith, e, c.requires.short)

pub loop-table-preserved : goal.loop-table-preserved
loop-table-preserved c =
    let t = c.loop-table.table in
    record {
      read = c.in_ok-push.ensures ∙ tables_push c.args.stream.now t c.loop-table.tables.items c.in-Ok.read c.loop-table.invariant.read c.in-Ok.ensures.ok;
      place = next_start c.args.stream.now c.args.sizes.now t c.loop-table.start c.table_bytes-start.result c.requires.sizes c.loop-table.invariant.place c.table_bytes-start.ensures.size;
      near = next_within c.args.stream.now c.args.sizes.now t c.loop-table.start c.table_bytes-start.result c.requires.sizes c.loop-table.invariant.place c.table_bytes-start.ensures.size c.in-Ok.ensures.within;
      clean = none_below_more c.args.heaps.now.bytes c.args.stream.now c.args.assembly t c.loop-table.invariant.clean c.in-Ok.ensures.clean;
    }

pub returns-clause-clean : goal.returns-clause-clean
returns-clause-clean c = none_at_all c.args.heaps.now.bytes c.args.stream.now c.args.assembly c.loop-table.table (omega arith) c.loop-table.invariant.clean
