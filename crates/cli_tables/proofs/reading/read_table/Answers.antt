use Rattle.std.proofs.Common.{arith}
use Rattle.cli_tables.proofs.ReadingLaws.{read_columns, found, cut, clean}
use Rattle.cli_tables.proofs.reading.read_table.Goals as goal

pub first_in_table-requires : goal.first_in_table-requires
first_in_table-requires c k lt = read_columns c.args.stream.now c.args.sizes.now c.args.table c.args.start c.whole_rows-rows.result k c.in_ok-read.read c.in_ok-read.ensures lt

pub returns-in-Some-clause-refused : goal.returns-in-Some-clause-refused
returns-in-Some-clause-refused c =
    found c.args.heaps.now.bytes c.args.stream.now c.args.sizes.now c.args.assembly c.args.table c.args.start c.whole_rows-rows.result c.row_width.result c.in_ok-read.read c.in-Some.refusal
    c.requires.sizes c.row_width.ensures.width c.requires.place c.requires.near c.whole_rows-rows.ensures.fit (omega (arith, c.whole_rows-rows.ensures.few, c.count-count.ensures)) c.in_ok-read.ensures c.in-Some.ensures

pub returns-then-rows-count-clause-refused : goal.returns-then-rows-count-clause-refused
returns-then-rows-count-clause-refused c =
    rw c.refusal.ensures (cut c.args.heaps.now.bytes c.args.stream.now c.args.sizes.now c.args.assembly c.args.table c.args.start c.whole_rows-rows.result c.row_width.result c.in_ok-read.read
    c.requires.sizes c.row_width.ensures.width c.requires.place c.requires.near c.whole_rows-rows.ensures.fit (omega (arith, c.if-rows-count.true, c.count-count.ensures)) (c.whole_rows-rows.ensures.most c.if-rows-count.true) c.in_ok-read.ensures c.in_default.ensures)

pub returns-clause-clean : goal.returns-clause-clean
returns-clause-clean c =
    clean c.args.heaps.now.bytes c.args.stream.now c.args.sizes.now c.args.assembly c.args.table c.args.start c.whole_rows-rows.result c.row_width.result c.in_ok-read.read
    c.requires.sizes c.row_width.ensures.width c.requires.place c.requires.near c.whole_rows-rows.ensures.fit (omega (arith, c.if-rows-count.false, c.whole_rows-rows.ensures.few, c.count-count.ensures)) c.in_ok-read.ensures c.in_default.ensures
