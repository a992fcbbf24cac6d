use Rattle.std.proofs.Common.{◌+◌, ◌-◌, ◌*◌, ◌++◌, arith, refl}
use Rattle.pe_image.specs.Headers.{headers_size}
use Rattle.pe_image.specs.Written.{moved_headers}
use Rattle.pe_image.proofs.SectionLaws.{left, each_within}
use Rattle.pe_image.proofs.WrittenLaws.{table_on, table_done}
use Rattle.pe_image.proofs.write.push_table.Goals as goal

pub push_moved-requires-clause-short : goal.push_moved-requires-clause-short
push_moved-requires-clause-short c = λ some.
    let h = c.args.headers.now in
    let b = c.args.bytes.now in
    let size = headers_size b h in
    let within = each_within b c.args.assembly size size h.sections h.count c.loop-i.i (h.sections + 40 * c.loop-i.i) c.requires.order.sections c.loop-i-test.true refl some in
    omega arith

pub loop-i-preserved : goal.loop-i-preserved
loop-i-preserved c =
    let h = c.args.headers.now in
    let b = c.args.bytes.now in
    let i = c.loop-i.i in
    let at = h.sections + 40 * i in
    let next = h.sections + 40 * (i + 1) in
    table_on b c.args.by at next (h.count - i) (h.count - (i + 1)) c.loop-i.out.items c.push_moved.new.out.items (c.args.out.now.items ++ moved_headers b c.args.by h.sections h.count) (left h.count i c.loop-i-test.true) (omega arith) c.in_ok-push_moved.ensures c.loop-i.invariant

pub returns : goal.returns
returns c =
    let h = c.args.headers.now in
    let b = c.args.bytes.now in
    table_done b c.args.by (h.sections + 40 * c.loop-i.i) (h.count - c.loop-i.i) c.loop-i.out.items (c.args.out.now.items ++ moved_headers b c.args.by h.sections h.count) (omega arith) c.loop-i.invariant
