use Rattle.std.proofs.Common.{◌≡◌, ◌∙◌, ap, arith}
use Rattle.cli_heaps.specs.Root.{stream_count}
use Rattle.cli_heaps.proofs.AcceptedLaws.{whole_root}
use Rattle.heap_writer.proofs.LimitLaws.{count_parts}
use Rattle.heap_writer.proofs.limits.stream_count.Goals as goal

pub first_header-count-requires : goal.first_header-count-requires
first_header-count-requires c = whole_root c.metadata.result.now c.args.heaps.now.assembly (rw c.metadata.ensures.bytes c.metadata.ensures.accepted)

pub returns : goal.returns
returns c tables =
    let count : c.first_header-count.result.1 ≡ stream_count c.args.heaps.now.bytes = c.first_header-count.ensures.count ∙ ap stream_count c.metadata.ensures.bytes in
    omega (arith, count, c.from.ensures, c.missing_count.ensures.count tables, count_parts c.args.heaps.now.bytes c.args.grown.now tables c.args.heaps.now.assembly c.metadata.ensures.accepted)
