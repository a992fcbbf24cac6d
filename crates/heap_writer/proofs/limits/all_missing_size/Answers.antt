use Rattle.heap_writer.proofs.LimitLaws.{missing_sum}
use Rattle.heap_writer.proofs.limits.all_missing_size.Goals as goal

pub returns-clause-size : goal.returns-clause-size
returns-clause-size c tables =
    missing_sum c.args.heaps.now.bytes c.args.grown.now tables c.strings.result.now c.user_strings.result.now c.blobs.result.now c.strings_added.result.now c.user_strings_added.result.now c.blobs_added.result.now
    c.missing_size.result c.missing_size-2.result c.missing_size-3.result c.strings.ensures c.user_strings.ensures c.blobs.ensures c.strings_added.ensures.added c.user_strings_added.ensures.added c.blobs_added.ensures.added
    c.missing_size.ensures.size c.missing_size-2.ensures.size c.missing_size-3.ensures.size
