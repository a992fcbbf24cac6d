use Rattle.cli_tables.proofs.StreamLaws.{byte_at}
use Rattle.cli_tables.proofs.sizes.heap_sizes_of.Goals as goal

pub returns : goal.returns
returns c = byte_at c.args.stream.now 6
