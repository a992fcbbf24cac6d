use Rattle.cli_heaps.proofs.AcceptedLaws.{whole_root}
use Rattle.cli_heaps.proofs.heaps.Heaps.streams.Goals as goal

pub all_streams-requires-clause-whole : goal.all_streams-requires-clause-whole
all_streams-requires-clause-whole c = whole_root c.self.inside.meta.now c.self.inside.assembly c.self.invariant.accepted
