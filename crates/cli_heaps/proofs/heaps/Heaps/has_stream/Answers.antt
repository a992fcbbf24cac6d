use Rattle.cli_heaps.proofs.AcceptedLaws.{whole_root}
use Rattle.cli_heaps.proofs.heaps.Heaps.has_stream.Goals as goal

pub find_stream-requires-clause-whole : goal.find_stream-requires-clause-whole
find_stream-requires-clause-whole c = whole_root c.self.inside.meta.now c.self.inside.assembly c.self.invariant.accepted
