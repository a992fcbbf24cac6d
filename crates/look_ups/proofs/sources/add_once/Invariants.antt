use Rattle.std.proofs.Common.{◌≡◌, drop}
use Rattle.look_ups.specs.Sources.{once}
use Rattle.look_ups.proofs.sources.add_once.Given as goal

abbrev pub invariant-loop-seen : goal.invariant-loop-seen
invariant-loop-seen l = once l.found (drop l.seen-index l.more) ≡ once l.fn.found l.more
