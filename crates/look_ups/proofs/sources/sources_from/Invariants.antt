use Rattle.std.proofs.Common.{◌≡◌, ◌++◌, drop}
use Rattle.std.specs.Prelude.{map}
use Rattle.look_ups.specs.Sources.{source_of}
use Rattle.look_ups.proofs.sources.sources_from.Given as goal

abbrev pub invariant-loop-seen : goal.invariant-loop-seen
invariant-loop-seen l = l.sources ++ map source_of (drop l.seen-index l.found) ≡ map source_of l.found
