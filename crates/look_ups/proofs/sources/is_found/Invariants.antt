use Rattle.std.proofs.Common.{◌≡◌, drop}
use Rattle.cil_semantics.specs.Dispatch.{same_seen}
use Rattle.cil_semantics.specs.Words.{any}
use Rattle.look_ups.proofs.sources.is_found.Given as goal

abbrev pub invariant-loop-other : goal.invariant-loop-other
invariant-loop-other l = any (same_seen l.seen) (drop l.other-index l.found) ≡ any (same_seen l.seen) l.found
