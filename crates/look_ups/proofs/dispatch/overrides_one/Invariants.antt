use Rattle.std.proofs.Common.{◌≡◌, drop}
use Rattle.cil_semantics.specs.Words.{any}
use Rattle.look_ups.specs.Overriding.{overrides_either}
use Rattle.look_ups.proofs.dispatch.overrides_one.Given as goal

abbrev pub invariant-loop-slot : goal.invariant-loop-slot
invariant-loop-slot l = any (overrides_either l.program (l.ty, l.method)) (drop l.slot-index l.seen) ≡ any (overrides_either l.program (l.ty, l.method)) l.seen
