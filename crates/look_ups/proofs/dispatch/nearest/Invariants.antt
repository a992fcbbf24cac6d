use Rattle.std.proofs.Common.{◌≡◌, drop}
use Rattle.cil_semantics.specs.Dispatch.{nearest}
use Rattle.look_ups.proofs.dispatch.nearest.Given as goal

abbrev pub invariant-loop-ty : goal.invariant-loop-ty
invariant-loop-ty l = nearest l.program l.slot l.seen (drop l.ty-index l.links) ≡ nearest l.program l.slot l.seen l.links
