use Rattle.std.proofs.Common.{◌≡◌, drop}
use Rattle.cil_semantics.specs.Dispatch.{owner_among}
use Rattle.look_ups.proofs.slots.seen_among.Given as goal

abbrev pub invariant-loop-ty : goal.invariant-loop-ty
invariant-loop-ty l = owner_among l.program l.method (drop l.ty-index l.links) ≡ owner_among l.program l.method l.links
