use Rattle.std.proofs.Common.{◌≡◌, drop}
use Rattle.cil_semantics.specs.Dispatch.{public_like}
use Rattle.cil_semantics.specs.Words.{first_some}
use Rattle.look_ups.proofs.slots.public_among.Given as goal

abbrev pub invariant-loop-ty : goal.invariant-loop-ty
invariant-loop-ty l = first_some (public_like l.program (l.owner, l.slot)) (drop l.ty-index l.tys) ≡ first_some (public_like l.program (l.owner, l.slot)) l.tys
