use Rattle.std.proofs.Common.{◌≡◌, length}
use Rattle.std.specs.Prelude.{reverse}
use Rattle.cil_semantics.specs.Lookups.{chain}
use Rattle.cil_semantics.specs.Dispatch.{overriders}
use Rattle.look_ups.proofs.dispatch.add_overriders.Given as goal

abbrev pub invariant-loop-ty : goal.invariant-loop-ty
invariant-loop-ty l = overriders l.program (reverse l.left) l.seen ≡ overriders l.program (reverse (chain l.program l.fn.ty)) l.fn.seen

abbrev pub decreases-loop-ty : goal.decreases-loop-ty
decreases-loop-ty l = length l.left
