use Rattle.std.proofs.Common.{◌≡◌, drop}
use Rattle.cil_semantics.specs.Words.{any}
use Rattle.cil_semantics.specs.Types.{has_parameter}
use Rattle.look_ups.proofs.types.+parameter.Given as goal

abbrev pub invariant-have_parameter-loop-ty : goal.invariant-have_parameter-loop-ty
invariant-have_parameter-loop-ty l = any has_parameter (drop l.ty-index l.tys) ≡ any has_parameter l.tys
