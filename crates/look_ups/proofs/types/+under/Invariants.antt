use Rattle.std.proofs.Common.{◌≡◌, ◌++◌, drop}
use Rattle.cil_semantics.specs.Types.{all_under}
use Rattle.look_ups.proofs.types.+under.Given as goal

abbrev pub invariant-all_under-loop-ty : goal.invariant-all_under-loop-ty
invariant-all_under-loop-ty l = l.found ++ all_under l.type_args l.method_args (drop l.ty-index l.tys) ≡ all_under l.type_args l.method_args l.tys
