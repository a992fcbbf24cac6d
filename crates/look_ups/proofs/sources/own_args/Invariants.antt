use Rattle.std.proofs.Common.{◌≡◌}
use Rattle.std.specs.Prelude.{map}
use Rattle.std.specs.List.{range_with_len}
use Rattle.cil_model.specs.declared.ty.Ty.TheVariants.{Var}
use Rattle.look_ups.proofs.sources.own_args.Given as goal

abbrev pub invariant-loop-k : goal.invariant-loop-k
invariant-loop-k l = l.args ≡ map Var (range_with_len 0 l.k)
