use Rattle.std.proofs.Common.{◌≡◌, ◌++◌, drop}
use Rattle.cil_semantics.specs.Lookups.{args_of}
use Rattle.look_ups.proofs.sources.copied_args.Given as goal

abbrev pub invariant-loop-arg : goal.invariant-loop-arg
invariant-loop-arg l = l.args ++ drop l.arg-index (args_of l.ty) ≡ args_of l.ty
