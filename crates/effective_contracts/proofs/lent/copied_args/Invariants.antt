use Rattle.std.proofs.Common.{◌≡◌, ◌++◌, drop}
use Rattle.effective_contracts.proofs.lent.copied_args.Given as goal

abbrev pub invariant-loop-arg : goal.invariant-loop-arg
invariant-loop-arg l =
    l.out ++ drop l.arg-index l.args ≡ l.args
