use Rattle.std.proofs.Common.{◌≡◌, ◌+◌, drop}
use Rattle.std.specs.Option.{option_map}
use Rattle.body_splice.specs.Splice.{first_call}
use Rattle.body_splice.proofs.splice.first_requires.Given as goal

abbrev pub invariant-loop-k : goal.invariant-loop-k
invariant-loop-k l = option_map (λ j. l.k + j) (first_call (drop l.k l.instrs)) ≡ first_call l.instrs
