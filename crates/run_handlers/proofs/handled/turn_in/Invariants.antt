use Rattle.std.proofs.Common.{◌≡◌, ◌++◌, length, reverse}
use Rattle.std.specs.Prelude.{filter}
use Rattle.cil_semantics.specs.Unwind.{in_handler}
use Rattle.run_handlers.proofs.handled.turn_in.Given as goal

abbrev pub invariant-loop-one : goal.invariant-loop-one
invariant-loop-one l = filter (in_handler l.regions l.q) (reverse l.from) ++ l.to ≡ filter (in_handler l.regions l.q) (reverse l.fn.from) ++ l.fn.to

abbrev pub decreases-loop-one : goal.decreases-loop-one
decreases-loop-one l = length l.from
