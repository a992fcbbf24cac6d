use Rattle.std.proofs.Common.{◌≡◌, ◌++◌, drop}
use Rattle.cil_semantics.specs.Contracted.{captures_from}
use Rattle.run_machine.proofs.listing.push_olds.Given as goal

abbrev pub invariant-loop-old : goal.invariant-loop-old
invariant-loop-old l = l.out.items ++ captures_from l.piece l.number (drop l.old-index l.olds) ≡ l.initial.out.items ++ captures_from l.piece l.piece.first_captured l.olds
