use Rattle.std.proofs.Common.{◌≡◌, ◌++◌, drop}
use Rattle.cil_semantics.specs.Contracted.{pieces_from}
use Rattle.run_machine.specs.Machines.{keeps}
use Rattle.run_machine.proofs.listing.kept_pieces.Given as goal

abbrev pub invariant-loop-clause : goal.invariant-loop-clause
invariant-loop-clause l =
    l.pieces.items ++ pieces_from (keeps l.settings l.visible) l.first_local l.first_captured (drop l.clause-index l.clauses)
    ≡ pieces_from (keeps l.settings l.visible) l.locals l.captured l.clauses
