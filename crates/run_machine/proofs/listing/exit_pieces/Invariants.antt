use Rattle.std.proofs.Common.{◌≡◌, ◌++◌, filter, drop}
use Rattle.cil_semantics.specs.Contracted.{is_ensures}
use Rattle.run_machine.proofs.listing.exit_pieces.Given as goal

abbrev pub invariant-loop-piece : goal.invariant-loop-piece
invariant-loop-piece l = l.group.items ++ filter is_ensures (drop l.piece-index l.pieces) ≡ filter is_ensures l.pieces
