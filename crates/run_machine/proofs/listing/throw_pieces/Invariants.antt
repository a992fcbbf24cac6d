use Rattle.std.proofs.Common.{◌≡◌, ◌++◌, filter, drop}
use Rattle.cil_semantics.specs.Contracted.{is_throws}
use Rattle.run_machine.proofs.listing.throw_pieces.Given as goal

abbrev pub invariant-loop-piece : goal.invariant-loop-piece
invariant-loop-piece l = l.group.items ++ filter is_throws (drop l.piece-index l.pieces) ≡ filter is_throws l.pieces
