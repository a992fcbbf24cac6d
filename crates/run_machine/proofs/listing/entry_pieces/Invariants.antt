use Rattle.std.proofs.Common.{◌≡◌, ◌++◌, filter, drop}
use Rattle.cil_semantics.specs.Contracted.{each_captured, is_pre}
use Rattle.run_machine.proofs.listing.entry_pieces.Given as goal

abbrev pub invariant-loop-piece : goal.invariant-loop-piece
invariant-loop-piece l = l.group.items ++ filter is_pre (drop l.piece-index l.pieces) ≡ filter is_pre l.pieces

abbrev pub invariant-loop-piece-2 : goal.invariant-loop-piece-2
invariant-loop-piece-2 l = l.group.items ++ each_captured (drop l.piece-index l.pieces) ≡ filter is_pre l.pieces ++ each_captured l.pieces
