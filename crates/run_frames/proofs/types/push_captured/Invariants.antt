use Rattle.std.proofs.Common.{ℕ, ◌≡◌, ◌++◌, drop}
use Rattle.cil_semantics.specs.Frames.{types_of_refs}
use Rattle.cil_semantics.specs.Tokens.{Here}
use Rattle.run_frames.specs.Begun.{old_types}
use Rattle.run_frames.proofs.types.push_captured.Given as goal

abbrev pub invariant-loop-piece : goal.invariant-loop-piece
invariant-loop-piece l =
    (number method : ℕ) →
    let here : Here = record { number = number; method = method; type_args = l.given.type_args.now; method_args = l.given.method_args.now } in
    l.tys ++ types_of_refs l.program here (old_types (drop l.piece-index l.pieces)) ≡ l.initial.tys ++ types_of_refs l.program here (old_types l.pieces)
