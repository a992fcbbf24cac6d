use Rattle.std.proofs.Common.{ℕ, ◌≡◌, ◌++◌, drop}
use Rattle.cil_semantics.specs.Frames.{types_of_refs}
use Rattle.cil_semantics.specs.Tokens.{Here}
use Rattle.run_frames.specs.Begun.{types_of_olds}
use Rattle.run_frames.proofs.types.push_olds.Given as goal

abbrev pub invariant-loop-old : goal.invariant-loop-old
invariant-loop-old l =
    (number method : ℕ) →
    let here : Here = record { number = number; method = method; type_args = l.given.type_args.now; method_args = l.given.method_args.now } in
    l.tys ++ types_of_refs l.program here (types_of_olds (drop l.old-index l.olds)) ≡ l.initial.tys ++ types_of_refs l.program here (types_of_olds l.olds)
