use Rattle.std.proofs.Common.{ℕ, ◌≡◌, ◌++◌, drop}
use Rattle.cil_semantics.specs.Frames.{types_of_refs}
use Rattle.cil_semantics.specs.Tokens.{Here}
use Rattle.run_tokens.proofs.references.push_ref_types.Given as goal

abbrev pub invariant-loop-reference : goal.invariant-loop-reference
invariant-loop-reference l =
    (number method : ℕ) →
    let here : Here = record { number = number; method = method; type_args = l.given.type_args.now; method_args = l.given.method_args.now } in
    l.tys ++ types_of_refs l.program here (drop l.reference-index l.references) ≡ l.initial.tys ++ types_of_refs l.program here l.references
