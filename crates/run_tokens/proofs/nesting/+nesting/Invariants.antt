use Rattle.std.proofs.Common.{◌≡◌, ◌+◌, ◌*◌, drop}
use Rattle.std.specs.Prelude.{nat_le}
use Rattle.cil_semantics.specs.Types.{nesting}
use Rattle.cil_semantics.specs.Words.{all}
use Rattle.run_tokens.proofs.nesting.+nesting.Given as goal

abbrev pub decreases-nests_within : goal.decreases-nests_within
decreases-nests_within l = 2 * l.depth

abbrev pub decreases-all_nest_within : goal.decreases-all_nest_within
decreases-all_nest_within l = 2 * l.depth + 1

abbrev pub invariant-all_nest_within-loop-ty : goal.invariant-all_nest_within-loop-ty
invariant-all_nest_within-loop-ty l =
    all (λ t. nat_le (nesting t) l.depth) (drop l.ty-index l.tys) ≡ all (λ t. nat_le (nesting t) l.depth) l.tys
