-- Numbers of clauses stay below a bound.
use Rattle.std.proofs.Common.{ℕ, ◌+◌, ◌≤◌, ◌≡◌, arith, subst, sym}
use Rattle.cil_model.specs.declared.contract.ClauseKind.{ClauseKind}
use Rattle.cil_model.specs.declared.contract.ClauseKind.TheVariants as kind
use Rattle.contract_extract.specs.declared.numbers.Numbers.{Numbers}
use Rattle.contract_extract.specs.Clauses.{number_of, one_more}

-- no word has more clauses than this
pub record AtMost (n : ℕ) (x : Numbers) : Type 0 where
  pub preconditions : x.preconditions ≤ n
  pub postconditions : x.postconditions ≤ n
  pub throws : x.throws ≤ n
  pub invariants : x.invariants ≤ n
  pub asserts : x.asserts ≤ n
  pub assumes : x.assumes ≤ n

pub number_of_at_most : (n : ℕ) (x : Numbers) (k : ClauseKind) → AtMost n x → number_of x k ≤ n
number_of_at_most n x kind.Requires h = h.preconditions
number_of_at_most n x kind.RequiresOf h = h.preconditions
number_of_at_most n x kind.Ensures h = h.postconditions
number_of_at_most n x kind.Throws h = h.throws
number_of_at_most n x kind.Invariant h = h.invariants
number_of_at_most n x kind.Assert h = h.asserts
number_of_at_most n x kind.Assume h = h.assumes

pub one_more_at_most : (n : ℕ) (x : Numbers) (k : ClauseKind) → AtMost n x → AtMost (n + 1) (one_more x k)
one_more_at_most n x kind.Requires h = record { preconditions = omega (arith, h.preconditions); postconditions = omega (arith, h.postconditions); throws = omega (arith, h.throws); invariants = omega (arith, h.invariants); asserts = omega (arith, h.asserts); assumes = omega (arith, h.assumes) }
one_more_at_most n x kind.RequiresOf h = record { preconditions = omega (arith, h.preconditions); postconditions = omega (arith, h.postconditions); throws = omega (arith, h.throws); invariants = omega (arith, h.invariants); asserts = omega (arith, h.asserts); assumes = omega (arith, h.assumes) }
one_more_at_most n x kind.Ensures h = record { preconditions = omega (arith, h.preconditions); postconditions = omega (arith, h.postconditions); throws = omega (arith, h.throws); invariants = omega (arith, h.invariants); asserts = omega (arith, h.asserts); assumes = omega (arith, h.assumes) }
one_more_at_most n x kind.Throws h = record { preconditions = omega (arith, h.preconditions); postconditions = omega (arith, h.postconditions); throws = omega (arith, h.throws); invariants = omega (arith, h.invariants); asserts = omega (arith, h.asserts); assumes = omega (arith, h.assumes) }
one_more_at_most n x kind.Invariant h = record { preconditions = omega (arith, h.preconditions); postconditions = omega (arith, h.postconditions); throws = omega (arith, h.throws); invariants = omega (arith, h.invariants); asserts = omega (arith, h.asserts); assumes = omega (arith, h.assumes) }
one_more_at_most n x kind.Assert h = record { preconditions = omega (arith, h.preconditions); postconditions = omega (arith, h.postconditions); throws = omega (arith, h.throws); invariants = omega (arith, h.invariants); asserts = omega (arith, h.asserts); assumes = omega (arith, h.assumes) }
one_more_at_most n x kind.Assume h = record { preconditions = omega (arith, h.preconditions); postconditions = omega (arith, h.postconditions); throws = omega (arith, h.throws); invariants = omega (arith, h.invariants); asserts = omega (arith, h.asserts); assumes = omega (arith, h.assumes) }
