use Rattle.std.proofs.Common.{◌≡◌, length}
use Rattle.member_rules.specs.Parameters.{AreSetGenerics}
use Rattle.member_rules.proofs.generic_params.set_generics.Given as goal

abbrev pub invariant-loop-a : goal.invariant-loop-a
invariant-loop-a l = AreSetGenerics l.set l.counts.items × (length l.counts.items ≡ l.a)
