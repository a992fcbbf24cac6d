use Rattle.std.proofs.Common.{◌≡◌, ◌==◌, drop}
use Rattle.cil_semantics.specs.Words.{any}
use Rattle.member_access.specs.Access.{has_base}
use Rattle.member_access.proofs.reader.has_base.Given as goal

abbrev pub invariant-loop-base : goal.invariant-loop-base
invariant-loop-base l = any (λ b. b == l.k) (drop l.base-index l.reader.bases) ≡ has_base l.reader l.k
