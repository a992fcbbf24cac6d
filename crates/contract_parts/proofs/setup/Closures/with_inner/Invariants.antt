use Rattle.std.proofs.Common.{◌≡◌, ◌++◌, drop}
use Rattle.std.specs.Prelude.{filter}
use Rattle.contract_parts.specs.Closures.{is_with, with_inner}
use Rattle.contract_parts.proofs.setup.Closures.with_inner.Given as goal

abbrev pub invariant-loop-inner : goal.invariant-loop-inner
invariant-loop-inner l = l.all.items ++ filter (is_with l.self l.made) (drop l.inner-index l.closures) ≡ with_inner l.self l.made
