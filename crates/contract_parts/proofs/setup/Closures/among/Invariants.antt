use Rattle.std.proofs.Common.{◌≡◌, ◌++◌, drop}
use Rattle.std.specs.Prelude.{filter}
use Rattle.contract_parts.specs.Closures.{is_among, closures}
use Rattle.contract_parts.proofs.setup.Closures.among.Given as goal

abbrev pub invariant-loop-one : goal.invariant-loop-one
invariant-loop-one l = l.among.items ++ filter (is_among l.locals) (drop l.one-index l.closures) ≡ filter (is_among l.locals) (closures l.self)
