use Rattle.std.proofs.Common.{◌≡◌, ◌-◌}
use Rattle.std.specs.Fn.{iterate}
use Rattle.contract_parts.specs.Closures.{with_inner, needed}
use Rattle.contract_parts.proofs.setup.Closures.needed.Given as goal

abbrev pub invariant-loop-pass : goal.invariant-loop-pass
invariant-loop-pass l = iterate (with_inner l.self) (l.passes - l.pass) l.all.items ≡ needed l.self l.locals
