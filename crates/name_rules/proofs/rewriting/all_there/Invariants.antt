use Rattle.std.proofs.Common.{◌≡◌, drop}
use Rattle.std.specs.Prelude.{map}
use Rattle.name_rules.specs.NameTests.{all_there}
use Rattle.name_rules.proofs.rewriting.all_there.Given as goal

-- what is left of the names
abbrev pub invariant-loop-name : goal.invariant-loop-name
invariant-loop-name l = all_there l.set (map (λ n. n.now) (drop l.name-index l.names)) ≡ all_there l.set (map (λ n. n.now) l.names)
