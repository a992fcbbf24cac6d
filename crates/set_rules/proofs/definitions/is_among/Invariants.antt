use Rattle.std.proofs.Common.{◌≡◌, drop}
use Rattle.std.specs.Prelude.{map, bytes_eq}
use Rattle.set_names.specs.Cycles.{any}
use Rattle.set_rules.proofs.definitions.is_among.Given as goal

-- what is left of the names
abbrev pub invariant-loop-other : goal.invariant-loop-other
invariant-loop-other l = any (bytes_eq l.name) (map (λ n. n.now) (drop l.other-index l.names)) ≡ any (bytes_eq l.name) (map (λ n. n.now) l.names)
