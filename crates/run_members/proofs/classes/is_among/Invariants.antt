use Rattle.std.proofs.Common.{ℕ, ◌≡◌, List, drop}
use Rattle.std.specs.Prelude.{map, bytes_eq}
use Rattle.cil_semantics.specs.Words.{any}
use Rattle.run_members.proofs.classes.is_among.Given as goal

-- what is left of the names
abbrev pub invariant-loop-other : goal.invariant-loop-other
invariant-loop-other l =
    any (λ (it : List ℕ). bytes_eq it l.name) (map (λ n. n.now) (drop l.other-index l.names)) ≡ any (λ (it : List ℕ). bytes_eq it l.name) (map (λ n. n.now) l.names)
