use Rattle.std.proofs.Common.{◌≡◌, drop}
use Rattle.std.specs.List.{list_any}
use Rattle.region_tree.specs.Nesting.{is_misplaced}
use Rattle.region_tree.proofs.nesting.is_misplaced_behind.Given as goal

abbrev pub invariant-loop-other : goal.invariant-loop-other
invariant-loop-other l = list_any (λ r. is_misplaced r l.region) (drop l.other-index l.earlier) ≡ list_any (λ r. is_misplaced r l.region) l.earlier
