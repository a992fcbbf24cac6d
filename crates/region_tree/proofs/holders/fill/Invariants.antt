use Rattle.std.proofs.Common.{◌≡◌, ◌≤◌, ◌-◌, ◌⊎◌}
use Rattle.region_tree.specs.Holders.{Fills}
use Rattle.region_tree.proofs.holders.fill.Given as goal

abbrev pub invariant-loop-q : goal.invariant-loop-q
invariant-loop-q l = record {
  ahead : l.from ≤ l.q;
  near : (l.q ≤ l.end) ⊎ (l.q ≡ l.from);
  filled : Fills l.from l.q l.number l.fn.holders l.holders;
}

abbrev pub decreases-loop-q : goal.decreases-loop-q
decreases-loop-q l = l.end - l.q
