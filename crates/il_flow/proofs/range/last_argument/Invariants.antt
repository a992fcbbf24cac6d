use Rattle.std.proofs.Common.{◌≡◌, ◌≤◌}
use Rattle.il_flow.specs.Effects.{effect_of}
use Rattle.il_flow.specs.Ranges.{is_argument, last_below}
use Rattle.il_flow.proofs.range.last_argument.Given as goal

abbrev pub invariant-loop-left : goal.invariant-loop-left
invariant-loop-left l = record {
  below : l.left ≤ l.to;
  found : last_below (λ from. is_argument (effect_of l.program l.own) l.heights l.body from l.to) l.left
      ≡ last_below (λ from. is_argument (effect_of l.program l.own) l.heights l.body from l.to) l.to;
}

abbrev pub decreases-loop-left : goal.decreases-loop-left
decreases-loop-left l = l.left
