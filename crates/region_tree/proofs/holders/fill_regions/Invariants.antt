use Rattle.std.proofs.Common.{◌≡◌, length, take}
use Rattle.region_tree.specs.Holders.{AreHolders, AreJumps}
use Rattle.region_tree.proofs.holders.fill_regions.Given as goal

abbrev pub invariant-loop-k : goal.invariant-loop-k
invariant-loop-k l = record {
  size : length l.jumps ≡ length l.holders;
  same : length l.holders ≡ length l.fn.holders;
  jumps : AreJumps l.holders l.jumps;
  held : AreHolders l.skip (take l.k l.regions) (length l.fn.holders) l.holders;
}
