use Rattle.std.proofs.Common.{length, take}
use Rattle.region_tree.specs.Marks.{AreMarks}
use Rattle.region_tree.proofs.marks.mark_regions.Given as goal

abbrev pub invariant-loop-region : goal.invariant-loop-region
invariant-loop-region l = AreMarks (take l.region-index l.regions) (length l.fn.marks) l.marks
