use Rattle.std.proofs.Common.{◌≡◌, ◌++◌, drop}
use Rattle.std.specs.Prelude.{map}
use Rattle.attribute_marks.specs.Marks.{around}
use Rattle.attribute_marks.proofs.enclosing.all_around.Given as goal

-- what is left of the rows
abbrev pub invariant-loop-k : goal.invariant-loop-k
invariant-loop-k l = l.all.items ++ map (around l.rows) (drop l.k-index l.firsts) ≡ map (around l.rows) l.firsts
