use Rattle.std.proofs.Common.{◌≡◌, ◌++◌, drop}
use Rattle.std.specs.Prelude.{map}
use Rattle.attribute_marks.specs.Firsts.{first_or_none}
use Rattle.attribute_marks.proofs.firsts.firsts.Given as goal

-- what is left of the lists
abbrev pub invariant-loop-list : goal.invariant-loop-list
invariant-loop-list l = l.firsts.items ++ map first_or_none (drop l.list-index l.lists) ≡ map first_or_none l.lists
