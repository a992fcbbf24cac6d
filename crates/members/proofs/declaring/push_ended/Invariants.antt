use Rattle.std.proofs.Common.{◌≡◌, ◌++◌, drop}
use Rattle.members.specs.Keys.{ended_list}
use Rattle.members.proofs.declaring.push_ended.Given as goal

-- what is left of the list
abbrev pub invariant-loop-n : goal.invariant-loop-n
invariant-loop-n l = l.initial.key.items ++ ended_list l.list ≡ l.key.items ++ ended_list (drop l.n-index l.list)
