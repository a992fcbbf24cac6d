use Rattle.std.proofs.Common.{◌≡◌, ◌++◌, take}
use Rattle.std.specs.List.{flat_map}
use Rattle.list_lines.specs.Lists.{clause_line}
use Rattle.list_lines.proofs.lines.push_clauses.Given as goal

abbrev pub invariant-loop-clause : goal.invariant-loop-clause
invariant-loop-clause l = l.out ≡ l.initial.out ++ flat_map clause_line (take l.clause-index l.clauses)
