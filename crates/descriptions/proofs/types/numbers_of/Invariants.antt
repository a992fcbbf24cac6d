use Rattle.std.proofs.Common.{◌≡◌, ◌++◌, drop}
use Rattle.descriptions.specs.TypeFacts.{numbers_by}
use Rattle.descriptions.proofs.types.numbers_of.Given as goal

-- what is left of the rows
abbrev pub invariant-loop-row : goal.invariant-loop-row
invariant-loop-row l = l.found ++ numbers_by l.numbers (drop l.row-index l.list) ≡ numbers_by l.numbers l.list
