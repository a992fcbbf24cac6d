use Rattle.std.proofs.Common.{◌≡◌, ◌++◌, drop}
use Rattle.contract_extract.specs.Clauses.{counted, counted_from}
use Rattle.contract_extract.proofs.NumberLaws.{AtMost}
use Rattle.contract_extract.proofs.numbers.count_all.Given as goal

abbrev pub invariant-loop-one : goal.invariant-loop-one
invariant-loop-one l = record {
  few : AtMost l.one-index l.numbers;
  rest : l.out.items ++ counted_from l.numbers (drop l.one-index l.ended) ≡ counted l.ended;
}
