use Rattle.std.proofs.Common.{◌≡◌, drop}
use Rattle.std.specs.Prelude.{map}
use Rattle.std.specs.List.{enumerate_from}
use Rattle.il_flow.specs.Lowest.{lowest}
use Rattle.region_tree.specs.Rules.{end_test}
use Rattle.region_tree.proofs.rules.end_fault.Given as goal

abbrev pub invariant-loop-k : goal.invariant-loop-k
invariant-loop-k l = lowest l.best (map (end_test l.place l.body) (enumerate_from l.k (drop l.k l.body.instrs))) ≡ lowest l.fn.first (map (end_test l.place l.body) (enumerate_from 0 l.body.instrs))
