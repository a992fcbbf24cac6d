use Rattle.std.proofs.Common.{◌≡◌, ◌++◌, drop}
use Rattle.clause_expansion.specs.Labels.{labels_from, all_more}
use Rattle.clause_expansion.proofs.labels.labels_from.Given as goal

abbrev pub invariant-loop-kind : goal.invariant-loop-kind
invariant-loop-kind l =
    (l.names ++ labels_from l.program l.method l.numbers (drop l.kind-index l.kinds)
    ≡ labels_from l.program l.method l.initial.numbers l.kinds)
    × (all_more l.numbers (drop l.kind-index l.kinds) ≡ all_more l.initial.numbers l.kinds)
