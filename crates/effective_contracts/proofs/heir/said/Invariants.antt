use Rattle.std.proofs.Common.{◌≡◌, ◌++◌, drop}
use Rattle.std.specs.List.{enumerate_from, flat_map}
use Rattle.effective_contracts.specs.Effective.{said_by}
use Rattle.effective_contracts.proofs.heir.said.Given as goal

abbrev pub invariant-loop-source : goal.invariant-loop-source
invariant-loop-source l =
    (l.at ≡ l.source-index)
    × (l.out ++ flat_map (said_by l.program l.own l.m l.given) (enumerate_from l.source-index (drop l.source-index l.sources))
    ≡ flat_map (said_by l.program l.own l.m l.given) (enumerate_from 0 l.sources))
