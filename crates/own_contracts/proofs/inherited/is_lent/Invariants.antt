use Rattle.std.proofs.Common.{◌≡◌, drop}
use Rattle.cil_semantics.specs.Words.{any}
use Rattle.own_contracts.specs.Inherited.{lends}
use Rattle.own_contracts.proofs.inherited.is_lent.Given as goal

abbrev pub invariant-loop-source : goal.invariant-loop-source
invariant-loop-source l = any (lends l.contracts l.m) (drop l.source-index l.sources) ≡ any (lends l.contracts l.m) l.sources
