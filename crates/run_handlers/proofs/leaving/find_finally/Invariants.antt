use Rattle.std.proofs.Common.{◌≡◌, drop}
use Rattle.cil_semantics.specs.Unwind.{left_from}
use Rattle.run_handlers.proofs.leaving.find_finally.Given as goal

abbrev pub invariant-loop-k : goal.invariant-loop-k
invariant-loop-k l = left_from 0 l.k l.q l.t (drop l.k l.regions) ≡ left_from l.skip 0 l.q l.t l.regions
