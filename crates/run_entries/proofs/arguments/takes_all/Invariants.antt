use Rattle.std.proofs.Common.{◌≡◌, drop}
use Rattle.cil_semantics.specs.Outside.{all_fit}
use Rattle.run_entries.specs.Entries.{takes}
use Rattle.run_entries.proofs.arguments.takes_all.Given as goal

abbrev pub invariant-loop-k : goal.invariant-loop-k
invariant-loop-k l = all_fit (takes l.program) (drop l.k l.tys) (drop l.k l.values) ≡ all_fit (takes l.program) l.tys l.values
