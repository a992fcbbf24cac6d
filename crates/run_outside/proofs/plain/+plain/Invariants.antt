use Rattle.std.proofs.Common.{◌≡◌, drop}
use Rattle.cil_semantics.specs.Words.{all}
use Rattle.cil_semantics.specs.Outside.{is_plain}
use Rattle.run_outside.proofs.plain.+plain.Given as goal

abbrev pub invariant-are_plain-loop-v : goal.invariant-are_plain-loop-v
invariant-are_plain-loop-v l = all (is_plain l.world) (drop l.v-index l.values) ≡ all (is_plain l.world) l.values
