use Rattle.std.proofs.Common.{◌≡◌, ◌-◌, length}
use Rattle.cil_semantics.specs.Contracted.{are_seen_within}
use Rattle.look_ups.proofs.visible.are_seen.Given as goal

abbrev pub invariant-loop-k : goal.invariant-loop-k
invariant-loop-k l = are_seen_within (length l.program.types - l.k) l.program l.at ≡ are_seen_within (length l.program.types) l.program l.ty
