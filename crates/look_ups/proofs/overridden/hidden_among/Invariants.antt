use Rattle.std.proofs.Common.{◌≡◌, drop}
use Rattle.cil_semantics.specs.Dispatch.{virtual_like}
use Rattle.cil_semantics.specs.Words.{first_some}
use Rattle.look_ups.proofs.overridden.hidden_among.Given as goal

abbrev pub invariant-loop-base : goal.invariant-loop-base
invariant-loop-base l = first_some (virtual_like l.program (l.own, l.method)) (drop l.base-index l.above) ≡ first_some (virtual_like l.program (l.own, l.method)) l.above
