use Rattle.std.proofs.Common.{◌≡◌, ◌++◌, drop}
use Rattle.cil_semantics.specs.Dispatch.{bodies_in}
use Rattle.look_ups.proofs.dispatch.bodies_in.Given as goal

abbrev pub invariant-loop-one : goal.invariant-loop-one
invariant-loop-one l = l.found ++ bodies_in l.program (drop l.one-index l.seen) l.ty ≡ bodies_in l.program l.seen l.ty
