use Rattle.std.proofs.Common.{◌≡◌, ◌++◌, drop, map}
use Rattle.cil_semantics.specs.Places.{default_cell}
use Rattle.run_outside.proofs.fresh.add_defaults.Given as goal

abbrev pub invariant-loop-ty : goal.invariant-loop-ty
invariant-loop-ty l = l.cells ++ map (default_cell l.program) (drop l.ty-index l.tys) ≡ l.fn.cells ++ map (default_cell l.program) l.tys
