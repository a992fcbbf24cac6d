use Rattle.std.proofs.Common.{◌≡◌, drop}
use Rattle.cil_semantics.specs.Unwind.{find_statics}
use Rattle.run_places.proofs.statics.statics_of.Given as goal

abbrev pub invariant-loop-statics : goal.invariant-loop-statics
invariant-loop-statics l = find_statics l.ty (drop l.statics-index l.statics-items) ≡ find_statics l.ty l.statics-items
