use Rattle.std.proofs.Common.{◌≡◌, ◌++◌, drop}
use Rattle.run_frames.proofs.frames.copied_tys.Given as goal

abbrev pub invariant-loop-ty : goal.invariant-loop-ty
invariant-loop-ty l = l.copies ++ drop l.ty-index l.tys ≡ l.tys
