use Rattle.std.proofs.Common.{◌≡◌, ◌++◌, drop}
use Rattle.run_statics.proofs.copies.append_copies.Given as goal

abbrev pub invariant-loop-statics : goal.invariant-loop-statics
invariant-loop-statics l = l.all ++ drop l.statics-index l.more ≡ l.fn.all ++ l.more
