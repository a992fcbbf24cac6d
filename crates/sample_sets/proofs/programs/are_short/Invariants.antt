-- No file that was passed is too long.
use Rattle.std.proofs.Common.{ℕ, [], ◌<◌, ◌^◌, length}
use Rattle.std.specs.Prelude.{get_or}
use Rattle.sample_sets.proofs.programs.are_short.Given as goal

abbrev pub invariant-loop-file : goal.invariant-loop-file
invariant-loop-file l = (a : ℕ) → a < l.file-index → length (get_or l.files a []) < 2 ^ 32
