use Rattle.std.proofs.Common.{◌+◌, ◌*◌, ◌-◌, length}
use Rattle.run_places.proofs.paths.+paths.Given as goal

abbrev pub decreases-written_from : goal.decreases-written_from
decreases-written_from l = 2 * (length l.path.now - l.from) + 1

abbrev pub decreases-written_in_part : goal.decreases-written_in_part
decreases-written_in_part l = 2 * (length l.path.now - l.from)
