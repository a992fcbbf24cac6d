use Rattle.std.proofs.Common.{◌+◌, ◌*◌}
use Rattle.member_numbers.proofs.arguments.+arguments.Given as goal

abbrev pub decreases-arguments_within : goal.decreases-arguments_within
decreases-arguments_within l = 3 * l.depth

abbrev pub decreases-coded_arguments : goal.decreases-coded_arguments
decreases-coded_arguments l = 3 * l.depth + 1

abbrev pub decreases-layer_arguments : goal.decreases-layer_arguments
decreases-layer_arguments l = 3 * l.depth + 2
