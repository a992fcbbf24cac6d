use Rattle.std.proofs.Common.{◌+◌, ◌*◌, take}
use Rattle.cli_sigs.specs.Grammar.{IsTypeBy, Each, Adds}
use Rattle.cli_sigs.specs.Numbers.{Shortest}
use Rattle.cli_sigs.proofs.printing.+printer.Given as goal

abbrev pub decreases-push_type : goal.decreases-push_type
decreases-push_type l = 6 * l.depth

abbrev pub decreases-push_each_type : goal.decreases-push_each_type
decreases-push_each_type l = 6 * l.depth + 1

abbrev pub decreases-push_types : goal.decreases-push_types
decreases-push_types l = 6 * l.depth + 2

abbrev pub decreases-push_params : goal.decreases-push_params
decreases-push_params l = 6 * l.depth + 2

abbrev pub decreases-push_method : goal.decreases-push_method
decreases-push_method l = 6 * l.depth + 3

abbrev pub decreases-push_behind : goal.decreases-push_behind
decreases-push_behind l = 6 * l.depth + 4

abbrev pub decreases-push_form : goal.decreases-push_form
decreases-push_form l = 6 * l.depth + 5

abbrev pub invariant-push_each_type-loop-ty : goal.invariant-push_each_type-loop-ty
invariant-push_each_type-loop-ty l = Adds (Each (IsTypeBy Shortest l.depth l.slot)) l.fn.out.items l.out.items (take l.ty-index l.types)
