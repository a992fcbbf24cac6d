use Rattle.std.proofs.Common.{◌≡◌, ◌+◌, ◌-◌, ◌*◌}
use Rattle.cli_sigs.specs.declared.elements.Slot.TheVariants.{Param}
use Rattle.cli_sigs.specs.Read.{many, with_front}
use Rattle.cli_sigs.specs.Reading.{type_at, open_params}
use Rattle.cli_sigs.proofs.Loops.{with_params}
use Rattle.cli_sigs.proofs.reading.+reader.Given as goal

abbrev pub decreases-type_of : goal.decreases-type_of
decreases-type_of l = 8 * l.depth

abbrev pub decreases-boxed : goal.decreases-boxed
decreases-boxed l = 8 * l.depth + 1

abbrev pub decreases-more_types : goal.decreases-more_types
decreases-more_types l = 8 * l.depth + 1

abbrev pub decreases-types_of : goal.decreases-types_of
decreases-types_of l = 8 * l.depth + 2

abbrev pub decreases-array_of : goal.decreases-array_of
decreases-array_of l = 8 * l.depth + 2

abbrev pub decreases-inst_of : goal.decreases-inst_of
decreases-inst_of l = 8 * l.depth + 3

abbrev pub decreases-open_params : goal.decreases-open_params
decreases-open_params l = 8 * l.depth + 2

abbrev pub decreases-read_params : goal.decreases-read_params
decreases-read_params l = 8 * l.depth + 3

abbrev pub decreases-method_of : goal.decreases-method_of
decreases-method_of l = 8 * l.depth + 4

abbrev pub decreases-after : goal.decreases-after
decreases-after l = 8 * l.depth + 5

abbrev pub invariant-more_types-loop : goal.invariant-more_types-loop
invariant-more_types-loop l = with_front l.types (many (l.count - l.counter) (type_at l.depth l.slot) l.rest) ≡ with_front l.fn.types (many l.count (type_at l.depth l.slot) l.bytes)

abbrev pub invariant-open_params-loop-k : goal.invariant-open_params-loop-k
invariant-open_params-loop-k l = with_params l.types (open_params (type_at l.depth Param) l.k (l.count - l.k) l.rest) ≡ open_params (type_at l.depth Param) 0 l.count l.bytes
