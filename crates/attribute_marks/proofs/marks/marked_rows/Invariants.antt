use Rattle.std.proofs.Common.{◌≡◌, ◌-◌, get_or}
use Rattle.std.specs.Prelude.{map, None}
use Rattle.std.specs.List.{range_with_len}
use Rattle.set_names.specs.Names.{is_name}
use Rattle.attribute_marks.specs.Marks.{marked_row}
use Rattle.attribute_marks.proofs.marks.marked_rows.Given as goal

abbrev pub invariant-loop-k : goal.invariant-loop-k
invariant-loop-k l = l.rows.items ≡ map (λ k. marked_row l.part (is_name l.name (get_or l.names (k - 1) None)) l.tag k) (range_with_len 1 l.k)
