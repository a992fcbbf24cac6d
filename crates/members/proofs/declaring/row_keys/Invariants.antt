use Rattle.std.proofs.Common.{◌≡◌}
use Rattle.std.specs.Prelude.{map}
use Rattle.std.specs.List.{range_with_len}
use Rattle.set_types.specs.CodedTypes.{coded_of}
use Rattle.members.specs.MemberRows.{row_key}
use Rattle.members.proofs.declaring.row_keys.Given as goal

abbrev pub invariant-loop-k : goal.invariant-loop-k
invariant-loop-k l = l.keys.items ≡ map (row_key l.rows (coded_of l.coded) l.is_field) (range_with_len 1 l.k)
