use Rattle.std.proofs.Common.{◌≡◌, ◌+◌, ◌++◌}
use Rattle.std.specs.Prelude.{map}
use Rattle.std.specs.List.{range_with_len}
use Rattle.descriptions.specs.Descriptions.{type_row}
use Rattle.program_build.proofs.types.push_types.Given as goal

-- those of the rows so far
abbrev pub invariant-loop-k : goal.invariant-loop-k
invariant-loop-k l = l.out ≡ l.initial.out ++ map (type_row l.tables l.a) (range_with_len (l.before + 1) l.k)
