use Rattle.std.proofs.Common.{List, ◌++◌, map}
use Rattle.std.specs.List.{range_with_len}
use Rattle.set_program.specs.Numbering.{Cell}
use Rattle.member_table.specs.Environments.{environment_in}
use Rattle.member_table.specs.Numbers.{outside_in}
use Rattle.member_numbers.specs.Noted.{AreNoted}
use Rattle.member_numbers.proofs.noting.note_assembly.Given as goal

-- with the rows so far
abbrev pub invariant-loop-k : goal.invariant-loop-k
invariant-loop-k l =
    (cells : List Cell) → AreNoted (outside_in (environment_in l.assemblies l.types) l.is_field) cells l.fn.start.outside l.fn.start.rows.items
    → AreNoted (outside_in (environment_in l.assemblies l.types) l.is_field) (cells ++ map (λ row. (l.a, row)) (range_with_len 1 l.k)) l.noted.outside l.noted.rows.items
