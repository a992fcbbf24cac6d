use Rattle.std.specs.Prelude.{flat_map}
use Rattle.std.specs.List.{range_with_len}
use Rattle.member_table.specs.Environments.{environment_in}
use Rattle.member_table.specs.Numbers.{outside_in, references_in}
use Rattle.member_numbers.specs.Noted.{AreNoted}
use Rattle.member_numbers.proofs.noting.note_others.Given as goal

-- with the rows of the assemblies so far
abbrev pub invariant-loop-k : goal.invariant-loop-k
invariant-loop-k l = AreNoted (outside_in (environment_in l.assemblies l.types) l.is_field) (flat_map (references_in (environment_in l.assemblies l.types)) (range_with_len 1 l.k)) l.noted.outside l.noted.rows.items
