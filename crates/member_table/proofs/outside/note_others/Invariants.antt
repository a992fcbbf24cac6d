use Rattle.std.proofs.Common.{◌≡◌, ◌+◌, ℕ, []}
use Rattle.std.specs.Prelude.{flat_map}
use Rattle.std.specs.List.{range_with_len}
use Rattle.member_table.specs.Environments.{environment_in}
use Rattle.member_table.specs.Numbers.{all_noted, outside_in, references_in}
use Rattle.member_table.proofs.outside.note_others.Given as goal

-- what is found from here on
abbrev pub invariant-loop-k : goal.invariant-loop-k
invariant-loop-k l =
    (n : ℕ) → l.k + n ≡ l.others
    → all_noted (outside_in (environment_in l.assemblies l.types) l.is_field) l.found (flat_map (references_in (environment_in l.assemblies l.types)) (range_with_len (l.k + 1) n))
    ≡ all_noted (outside_in (environment_in l.assemblies l.types) l.is_field) [] (flat_map (references_in (environment_in l.assemblies l.types)) (range_with_len 1 l.others))
