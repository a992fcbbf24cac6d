use Rattle.std.proofs.Common.{◌≡◌, ◌+◌, ℕ, map}
use Rattle.std.specs.List.{range_with_len}
use Rattle.member_table.specs.Environments.{environment_in}
use Rattle.member_table.specs.Numbers.{all_noted, outside_in}
use Rattle.member_table.proofs.outside.note_assembly.Given as goal

-- what is found from here on
abbrev pub invariant-loop-k : goal.invariant-loop-k
invariant-loop-k l =
    (n : ℕ) → l.k + n ≡ l.count
    → all_noted (outside_in (environment_in l.assemblies l.types) l.is_field) l.found (map (λ row. (l.a, row)) (range_with_len (l.k + 1) n))
    ≡ all_noted (outside_in (environment_in l.assemblies l.types) l.is_field) l.fn.start (map (λ row. (l.a, row)) (range_with_len 1 l.count))
