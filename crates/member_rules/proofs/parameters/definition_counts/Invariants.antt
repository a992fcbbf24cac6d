use Rattle.std.proofs.Common.{◌≡◌, ◌*◌}
use Rattle.std.specs.Prelude.{map, Some}
use Rattle.std.specs.List.{range_with_len}
use Rattle.set_rows.specs.Sets.{assembly_at}
use Rattle.set_program.specs.Kinds.{generics}
use Rattle.member_rules.proofs.parameters.definition_counts.Given as goal

abbrev pub invariant-loop-k : goal.invariant-loop-k
invariant-loop-k l = l.found.items ≡ map (λ row. Some (generics (assembly_at l.set l.a) (row * 2))) (range_with_len 1 l.k)
