use Rattle.std.proofs.Common.{◌≡◌}
use Rattle.std.specs.Prelude.{map}
use Rattle.std.specs.List.{range_with_len}
use Rattle.descriptions.specs.Descriptions.{reference_at}
use Rattle.member_facts.proofs.references.references.Given as goal

abbrev pub invariant-loop-k : goal.invariant-loop-k
invariant-loop-k l = l.found.items ≡ map (reference_at l.tables l.a) (range_with_len 1 l.k)
