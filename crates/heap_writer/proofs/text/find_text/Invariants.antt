use Rattle.std.proofs.Common.{◌≡◌, eqb, drop}
use Rattle.std.specs.Map.{lookup}
use Rattle.std.specs.Cmp.Lexicographic.{pointwise}
use Rattle.heap_writer.specs.Growth.{contents_of, user_string_content}
use Rattle.heap_writer.proofs.text.find_text.Given as goal

abbrev pub invariant-loop-k : goal.invariant-loop-k
invariant-loop-k l = lookup (λ c. pointwise eqb (user_string_content l.units) c) (contents_of (drop l.k l.entries.entries)) ≡ lookup (λ c. pointwise eqb (user_string_content l.units) c) (contents_of l.entries.entries)
