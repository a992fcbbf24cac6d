use Rattle.std.proofs.Common.{◌≡◌, ◌+◌, ◌*◌, eqb, length, drop}
use Rattle.std.specs.Cmp.Lexicographic.{pointwise}
use Rattle.heap_writer.specs.Growth.{user_string_content}
use Rattle.heap_writer.proofs.TextLaws.{text_from}
use Rattle.heap_writer.proofs.text.is_text.Given as goal

abbrev pub invariant-loop-k : goal.invariant-loop-k
invariant-loop-k l = pointwise eqb (text_from l.units l.k) (drop (2 * l.k) l.content) ≡ pointwise eqb (user_string_content l.units) l.content
