use Rattle.std.proofs.Common.{List, ℕ, cond, ◌||◌, eqb, length, is_some, codes, ◌∙◌, ap}
use Rattle.cli_heaps.specs.Root.{first_named}
use Rattle.heap_writer.specs.Written.{grown_known}
use Rattle.heap_writer.proofs.LimitLaws.{missing_many}
use Rattle.heap_writer.proofs.limits.missing_count.Goals as goal

pub returns-clause-count : goal.returns-clause-count
returns-clause-count c tables =
    let old = c.args.heaps.now.bytes in
    missing_many c.args.heaps.now.bytes c.args.grown.now (grown_known c.args.heaps.now.bytes c.args.grown.now tables) c.count_missing.result c.count_missing-2.result c.count_missing-3.result
    (c.count_missing.ensures ∙ ap (λ (l : List ℕ). cond (is_some (first_named c.args.heaps.now.bytes (codes "#Strings")) || eqb (length l) 0) 0 1) c.strings_added.ensures.added)
    (c.count_missing-2.ensures ∙ ap (λ (l : List ℕ). cond (is_some (first_named c.args.heaps.now.bytes (codes "#US")) || eqb (length l) 0) 0 1) c.user_strings_added.ensures.added)
    (c.count_missing-3.ensures ∙ ap (λ (l : List ℕ). cond (is_some (first_named c.args.heaps.now.bytes (codes "#Blob")) || eqb (length l) 0) 0 1) c.blobs_added.ensures.added)
