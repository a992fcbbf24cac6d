use Rattle.std.proofs.Common.{◌∙◌, sym, ap, arith, ◌+◌, ◌*◌, ◌<◌, ℕ, List, [], length, get_or}
use Rattle.std.proofs.lemmas.List.{get_or_default}
use Rattle.type_table.proofs.RowLaws.{row_more}
use Rattle.coded_tables.proofs.counts.lengths.Goals as goal

pub loop-k-preserved : goal.loop-k-preserved
loop-k-preserved c =
    let lists : List (List ℕ) = c.args.lists.now in
    let k : ℕ = c.loop-k.k in
    let at : ℕ = (k + 1) * 2 + c.args.tag in
    let within : at < length lists = omega (arith, c.loop-k-test.true, c.requires.long, c.requires.tag) in
    row_more (λ (row : ℕ). length (get_or lists (row * 2 + c.args.tag) [])) k c.loop-k.lengths.items c.push.new.self.items c.len.result
    c.in_ok-push.ensures.items (c.len.ensures ∙ ap length (c.index-lists-k.is ∙ sym (get_or_default lists at [] c.index-lists-k.result within))) c.loop-k.invariant
