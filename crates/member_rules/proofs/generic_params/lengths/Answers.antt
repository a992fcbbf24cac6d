use Rattle.std.proofs.Common.{◌∙◌, sym, ap, ℕ, List, [], length, get_or}
use Rattle.std.proofs.lemmas.List.{get_or_default}
use Rattle.member_rules.proofs.GenericLaws.{zero_more}
use Rattle.member_rules.proofs.generic_params.lengths.Goals as goal

pub loop-k-preserved : goal.loop-k-preserved
loop-k-preserved c =
    let lists : List (List ℕ) = c.args.lists.now in
    let k : ℕ = c.loop-k.k in
    zero_more (λ (n : ℕ). length (get_or lists n [])) k c.loop-k.lengths c.push.new.self c.len.result
    c.in_ok-push.ensures.ok (c.len.ensures ∙ ap length (c.index-lists-k.is ∙ sym (get_or_default lists k [] c.index-lists-k.result c.loop-k-test.true))) c.loop-k.invariant
