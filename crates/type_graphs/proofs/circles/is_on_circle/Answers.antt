use Rattle.std.proofs.Common.{◌≡◌, ◌∙◌, sym, ap, arith, ℕ, false, length}
use Rattle.std.specs.Prelude.{◌==◌}
use Rattle.std.proofs.lemmas.Bool.Decides.{nat_tests}
use Rattle.type_graphs.proofs.RankLaws.{ranked_on_no_circle}
use Rattle.type_graphs.proofs.circles.is_on_circle.Goals as goal

pub returns-then-rank_in-ne0 : goal.returns-then-rank_in-ne0
returns-then-rank_in-ne0 c =
    let some : (c.rank_in.result == 0) ≡ false = grind (arith, nat_tests) in
    sym (ranked_on_no_circle c.args.graph.now c.args.ranks.now (length c.args.graph.now) c.args.node c.requires.ranked (sym (ap (λ (n : ℕ). n == 0) c.rank_in.ensures) ∙ some))
