use Rattle.std.proofs.Common.{◌≡◌, ◌∙◌, sym, ap, ℕ, true}
use Rattle.std.specs.Prelude.{◌==◌}
use Rattle.type_graphs.proofs.RankLaws.{deep_always}
use Rattle.type_graphs.proofs.chains.is_deep.Goals as goal

pub returns-then-rank-eq0 : goal.returns-then-rank-eq0
returns-then-rank-eq0 c =
    let none : (c.rank_in-rank.result == 0) ≡ true = Rattle.std.proofs.Common.eq-eqb c.rank_in-rank.result 0 c.if-rank-eq0.true in
    none ∙ sym (deep_always c.args.graph.now c.args.ranks.now c.requires.ranked c.requires.whole c.args.deepest c.args.node (sym (ap (λ (n : ℕ). n == 0) c.rank_in-rank.ensures) ∙ none))
