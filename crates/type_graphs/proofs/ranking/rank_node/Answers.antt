use Rattle.std.proofs.Common.{◌≡◌, ◌∙◌, sym, ap, ℕ, List}
use Rattle.set_names.specs.Cycles.{any}
use Rattle.type_graphs.specs.Graphs.{next_of}
use Rattle.type_graphs.specs.Ranks.{has_no_rank, is_above}
use Rattle.type_graphs.proofs.ListLaws.{row_is}
use Rattle.type_graphs.proofs.RankLaws.{rank_set}
use Rattle.type_graphs.proofs.ranking.rank_node.Goals as goal

pub returns-in-Some : goal.returns-in-Some
returns-in-Some c =
    let graph : List (List ℕ) = c.args.graph.now in
    let ranks : List ℕ = c.args.ranks.now in
    let nodes : List ℕ = c.as_slice.result.now in
    let e : nodes ≡ next_of graph c.args.node = row_is graph c.args.node c.index-graph-at.result nodes c.if-at-graph.true c.index-graph-at.is c.as_slice.ensures in
    rank_set graph ranks c.requires c.args.node c.in-Some.rank c.if-at-ranks.true
    (sym (ap (any (has_no_rank ranks)) e) ∙ c.in-Some.ensures.ranked)
    (λ d. sym (ap (any (is_above ranks d)) e) ∙ c.in-Some.ensures.above d)
    c.in-Some.ensures.some
