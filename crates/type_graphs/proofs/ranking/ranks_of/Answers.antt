use Rattle.std.proofs.Common.{◌∙◌}
use Rattle.type_graphs.proofs.RankLaws.{no_ranks}
use Rattle.type_graphs.proofs.ranking.ranks_of.Goals as goal

pub rank_each-requires : goal.rank_each-requires
rank_each-requires c = no_ranks c.args.graph.now c.deref_mut.result.now (c.deref_mut.ensures.value ∙ c.in_ok-ranks.ensures.items_if_clones_equal (λ y e. cc))
