use Rattle.std.proofs.Common.{◌∙◌, ap, ℕ}
use Rattle.set_names.specs.Cycles.{any}
use Rattle.type_graphs.specs.Graphs.{next_of}
use Rattle.type_graphs.specs.Levels.{is_in}
use Rattle.type_graphs.proofs.ListLaws.{list_push, row_is}
use Rattle.type_graphs.proofs.chains.next_level.Goals as goal

pub loop-k-preserved : goal.loop-k-preserved
loop-k-preserved c =
    list_push (λ (k : ℕ). any (is_in c.args.level.now c.args.past) (next_of c.args.graph.now k)) c.loop-k.k c.loop-k.next.items c.push.new.self.items c.any_in.result c.in_ok-push.ensures.items
    (c.any_in.ensures ∙ ap (any (is_in c.args.level.now c.args.past)) (row_is c.args.graph.now c.loop-k.k c.index-graph-k.result c.as_slice.result.now c.loop-k-test.true c.index-graph-k.is c.as_slice.ensures))
    c.loop-k.invariant
