use Rattle.std.proofs.Common.{◌≤◌, length}
use Rattle.std.proofs.lemmas.Result.{IfOk-weaker}
use Rattle.region_tree.specs.Trees.{code}
use Rattle.region_tree.specs.Wrapping.{Wraps}
use Rattle.body_tree.specs.Division.{RetsLeave, WrapsSearch}
use Rattle.body_tree.proofs.DivisionLaws.{rets_leave, wraps_search}
use Rattle.body_tree.proofs.wrapping.wrap.Goals as goal

pub returns-clause-tree : goal.returns-clause-tree
returns-clause-tree c = IfOk-weaker c.wrapped.result (λ new. Wraps c.args.tree c.args.from c.args.handler new × (c.args.from ≤ length (code c.args.tree.blocks))) (Wraps c.args.tree c.args.from c.args.handler) (λ new w. w.0) c.wrapped.ensures

pub returns-clause-search : goal.returns-clause-search
returns-clause-search c = IfOk-weaker c.wrapped.result (λ new. Wraps c.args.tree c.args.from c.args.handler new × (c.args.from ≤ length (code c.args.tree.blocks))) (WrapsSearch c.args.tree c.args.from c.args.handler) (λ new w. wraps_search c.args.tree new c.args.from c.args.handler w.1 w.0) c.wrapped.ensures

pub returns-clause-rets : goal.returns-clause-rets
returns-clause-rets c = IfOk-weaker c.wrapped.result (λ new. Wraps c.args.tree c.args.from c.args.handler new × (c.args.from ≤ length (code c.args.tree.blocks))) (RetsLeave c.args.tree c.args.from c.args.handler) (λ new w. rets_leave c.args.tree new c.args.from c.args.handler w.0) c.wrapped.ensures
