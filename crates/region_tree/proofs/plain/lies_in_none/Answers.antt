use Rattle.std.proofs.Common.{get_or}
use Rattle.std.proofs.lemmas.Bool.{eqb-true}
use Rattle.region_tree.proofs.PlainLaws.{lies_in_none}
use Rattle.region_tree.proofs.plain.lies_in_none.Goals as goal

pub returns-then-place-outer : goal.returns-then-place-outer
returns-then-place-outer c = λ e. lies_in_none c.args.regions.now c.args.outer.now c.args.at c.requires c.if-place-outer.true (eqb-true (get_or c.args.outer.now c.args.at 0) 0 e)
