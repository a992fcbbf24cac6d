use Rattle.std.proofs.Common.{◌∙◌}
use Rattle.program_build.proofs.OrderLaws.{at_index}
use Rattle.program_build.proofs.rows.rows_at.Goals as goal

pub returns : goal.returns
returns c = c.rows.ensures ∙ at_index c.args.tables.now c.set.result.now c.args.a c.index-set-a.result c.set.ensures c.requires c.index-set-a.is
