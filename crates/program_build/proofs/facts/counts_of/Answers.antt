use Rattle.std.proofs.Common.{refl, ◌∙◌}
use Rattle.set_rows.specs.Sets.{assembly_at}
use Rattle.program_build.proofs.OrderLaws.{at_index}
use Rattle.program_build.proofs.RowLaws.{counts_are}
use Rattle.program_build.proofs.facts.counts_of.Goals as goal

pub returns : goal.returns
returns c = counts_are c.generic_counts.result c.rows.result.now (assembly_at c.args.set.now c.args.a) (c.rows.ensures ∙ at_index c.args.set.now c.args.set.now c.args.a c.index-set-a.result refl c.requires.there c.index-set-a.is) c.generic_counts.ensures
