use Rattle.tree_table_laws.proofs.KeptBodyLaws.{control_stays}
use Rattle.tree_table_laws.proofs.control_stays_in_unbroken_trees.Goals as goal

pub returns : goal.returns
returns c = control_stays
