use Rattle.tree_table_laws.proofs.PermutedLaws.{depths_stay, none_broken}
use Rattle.tree_table_laws.proofs.trees_of_bodies_break_nothing.Goals as goal

pub returns-clause-unbroken : goal.returns-clause-unbroken
returns-clause-unbroken c = none_broken

pub returns-clause-depths : goal.returns-clause-depths
returns-clause-depths c = depths_stay
