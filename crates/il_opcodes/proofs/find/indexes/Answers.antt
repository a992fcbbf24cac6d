use Rattle.std.proofs.Common.{refl}
use Rattle.il_opcodes.specs.Opcodes.{the_indexes}
use Rattle.il_opcodes.proofs.find.indexes.Goals as goal

pub returns-clause-value : goal.returns-clause-value
unfolding the_indexes
returns-clause-value c = refl
