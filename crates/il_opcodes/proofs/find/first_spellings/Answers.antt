use Rattle.std.proofs.Common.{refl}
use Rattle.il_opcodes.specs.Opcodes.{the_first_spellings}
use Rattle.il_opcodes.proofs.find.first_spellings.Goals as goal

pub returns-clause-value : goal.returns-clause-value
unfolding the_first_spellings
returns-clause-value c = refl
