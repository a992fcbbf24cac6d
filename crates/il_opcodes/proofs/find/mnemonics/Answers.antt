use Rattle.std.proofs.Common.{refl}
use Rattle.il_opcodes.specs.Opcodes.{the_mnemonics}
use Rattle.il_opcodes.proofs.find.mnemonics.Goals as goal

pub returns : goal.returns
unfolding the_mnemonics
returns c = refl
