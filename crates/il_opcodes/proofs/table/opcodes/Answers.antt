use Rattle.std.proofs.Common.{refl}
use Rattle.std.proofs.lemmas.List.Sums.{AllPass-from_list_all}
use Rattle.il_opcodes.specs.Opcodes.{the_opcodes, opcode_of, is_regular}
use Rattle.il_opcodes.proofs.table.opcodes.Goals as goal

pub returns-clause-table : goal.returns-clause-table
unfolding the_opcodes
returns-clause-table c = refl

pub returns-clause-regular : goal.returns-clause-regular
unfolding the_opcodes opcode_of
returns-clause-regular c = AllPass-from_list_all is_regular the_opcodes refl
