-- The table of instructions agrees with the machine's acts.
use Rattle.std.proofs.Common.{◌≡◌, true, refl}
use Rattle.std.specs.List.{list_all}
use Rattle.il_opcodes.specs.Opcodes.{the_opcodes}
use Rattle.il_flow.specs.Counts.{row_agrees}

pub table_agrees : list_all row_agrees the_opcodes ≡ true
unfolding the_opcodes
table_agrees = refl
