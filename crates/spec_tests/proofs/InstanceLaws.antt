-- How many arguments an instance of a method has.
use Rattle.std.proofs.Common.{◌≡◌, refl, List, length}
use Rattle.std.specs.Prelude.{Option, Some, None}
use Rattle.cli_sigs.specs.declared.types.SigTy.{SigTy}
use Rattle.set_program.specs.Environment.{types_or_none}
use Rattle.member_table.specs.MemberRules.{count_or_none}

pub count_is : (o : Option (List SigTy)) → length (types_or_none (λ ts. ts) o) ≡ count_or_none o
count_is None = refl
count_is (Some ts) = refl
