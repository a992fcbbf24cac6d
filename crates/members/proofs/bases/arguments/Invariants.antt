use Rattle.std.proofs.Common.{◌≡◌, ◌++◌, drop}
use Rattle.std.specs.Prelude.{option_map}
use Rattle.set_types.specs.CodedTypes.{coded_of}
use Rattle.members.specs.Bases.{arguments}
use Rattle.members.proofs.bases.arguments.Given as goal

-- what is left of the list
abbrev pub invariant-loop-ty : goal.invariant-loop-ty
invariant-loop-ty l = option_map (λ rest. l.all.items ++ rest) (arguments (coded_of l.coded) l.args (drop l.ty-index l.tys)) ≡ arguments (coded_of l.coded) l.args l.tys
