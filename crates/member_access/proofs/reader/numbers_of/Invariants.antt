use Rattle.std.proofs.Common.{◌≡◌, ◌++◌, drop}
use Rattle.std.specs.List.{filter_map}
use Rattle.member_access.specs.Access.{number_of}
use Rattle.member_access.proofs.reader.numbers_of.Given as goal

abbrev pub invariant-loop-ty : goal.invariant-loop-ty
invariant-loop-ty l = l.out ++ filter_map number_of (drop l.ty-index l.types) ≡ filter_map number_of l.types
