use Rattle.std.proofs.Common.{◌≡◌, ◌++◌, drop}
use Rattle.member_numbers.proofs.copies.+copies.Given as goal

abbrev pub invariant-copied_types-loop-ty : goal.invariant-copied_types-loop-ty
invariant-copied_types-loop-ty l = l.copies ++ drop l.ty-index l.types ≡ l.types
