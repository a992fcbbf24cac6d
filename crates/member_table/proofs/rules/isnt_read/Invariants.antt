use Rattle.std.proofs.Common.{◌≡◌, drop}
use Rattle.set_types.specs.CodedTypes.{coded_of}
use Rattle.member_table.specs.MemberRules.{isnt_read}
use Rattle.member_table.proofs.rules.isnt_read.Given as goal

-- what is left of the list
abbrev pub invariant-loop-ty : goal.invariant-loop-ty
invariant-loop-ty l = isnt_read (coded_of l.coded) l.tys ≡ isnt_read (coded_of l.coded) (drop l.ty-index l.tys)
