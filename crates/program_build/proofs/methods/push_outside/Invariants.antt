use Rattle.std.proofs.Common.{◌≡◌, ◌++◌, take}
use Rattle.std.specs.Prelude.{map}
use Rattle.member_table.specs.declared.named.MemberId.TheVariants as id
use Rattle.descriptions.specs.Descriptions.{method_desc}
use Rattle.program_build.proofs.methods.push_outside.Given as goal

-- those so far
abbrev pub invariant-loop-k : goal.invariant-loop-k
invariant-loop-k l = l.out ≡ l.initial.out ++ map (λ m. method_desc l.tables (id.Outside m)) (take l.k l.members)
