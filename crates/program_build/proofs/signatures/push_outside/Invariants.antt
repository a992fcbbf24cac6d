use Rattle.std.proofs.Common.{◌≡◌, ◌++◌, drop}
use Rattle.std.specs.Prelude.{Some, map}
use Rattle.program_build.proofs.signatures.push_outside.Given as goal

-- and those of what is left
abbrev pub invariant-loop-member : goal.invariant-loop-member
invariant-loop-member l =
    l.out.items ++ map (λ m. Some m.shape.signature) (drop l.member-index l.members) ≡ l.initial.out.items ++ map (λ m. Some m.shape.signature) l.members
