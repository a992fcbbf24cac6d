use Rattle.std.proofs.Common.{◌≡◌, length}
use Rattle.std.specs.Prelude.{map}
use Rattle.program_bodies.specs.Filled.{EachOnce, row_of}
use Rattle.program_bodies.proofs.FilledLaws.{SoFar}
use Rattle.program_bodies.proofs.filling.fill.Given as goal

abbrev pub invariant-loop-m : goal.invariant-loop-m
invariant-loop-m l = (length l.methods ≡ length l.fn.methods) × (EachOnce (map row_of l.fn.methods) → SoFar (map (λ v. v.items) l.fn.bodies.items) l.fn.methods (map (λ v. v.items) l.bodies.items) l.methods l.m)
