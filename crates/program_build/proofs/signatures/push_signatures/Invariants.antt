use Rattle.std.proofs.Common.{◌≡◌, ◌+◌, ◌++◌}
use Rattle.std.specs.Prelude.{map}
use Rattle.std.specs.List.{range_with_len}
use Rattle.program_build.specs.Orders.{signature_at}
use Rattle.program_build.proofs.signatures.push_signatures.Given as goal

-- those of the rows so far
abbrev pub invariant-loop-k : goal.invariant-loop-k
invariant-loop-k l = l.out.items ≡ l.initial.out.items ++ map (signature_at l.tables l.a) (range_with_len (l.before + 1) l.k)
