use Rattle.std.proofs.Common.{◌≡◌, map, take, length}
use Rattle.member_numbers.proofs.table.assemblies.Given as goal

-- the rows and the coded types so far
abbrev pub invariant-loop-types : goal.invariant-loop-types
invariant-loop-types l = (map (λ m. m.rows) l.assemblies.items ≡ take (length l.assemblies.items) l.set) × (map (λ m. m.coded) l.assemblies.items ≡ l.yielded)
