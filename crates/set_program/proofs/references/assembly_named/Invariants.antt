use Rattle.std.proofs.Common.{◌≡◌, ◌+◌, ℕ, length}
use Rattle.std.specs.Prelude.{find, bytes_eq}
use Rattle.std.specs.List.{range_with_len}
use Rattle.set_rows.specs.Sets.{assembly_at, assembly_named, assembly_name}
use Rattle.set_program.proofs.references.assembly_named.Given as goal

-- it is none of those before
abbrev pub invariant-loop-a : goal.invariant-loop-a
invariant-loop-a l =
    (n : ℕ) → l.a + n ≡ length l.set → find (λ a. bytes_eq l.name (assembly_name (assembly_at l.set a))) (range_with_len l.a n) ≡ assembly_named l.set l.name
