use Rattle.std.proofs.Common.{◌≡◌, ◌+◌, ℕ}
use Rattle.std.specs.Prelude.{bytes_eq}
use Rattle.std.specs.List.{range_with_len}
use Rattle.set_names.specs.Cycles.{any}
use Rattle.set_rows.specs.Sets.{assembly_at, assembly_name}
use Rattle.set_program.specs.TypeRules.{assembly_is_taken}
use Rattle.set_rules.proofs.assemblies.is_taken.Given as goal

-- what is left of the assemblies before
abbrev pub invariant-loop-b : goal.invariant-loop-b
invariant-loop-b l = (n : ℕ) → l.b + n ≡ l.a → any (λ b. bytes_eq (assembly_name (assembly_at l.set b)) (assembly_name (assembly_at l.set l.a))) (range_with_len l.b n) ≡ assembly_is_taken l.set l.a
