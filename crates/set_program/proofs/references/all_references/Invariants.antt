use Rattle.std.proofs.Common.{◌≡◌, ◌++◌, ◌+◌, ℕ}
use Rattle.std.specs.Prelude.{map, Some}
use Rattle.std.specs.List.{range_with_len}
use Rattle.cil_base.specs.Refusals.{first_of}
use Rattle.set_rows.specs.Sets.{assembly_at, rows_in}
use Rattle.set_program.specs.References.{reference}
use Rattle.set_program.specs.ReferenceRules.{reference_test, reference_tests}
use Rattle.cil_base.specs.declared.tables.TheConstants.{TYPE_REF}
use Rattle.set_program.proofs.references.all_references.Given as goal

-- the types so far and those of the rows that are left are all, and no test before fails
abbrev pub invariant-loop-k : goal.invariant-loop-k
invariant-loop-k l =
    (n : ℕ) → l.k + n ≡ l.count
    → (map (λ id. Some id) l.ids ++ map (reference l.set l.a) (range_with_len (l.k + 1) n) ≡ map (reference l.set l.a) (rows_in (assembly_at l.set l.a) TYPE_REF))
    × (first_of (map (reference_test l.set l.a) (range_with_len (l.k + 1) n)) ≡ first_of (reference_tests l.set l.a))
