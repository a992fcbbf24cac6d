use Rattle.std.proofs.Common.{◌≡◌, ◌+◌, ℕ}
use Rattle.std.specs.Prelude.{flat_map}
use Rattle.std.specs.List.{range_with_len}
use Rattle.cil_base.specs.declared.tables.TheConstants.{TYPE_DEF}
use Rattle.cil_base.specs.Refusals.{first_of}
use Rattle.set_program.specs.TypeRules.{type_tests}
use Rattle.set_rules.specs.TableTests.{table_tests}
use Rattle.set_rules.proofs.definitions.definition_fault.Given as goal

-- no test of a row before fails
abbrev pub invariant-loop-k : goal.invariant-loop-k
invariant-loop-k l =
    (n : ℕ) → l.k + n ≡ l.count → first_of (flat_map (type_tests l.set l.a TYPE_DEF) (range_with_len (l.k + 1) n)) ≡ first_of (table_tests l.set l.a TYPE_DEF)
