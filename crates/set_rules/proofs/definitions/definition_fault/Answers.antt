use Rattle.std.proofs.Common.{◌≡◌, ◌∙◌, sym, arith, ℕ, suc, ◌+◌, ◌-◌, true, false}
use Rattle.std.specs.Prelude.{Option, is_some, flat_map}
use Rattle.std.specs.List.{range_with_len}
use Rattle.cil_base.specs.declared.tables.TheConstants.{TYPE_DEF}
use Rattle.cil_base.specs.declared.refusal.Refusal.{Refusal}
use Rattle.set_rows.specs.Sets.{Assemblies}
use Rattle.set_program.specs.TypeRules.{type_tests}
use Rattle.set_rules.proofs.RowTestLaws.{some_here, nothing_here}
use Rattle.set_rules.proofs.definitions.definition_fault.Goals as goal

pub returns-then-is_some : goal.returns-then-is_some
returns-then-is_some c =
    let s : Assemblies = c.args.set.now in
    let a : ℕ = c.args.a in
    let k : ℕ = c.loop-k.k in
    let n : ℕ = c.count-count.result - suc k in
    let found : Option Refusal = c.definition_row_fault-found.result in
    let some : is_some found ≡ true = sym c.is_some.ensures ∙ c.if-is_some.true in
    some_here found (type_tests s a TYPE_DEF (k + 1)) (flat_map (type_tests s a TYPE_DEF) (range_with_len (k + 1 + 1) n)) some c.definition_row_fault-found.ensures
    ∙ c.loop-k.invariant (suc n) (omega (arith, c.loop-k-test.true))

pub loop-k-preserved : goal.loop-k-preserved
loop-k-preserved c = λ n e.
    let s : Assemblies = c.args.set.now in
    let a : ℕ = c.args.a in
    let k : ℕ = c.loop-k.k in
    let found : Option Refusal = c.definition_row_fault-found.result in
    let none : is_some found ≡ false = sym c.is_some.ensures ∙ c.if-is_some.false in
    sym (nothing_here found (type_tests s a TYPE_DEF (k + 1)) (flat_map (type_tests s a TYPE_DEF) (range_with_len (k + 1 + 1) n)) none c.definition_row_fault-found.ensures)
    ∙ c.loop-k.invariant (suc n) (omega (arith, e))

pub returns : goal.returns
returns c = c.loop-k.invariant 0 (omega (arith, c.loop-k-test.false, c.loop-k.auto.k-end))
