use Rattle.std.proofs.Common.{◌≡◌, ◌∙◌, sym, arith, ℕ, suc, ◌+◌, ◌-◌, true, false}
use Rattle.std.specs.Prelude.{is_some, flat_map}
use Rattle.std.specs.List.{range_with_len}
use Rattle.cil_base.specs.declared.tables.TheConstants.{METHOD_SPEC}
use Rattle.set_rows.specs.Sets.{Assemblies}
use Rattle.member_table.specs.MemberRules.{member_tests}
use Rattle.set_rules.proofs.RowTestLaws.{some_here, nothing_here}
use Rattle.spec_tests.proofs.rows.method_spec_fault.Goals as goal

pub returns-then-is_some : goal.returns-then-is_some
returns-then-is_some c =
    let s : Assemblies = c.args.tables.now in
    let a : ℕ = c.args.a in
    let k : ℕ = c.loop-k.k in
    let n : ℕ = c.count-count.result - suc k in
    let some : is_some c.in_ok-found.found ≡ true = sym c.is_some.ensures ∙ c.if-is_some.true in
    some_here c.in_ok-found.found (member_tests s a METHOD_SPEC (k + 1)) (flat_map (member_tests s a METHOD_SPEC) (range_with_len (k + 1 + 1) n)) some c.in_ok-found.ensures
    ∙ c.loop-k.invariant (suc n) (omega (arith, c.loop-k-test.true))

pub loop-k-preserved : goal.loop-k-preserved
loop-k-preserved c = λ n e.
    let s : Assemblies = c.args.tables.now in
    let a : ℕ = c.args.a in
    let k : ℕ = c.loop-k.k in
    let none : is_some c.in_ok-found.found ≡ false = sym c.is_some.ensures ∙ c.if-is_some.false in
    sym (nothing_here c.in_ok-found.found (member_tests s a METHOD_SPEC (k + 1)) (flat_map (member_tests s a METHOD_SPEC) (range_with_len (k + 1 + 1) n)) none c.in_ok-found.ensures)
    ∙ c.loop-k.invariant (suc n) (omega (arith, e))

pub returns : goal.returns
returns c = c.loop-k.invariant 0 (omega (arith, c.loop-k-test.false, c.loop-k.auto.k-end))
