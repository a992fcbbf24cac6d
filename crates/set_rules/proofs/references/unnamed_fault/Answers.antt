use Rattle.std.proofs.Common.{◌≡◌, ◌∙◌, sym, ap, arith, ◌+◌, ◌-◌, ℕ, suc, true, false, get_or}
use Rattle.std.specs.Prelude.{Some, None, is_none, flat_map}
use Rattle.std.specs.List.{range_with_len}
use Rattle.cil_base.specs.declared.rule.Rule.TheVariants.{N1}
use Rattle.cil_base.specs.declared.refusal.Refusal.{Refusal}
use Rattle.cil_base.specs.Refusals.{first_of}
use Rattle.set_rules.specs.RowTests.{row_test, is_unnamed}
use Rattle.set_rules.proofs.RowTestLaws.{goes_on, stops_at}
use Rattle.set_rules.proofs.references.unnamed_fault.Goals as goal

pub loop-k-preserved : goal.loop-k-preserved
loop-k-preserved c = λ n e.
    let k : ℕ = c.loop-k.k in
    let before : k + 1 - 1 ≡ k = omega arith in
    let passes : is_unnamed c.args.ids.now (k + 1) ≡ false = ap (λ (m : ℕ). is_none (get_or c.args.ids.now m None)) before ∙ sym c.is_unnamed.ensures ∙ c.if-is_unnamed.false in
    goes_on N1 c.args.a c.args.table (is_unnamed c.args.ids.now) (first_of (flat_map (row_test N1 c.args.a c.args.table (is_unnamed c.args.ids.now)) (range_with_len 1 c.args.count))) (k + 1) n passes
    (c.loop-k.invariant (suc n) (omega (arith, e)))

pub returns-then-is_unnamed : goal.returns-then-is_unnamed
returns-then-is_unnamed c =
    let k : ℕ = c.loop-k.k in
    let n : ℕ = c.args.count - suc k in
    let before : k + 1 - 1 ≡ k = omega arith in
    let fails : is_unnamed c.args.ids.now (k + 1) ≡ true = ap (λ (m : ℕ). is_none (get_or c.args.ids.now m None)) before ∙ sym c.is_unnamed.ensures ∙ c.if-is_unnamed.true in
    ap (λ (r : Refusal). Some r) c.refusal.ensures
    ∙ stops_at N1 c.args.a c.args.table (is_unnamed c.args.ids.now) (first_of (flat_map (row_test N1 c.args.a c.args.table (is_unnamed c.args.ids.now)) (range_with_len 1 c.args.count))) (k + 1) n fails
    (c.loop-k.invariant (suc n) (omega (arith, c.loop-k-test.true)))

pub returns : goal.returns
returns c = c.loop-k.invariant 0 (omega (arith, c.loop-k-test.false, c.loop-k.auto.k-end))
