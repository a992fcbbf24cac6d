use Rattle.std.proofs.Common.{◌≡◌, ◌∙◌, ◌+◌, ◌<◌, ◌≤◌, sym, ap, subst, arith, ℕ}
use Rattle.std.specs.Prelude.{Option, Some, None, flat_map}
use Rattle.std.specs.List.{range_with_len}
use Rattle.cil_base.specs.declared.rule.Rule.TheVariants.{N5}
use Rattle.cil_base.specs.declared.refusal.Refusal.{Refusal}
use Rattle.cil_base.specs.Refusals.{first_of}
use Rattle.set_rules.specs.RowTests.{row_test}
use Rattle.name_rules.specs.NameTests.{is_at}
use Rattle.name_rules.proofs.RewriteLaws.{marked_at, marked_none, marked_out}
use Rattle.name_rules.proofs.rewriting.marked_fault.Goals as goal

pub returns-in-None : goal.returns-in-None
returns-in-None c =
    subst (λ (m : Option ℕ). None ≡ first_of (flat_map (row_test N5 0 c.args.table (λ row. is_at row m)) (range_with_len 1 c.args.count))) (sym c.in-None.is) (marked_none c.args.table 1 c.args.count)

pub returns-then-row-eq0 : goal.returns-then-row-eq0
returns-then-row-eq0 c =
    subst (λ (m : Option ℕ). None ≡ first_of (flat_map (row_test N5 0 c.args.table (λ row. is_at row m)) (range_with_len 1 c.args.count))) (sym c.in-Some.is)
    (marked_out c.args.table c.in-Some.row 1 c.args.count (λ low high. omega (arith, low, high, c.if-row-eq0.true)))

pub returns-then-row-count : goal.returns-then-row-count
returns-then-row-count c =
    subst (λ (m : Option ℕ). None ≡ first_of (flat_map (row_test N5 0 c.args.table (λ row. is_at row m)) (range_with_len 1 c.args.count))) (sym c.in-Some.is)
    (marked_out c.args.table c.in-Some.row 1 c.args.count (λ low high. omega (arith, low, high, c.if-row-count.true)))

pub returns-else-row-count : goal.returns-else-row-count
returns-else-row-count c =
    subst (λ (m : Option ℕ). Some c.refusal.result ≡ first_of (flat_map (row_test N5 0 c.args.table (λ row. is_at row m)) (range_with_len 1 c.args.count))) (sym c.in-Some.is)
    (ap (λ (r : Refusal). Some r) c.refusal.ensures
    ∙ marked_at c.args.table c.in-Some.row 1 c.args.count (omega (arith, c.if-row-eq0.false)) (omega (arith, c.if-row-count.false)))
