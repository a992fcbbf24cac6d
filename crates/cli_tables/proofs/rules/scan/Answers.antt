use Rattle.std.proofs.Common.{◌∙◌, sym, ap, ℕ, below_more, get_or}
use Rattle.cli_tables.specs.CellRules.{cell_rule}
use Rattle.cli_tables.proofs.rules.scan.Goals as goal

pub loop-k-preserved : goal.loop-k-preserved
loop-k-preserved c =
    below_more _ _ c.loop-k.invariant
    (ap (λ (b : ℕ). cell_rule c.args.heaps.now.bytes c.args.sizes.now c.args.column b (get_or c.args.cells.now c.loop-k.k 0)) (sym c.before-in-loop-k.ensures) ∙ sym c.cell_rule.ensures ∙ c.in_default.is)
