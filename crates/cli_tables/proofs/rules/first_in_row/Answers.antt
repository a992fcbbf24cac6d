use Rattle.std.proofs.Common.{◌≡◌, ◌∙◌, sym, below_more}
use Rattle.cli_tables.specs.CellRules.{rule_at}
use Rattle.cli_tables.proofs.LayoutLaws.{in_columns}
use Rattle.cli_tables.proofs.RuleLaws.{rule_read}
use Rattle.cli_tables.proofs.rules.first_in_row.Goals as goal

rule_is : (c : goal.In-Some) → c.cell_rule.result ≡ rule_at c.args.heaps.now.bytes c.args.sizes.now c.args.table c.args.rows.now c.args.k c.loop-c.c
rule_is c =
    rule_read c.args.heaps.now.bytes c.args.sizes.now c.args.table c.args.rows.now c.args.k c.loop-c.c c.columns-columns.result.now _ c.column-cells.result.now c.before-in-loop-c.result c.cell_rule.result
    c.columns-columns.ensures.columns c.loop-c-test.true c.column-cells.ensures c.before-in-loop-c.ensures c.cell_rule.ensures

pub loop-c-preserved : goal.loop-c-preserved
loop-c-preserved c =
    below_more _ _ c.loop-c.invariant
    (sym (rule_read c.args.heaps.now.bytes c.args.sizes.now c.args.table c.args.rows.now c.args.k c.loop-c.c c.columns-columns.result.now _ c.column-cells.result.now c.before-in-loop-c.result c.cell_rule.result
    c.columns-columns.ensures.columns c.loop-c-test.true c.column-cells.ensures c.before-in-loop-c.ensures c.cell_rule.ensures) ∙ c.in_default.is)

pub returns-in-Some : goal.returns-in-Some
returns-in-Some c = (in_columns c.args.table c.columns-columns.result.now c.loop-c.c c.columns-columns.ensures.columns c.loop-c-test.true, sym (rule_is c) ∙ c.in-Some.is, c.loop-c.invariant)
