use Rattle.std.proofs.Common.{◌≡◌, ◌∙◌, ap, arith, suc, ◌+◌, ◌-◌}
use Rattle.std.specs.Prelude.{Option, option_map}
use Rattle.cil_model.specs.declared.program.Meaning.{Meaning}
use Rattle.set_types.specs.CodedTypes.{coded_of}
use Rattle.row_descriptions.specs.TokenTables.{all_noted}
use Rattle.row_descriptions.specs.UserTexts.{token_row}
use Rattle.descriptions.specs.Facts.{meaning_by}
use Rattle.descriptions.specs.TokenFacts.{row_token}
use Rattle.descriptions.proofs.NotedLaws.{noted_on}
use Rattle.descriptions.proofs.tokens.note_table.Goals as goal

pub loop-k-preserved : goal.loop-k-preserved
loop-k-preserved c =
    let count : c.count-count.result - c.loop-k.k ≡ suc (c.count-count.result - (c.loop-k.k + 1)) = omega (arith, c.loop-k-test.true) in
    noted_on (λ row. option_map (token_row c.args.assembly c.args.table row) (meaning_by c.args.rows.now (coded_of c.args.coded.now) c.args.facts.now c.args.table row)) c.loop-k.tokens c.note_some.new.tokens c.loop-k.k
    (c.count-count.result - c.loop-k.k) (c.count-count.result - (c.loop-k.k + 1)) count
    (c.in_ok-note_some.ensures ∙ ap (λ (m : Option Meaning). all_noted c.loop-k.tokens (row_token c.args.assembly c.args.table (c.loop-k.k + 1) m)) c.in_ok-meaning.ensures)
    ∙ c.loop-k.invariant
