use Rattle.std.proofs.Common.{◌≡◌, ◌∙◌, arith, suc, ◌+◌, ◌-◌}
use Rattle.set_types.specs.CodedTypes.{coded_of}
use Rattle.row_descriptions.specs.RowDescriptions.{field_row}
use Rattle.row_descriptions.proofs.RowListLaws.{item_on}
use Rattle.row_descriptions.proofs.fields.push_fields.Goals as goal

pub loop-row-preserved : goal.loop-row-preserved
loop-row-preserved c =
    let count : c.args.to - c.loop-row.row ≡ suc (c.args.to - (c.loop-row.row + 1)) = omega (arith, c.loop-row-test.true) in
    item_on (field_row c.args.rows.now (coded_of c.args.coded.now)) c.loop-row.out c.push.new.self c.in_ok-field_row.field-0 c.loop-row.row (c.args.to - c.loop-row.row) (c.args.to - (c.loop-row.row + 1)) count c.in_ok-push.ensures.ok c.in_ok-field_row.ensures
    ∙ c.loop-row.invariant
