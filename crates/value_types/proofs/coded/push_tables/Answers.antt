use Rattle.cil_base.specs.declared.tables.TheConstants.{FIELD, MEMBER_REF, METHOD_DEF, METHOD_SPEC, PROPERTY, STAND_ALONE_SIG, TYPE_SPEC}
use Rattle.set_rows.specs.Sets.{Assembly}
use Rattle.value_types.specs.CodedValues.{table_values, coded_values}
use Rattle.value_types.proofs.CodedLaws.{all_pushed}
use Rattle.value_types.proofs.coded.push_tables.Goals as goal

pub returns : goal.returns
unfolding coded_values
returns c =
    let x : Assembly = c.args.rows.now in
    all_pushed c.push_table-7.result c.args.out.now c.push_table.new.out c.push_table-2.new.out c.push_table-3.new.out c.push_table-4.new.out c.push_table-5.new.out c.push_table-6.new.out c.push_table-7.new.out
    (table_values x FIELD 2) (table_values x METHOD_DEF 4) (table_values x MEMBER_REF 2) (table_values x STAND_ALONE_SIG 0) (table_values x PROPERTY 2) (table_values x TYPE_SPEC 0) (table_values x METHOD_SPEC 1)
    c.in_ok-push_table.ensures c.in_ok-push_table-2.ensures c.in_ok-push_table-3.ensures c.in_ok-push_table-4.ensures c.in_ok-push_table-5.ensures c.in_ok-push_table-6.ensures c.push_table-7.ensures
