use Rattle.cil_base.specs.declared.tables.TheConstants.{FIELD}
use Rattle.set_rows.specs.Sets.{assembly_at}
use Rattle.set_types.specs.CodedTypes.{coded_of}
use Rattle.row_descriptions.specs.RowDescriptions.{field_row}
use Rattle.program_build.specs.Orders.{field_at_row}
use Rattle.program_build.proofs.RowLaws.{same_answer, owners_are, field_is}
use Rattle.program_build.proofs.fields.field_at.Goals as goal

pub returns : goal.returns
returns c =
    same_answer c.field_row.result (field_row c.rows_at.result.now (coded_of c.coded-coded.result.now) c.args.row) (field_at_row c.args.tables.now c.args.a c.args.row)
    (field_is c.args.tables.now c.args.a c.args.row (coded_of c.coded-coded.result.now) c.rows_at.result.now c.coded-coded.ensures c.rows_at.ensures)
    c.field_row.ensures

pub field_row-requires : goal.field_row-requires
field_row-requires c =
    owners_are (assembly_at c.args.tables.now c.args.a) c.rows_at.result.now 4 FIELD c.args.known.now.members.field_owners.items c.as_slice-owners.result.now c.rows_at.ensures c.as_slice-owners.ensures.value c.requires.known.members.field_owners
