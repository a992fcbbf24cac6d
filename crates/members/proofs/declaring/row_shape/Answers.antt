use Rattle.set_types.specs.CodedTypes.{coded_of}
use Rattle.members.proofs.DeclaredLaws.{shape_is}
use Rattle.members.proofs.declaring.row_shape.Goals as goal

pub returns : goal.returns
returns c =
    shape_is c.args.rows.now (coded_of c.args.coded.now) c.args.args.now c.args.is_field c.args.row c.member_table-table.result c.name_column.result c.signature_column.result c.text-name.result.now c.blob-bytes.result.now c.shape_of.result
    c.member_table-table.ensures c.name_column.ensures c.signature_column.ensures c.text-name.ensures c.blob-bytes.ensures.bytes c.shape_of.ensures
