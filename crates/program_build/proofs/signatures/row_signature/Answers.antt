use Rattle.std.proofs.Common.{[]}
use Rattle.set_types.specs.CodedTypes.{coded_of}
use Rattle.set_signatures.specs.Shapes.{signature_numbers}
use Rattle.program_build.specs.Orders.{signature_at}
use Rattle.program_build.proofs.RowLaws.{same_answer, signature_is}
use Rattle.program_build.proofs.signatures.row_signature.Goals as goal

pub returns : goal.returns
returns c =
    same_answer c.signature_numbers.result (signature_numbers (coded_of c.coded.result.now) [] c.blob-blob.result.now) (signature_at c.args.tables.now c.args.a c.args.row)
    (signature_is c.args.tables.now c.args.a c.args.row (coded_of c.coded.result.now) c.rows_at.result.now c.blob-blob.result.now c.coded.ensures c.rows_at.ensures c.blob-blob.ensures.bytes)
    c.signature_numbers.ensures
