use Rattle.cil_base.specs.declared.tables.TheConstants.{METHOD_DEF}
use Rattle.set_rows.specs.Sets.{assembly_at}
use Rattle.set_types.specs.CodedTypes.{coded_of}
use Rattle.row_descriptions.specs.RowDescriptions.{method_row}
use Rattle.program_build.specs.Orders.{method_at_row}
use Rattle.program_build.proofs.RowLaws.{same_answer, owners_are, method_is}
use Rattle.program_build.proofs.methods.method_at.Goals as goal

pub returns : goal.returns
returns c =
    same_answer c.method_row.result (method_row c.rows_at.result.now (coded_of c.coded-coded.result.now) c.method_facts-facts.result) (method_at_row c.args.tables.now c.args.a c.args.row)
    (method_is c.args.tables.now c.args.a c.args.row c.number.result c.args.known.now.methods c.args.sigs.now c.in_ok-signature.signature c.method_facts-facts.result (coded_of c.coded-coded.result.now) c.rows_at.result.now
    c.coded-coded.ensures c.rows_at.ensures c.method_facts-facts.ensures c.number.ensures c.in_ok-signature.ensures c.requires.sigs c.requires.known.methods
    (c.marks_give_methods.ensures c.args.tables.now c.args.a c.args.known.now.methods) c.requires.from c.requires.to)
    c.method_row.ensures

pub method_row-requires : goal.method_row-requires
method_row-requires c =
    owners_are (assembly_at c.args.tables.now c.args.a) c.rows_at.result.now 5 METHOD_DEF c.args.known.now.members.method_owners.items c.as_slice-owners.result.now c.rows_at.ensures c.as_slice-owners.ensures.value c.requires.known.members.method_owners
