use Rattle.std.proofs.Common.{◌∙◌}
use Rattle.set_types.specs.CodedTypes.{coded_of}
use Rattle.program_build.proofs.RowLaws.{outside_method_is}
use Rattle.program_build.proofs.methods.outside_method_of.Goals as goal

pub returns : goal.returns
returns c =
    c.outside_method.ensures
    ∙ outside_method_is c.args.tables.now c.args.member.now c.args.at c.in_ok-name.name c.owner_of.result c.number-sig.result c.in_ok-parameters.parameters (coded_of c.coded-coded.result.now) c.reference_blob.result.now c.args.sigs.now c.in_ok-signature.signature
    c.requires.at (c.in_ok-name.ensures ∙ c.as_slice.ensures) c.owner_of.ensures c.in_ok-parameters.ensures c.coded-coded.ensures c.reference_blob.ensures.is c.requires.sigs c.number-sig.ensures (c.in_ok-signature.ensures ∙ c.as_slice-2.ensures)
