use Rattle.std.proofs.Common.{◌∙◌}
use Rattle.set_types.specs.CodedTypes.{coded_of}
use Rattle.program_build.proofs.RowLaws.{outside_field_is}
use Rattle.program_build.proofs.fields.outside_field_of.Goals as goal

pub returns : goal.returns
returns c =
    c.outside_field.ensures
    ∙ outside_field_is c.args.tables.now c.args.member.now c.args.at c.in_ok-name.name c.owner_of.result c.in_ok-ty.ty (coded_of c.coded-coded.result.now) c.reference_blob.result.now
    c.requires.at (c.in_ok-name.ensures ∙ c.as_slice.ensures) c.owner_of.ensures c.in_ok-ty.ensures c.coded-coded.ensures c.reference_blob.ensures.is
