use Rattle.std.proofs.Common.{◌∙◌}
use Rattle.set_types.specs.CodedTypes.{coded_of}
use Rattle.members.proofs.DeclaredLaws.{found_by_key}
use Rattle.members.proofs.declaring.members_by_key.Goals as goal

pub returns : goal.returns
returns c =
    found_by_key c.args.rows.now (coded_of c.args.coded.now) c.args.is_field c.as_slice.result.now c.rows_by_key.result (c.as_slice.ensures.value ∙ c.in_ok-keys.ensures.keys) c.rows_by_key.ensures
