use Rattle.std.proofs.Common.{◌∙◌}
use Rattle.value_types.proofs.BlobLaws.{none_read}
use Rattle.member_rules.proofs.signatures.kind_types.Goals as goal

pub returns-in-Err-Refused : goal.returns-in-Err-Refused
returns-in-Err-Refused c =
    c.new.ensures
    ∙ none_read c.args.kind (record { assembly = 0; table = 0; row = 0 }) c.args.blob.now c.in-Err-Refused.field-0 c.in-Err-Refused.field-0-0 c.in-Err-Refused.field-0-is c.in-Err-Refused.ensures.refused
