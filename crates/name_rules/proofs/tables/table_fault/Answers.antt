use Rattle.std.proofs.Common.{◌∙◌, sym}
use Rattle.name_rules.proofs.TellLaws.{members_answer}
use Rattle.name_rules.proofs.tables.table_fault.Goals as goal

pub returns-then-holds_signature : goal.returns-then-holds_signature
returns-then-holds_signature c =
    members_answer c.args.tables.now c.args.writes c.args.a c.args.table c.signature_fault.result c.requires.there (sym c.holds_signature.ensures ∙ c.if-holds_signature.true) c.signature_fault.ensures
