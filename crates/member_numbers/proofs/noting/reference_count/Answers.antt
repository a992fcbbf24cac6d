use Rattle.std.proofs.Common.{◌∙◌, sym, ap}
use Rattle.std.specs.Option.{option_copied}
use Rattle.cil_base.specs.declared.tables.TheConstants.{MEMBER_REF}
use Rattle.member_table.proofs.NoteLaws.{none_counted}
use Rattle.member_numbers.proofs.noting.reference_count.Goals as goal

pub returns-in-None : goal.returns-in-None
returns-in-None c = none_counted c.args.assemblies.now c.args.a MEMBER_REF (sym c.at.ensures ∙ ap option_copied c.in-None.is)
