use Rattle.std.proofs.Common.{◌∙◌, sym}
use Rattle.name_rules.proofs.RewriteLaws.{not_written}
use Rattle.name_rules.proofs.rewriting.rewrite_fault.Goals as goal

pub returns : goal.returns
returns c = not_written c.args.set.now c.args.writes c.args.a c.args.table (sym c.is_written.ensures ∙ c.if-is_written.false)
