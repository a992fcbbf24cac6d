use Rattle.std.proofs.Common.{sym, ◌∙◌}
use Rattle.command_line.proofs.OptionLaws.{no_value}
use Rattle.command_line.proofs.options.value_of.Goals as goal

pub returns : goal.returns
returns c = sym (no_value c.args.name.now c.loop-rest.rest.now c.in_default.len_below) ∙ c.loop-rest.invariant
