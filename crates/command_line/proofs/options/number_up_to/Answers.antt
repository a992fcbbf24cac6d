use Rattle.std.proofs.Common.{sym, ◌∙◌}
use Rattle.command_line.proofs.OptionLaws.{number_read, number_not_read}
use Rattle.command_line.proofs.options.number_up_to.Goals as goal

pub returns-then-number-max : goal.returns-then-number-max
returns-then-number-max c = sym (number_read c.args.max c.in-Ok.number c.args.text.now c.parse.result (sym c.begins_plain.ensures ∙ c.if-not-begins_plain.false) c.parse.ensures.value.0 c.in-Ok.is c.if-number-max.true)

pub returns-in-Err : goal.returns-in-Err
returns-in-Err c = sym (number_not_read c.args.max c.in-Err.field-0 c.args.text.now c.parse.result c.ranges.max.fits (sym c.begins_plain.ensures ∙ c.if-not-begins_plain.false) c.parse.ensures.value.0 c.in-Err.is)
