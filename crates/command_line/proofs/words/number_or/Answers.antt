use Rattle.std.proofs.Common.{sym, ap, ◌∙◌}
use Rattle.command_line.specs.Options.{texts, option_text, value_of}
use Rattle.command_line.proofs.WordLaws.{number_there, number_bad}
use Rattle.command_line.proofs.words.number_or.Goals as goal

pub returns-in-Some-number_up_to-clause-value : goal.returns-in-Some-number_up_to-clause-value
returns-in-Some-number_up_to-clause-value c =
    let words = texts c.args.words.now in
    number_there c.args.max c.args.default c.in-Some-number_up_to.number (value_of (option_text c.args.option) words) c.in-Some.text.now (sym (c.in-Some.ensures ∙ ap (λ n. value_of n words) c.text.ensures)) (sym c.number_up_to.ensures ∙ c.in-Some-number_up_to.is)

pub returns-in-None-number_up_to-clause-value : goal.returns-in-None-number_up_to-clause-value
returns-in-None-number_up_to-clause-value c =
    let words = texts c.args.words.now in
    number_bad c.args.max c.args.default (value_of (option_text c.args.option) words) c.in-Some.text.now (sym (c.in-Some.ensures ∙ ap (λ n. value_of n words) c.text.ensures)) (sym c.number_up_to.ensures ∙ c.in-None-number_up_to.is)
