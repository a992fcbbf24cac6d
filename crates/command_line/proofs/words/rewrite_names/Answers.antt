use Rattle.std.proofs.Common.{◌≡◌, ◌<◌, ℕ, List, length, true, None, sym, ap, ◌∙◌, subst}
use Rattle.command_line.specs.Options.{texts, value_of, positionals, wrong_behind}
use Rattle.command_line.specs.Words.{rewrite_options}
use Rattle.command_line.proofs.WordLaws.{some_positional, out_there}
use Rattle.command_line.proofs.words.rewrite_names.Goals as goal

pub returns-in-Some-value_of-clause-right : goal.returns-in-Some-value_of-clause-right
returns-in-Some-value_of-clause-right c =
    let words = texts c.args.words.now in
    let right : wrong_behind rewrite_options true 1 words ≡ None = sym c.wrong_behind.ensures ∙ c.in_default.is in
    let some = subst (λ (names : List (List ℕ)). 0 < length names) (sym c.positionals-inputs.ensures.value) (some_positional words right) in
    (right, sym c.positionals-inputs.ensures.value, some, sym (c.in-Some-value_of.ensures ∙ ap (λ n. value_of n words) c.text.ensures))

pub returns-in-None-clause-wrong : goal.returns-in-None-clause-wrong
returns-in-None-clause-wrong c =
    let words = texts c.args.words.now in
    let right : wrong_behind rewrite_options true 1 words ≡ None = sym c.wrong_behind.ensures ∙ c.in_default.is in
    absurd (out_there words right (sym (c.in-None.ensures ∙ ap (λ n. value_of n words) c.text.ensures)))
