use Rattle.std.proofs.Common.{ap, sym, ◌∙◌}
use Rattle.std.specs.Prelude.{codes}
use Rattle.std.specs.Str.{bytes_eq}
use Rattle.cil_base.proofs.Small.{not_false}
use Rattle.command_line.specs.Options.{texts}
use Rattle.command_line.proofs.WordLaws.{body_command, rewrite_command, list_command}
use Rattle.command_line.proofs.words.command_of.Goals as goal

pub returns-in-Ok-clause-right : goal.returns-in-Ok-clause-right
returns-in-Ok-clause-right c =
    let same = sym c.eq.ensures ∙ c.if-eq.true in
    let r = c.in-Ok.ensures.right in
    body_command c.args.words.now c.command-item.result (texts c.in-Ok.inputs.now) r.1.0 c.in-Ok.output.now c.in-len1-up.len_at_least c.command-item.is (ap (λ s. bytes_eq s (codes "body")) (sym c.as_str.ensures.value) ∙ same) r.0 r.1.2 r.1.1

pub returns-in-Ok-rewrite_names-clause-right : goal.returns-in-Ok-rewrite_names-clause-right
returns-in-Ok-rewrite_names-clause-right c =
    let same = not_false (bytes_eq c.as_str-in-len1-up-2.result.now (codes "rewrite")) (sym c.ne.ensures ∙ c.if-ne.false) in
    let r = c.in-Ok-rewrite_names.ensures.right in
    rewrite_command c.args.words.now c.command-item.result c.settings_of.result (texts c.in-Ok-rewrite_names.inputs.now) c.in-Ok-rewrite_names.output.now c.in-len1-up.len_at_least c.command-item.is (ap (λ s. bytes_eq s (codes "rewrite")) (sym c.as_str-in-len1-up-2.ensures.value) ∙ same) r.0 r.1 r.2 r.3 c.settings_of.ensures

pub returns-in-Ok-list_names-clause-right : goal.returns-in-Ok-list_names-clause-right
returns-in-Ok-list_names-clause-right c =
    let same = sym c.eq-in-len1-up.ensures ∙ c.if-eq-2.true in
    let r = c.in-Ok-list_names.ensures.right in
    list_command c.args.words.now c.command-item.result (texts c.in-Ok-list_names.inputs.now) c.in-len1-up.len_at_least c.command-item.is (ap (λ s. bytes_eq s (codes "list")) (sym c.as_str-in-len1-up.ensures.value) ∙ same) r.1 r.2 (ap texts r.0)
