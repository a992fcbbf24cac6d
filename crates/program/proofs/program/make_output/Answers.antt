use Rattle.std.proofs.Common.{◌≡◌, ◌∙◌, subst, sym, List, ℕ}
use Rattle.std.specs.Prelude.{OnOk}
use Rattle.cil_base.specs.Refusals.{OnRefused}
use Rattle.body_splice.specs.Rewrite.{IsBodyRefusal, KeepsBodyRules}
use Rattle.command_line.specs.declared.words.Command.{Command}
use Rattle.set_check.specs.Sets.{bytes_at}
use Rattle.set_check.proofs.SetLaws.{bytes_there}
use Rattle.program.specs.Layers.{IsInnerRefusal, KeepsInnerRules}
use Rattle.program.proofs.program.make_output.Goals as goal

first : (c : goal.After-make_from_body) → c.as_slice.result.now ≡ bytes_at c.args.files.now 0
first c = c.as_slice.ensures ∙ bytes_there c.args.files.now 0 c.index-files-0.result c.requires.some c.index-files-0.is

pub returns-in-Body-clause-accepted : goal.returns-in-Body-clause-accepted
returns-in-Body-clause-accepted c =
    let kept = subst (λ (bytes : List ℕ). OnOk c.make_from_body.result (KeepsBodyRules bytes)) (first c) c.make_from_body.ensures.accepted in
    subst (λ (command : Command). OnOk c.make_from_body.result (KeepsInnerRules command c.args.files.now)) (sym c.in-Body.is) kept

pub returns-in-Body-clause-refused : goal.returns-in-Body-clause-refused
returns-in-Body-clause-refused c =
    let kept = subst (λ (bytes : List ℕ). OnRefused c.make_from_body.result (IsBodyRefusal bytes)) (first c) c.make_from_body.ensures.refused in
    subst (λ (command : Command). OnRefused c.make_from_body.result (IsInnerRefusal command c.args.files.now)) (sym c.in-Body.is) kept
