use Rattle.std.proofs.Common.{◌∙◌, ap}
use Rattle.set_names.specs.Names.{Noted, number_under}
use Rattle.set_names.proofs.NameLaws.{contents_found}
use Rattle.members.proofs.keys.Keys.number.Goals as goal

pub returns : goal.returns
returns c = c.copied.ensures ∙ c.get.ensures.value ∙ contents_found c.args.key.now c.self.inside.numbers.entries ∙ ap (λ (es : Noted). number_under es c.args.key.now) c.self.view_is
