use Rattle.std.proofs.Common.{◌∙◌, ap}
use Rattle.std.specs.Prelude.{is_some}
use Rattle.value_types.proofs.NameLaws.{value_is}
use Rattle.value_types.proofs.names.is_value.Goals as goal

pub returns : goal.returns
returns c = λ s e. c.is_some.ensures ∙ ap is_some c.place.ensures ∙ value_is s c.args.names.now c.args.name.now e
