use Rattle.std.proofs.Common.{◌∙◌, ap, List}
use Rattle.set_names.specs.Names.{Name}
use Rattle.set_names.specs.Distinct.{place_of}
use Rattle.set_names.proofs.PlaceLaws.{place_found}
use Rattle.set_names.proofs.distinct.DistinctNames.place.Goals as goal

pub returns : goal.returns
returns c = c.get_index_of.ensures.index ∙ place_found c.args.name.now c.self.inside.names.keys ∙ ap (λ (names : List Name). place_of names c.args.name.now) c.self.view_is
