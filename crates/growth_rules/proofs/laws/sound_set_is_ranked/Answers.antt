use Rattle.std.specs.Prelude.{◌∷◌}
use Rattle.growth_rules.proofs.SoundRowLaws.{keeps_rules}
use Rattle.growth_rules.proofs.RankedLaws.{ranked}
use Rattle.growth_rules.proofs.laws.sound_set_is_ranked.Goals as goal

pub returns : goal.returns
returns c = λ x xs sound. ranked x xs (keeps_rules (x ∷ xs) sound)
