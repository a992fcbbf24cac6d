use Rattle.growth_rules.proofs.SoundLaws.{sound_names_own}
use Rattle.growth_rules.proofs.laws.sound_set_names_own.Goals as goal

pub returns : goal.returns
returns c = λ x xs sound. sound_names_own x xs sound
