use Rattle.growth_rules.proofs.SoundLaws.{target_attributes}
use Rattle.growth_rules.proofs.laws.sound_target_has_attributes.Goals as goal

pub returns : goal.returns
returns c = λ x xs sound. target_attributes x xs sound
