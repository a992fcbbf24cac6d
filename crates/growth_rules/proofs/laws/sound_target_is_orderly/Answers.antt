use Rattle.growth_rules.proofs.SoundLaws.{is_orderly}
use Rattle.growth_rules.proofs.laws.sound_target_is_orderly.Goals as goal

pub returns : goal.returns
returns c = λ x xs sound. is_orderly x xs sound
