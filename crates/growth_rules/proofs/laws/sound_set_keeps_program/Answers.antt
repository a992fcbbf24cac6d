use Rattle.growth_rules.proofs.SoundLaws.{sound_keeps}
use Rattle.growth_rules.proofs.laws.sound_set_keeps_program.Goals as goal

pub returns : goal.returns
returns c = λ x xs sound x' appended. sound_keeps x xs sound x' appended
