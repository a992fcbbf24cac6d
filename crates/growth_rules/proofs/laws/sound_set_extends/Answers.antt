use Rattle.growth_rules.proofs.SoundLaws.{sound_extends}
use Rattle.growth_rules.proofs.laws.sound_set_extends.Goals as goal

pub returns : goal.returns
returns c = λ x xs sound x' appended. sound_extends x xs sound x' appended
