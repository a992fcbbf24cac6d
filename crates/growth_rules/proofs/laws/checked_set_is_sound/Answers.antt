use Rattle.growth_rules.proofs.CheckedLaws.{checked_is_sound}
use Rattle.growth_rules.proofs.laws.checked_set_is_sound.Goals as goal

pub returns : goal.returns
returns c = λ set none. checked_is_sound set none
