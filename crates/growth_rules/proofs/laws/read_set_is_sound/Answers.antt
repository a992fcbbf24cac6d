use Rattle.growth_rules.proofs.ReadLaws.{is_sound}
use Rattle.growth_rules.proofs.laws.read_set_is_sound.Goals as goal

pub returns : goal.returns
returns c = λ set readable blobs names. is_sound set readable blobs names
