use Rattle.cli_sigs.specs.Reading.{nothing_after}
use Rattle.cli_sigs.proofs.numbers.nothing_rest.Goals as goal

pub returns-in-128 : goal.returns-in-128
unfolding nothing_after
returns-in-128 c = rw c.in-128.is c.this_byte.ensures
