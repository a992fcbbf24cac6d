use Rattle.std.proofs.Common.{◌≡◌, ◌-◌}
use Rattle.cli_sigs.specs.Read.{many, with_front}
use Rattle.cli_sigs.specs.Reading.{signed}
use Rattle.cli_sigs.proofs.numbers.signed_items.Given as goal

abbrev pub invariant-loop : goal.invariant-loop
invariant-loop l = with_front l.items (many (l.count - l.counter) signed l.rest) ≡ many l.count signed l.bytes
