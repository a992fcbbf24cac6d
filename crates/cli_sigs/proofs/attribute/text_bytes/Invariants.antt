use Rattle.std.proofs.Common.{◌≡◌, ◌-◌}
use Rattle.cli_sigs.specs.Read.{many, with_front, byte_where}
use Rattle.cli_sigs.specs.Reading.{is_byte}
use Rattle.cli_sigs.proofs.attribute.text_bytes.Given as goal

abbrev pub invariant-loop : goal.invariant-loop
invariant-loop l = with_front l.items (many (l.count - l.counter) (byte_where is_byte) l.rest) ≡ many l.count (byte_where is_byte) l.bytes
