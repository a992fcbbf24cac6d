use Rattle.std.proofs.Common.{arith}
use Rattle.cli_tables.proofs.StreamLaws.{byte_at}
use Rattle.cli_tables.proofs.table.number.Goals as goal

pub returns-in-1 : goal.returns-in-1
returns-in-1 c = rw c.in-1.is (grind (arith, byte_at c.args.bytes.now c.args.at))
