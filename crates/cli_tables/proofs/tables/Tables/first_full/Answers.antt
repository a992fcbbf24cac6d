use Rattle.std.proofs.Common.{subst, arith}
use Rattle.cli_tables.specs.Tables.{IsShaped}
use Rattle.cli_tables.proofs.WrittenLaws.{none_full}
use Rattle.cli_tables.proofs.tables.Tables.first_full.Goals as goal

pub returns : goal.returns
returns c = none_full c.args.self.now (subst IsShaped c.self.view_is c.self.invariant) (λ t lt. c.loop-table.invariant t (omega (arith, lt)))
