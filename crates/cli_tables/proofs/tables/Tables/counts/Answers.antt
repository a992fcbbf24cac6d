use Rattle.std.proofs.Common.{arith}
use Rattle.std.proofs.lemmas.List.FromFn.{fill_by_all}
use Rattle.cli_tables.specs.Tables.{rows_of}
use Rattle.cli_tables.specs.Written.{counts_to}
use Rattle.cli_tables.proofs.tables.Tables.counts.Goals as goal

pub returns : goal.returns
unfolding counts_to
returns c = fill_by_all (rows_of c.args.self.now) c.loop-table.counts 64 0 c.loop-table.invariant.many (λ k lt. c.loop-table.invariant.filled k (omega (arith, lt)))
