use Rattle.std.proofs.Common.{subst, sym}
use Rattle.program_build.specs.Known.{AreKnown}
use Rattle.program_build.proofs.program.program_of.Goals as goal

pub program_with-requires-clause-known : goal.program_with-requires-clause-known
program_with-requires-clause-known c = subst (AreKnown c.args.tables.now) (sym c.as_slice.ensures.value) c.in_ok-known.ensures
