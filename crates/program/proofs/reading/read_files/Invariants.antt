use Rattle.std.proofs.Common.{IsTrue}
use Rattle.command_line.specs.Options.{texts}
use Rattle.program.proofs.ReadingLaws.{AreSoFar}
use Rattle.program.proofs.reading.read_files.Given as goal

abbrev pub invariant-loop-k : goal.invariant-loop-k
invariant-loop-k g l = record {
  so_far : AreSoFar (g.S.Store.tells l.fn.store) (g.S.Store.tells l.store) (g.S.Store.file l.fn.store) (g.S.Store.file l.store) (texts l.names) (g.S.Store.faults l.fn.store) (g.S.Store.faults l.store) l.k l.sum l.files.items;
  steady : IsTrue (g.S.Store.steady l.fn.store) → IsTrue (g.S.Store.steady l.store);
}
