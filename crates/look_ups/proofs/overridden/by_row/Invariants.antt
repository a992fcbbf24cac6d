use Rattle.std.proofs.Common.{◌≡◌, ◌++◌, drop}
use Rattle.cil_semantics.specs.Dispatch.{impls_of}
use Rattle.look_ups.proofs.SourceLaws.{rows_declare}
use Rattle.look_ups.proofs.overridden.by_row.Given as goal

abbrev pub invariant-loop-row : goal.invariant-loop-row
invariant-loop-row l = l.found ++ rows_declare l.program (l.ty, l.method) (drop l.row-index (impls_of l.program l.ty)) ≡ rows_declare l.program (l.ty, l.method) (impls_of l.program l.ty)
