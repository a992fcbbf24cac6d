use Rattle.std.proofs.Common.{◌≡◌, ◌++◌, drop}
use Rattle.std.specs.Prelude.{filter, map}
use Rattle.cil_model.specs.declared.program.Impl.{Impl}
use Rattle.cil_semantics.specs.Dispatch.{row_names, impls_of}
use Rattle.look_ups.proofs.rows.by_rows.Given as goal

abbrev pub invariant-loop-row : goal.invariant-loop-row
invariant-loop-row l = l.bodies ++ map (λ (i : Impl). i.body) (filter (row_names l.program l.ty (l.owner, l.method)) (drop l.row-index (impls_of l.program l.ty))) ≡ map (λ (i : Impl). i.body) (filter (row_names l.program l.ty (l.owner, l.method)) (impls_of l.program l.ty))
