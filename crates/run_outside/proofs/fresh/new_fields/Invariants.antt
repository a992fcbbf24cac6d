use Rattle.std.proofs.Common.{◌≡◌, ◌++◌, ℕ, length, map}
use Rattle.cil_model.specs.declared.ty.Ty.{Ty}
use Rattle.cil_semantics.specs.Places.{default_cells, layout, layouts}
use Rattle.run_outside.proofs.fresh.new_fields.Given as goal

abbrev pub invariant-loop-link : goal.invariant-loop-link
invariant-loop-link l = l.cells ++ default_cells l.fn.program (map (λ (x : ℕ × Ty). x.1) (layouts l.fn.program l.links)) ≡ default_cells l.fn.program (map (λ (x : ℕ × Ty). x.1) (layout l.fn.program l.fn.ty))

abbrev pub decreases-loop-link : goal.decreases-loop-link
decreases-loop-link l = length l.links
