use Rattle.std.proofs.Common.{◌≡◌, drop}
use Rattle.std.specs.Prelude.{map, filter}
use Rattle.cil_model.specs.declared.body.Region.{Region}
use Rattle.region_tree.specs.Nesting.{have_same_try, last_place, handler_start}
use Rattle.region_tree.proofs.nesting.handler_start.Given as goal

abbrev pub invariant-loop-other : goal.invariant-loop-other
invariant-loop-other l =
    last_place l.start (map (λ (r : Region). r.handler_to) (filter (λ (r : Region). have_same_try r l.region) (drop l.other-index l.earlier))) ≡ handler_start l.earlier l.region
