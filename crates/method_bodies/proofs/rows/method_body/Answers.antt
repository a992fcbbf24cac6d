use Rattle.std.proofs.Common.{◌≡◌, subst}
use Rattle.std.specs.Prelude.{ℕ, OnOk}
use Rattle.cil_base.specs.declared.refusal.Refusal.{Refusal}
use Rattle.cil_base.specs.Refusals.{OnRefused}
use Rattle.method_bodies.specs.Bodies.{FaultAt}
use Rattle.method_bodies.specs.Rows.{method_place}
use Rattle.method_bodies.proofs.rows.method_body.Goals as goal

pub returns-clause-accepted : goal.returns-clause-accepted
returns-clause-accepted c =
    subst (λ (rva : ℕ). OnOk c.read_body.result ((r : Refusal) → FaultAt c.args.image.now.bytes (method_place c.args.a c.args.row) rva r → ⊥)) c.cell.ensures c.read_body.ensures.accepted

pub returns-clause-first : goal.returns-clause-first
returns-clause-first c =
    subst (λ (rva : ℕ). OnRefused c.read_body.result (λ r. (s : Refusal) → FaultAt c.args.image.now.bytes (method_place c.args.a c.args.row) rva s → s ≡ r)) c.cell.ensures c.read_body.ensures.first
