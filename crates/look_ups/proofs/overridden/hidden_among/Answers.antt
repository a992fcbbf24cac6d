use Rattle.std.proofs.Common.{◌∙◌, sym, ap}
use Rattle.std.specs.Prelude.{Some}
use Rattle.cil_model.specs.declared.ty.Ty.{Ty}
use Rattle.look_ups.proofs.SourceLaws.{hidden_here}
use Rattle.look_ups.proofs.overridden.hidden_among.Goals as goal

pub returns-in-Some : goal.returns-in-Some
returns-in-Some c =
    ap (λ (t : Ty). Some (t, c.in-Some.m)) c.in_ok-copied.ensures
    ∙ sym (hidden_here c.args.program.now (c.args.own.now, c.args.method) c.args.above.now c.loop-base.base-index c.in-Some.m c.base-item.result c.loop-base-test.true c.base-item.is (sym c.in_ok-m.ensures ∙ c.in-Some.is) c.loop-base.invariant)
