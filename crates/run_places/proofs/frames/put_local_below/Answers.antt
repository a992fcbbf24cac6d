use Rattle.std.proofs.Common.{◌∙◌, sym, ◌<◌, ◌∷◌, length}
use Rattle.cil_semantics.specs.Frames.{set_locals}
use Rattle.cil_semantics.specs.declared.Frame.{Frame}
use Rattle.run_places.proofs.BelowLaws.{local_put, no_local, of_frame}
use Rattle.run_places.proofs.FrameLaws.{is_below, no_change}
use Rattle.run_places.proofs.frames.put_local_below.Goals as goal

pub returns-in_default-clause-done : goal.returns-in_default-clause-done
returns-in_default-clause-done c = no_change c.args.below.now c.args.at.frame c.args.at.method (set_locals c.args.program.now (c.args.at.index ∷ c.args.path.now) c.args.v) c.in_default.ensures

pub put_local-requires-clause-frame : goal.put_local-requires-clause-frame
put_local-requires-clause-frame c = is_below c.args.below.now c.args.at.frame c.args.at.method c.in-Some.frame.now c.in-Some.ensures

pub put_local-requires-clause-place : goal.put_local-requires-clause-place
put_local-requires-clause-place c = λ f e.
    of_frame (λ (g : Frame). c.args.at.index < length g.local.locals) c.args.below.now c.args.at.frame c.args.at.method c.in-Some.frame.now f c.in-Some.ensures e
    (rw c.in-Some-2.is at c.in_ok-stored_at.ensures.within)

pub returns-in-None-clause-done : goal.returns-in-None-clause-done
returns-in-None-clause-done c =
    no_local c.args.program.now c.args.path.now c.args.v c.args.below.now c.args.at.frame c.args.at.method c.args.at.index c.in-Some.frame.now c.in-Some.ensures (sym c.in-None.is ∙ c.in_ok-stored_at.ensures.value)

pub returns-in-Some-2-clause-done : goal.returns-in-Some-2-clause-done
returns-in-Some-2-clause-done c =
    local_put c.args.program.now c.args.path.now c.args.v c.in-Some-2.left c.args.below.now c.put_local.new.self c.args.at.frame c.args.at.method c.args.at.index c.in-Some.frame.now c.in-Some.ensures (sym c.in-Some-2.is ∙ c.in_ok-stored_at.ensures.value) c.put_local.ensures
