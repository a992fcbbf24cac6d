use Rattle.std.proofs.Common.{◌≡◌, ◌∙◌, ap}
use Rattle.std.specs.Prelude.{Some}
use Rattle.run_places.specs.Owners.{owner_place}
use Rattle.run_places.proofs.OwnerLaws.{owner_there, owner_within}
use Rattle.run_unwind.proofs.FailLaws.{first_failed, later_failed}
use Rattle.run_unwind.proofs.initializing.fail_in.Goals as goal

pub set_init-requires : goal.set_init-requires
set_init-requires c = owner_within c.args.ty.now c.args.statics.now c.in-Some.owner (c.in-Some.ensures ∙ ap (owner_place c.args.ty.now) c.as_slice.ensures)

pub returns-in_ok-push_failed-in-None : goal.returns-in_ok-push_failed-in-None
returns-in_ok-push_failed-in-None c =
    c.in_ok-push_failed-in-None.ensures
    ∙ first_failed c.args.ty.now c.args.exception c.args.statics.now (c.in-None.ensures ∙ ap (owner_place c.args.ty.now) c.as_slice.ensures)

pub returns-in-Some : goal.returns-in-Some
returns-in-Some c =
    let t = c.args.ty.now in
    let ss = c.args.statics.now in
    let there : Some c.in-Some.owner ≡ owner_place t ss = c.in-Some.ensures ∙ ap (owner_place t) c.as_slice.ensures in
    owner_there t ss c.in-Some.owner there (λ s i. c.set_init.ensures s i ∙ later_failed t c.args.exception ss c.in-Some.owner s there i)
