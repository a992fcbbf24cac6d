use Rattle.std.proofs.Common.{◌≡◌, ◌∙◌, ap}
use Rattle.std.specs.Prelude.{Some}
use Rattle.std.proofs.lemmas.Result.{on_ok_weaker}
use Rattle.run_places.specs.Owners.{owner_place}
use Rattle.run_places.proofs.OwnerLaws.{owner_there, owner_within}
use Rattle.run_statics.proofs.NoteLaws.{first_begun, later_begun}
use Rattle.run_statics.proofs.notes.note_begun_in.Goals as goal

pub begin_at-requires : goal.begin_at-requires
begin_at-requires c = owner_within c.args.ty.now c.args.statics.now c.in-Some.owner (c.in-Some.ensures ∙ ap (owner_place c.args.ty.now) c.as_slice.ensures)

pub returns-in-None : goal.returns-in-None
returns-in-None c =
    on_ok_weaker c.begin_first.result
    (λ e. e ∙ first_begun c.args.program.now c.args.ty.now c.args.statics.now (c.in-None.ensures ∙ ap (owner_place c.args.ty.now) c.as_slice.ensures)) c.begin_first.ensures

pub returns-in-Some : goal.returns-in-Some
returns-in-Some c =
    let t = c.args.ty.now in
    let ss = c.args.statics.now in
    let there : Some c.in-Some.owner ≡ owner_place t ss = c.in-Some.ensures ∙ ap (owner_place t) c.as_slice.ensures in
    owner_there t ss c.in-Some.owner there
    (λ s i. on_ok_weaker c.begin_at.result (λ e. e ∙ later_begun c.args.program.now t ss c.in-Some.owner s there i) (c.begin_at.ensures s i))
