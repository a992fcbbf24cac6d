use Rattle.std.proofs.Common.{◌≡◌, ◌∙◌, ap, ◌∷◌}
use Rattle.std.specs.Prelude.{Some, option_map}
use Rattle.std.proofs.lemmas.Result.{IfOk-weaker}
use Rattle.cil_semantics.specs.Frames.{set_in}
use Rattle.run_places.specs.Done.{statics_if}
use Rattle.run_places.specs.Owners.{cells_of, owner_place, set_owner}
use Rattle.run_places.proofs.OwnerLaws.{first_store, later_store, owner_there, owner_within}
use Rattle.run_places.proofs.statics.put_in_statics.Goals as goal

pub put_in_owner-requires : goal.put_in_owner-requires
put_in_owner-requires c = owner_within c.args.ty.now c.args.statics.now c.in-Some.owner (c.in-Some.ensures ∙ ap (owner_place c.args.ty.now) c.as_slice.ensures)

pub returns-in-None-clause-done : goal.returns-in-None-clause-done
returns-in-None-clause-done c =
    let p = c.args.program.now in
    let t = c.args.ty.now in
    let ss = c.args.statics.now in
    IfOk-weaker c.push_owner.result _ (λ done. statics_if done c.push_owner.new.statics ≡ option_map (set_owner t ss) (set_in p (c.args.place ∷ c.args.path.now) c.args.v (cells_of p t ss)))
    (λ done e. e ∙ first_store p t ss (set_in p (c.args.place ∷ c.args.path.now) c.args.v) (c.in-None.ensures ∙ ap (owner_place t) c.as_slice.ensures)) c.push_owner.ensures.done

pub returns-in-Some-clause-done : goal.returns-in-Some-clause-done
returns-in-Some-clause-done c =
    let p = c.args.program.now in
    let t = c.args.ty.now in
    let ss = c.args.statics.now in
    let there : Some c.in-Some.owner ≡ owner_place t ss = c.in-Some.ensures ∙ ap (owner_place t) c.as_slice.ensures in
    owner_there t ss c.in-Some.owner there
    (λ s i. IfOk-weaker c.put_in_owner.result _ (λ done. statics_if done c.put_in_owner.new.statics ≡ option_map (set_owner t ss) (set_in p (c.args.place ∷ c.args.path.now) c.args.v (cells_of p t ss)))
    (λ done e. e ∙ later_store p t ss c.in-Some.owner s (set_in p (c.args.place ∷ c.args.path.now) c.args.v) there i) (c.put_in_owner.ensures.done s i))
