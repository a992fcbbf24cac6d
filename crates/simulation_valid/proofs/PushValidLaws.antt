-- A frame goes on at a place of the same part, and a value is pushed in the frame below.
use Rattle.std.proofs.Common.{◌≡◌, ℕ, ◌+◌, ◌<◌, false, List, [], ◌∷◌, length, Option, Some, None, refl, sym, ap, ◌∙◌, subst}
use Rattle.cil_model.specs.declared.value.Value.{Value}
use Rattle.cil_model.specs.declared.contract.Contracts.{Contracts}
use Rattle.cil_model.specs.declared.contract.Group.TheVariants as group
use Rattle.cil_model.specs.declared.program.Program.{Program}
use Rattle.cil_model.specs.declared.program.MethodDesc.{MethodDesc}
use Rattle.cil_semantics.specs.Words.{maybe}
use Rattle.cil_semantics.specs.declared.state.World.{World}
use Rattle.cil_semantics.specs.declared.state.Local.{Local}
use Rattle.cil_semantics.specs.declared.state.ProgramPoint.{ProgramPoint}
use Rattle.cil_semantics.specs.declared.state.ProgramPoint.TheVariants.{LeadIn, InGroup, Rest}
use Rattle.cil_semantics.specs.declared.state.Handling.{Handling}
use Rattle.cil_semantics.specs.declared.state.Frame.{Frame}
use Rattle.cil_semantics.specs.State.{Next, pushed}
use Rattle.cil_semantics.specs.Contracted.{Plan}
use Rattle.cil_semantics.specs.Unwind.{plan_at, place_in, moved_to, arrive, arrive_in}
use Rattle.cil_semantics.specs.Returns.{push_below, returned}
use Rattle.cil_semantics.specs.Checks.{AddedNumbers}
use Rattle.splice_facts.specs.WellFormed.{WellFormedIf}
use Rattle.splice_facts.specs.Input.{is_group, top_of}
use Rattle.splice_facts.specs.Related.{Rewritten, bounds, in_group, count_groups}
use Rattle.simulation.proofs.PushLaws.{fits_moved}
use Rattle.simulation_valid.proofs.HeightLaws.{and_none, but_none, and_one}
use Rattle.simulation_valid.specs.Keeping.{KeepsReturned, StaysValid, ValidPlaces}
use Rattle.simulation_valid.proofs.FrameLaws as Standing
use Rattle.simulation_valid.proofs.ArriveValidLaws.{arrives}
use Rattle.simulation_valid.proofs.UnwindValidLaws.{places_of, restacked}
use Rattle.simulation_valid.specs.Steps.{Topmost, NextHeight, MayPush}

pub group_moved : (at : ProgramPoint) (t : ℕ) → is_group (moved_to t at) ≡ is_group at
group_moved (LeadIn q) t = refl
group_moved (InGroup gr j q) t = refl
group_moved (Rest q) t = refl

pub count_moved : (at : ProgramPoint) (t : ℕ) → in_group (moved_to t at) ≡ in_group at
count_moved (LeadIn q) t = refl
count_moved (InGroup gr j q) t = refl
count_moved (Rest q) t = refl

pub counted_moved : (p : Program) (f : Frame) (at : ProgramPoint) (t : ℕ) (l : Local) → l.result ≡ f.local.result → KeepsReturned p f at → KeepsReturned p (record f { local = l }) (moved_to t at)
counted_moved p f (LeadIn q) t l e h = tt
counted_moved p f (Rest q) t l e h = tt
counted_moved p f (InGroup group.Entry j q) t l e h = tt
counted_moved p f (InGroup group.Exit j q) t l e h = (ap (λ o. length (top_of o)) e ∙ h.0, subst (λ o. returned p f (top_of o) ≡ Some o) (sym e) h.1)
counted_moved p f (InGroup group.Throw j q) t l e h = tt
counted_moved p f (InGroup group.Invariant j q) t l e h = (ap (λ o. length (top_of o)) e ∙ h.0, subst (λ o. returned p f (top_of o) ≡ Some o) (sym e) h.1)
counted_moved p f (InGroup group.Inline j q) t l e h = tt

module _ (p : Program) (k : Contracts) (ms : List MethodDesc) (g : AddedNumbers) (r : Rewritten p k ms g) where
  abbrev Stays : Next → Type 0
  Stays x = StaysValid p k ms g r x

  -- it goes on at a place of the same part, with locals that are well formed and the height of that place
  pub moves : (f : Frame) (t : ℕ) (l : Local) (hs : List Handling) (fs : List Frame) (w : World) → Topmost p k ms g r f fs w → ValidPlaces p k ms g r (record f { local = l }) fs → l.result ≡ f.local.result → (is_group f.at ≡ false → Standing.pending p k ms g r f.method f.at hs)
      → ((plan : Plan) (old : f.method < r.methods) (e : plan_at k p f.method ≡ Some plan) → is_group f.at ≡ false → Some (length l.stack) ≡ (r.heights f.method plan old e).height (moved_to t f.at)) → Stays (arrive_in p (plan_at k p f.method) f (moved_to t f.at) l hs fs w)
  moves f t l hs fs w top places same low height =
      arrives p k ms g r (plan_at k p f.method) f (moved_to t f.at) l hs fs w refl
      (record {
        places = places;
        below = top.below;
        fits = fits_moved (Standing.Fits p k ms g r) f.at t f.thrown top.frame.stands.fits;
        counted = counted_moved p f f.at t l same top.counted;
        low = λ e. let outer = sym (group_moved f.at t) ∙ e in ((low outer).0, Standing.leads_moved p k ms g r f.method f.at t hs outer (low outer).1);
        height = λ plan old e outer. and_none (length l.stack) _ (height plan old e (sym (group_moved f.at t) ∙ outer));
        count = top.count ∙ ap (λ n. n + count_groups fs) (sym (count_moved f.at t));
        deep = top.deep;
      })

  -- the handlers that are pending stay
  pub arrives_from : (f : Frame) (t : ℕ) (l : Local) (fs : List Frame) (w : World) → Topmost p k ms g r f fs w → ValidPlaces p k ms g r (record f { local = l }) fs → l.result ≡ f.local.result
      → ((plan : Plan) (old : f.method < r.methods) (e : plan_at k p f.method ≡ Some plan) → is_group f.at ≡ false → Some (length l.stack) ≡ (r.heights f.method plan old e).height (moved_to t f.at)) → Stays (arrive p k f (moved_to t f.at) l fs w)
  arrives_from f t l fs w top places same height = moves f t l f.handling fs w top places same (λ e. ((top.frame.current e).0, top.frame.leads e)) height

  abbrev with_value : Option Value → Local → Local
  with_value v l = maybe l (λ x. pushed x l) v

  pub top_of_given : (f : Frame) (fs : List Frame) (w : World) → MayPush p k ms g r (f ∷ fs) w → Topmost p k ms g r f fs w
  top_of_given f fs w v = record { frame = v.others.0; as_named = v.returning.0; counted = v.returning.1; below = record { others = v.others.1; returning = v.returning.2; heights = v.heights; world = v.world }; count = v.count; deep = v.deep }

  pub pushes_valid : (v : Option Value) (fs : List Frame) (w : World) → MayPush p k ms g r fs w → WellFormedIf (bounds p k ms g r) v → NextHeight p k ms g r (length (top_of v)) fs → Stays (push_below p k v fs w)
  pushes_valid v [] w ok fine height = tt
  pushes_valid None (f ∷ fs) w ok fine height =
      let top = top_of_given f fs w ok in
      arrives_from f (place_in f.at + 1) f.local fs w top (places_of p k ms g r f fs top.frame top.as_named) refl (λ plan old e outer. but_none (length f.local.stack) _ (height plan old e outer))
  pushes_valid (Some x) (f ∷ fs) w ok fine height =
      let top = top_of_given f fs w ok in
      arrives_from f (place_in f.at + 1) (pushed x f.local) fs w top (restacked p k ms g r f (x ∷ f.local.stack) fs (places_of p k ms g r f fs top.frame top.as_named) (fine, top.frame.fine.stack)) refl (λ plan old e outer. and_one (length f.local.stack) _ (height plan old e outer))
