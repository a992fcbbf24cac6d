-- An outside call without by-reference parameters leaves the frames as they were.
use Rattle.std.proofs.Common.{◌≡◌, Bool, true, false, List, [], ◌∷◌, Option, Some, None, refl, sym, ap, ◌∙◌}
use Rattle.std.specs.Prelude.{if◌then◌else◌, map, codes}
use Rattle.cil_model.specs.declared.ty.Ty.{Ty, out-Ty, Prim, Outside}
use Rattle.cil_model.specs.declared.ty.Ty as types
use Rattle.cil_model.specs.declared.value.Value.{Value}
use Rattle.cil_model.specs.declared.run.ReplyResult.{ReplyResult}
use Rattle.cil_model.specs.declared.run.ReplyResult.TheVariants as reply
use Rattle.cil_model.specs.declared.program.Program.{Program}
use Rattle.cil_semantics.specs.Words.{maybe}
use Rattle.cil_semantics.specs.Core.{Name, class_named}
use Rattle.cil_semantics.specs.Lookups.{is_sub}
use Rattle.cil_semantics.specs.declared.state.Cell.{Cell}
use Rattle.cil_semantics.specs.Places.{storage, is_void, stored_in}
use Rattle.cil_semantics.specs.declared.state.World.{World}
use Rattle.cil_semantics.specs.declared.state.Frame.{Frame}
use Rattle.cil_semantics.specs.State.{with_object, next_object}
use Rattle.cil_semantics.specs.Frames.{stored_args}
use Rattle.cil_semantics.specs.Outside.{fits, by_ref_args, stored_back, Answer, Returned, Threw, Unfit, next_reply, Member, recorded, thrown_out, result_of, answered, ask}
use Rattle.cil_semantics.specs.Checks.{AddedNumbers, event_member, trigger_member}

-- ---- calls without by-reference parameters leave the frames

abbrev pub with_frames : List Frame → Answer → Answer
with_frames fs (Returned v gs w) = Returned v fs w
with_frames fs (Threw x gs w) = Threw x fs w
with_frames fs (Unfit w) = Unfit w

module _ (p : Program) (m : Member) where
  pub thrown_frames : (name : Name) (fs : List Frame) (w u : World) → thrown_out p name fs w (Unfit u) ≡ with_frames fs (thrown_out p name [] w (Unfit u))
  thrown_frames name fs w u = by_test (is_sub p (class_named name) (class_named (codes "System.Exception")))
    where
      by_test : (t : Bool) → (if t then Threw (next_object w) fs (with_object p (record { ty = class_named name; cells = [] }) w) else Unfit u) ≡ with_frames fs (if t then Threw (next_object w) [] (with_object p (record { ty = class_named name; cells = [] }) w) else Unfit u)
      by_test true = refl
      by_test false = refl

  result_frames : (vs : List Value) (x : ReplyResult) (back : List Value) (fs : List Frame) (w u : World) → result_of p m vs x back fs w (Unfit u) ≡ with_frames fs (result_of p m vs x back [] w (Unfit u))
  result_frames vs reply.Default back fs w u = refl
  result_frames vs reply.Void back fs w u = by_test (is_void (storage p m.result))
    where
      by_test : (t : Bool) → (if t then Returned None fs (recorded m vs reply.Void back w) else Unfit u) ≡ with_frames fs (if t then Returned None [] (recorded m vs reply.Void back w) else Unfit u)
      by_test true = refl
      by_test false = refl
  result_frames vs (reply.Given v) back fs w u = by_test (fits p w m.result v) (stored_in p m.result v)
    where
      by_test : (t : Bool) (o : Option Value) → (if t then maybe (Unfit u) (λ y. Returned (Some y) fs (recorded m vs (reply.Given v) back w)) o else Unfit u) ≡ with_frames fs (if t then maybe (Unfit u) (λ y. Returned (Some y) [] (recorded m vs (reply.Given v) back w)) o else Unfit u)
      by_test true None = refl
      by_test true (Some y) = refl
      by_test false o = refl
  result_frames vs (reply.Throw name) back fs w u = thrown_frames name fs (recorded m vs (reply.Throw name) back w) u

  pub ask_frames : (values : List Value) (fs : List Frame) (w : World) → ((vs : List Value) → by_ref_args m.params vs ≡ []) → ask p m values fs w ≡ with_frames fs (ask p m values [] w)
  unfolding ask
  ask_frames values fs w none = by_cells (stored_args p m.params values)
    where
      by_back : (vs back : List Value) (x : ReplyResult) → answered p m vs (record { result = x; by_ref = back }) w (stored_back p [] back fs w) ≡ with_frames fs (answered p m vs (record { result = x; by_ref = back }) w (stored_back p [] back [] w))
      by_back vs [] x = result_frames vs x [] fs w (recorded m vs x [] w)
      by_back vs (v ∷ more) x = refl

      by_cells : (o : Option (List Cell)) → maybe (Unfit w) (λ (cells : List Cell). answered p m (map (λ (c : Cell). c.value) cells) (next_reply w.replies) w (stored_back p (by_ref_args m.params (map (λ (c : Cell). c.value) cells)) (next_reply w.replies).by_ref fs w)) o
          ≡ with_frames fs (maybe (Unfit w) (λ (cells : List Cell). answered p m (map (λ (c : Cell). c.value) cells) (next_reply w.replies) w (stored_back p (by_ref_args m.params (map (λ (c : Cell). c.value) cells)) (next_reply w.replies).by_ref [] w)) o)
      by_cells None = refl
      by_cells (Some cells) =
          let vs = map (λ (c : Cell). c.value) cells in
          let x = next_reply w.replies in
          ap (λ a. answered p m vs x w (stored_back p a x.by_ref fs w)) (none vs) ∙ by_back vs x.by_ref x.result ∙ sym (ap (λ a. with_frames fs (answered p m vs x w (stored_back p a x.by_ref [] w))) (none vs))

-- the members to which failures are reported have none
pub event_plain : (g : AddedNumbers) (label : Value) (vs : List Value) → by_ref_args (event_member g label).params vs ≡ []
unfolding types.out-Ty denote.Hole.Carrier.out
event_plain g label [] = refl
event_plain g label (a ∷ []) = refl
event_plain g label (a ∷ b ∷ []) = refl
event_plain g label (a ∷ b ∷ c ∷ []) = refl
event_plain g label (a ∷ b ∷ c ∷ d ∷ []) = refl
event_plain g label (a ∷ b ∷ c ∷ d ∷ e ∷ vs) = refl

pub trigger_plain : (g : AddedNumbers) (vs : List Value) → by_ref_args (trigger_member g).params vs ≡ []
unfolding types.out-Ty denote.Hole.Carrier.out
trigger_plain g [] = refl
trigger_plain g (a ∷ []) = refl
trigger_plain g (a ∷ b ∷ []) = refl
trigger_plain g (a ∷ b ∷ c ∷ []) = refl
trigger_plain g (a ∷ b ∷ c ∷ d ∷ []) = refl
trigger_plain g (a ∷ b ∷ c ∷ d ∷ e ∷ []) = refl
trigger_plain g (a ∷ b ∷ c ∷ d ∷ e ∷ f ∷ vs) = refl
