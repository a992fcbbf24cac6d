-- A check in the run with contracts, and what stands for it in the plain run.
use Rattle.std.proofs.Common.{length, ◌≡◌, ℕ, Bool, true, false, List, [], ◌∷◌, Option, Some, None, refl, sym, subst}
use Rattle.std.specs.Prelude.{if◌then◌else◌, map, codes}
use Rattle.cil_model.specs.declared.ty.Ty.{Ty, Prim}
use Rattle.cil_model.specs.declared.value.Value.{Value, out-Value, Null, Text, Obj}
use Rattle.cil_model.specs.declared.value.Value.TheOpen.{Value-F}
use Rattle.cil_model.specs.declared.contract.Contracts.{Contracts}
use Rattle.cil_model.specs.declared.contract.ClauseKind.{ClauseKind}
use Rattle.cil_model.specs.declared.contract.ClauseKind.TheVariants as kind
use Rattle.cil_model.specs.declared.program.Program.{Program}
use Rattle.cil_model.specs.declared.program.MethodDesc.{MethodDesc}
use Rattle.cil_model.specs.declared.run.ReplyResult.{ReplyResult}
use Rattle.cil_model.specs.declared.run.ReplyResult.TheVariants as reply
use Rattle.cil_semantics.specs.Core.{class_named}
use Rattle.cil_semantics.specs.Lookups.{is_sub}
use Rattle.cil_semantics.specs.Places.{storage, stored_in, is_void}
use Rattle.cil_semantics.specs.Frames.{stored_args}
use Rattle.cil_semantics.specs.Words.{maybe}
use Rattle.cil_semantics.specs.declared.state.Cell.{Cell}
use Rattle.cil_semantics.specs.declared.state.Object.{Object}
use Rattle.cil_semantics.specs.declared.state.World.{World}
use Rattle.cil_semantics.specs.declared.state.Statics.{Statics}
use Rattle.cil_semantics.specs.declared.state.Frame.{Frame}
use Rattle.cil_semantics.specs.State.{Next, with_object, next_object}
use Rattle.cil_semantics.specs.declared.state.Continuation.TheVariants.{Push}
use Rattle.cil_semantics.specs.Outside.{by_ref_args, fits, stored_back, Answer, Returned, Threw, Unfit, Member, next_reply, recorded, result_of, answered, ask}
use Rattle.cil_semantics.specs.Checks.{AddedNumbers, Failure, Sequel, event_member, trigger_member, label_text, number_value, contract_failure, throw_exception, made_type, triggered, fail_with, replied, reported, failing}
use Rattle.splice_facts.proofs.ExceptionLaws.{more_failures, longer, new_object}
use Rattle.simulation.proofs.ProgramLaws.{with_object_same}
use Rattle.splice_facts.specs.Bodies.{with_methods}
use Rattle.splice_facts.specs.Grown.{beside}
use Rattle.splice_facts.specs.Spliced.{checking}
use Rattle.splice_facts.specs.Related.{Rewritten, Under}
use Rattle.simulation_steps.specs.Outside as Alike
use Rattle.simulation_calls.specs.Failures as Failing
use Rattle.simulation.proofs.UnwindLaws as Unwinding
use Rattle.simulation_steps.proofs.OutsideLaws as Asking
use Rattle.splice_facts.proofs.AskFrameLaws.{with_frames, ask_frames, event_plain, trigger_plain}

-- a value that comes back from outside leaves the heap as it was
abbrev pub KeepsHeap : List Object → Answer → Type 0
KeepsHeap heap (Returned v gs u) = u.heap ≡ heap
KeepsHeap heap (Threw x gs u) = Unit {0}
KeepsHeap heap (Unfit u) = Unit {0}

module _ (p : Program) (m : Member) where
  kept_result : (vs : List Value) (x : ReplyResult) (back : List Value) (fs : List Frame) (w u : World) → KeepsHeap w.heap (result_of p m vs x back fs w (Unfit u))
  kept_result vs reply.Default back fs w u = refl
  kept_result vs reply.Void back fs w u = by_test (is_void (storage p m.result))
    where
      by_test : (t : Bool) → KeepsHeap w.heap (if t then Returned None fs (recorded m vs reply.Void back w) else Unfit u)
      by_test true = refl
      by_test false = tt
  kept_result vs (reply.Given v) back fs w u = by_test (fits p w m.result v) (stored_in p m.result v)
    where
      by_test : (t : Bool) (o : Option Value) → KeepsHeap w.heap (if t then maybe (Unfit u) (λ y. Returned (Some y) fs (recorded m vs (reply.Given v) back w)) o else Unfit u)
      by_test true None = tt
      by_test true (Some y) = refl
      by_test false o = tt
  kept_result vs (reply.Throw name) back fs w u = by_test (is_sub p (class_named name) (class_named (codes "System.Exception")))
    where
      by_test : (t : Bool) → KeepsHeap w.heap (if t then Threw (next_object (recorded m vs (reply.Throw name) back w)) fs (with_object p (record { ty = class_named name; cells = [] }) (recorded m vs (reply.Throw name) back w)) else Unfit u)
      by_test true = tt
      by_test false = tt

  pub ask_keeps : (values : List Value) (fs : List Frame) (w : World) → ((vs : List Value) → by_ref_args m.params vs ≡ []) → KeepsHeap w.heap (ask p m values fs w)
  unfolding ask
  ask_keeps values fs w none = by_cells (stored_args p m.params values)
    where
      by_back : (vs back : List Value) (x : ReplyResult) → KeepsHeap w.heap (answered p m vs (record { result = x; by_ref = back }) w (stored_back p [] back fs w))
      by_back vs [] x = kept_result vs x [] fs w (recorded m vs x [] w)
      by_back vs (v ∷ more) x = tt

      by_cells : (o : Option (List Cell)) → KeepsHeap w.heap (maybe (Unfit w) (λ (cells : List Cell). answered p m (map (λ (c : Cell). c.value) cells) (next_reply w.replies) w (stored_back p (by_ref_args m.params (map (λ (c : Cell). c.value) cells)) (next_reply w.replies).by_ref fs w)) o)
      by_cells None = tt
      by_cells (Some cells) =
          let vs = map (λ (c : Cell). c.value) cells in
          subst (λ a. KeepsHeap w.heap (answered p m vs (next_reply w.replies) w (stored_back p a (next_reply w.replies).by_ref fs w))) (sym (none vs)) (by_back vs (next_reply w.replies).by_ref (next_reply w.replies).result)

module _ (p : Program) (k : Contracts) (ms : List MethodDesc) (g : AddedNumbers) (r : Rewritten p k ms g) where
  abbrev p' : Program
  p' = with_methods p ms

  abbrev To : ℕ → Next → Next → Type 0
  To n x y = Unwinding.To p k ms g r n x y

  abbrev IsBeside : World → List Statics → Type 0
  IsBeside w ss = Unwinding.IsBeside p k ms g r w ss

  -- the frames are asked alone
  asks_alone : (m : Member) (values : List Value) (w : World) (ss : List Statics) → IsBeside w ss → ((vs : List Value) → by_ref_args m.params vs ≡ []) → Alike.BothAnswer p k ms g r Push Push 0 0 w.depth (ask p m values [] w) (ask p' m values [] (beside ss w))
  asks_alone m values w ss bes none =
      Asking.asks p k ms g r Push Push m values [] [] w ss (Under.bottom Push tt) tt bes (λ cells e. subst (Alike.WellFormedRefs p k ms g r) (sym (none (map (λ (c : Cell). c.value) cells))) tt)

  module _ (n d : ℕ) (heap : List Object) (x : Failure) (s t : Sequel) (fs fs2 : List Frame) (a : Failing.AlikeSequels p k ms g r n d heap x s t fs fs2) where
    triggers_so : (A A' : Answer) → KeepsHeap heap A → Alike.BothAnswer p k ms g r Push Push 0 0 d A A' → To n (triggered p g k.settings.throwing x s (with_frames fs A)) (triggered p' g k.settings.throwing x t (with_frames fs2 A'))
    triggers_so (Returned v gs u) (Returned v' gs' u') kh z = subst (λ y. To n (s.passes u) (t.passes y)) (sym (z.1).world) (a.passes_so u (z.1).statics (z.1).alike (z.1).depth kh)
    triggers_so (Threw y gs u) (Threw y' gs' u') kh z =
        subst (λ y1. To n (s.throws u y) (t.throws u' y1)) (sym z.0) (subst (λ y1. To n (s.throws u y) (t.throws y1 y)) (sym (z.1).world) (a.throws_so u (z.1).statics y (z.1).alike z.2 (z.1).depth))
    triggers_so (Unfit u) (Unfit u') kh z = subst (λ y. To n (s.stops u) (t.stops y)) (sym z.world) (a.stops_so u z.statics z.alike)
    triggers_so (Returned v gs u) (Threw y' gs' u') kh z = absurd z
    triggers_so (Returned v gs u) (Unfit u') kh z = absurd z
    triggers_so (Threw y gs u) (Returned v' gs' u') kh z = absurd z
    triggers_so (Threw y gs u) (Unfit u') kh z = absurd z
    triggers_so (Unfit u) (Returned v' gs' u') kh z = absurd z
    triggers_so (Unfit u) (Threw y' gs' u') kh z = absurd z

    abbrev trigger_values : Value → List Value
    trigger_values text = number_value x ∷ text ∷ x.user ∷ label_text x ∷ Null ∷ []

    throws_or_triggers : (text : Value) (w : World) (ss : List Statics) → IsBeside w ss → w.depth ≡ d → w.heap ≡ heap → (b : Bool)
        → To n (if b then s.throws (with_object p (contract_failure g x) w) (next_object w) else triggered p g k.settings.throwing x s (ask p (trigger_member g) (trigger_values text) fs w))
        (if b then t.throws (with_object p' (contract_failure g x) (beside ss w)) (next_object (beside ss w)) else triggered p' g k.settings.throwing x t (ask p' (trigger_member g) (trigger_values text) fs2 (beside ss w)))
    throws_or_triggers text w ss bes e h true =
        subst (λ y. To n (s.throws (with_object p (contract_failure g x) w) (next_object w)) (t.throws y (next_object (beside ss w)))) (sym (with_object_same p ms (contract_failure g x) (beside ss w)))
        (a.throws_so (with_object p (contract_failure g x) w) ss (next_object w)
        (record { statics = bes.statics; depth = bes.depth; bare = bes.bare; failures = more_failures (length w.heap) (length (with_object p (contract_failure g x) w).heap) w.statics (longer w.heap (contract_failure g x)) bes.failures }) (new_object w.heap (contract_failure g x)) e)
    throws_or_triggers text w ss bes e h false =
        subst (λ A. To n (triggered p g k.settings.throwing x s A) (triggered p' g k.settings.throwing x t (ask p' (trigger_member g) (trigger_values text) fs2 (beside ss w)))) (sym (ask_frames p (trigger_member g) (trigger_values text) fs w (trigger_plain g)))
        (subst (λ A. To n (triggered p g k.settings.throwing x s (with_frames fs (ask p (trigger_member g) (trigger_values text) [] w))) (triggered p' g k.settings.throwing x t A)) (sym (ask_frames p' (trigger_member g) (trigger_values text) fs2 (beside ss w) (trigger_plain g)))
        (triggers_so (ask p (trigger_member g) (trigger_values text) [] w) (ask p' (trigger_member g) (trigger_values text) [] (beside ss w)) (subst (λ z. KeepsHeap z (ask p (trigger_member g) (trigger_values text) [] w)) h (ask_keeps p (trigger_member g) (trigger_values text) [] w (trigger_plain g))) (subst (λ z. Alike.BothAnswer p k ms g r Push Push 0 0 z (ask p (trigger_member g) (trigger_values text) [] w) (ask p' (trigger_member g) (trigger_values text) [] (beside ss w))) e (asks_alone (trigger_member g) (trigger_values text) w ss bes (trigger_plain g)))))

    kinds_so : (kd : ClauseKind) → x.kind ≡ kd → (text : Value) (w : World) (ss : List Statics) → IsBeside w ss → w.depth ≡ d → w.heap ≡ heap → To n (fail_with p g k.settings.throwing x s kd text fs w) (fail_with p' g k.settings.throwing x t kd text fs2 (beside ss w))
    kinds_so kind.RequiresOf ek text w ss bes e h = by_exception (made_type x) refl
      where
        by_exception : (o : Option Ty) → made_type x ≡ o → To n (maybe (s.stops w) (λ ty. throw_exception p g k.settings.throwing x s ty text fs w) o) (maybe (t.stops (beside ss w)) (λ ty. throw_exception p' g k.settings.throwing x t ty text fs2 (beside ss w)) o)
        by_exception None q = a.stops_so w ss bes
        by_exception (Some ty) q = a.makes_so w ss ty text ek q bes e
    kinds_so kind.Requires ek text w ss bes e h = throws_or_triggers text w ss bes e h k.settings.throwing
    kinds_so kind.Ensures ek text w ss bes e h = throws_or_triggers text w ss bes e h k.settings.throwing
    kinds_so kind.Throws ek text w ss bes e h = throws_or_triggers text w ss bes e h k.settings.throwing
    kinds_so kind.Invariant ek text w ss bes e h = throws_or_triggers text w ss bes e h k.settings.throwing
    kinds_so kind.Assert ek text w ss bes e h = throws_or_triggers text w ss bes e h k.settings.throwing
    kinds_so kind.Assume ek text w ss bes e h = throws_or_triggers text w ss bes e h k.settings.throwing

    replies_so : (v : Value-F Value) (w : World) (ss : List Statics) → IsBeside w ss → w.depth ≡ d → w.heap ≡ heap → To n (replied p g k.settings.throwing x s v fs w) (replied p' g k.settings.throwing x t v fs2 (beside ss w))
    replies_so Value-F.Null w ss bes e h = a.passes_so w ss bes e h
    replies_so (Value-F.Text units) w ss bes e h = kinds_so x.kind refl (Text units) w ss bes e h
    replies_so (Value-F.Obj y) w ss bes e h = kinds_so x.kind refl (Obj y) w ss bes e h
    replies_so _ w ss bes e h = a.stops_so w ss bes

    by_value : (o : Option Value) (w : World) (ss : List Statics) → IsBeside w ss → w.depth ≡ d → w.heap ≡ heap → To n (maybe (s.stops w) (λ y. replied p g k.settings.throwing x s (out-Value y) fs w) o) (maybe (t.stops (beside ss w)) (λ y. replied p' g k.settings.throwing x t (out-Value y) fs2 (beside ss w)) o)
    by_value None w ss bes e h = a.stops_so w ss bes
    by_value (Some v) w ss bes e h = replies_so (out-Value v) w ss bes e h

    answers_so : (A A' : Answer) → KeepsHeap heap A → Alike.BothAnswer p k ms g r Push Push 0 0 d A A' → To n (reported p g k.settings.throwing x s fs (with_frames fs A)) (reported p' g k.settings.throwing x t fs2 (with_frames fs2 A'))
    answers_so (Returned o gs u) (Returned o' gs' u') kh z =
        subst (λ q. To n (reported p g k.settings.throwing x s fs (Returned o fs u)) (reported p' g k.settings.throwing x t fs2 (Returned q fs2 u'))) (sym z.0)
        (subst (λ y. To n (reported p g k.settings.throwing x s fs (Returned o fs u)) (reported p' g k.settings.throwing x t fs2 (Returned o fs2 y))) (sym (z.1).world) (by_value o u (z.1).statics (z.1).alike (z.1).depth kh))
    answers_so (Threw y gs u) (Threw y' gs' u') kh z =
        subst (λ y1. To n (s.throws u y) (t.throws u' y1)) (sym z.0) (subst (λ y1. To n (s.throws u y) (t.throws y1 y)) (sym (z.1).world) (a.throws_so u (z.1).statics y (z.1).alike z.2 (z.1).depth))
    answers_so (Unfit u) (Unfit u') kh z = subst (λ y. To n (s.stops u) (t.stops y)) (sym z.world) (a.stops_so u z.statics z.alike)
    answers_so (Returned v gs u) (Threw y' gs' u') kh z = absurd z
    answers_so (Returned v gs u) (Unfit u') kh z = absurd z
    answers_so (Threw y gs u) (Returned v' gs' u') kh z = absurd z
    answers_so (Threw y gs u) (Unfit u') kh z = absurd z
    answers_so (Unfit u) (Returned v' gs' u') kh z = absurd z
    answers_so (Unfit u) (Threw y' gs' u') kh z = absurd z

    abbrev event_values : List Value
    event_values = number_value x ∷ x.user ∷ label_text x ∷ Null ∷ []

    -- a failure is reported and answered alike
    pub fails_so : (w : World) (ss : List Statics) → IsBeside w ss → w.depth ≡ d → w.heap ≡ heap → To n (failing p g k.settings.throwing x s fs w) (failing p' g k.settings.throwing x t fs2 (beside ss w))
    unfolding failing
    fails_so w ss bes e h =
        subst (λ A. To n (reported p g k.settings.throwing x s fs A) (failing p' g k.settings.throwing x t fs2 (beside ss w))) (sym (ask_frames p (event_member g (label_text x)) event_values fs w (event_plain g (label_text x))))
        (subst (λ A. To n (reported p g k.settings.throwing x s fs (with_frames fs (ask p (event_member g (label_text x)) event_values [] w))) (reported p' g k.settings.throwing x t fs2 A)) (sym (ask_frames p' (event_member g (label_text x)) event_values fs2 (beside ss w) (event_plain g (label_text x))))
        (answers_so (ask p (event_member g (label_text x)) event_values [] w) (ask p' (event_member g (label_text x)) event_values [] (beside ss w)) (subst (λ z. KeepsHeap z (ask p (event_member g (label_text x)) event_values [] w)) h (ask_keeps p (event_member g (label_text x)) event_values [] w (event_plain g (label_text x))))
        (subst (λ z. Alike.BothAnswer p k ms g r Push Push 0 0 z (ask p (event_member g (label_text x)) event_values [] w) (ask p' (event_member g (label_text x)) event_values [] (beside ss w))) e (asks_alone (event_member g (label_text x)) event_values w ss bes (event_plain g (label_text x))))))

    pub checks_so : (b : Bool) (w : World) (ss : List Statics) → IsBeside w ss → w.depth ≡ d → w.heap ≡ heap → To n (checking p g k.settings.throwing x s b fs w) (checking p' g k.settings.throwing x t b fs2 (beside ss w))
    checks_so true w ss bes e h = a.passes_so w ss bes e h
    checks_so false w ss bes e h = fails_so w ss bes e h
