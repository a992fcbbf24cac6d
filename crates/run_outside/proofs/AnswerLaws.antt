-- What a reply comes to, and what a run that ends at it tells.
use Rattle.std.proofs.Common.{◌≡◌, ◌∙◌, ap, refl, sym, subst, ℕ, List, [], ◌∷◌, ◌++◌}
use Rattle.std.specs.Prelude.{map, Bool, true, false, if◌then◌else◌, Option, Some, None}
use Rattle.cil_model.specs.declared.value.Value.{Value}
use Rattle.cil_model.specs.declared.program.Program.{Program}
use Rattle.cil_model.specs.declared.run.Reply.{Reply}
use Rattle.cil_model.specs.declared.run.ReplyResult.{ReplyResult}
use Rattle.cil_model.specs.declared.run.ReplyResult.TheVariants as reply
use Rattle.cil_semantics.specs.Core.{Name}
use Rattle.cil_semantics.specs.Outside as outside
use Rattle.cil_semantics.specs.Frames.{stored_args}
use Rattle.cil_semantics.specs.Outside.{Answer, answered, ask, ask_new, by_ref_args, fits, making, new_result, next_reply, recorded, stored_back, unfit}
use Rattle.cil_semantics.specs.declared.Cell.{Cell}
use Rattle.cil_model.specs.declared.ty.Ty.{Ty}
use Rattle.cil_semantics.specs.Places.{is_void, storage, stored_in}
use Rattle.cil_semantics.specs.declared.Frame.{Frame}
use Rattle.cil_semantics.specs.declared.World.{World}
use Rattle.cil_semantics.specs.Words.{maybe}
use Rattle.run_outside.specs.Asking.{Answers, IsUnfit, TellsSame, concluded, is_exception, judged, told}
use Rattle.run_outside.specs.declared.asked.Asked.{Asked}
use Rattle.run_outside.specs.declared.judging.Judged.{Judged}
use Rattle.run_outside.specs.declared.judging.Judged.TheVariants as verdict

-- the machine's answer is what the judgement comes to, once the call is recorded
pub result_is : (p : Program) (m : outside.Member) (values : List Value) (r : ReplyResult) (back : List Value) (fs : List Frame) (w : World) (other : Answer) → outside.result_of p m values r back fs w other ≡ concluded p (judged p m w r) fs (recorded m values (told m.default r) back w) other
result_is p m values reply.Default back fs w other = refl
result_is p m values reply.Void back fs w other = cases (is_void (storage p m.result))
  where
    cases : (b : Bool) → (if b then outside.Returned None fs (recorded m values reply.Void back w) else other) ≡ concluded p (if b then verdict.Gives None else verdict.FitsNot) fs (recorded m values reply.Void back w) other
    cases true = refl
    cases false = refl
result_is p m values (reply.Given v) back fs w other = cases (fits p w m.result v) (stored_in p m.result v)
  where
    after : World
    after = recorded m values (reply.Given v) back w

    cases : (b : Bool) (o : Option Value) → (if b then maybe other (λ x. outside.Returned (Some x) fs after) o else other) ≡ concluded p (if b then maybe verdict.FitsNot (λ x. verdict.Gives (Some x)) o else verdict.FitsNot) fs after other
    cases true (Some x) = refl
    cases true None = refl
    cases false o = refl
result_is p m values (reply.Throw name) back fs w other = cases (is_exception p name)
  where
    after : World
    after = recorded m values (reply.Throw name) back w

    cases : (b : Bool) → (if b then concluded p (verdict.Throws name) fs after other else other) ≡ concluded p (if b then verdict.Throws name else verdict.FitsNot) fs after other
    cases true = refl
    cases false = refl

-- a reply that doesn't fit says something
pub told_as_given : (p : Program) (m : outside.Member) (w : World) (r : ReplyResult) → judged p m w r ≡ verdict.FitsNot → told m.default r ≡ r
told_as_given p m w reply.Default e = absurd cc
told_as_given p m w reply.Void e = refl
told_as_given p m w (reply.Given v) e = refl
told_as_given p m w (reply.Throw name) e = refl

-- the same call recorded in two worlds that tell the same
pub recorded_same : (m : outside.Member) (values : List Value) (r s : ReplyResult) (back : List Value) (w x : World) → TellsSame w x → r ≡ s → TellsSame (recorded m values r back w) (recorded m values s back x)
recorded_same m values r s back w x t e =
    record {
      trace = ap (λ (z : ReplyResult). (recorded m values z back w).trace) e ∙ ap (λ is. is ++ record { member = m.number; recorded = record { member = m.name; args = values; reply = record { result = s; by_ref = back } } } ∷ []) t.trace;
      cells = t.cells;
    }

-- from what the last part of a call says
pub conclusion : (p : Program) (m : outside.Member) (values : List Value) (r : Reply) (fs : List Frame) (w first after : World) (j : Judged) (t : ReplyResult) (a : Asked) (x : World)
    → j ≡ judged p m w r.result → t ≡ told m.default r.result → after ≡ recorded m values t r.by_ref w → TellsSame w first
    → ((gs : List Frame) (other : Answer) → (j ≡ verdict.FitsNot → IsUnfit after other) → Answers a gs x (concluded p j gs after other))
    → Answers a fs x (outside.result_of p m values r.result r.by_ref fs w (unfit m values r first))
conclusion p m values r fs w first after j t a x e f g s h =
    let same : concluded p j fs after (unfit m values r first) ≡ outside.result_of p m values r.result r.by_ref fs w (unfit m values r first) =
    ap (λ (z : Judged). concluded p z fs after (unfit m values r first)) e
    ∙ ap (λ (z : World). concluded p (judged p m w r.result) fs z (unfit m values r first)) (g ∙ ap (λ (z : ReplyResult). recorded m values z r.by_ref w) f)
    ∙ sym (result_is p m values r.result r.by_ref fs w (unfit m values r first)) in
    let unlike : j ≡ verdict.FitsNot → IsUnfit after (unfit m values r first) =
    λ n. subst (λ (z : World). TellsSame z (recorded m values r.result r.by_ref first)) (sym g)
    (recorded_same m values t r.result r.by_ref w first s (f ∙ told_as_given p m w r.result (sym e ∙ n))) in
    subst (λ (it : Answer). Answers a fs x it) same (h fs (unfit m values r first) unlike)

-- the same answer of a reply that is known by its case
pub as_given : (a : Asked) (p : Program) (t : Ty) (m : outside.Member) (values : List Value) (r s : ReplyResult) (back : List Value) (fs : List Frame) (w x : World) (other : Answer) → r ≡ s → Answers a fs x (new_result p t m values s back fs w other) → Answers a fs x (new_result p t m values r back fs w other)
as_given a p t m values r s back fs w x other e h = subst (λ (z : ReplyResult). Answers a fs x (new_result p t m values z back fs w other)) (sym e) h

-- the parts of a call outside
pub ask_is : (p : Program) (m : outside.Member) (values : List Value) (fs : List Frame) (w v : World) (cells : List Cell) (vs : List Value) (r : Reply)
    → Some cells ≡ stored_args p m.params values → vs ≡ map (λ (c : Cell). c.value) cells → r ≡ next_reply w.replies → v ≡ w
    → answered p m vs r v (stored_back p (by_ref_args m.params vs) r.by_ref fs v) ≡ ask p m values fs w
unfolding ask
ask_is p m values fs w v cells vs r e f g h =
    ap (λ (z : World). answered p m vs r z (stored_back p (by_ref_args m.params vs) r.by_ref fs z)) h
    ∙ ap (λ (s : Reply). answered p m vs s w (stored_back p (by_ref_args m.params vs) s.by_ref fs w)) g
    ∙ ap (λ (us : List Value). answered p m us (next_reply w.replies) w (stored_back p (by_ref_args m.params us) (next_reply w.replies).by_ref fs w)) f
    ∙ ap (maybe (outside.Unfit w) (λ (cs : List Cell). answered p m (map (λ (c : Cell). c.value) cs) (next_reply w.replies) w (stored_back p (by_ref_args m.params (map (λ (c : Cell). c.value) cs)) (next_reply w.replies).by_ref fs w))) e

pub ask_new_is : (p : Program) (t : Ty) (m : outside.Member) (values : List Value) (fs : List Frame) (w v : World) (cells : List Cell) (vs : List Value) (r : Reply)
    → Some cells ≡ stored_args p m.params values → vs ≡ map (λ (c : Cell). c.value) cells → r ≡ next_reply w.replies → v ≡ w
    → making p t m vs r v (stored_back p (by_ref_args m.params vs) r.by_ref fs v) ≡ ask_new p t m values fs w
unfolding ask_new
ask_new_is p t m values fs w v cells vs r e f g h =
    ap (λ (z : World). making p t m vs r z (stored_back p (by_ref_args m.params vs) r.by_ref fs z)) h
    ∙ ap (λ (s : Reply). making p t m vs s w (stored_back p (by_ref_args m.params vs) s.by_ref fs w)) g
    ∙ ap (λ (us : List Value). making p t m us (next_reply w.replies) w (stored_back p (by_ref_args m.params us) (next_reply w.replies).by_ref fs w)) f
    ∙ ap (maybe (outside.Unfit w) (λ (cs : List Cell). making p t m (map (λ (c : Cell). c.value) cs) (next_reply w.replies) w (stored_back p (by_ref_args m.params (map (λ (c : Cell). c.value) cs)) (next_reply w.replies).by_ref fs w))) e
