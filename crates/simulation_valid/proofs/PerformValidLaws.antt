-- What an act that calls nothing comes to is valid.
use Rattle.std.proofs.Common.{◌≡◌, ℕ, suc, ◌<◌, ◌≤◌, List, [], ◌∷◌, refl, sym, ◌∙◌, subst, length}
use Rattle.std.specs.Prelude.{IsTrue}
use Rattle.cil_model.specs.declared.ty.Ty.{Ty}
use Rattle.cil_model.specs.declared.contract.Contracts.{Contracts}
use Rattle.cil_model.specs.declared.program.Program.{Program}
use Rattle.cil_model.specs.declared.program.MethodDesc.{MethodDesc}
use Rattle.cil_semantics.specs.Core.{Name, class_named}
use Rattle.cil_semantics.specs.Lookups.{args_of}
use Rattle.cil_semantics.specs.declared.state.Object.{Object}
use Rattle.cil_semantics.specs.declared.state.World.{World}
use Rattle.cil_semantics.specs.declared.state.Local.{Local}
use Rattle.cil_semantics.specs.declared.state.Handling.{Handling}
use Rattle.cil_semantics.specs.declared.state.Frame.{Frame}
use Rattle.cil_semantics.specs.declared.state.Access.{Access}
use Rattle.cil_semantics.specs.declared.state.Continuation.TheVariants.{UseField}
use Rattle.cil_semantics.specs.State.{Next, next_object, with_object, with_objects}
use Rattle.cil_semantics.specs.Acts.{Act, Stuck, GoOn, Jump, Raise, Throw, Rethrow, Leave, EndHandler, Return, Load, Store, Copy, UseStatic, CallMember, CallVirtual, NewObject, LoadVirtualFunction}
use Rattle.cil_semantics.specs.Unwind.{plan_at, place_in, innermost, raise, resume}
use Rattle.cil_semantics.specs.Frames.{initializer, Initializer, Ready, FailedWith, ToRun, use_behind}
use Rattle.cil_semantics.specs.Checks.{AddedNumbers}
use Rattle.cil_semantics.specs.Machine.{perform}
use Rattle.machine_laws.specs.Answers.{is_below}
use Rattle.splice_facts.specs.WellFormed.{Bounds, WellFormedObjects, WellFormedWorld, WellFormedAccess}
use Rattle.splice_facts.specs.Input.{access_count}
use Rattle.splice_facts.specs.Layout.{IsHere}
use Rattle.splice_facts.specs.Related.{HandlersLead, Rewritten, HasHeight, bounds}
use Rattle.splice_facts.specs.Related as Pairs
use Rattle.simulation_steps.proofs.PerformLaws.{made_depth}
use Rattle.simulation_valid.proofs.HeightLaws.{but_none}
use Rattle.simulation_valid.specs.Keeping.{NoneVoid, StaysValid}
use Rattle.simulation_valid.specs.Steps.{Topmost, Leaves, RunsHere, MayEnd, ValidAct}
use Rattle.simulation_valid.proofs.WorldLaws.{object_added, class_typed}
use Rattle.simulation_valid.proofs.UnwindValidLaws.{places_of, same_place}
use Rattle.simulation_valid.proofs.PushValidLaws.{arrives_from}
use Rattle.simulation_valid.proofs.EnterValidLaws.{initializer_begins}
use Rattle.simulation_valid.proofs.MoveValidLaws.{relocal, goes_on_valid, loads_valid, stores_valid, copies_valid, uses_static_valid}
use Rattle.simulation_valid.proofs.ReturnValidLaws.{rets_valid}
use Rattle.simulation_valid.proofs.ClauseValidLaws.{throws_here}
use Rattle.simulation_valid.proofs.LeaveValidLaws.{leaves_valid, resumes_valid, throws_top, rethrows_valid}

objects_added : (b : Bounds) (p : Program) (os : List Object) (w : World) → WellFormedObjects b os → WellFormedWorld b w → WellFormedWorld b (with_objects p os w)
objects_added b p [] w h ok = ok
objects_added b p (o ∷ os) w h ok = objects_added b p os (with_object p o w) h.1 (object_added b p o w h.0 ok)

module _ (p : Program) (k : Contracts) (ms : List MethodDesc) (g : AddedNumbers) (r : Rewritten p k ms g) where
  abbrev Stays : Next → Type 0
  Stays x = StaysValid p k ms g r x

  abbrev Bs : Bounds
  Bs = bounds p k ms g r

  in_world : (f : Frame) (fs : List Frame) (w v : World) → Topmost p k ms g r f fs w → WellFormedWorld Bs v → v.depth ≡ w.depth → Topmost p k ms g r f fs v
  in_world f fs w v t ok d =
      record { frame = t.frame; as_named = t.as_named; counted = t.counted; below = record { others = t.below.others; returning = t.below.returning; heights = t.below.heights; world = ok }; count = d ∙ t.count; deep = subst (λ n. n ≤ suc k.settings.guard) (sym d) t.deep }

  raises_valid : (name : Name) (f : Frame) (fs : List Frame) (w : World) → RunsHere p k ms g r f fs w → Stays (raise p k name (f ∷ fs) w)
  raises_valid name f fs w a =
      throws_here p k ms g r f f.local fs w (with_object p (record { ty = class_named name; cells = [] }) w) (next_object w) a (places_of p k ms g r f fs a.top.frame a.top.as_named) refl (object_added Bs p (record { ty = class_named name; cells = [] }) w (class_typed Bs name, tt) a.top.below.world) refl

  ends_handler : (hs : List Handling) (f : Frame) (fs : List Frame) (w : World) → f.handling ≡ hs → RunsHere p k ms g r f fs w → MayEnd p k ms g r f hs → Stays (resume p k hs f fs w)
  ends_handler [] f fs w e a m = tt
  ends_handler (h ∷ hs) f fs w e a m =
      resumes_valid p k ms g r h hs h.cause f fs w a m.0 m.1 ((subst (λ l. Rattle.simulation_valid.proofs.FrameLaws.low p k ms g r f.method l) e (a.top.frame.current m.0).0).1, (subst (λ l. HandlersLead p k ms g r f.method f.at l) e (a.top.frame.leads m.0)).1) m.2

  uses_behind : (i : Initializer) (t : Ty) (c : Access) (f : Frame) (l : Local) (fs : List Frame) (w : World) → RunsHere p k ms g r f fs w → Leaves p k ms g r f l fs (access_count c) → WellFormedAccess Bs c → IsTrue (is_below r.types t) → NoneVoid p (args_of t) → ((m : ℕ) → i ≡ ToRun m → m < r.methods) → Stays (use_behind p k i t c f l fs w)
  uses_behind Ready t c f l fs w a v fine own na old = uses_static_valid p k ms g r c f l fs w a.top v fine
  uses_behind (FailedWith x) t c f l fs w a v fine own na old = throws_here p k ms g r f l fs w w x a v.places v.same a.top.below.world refl
  uses_behind (ToRun m) t c f l fs w a v fine own na old =
      let top1 = relocal p k ms g r f l fs w a.top v.places v.same in
      initializer_begins p k ms g r t m (UseField c) (record f { local = l } ∷ fs) w (old m refl) own na fine tt (top1.frame, top1.below.others) (top1.as_named, top1.counted, top1.below.returning)
      (λ h e q. (subst (λ b. HasHeight p k ms g r (record f { local = l }) (Pairs.goes_on_at p k ms g r b f.at) (Pairs.pushes p k ms g r h.method b)) (sym e) v.height, top1.below.heights)) top1.below.world top1.count top1.deep

  pub performs_valid : (a : Act) (f : Frame) (fs : List Frame) (w : World) → RunsHere p k ms g r f fs w → ValidAct p k ms g r f fs a → Stays (perform p k g a f fs w)
  performs_valid Stuck f fs w a v = tt
  performs_valid (GoOn made l) f fs w a v = goes_on_valid p k ms g r f l fs (with_objects p made w) (in_world f fs w (with_objects p made w) a.top (objects_added Bs p made w v.0 a.top.below.world) (made_depth p k ms g r made w)) v.1
  performs_valid (Jump t l) f fs w a v = arrives_from p k ms g r f t l fs w a.top v.0 v.1 (λ plan old e outer. but_none (length l.stack) _ (v.2 plan old e outer))
  performs_valid (Raise name) f fs w a v = raises_valid name f fs w a
  performs_valid (Throw x) f fs w a v = throws_top p k ms g r f fs w x a
  performs_valid Rethrow f fs w a v = rethrows_valid p k ms g r (innermost f.handling) f fs w a
  performs_valid (Leave t) f fs w a v = leaves_valid p k ms g r 0 (place_in f.at) t f f.handling fs w a v.0 (subst (IsHere (plan_at k p f.method)) (sym (same_place p k ms g r f.at)) a.here) ((a.top.frame.current v.0).0, a.top.frame.leads v.0) v.1
  performs_valid EndHandler f fs w a v = ends_handler f.handling f fs w refl a v
  performs_valid Return f fs w a v = rets_valid p k ms g r f f.at fs w (places_of p k ms g r f fs a.top.frame a.top.as_named) a.top.below a.placed a.top.count a.top.deep a.top.frame.stands.fits a.here
  performs_valid (Load q h l) f fs w a v = loads_valid p k ms g r q h f l fs w a.top v.0 v.1
  performs_valid (Store q x l) f fs w a v = stores_valid p k ms g r q x f l fs w a.top v.0 v.1 v.2
  performs_valid (Copy to from h l) f fs w a v = copies_valid p k ms g r to from h f l fs w a.top v.0 v.1 v.2
  performs_valid (UseStatic t c l) f fs w a v = uses_behind (initializer p w t) t c f l fs w a v.0 v.1 v.2 v.3 (λ m e. r.owned t w m v.2 e)
  performs_valid (CallMember c l) f fs w a v = absurd v
  performs_valid (CallVirtual c l) f fs w a v = absurd v
  performs_valid (NewObject c l) f fs w a v = absurd v
  performs_valid (LoadVirtualFunction c l) f fs w a v = absurd v
