-- Acts that call nothing, what an act throws, and entries: references stay.
use Rattle.std.proofs.Common.{ℕ, suc, false, List, [], ◌∷◌, Option, Some, None, refl}
use Rattle.cil_model.specs.declared.contract.Contracts.{Contracts}
use Rattle.cil_model.specs.declared.program.Program.{Program}
use Rattle.cil_semantics.specs.declared.state.World.{World}
use Rattle.cil_semantics.specs.declared.state.Local.{Local}
use Rattle.cil_semantics.specs.declared.state.Object.{Object}
use Rattle.cil_semantics.specs.declared.state.Handling.{Handling}
use Rattle.cil_semantics.specs.declared.state.Frame.{Frame}
use Rattle.cil_semantics.specs.declared.state.Continuation.TheVariants.{Push}
use Rattle.cil_semantics.specs.State.{Next, with_object, with_objects}
use Rattle.cil_semantics.specs.Acts.{Act, Stuck, GoOn, Jump, Raise, Throw, Rethrow, Leave, EndHandler, Return, Load, Store, Copy, UseStatic, CallMember, CallVirtual, NewObject, LoadVirtualFunction}
use Rattle.cil_semantics.specs.Unwind.{plan_at, place_in, moved_to, unwind, innermost}
use Rattle.cil_semantics.specs.Frames.{if_there, go_on, initializer, param_types, owner_type}
use Rattle.cil_semantics.specs.Calls.{pushes_new}
use Rattle.cil_semantics.specs.Machine.{empty_world}
use Rattle.cil_semantics.specs.Outside.{fits}
use Rattle.splice_facts.specs.Exceptions.{ObjectIf, CausesThere, ThrowsObject}
use Rattle.object_validity.specs.Known.{KnownWorld, KnownFrame, KnownFrames, KnownMade, KnownAct, KeepsReferences}
use Rattle.object_validity.specs.Steps.{PerformsKnown, ThrowsKnown, EntriesKnown}
use Rattle.object_validity.proofs.GrowthLaws.{grown_cells, grown_frame, grown_frames, object_added}
use Rattle.object_validity.proofs.MoveLaws.{arrives_known, unwinds_known, leaves_known, resumes_known, innermost_there}
use Rattle.object_validity.proofs.PlaceStepLaws.{with_locals, goes_on, loads_known, stores_known, copies_known, use_begins, initializer_there, enters_known}
use Rattle.object_validity.proofs.ReturnLaws.{returns_known}
use Rattle.object_validity.proofs.ClassActLaws.{acts_known}
use Rattle.object_validity.proofs.CallLaws.{raises_known, calls_known, virtual_known, looks_up}
use Rattle.object_validity.proofs.NewLaws.{makes_known, pushes_known_new}
use Rattle.object_validity.proofs.FitsLaws.{each_fine, fits_fine}

abbrev Keeps : Next → Type 0
Keeps x = KeepsReferences x

made_known : (p : Program) (k : Contracts) (b : ℕ) (made : List Object) (f : Frame) (l : Local) (fs : List Frame) (w : World) → KnownMade b made l → KnownFrame b f → KnownFrames b fs → KnownWorld b w → Keeps (go_on p k f l fs (with_objects p made w))
made_known p k b [] f l fs w km kf ks kw = goes_on p k b f l fs w km kf ks kw
made_known p k b (o ∷ os) f l fs w km kf ks kw = made_known p k (suc b) os f l fs (with_object p o w) km.1 (grown_frame b f kf) (grown_frames b fs ks) (object_added b p o w (grown_cells b o.cells km.0) kw)

rethrows_known : (p : Program) (k : Contracts) (b : ℕ) (o : Option ℕ) (fs : List Frame) (w : World) → ObjectIf b o → KnownFrames b fs → KnownWorld b w → Keeps (if_there o w (λ x. unwind p k false fs w x))
rethrows_known p k b None fs w there ks kw = tt
rethrows_known p k b (Some x) fs w there ks kw = unwinds_known p k fs b false w x ks kw there

pub performs_known : PerformsKnown
performs_known p k g b Stuck f fs w ka kf ks kw = tt
performs_known p k g b (GoOn made l) f fs w ka kf ks kw = made_known p k b made f l fs w ka kf ks kw
performs_known p k g b (Jump t l) f fs w ka kf ks kw = arrives_known p b (plan_at k p f.method) f (moved_to t f.at) l f.handling fs w ka kf.handling kf ks kw
performs_known p k g b (Raise name) f fs w ka kf ks kw = raises_known p k b name (f ∷ fs) w (kf, ks) kw
performs_known p k g b (Throw x) f fs w ka kf ks kw = unwinds_known p k (f ∷ fs) b false w x (kf, ks) kw ka
performs_known p k g b Rethrow f fs w ka kf ks kw = rethrows_known p k b (innermost f.handling) (f ∷ fs) w (innermost_there b f.handling kf.handling) (kf, ks) kw
performs_known p k g b (Leave t) f fs w ka kf ks kw = leaves_known p k b 0 (place_in f.at) t f f.handling fs w kf.handling kf ks kw
performs_known p k g b EndHandler f fs w ka kf ks kw = resumes_known p k b f.handling f fs w kf.handling kf ks kw
performs_known p k g b Return f fs w ka kf ks kw = returns_known p k b f fs w kf ks kw
performs_known p k g b (Load q h l) f fs w ka kf ks kw = loads_known p k b q h f l fs w ka kf ks kw
performs_known p k g b (Store q v l) f fs w ka kf ks kw = stores_known p k b q v f l fs w ka.0 ka.1 kf ks kw
performs_known p k g b (Copy to from h l) f fs w ka kf ks kw = copies_known p k b to from h f l fs w ka kf ks kw
performs_known p k g b (UseStatic t a l) f fs w ka kf ks kw = use_begins p k b (initializer p w t) t a f l fs w (initializer_there p k b w t kw) ka.0 ka.1 kf ks kw
performs_known p k g b (CallMember c l) f fs w ka kf ks kw = calls_known p k b c.owner c.method c.method_args c.values (record f { local = l } ∷ fs) w ka.0 (with_locals b f l ka.1 kf, ks) kw
performs_known p k g b (CallVirtual c l) f fs w ka kf ks kw = virtual_known p k b c (record f { local = l } ∷ fs) w ka.0 (with_locals b f l ka.1 kf, ks) kw
performs_known p k g b (NewObject c l) f fs w ka kf ks kw = makes_known p k (pushes_new p k) (pushes_known_new p k) b c.owner c.method c.values (record f { local = l } ∷ fs) w ka.0 (with_locals b f l ka.1 kf, ks) kw
performs_known p k g b (LoadVirtualFunction c l) f fs w ka kf ks kw = looks_up p k b c c.values (record f { local = l } ∷ fs) w (with_locals b f l ka.1 kf, ks) kw

act_throws : (b : ℕ) (hs : List Handling) (a : Act) → CausesThere b hs → KnownAct b a → ThrowsObject b hs a
act_throws b hs Stuck kh ka = tt
act_throws b hs (GoOn made l) kh ka = tt
act_throws b hs (Jump t l) kh ka = tt
act_throws b hs (Raise name) kh ka = tt
act_throws b hs (Throw x) kh ka = ka
act_throws b hs Rethrow kh ka = kh
act_throws b hs (Leave t) kh ka = tt
act_throws b hs EndHandler kh ka = kh
act_throws b hs Return kh ka = tt
act_throws b hs (Load q h l) kh ka = tt
act_throws b hs (Store q v l) kh ka = tt
act_throws b hs (Copy to from h l) kh ka = tt
act_throws b hs (UseStatic t a l) kh ka = tt
act_throws b hs (CallMember c l) kh ka = tt
act_throws b hs (CallVirtual c l) kh ka = tt
act_throws b hs (NewObject c l) kh ka = tt
act_throws b hs (LoadVirtualFunction c l) kh ka = tt

pub throws_known : ThrowsKnown
throws_known b p here i w l hs kw kl kh = act_throws b hs (Rattle.cil_semantics.specs.Instructions.act p here i w l) kh (acts_known b p here i w l kw kl)

pub entries_known : EntriesKnown
entries_known p k m args rs entry =
    enters_known p k 0 (owner_type p m []) m [] args Push [] (empty_world rs) (each_fine 0 (empty_world rs) refl (fits p (empty_world [])) (λ t v e. fits_fine 0 (empty_world []) refl 1001 p t v e) (param_types p (owner_type p m []) m []) args entry.fitting) tt tt
    (record { count = refl; heap = tt; statics = tt })
