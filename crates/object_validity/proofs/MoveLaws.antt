-- Frames arrive at places, groups begin, exceptions go down frames, and handlers end: references stay.
use Rattle.std.proofs.Common.{◌≡◌, ℕ, suc, ◌+◌, Bool, true, false, List, [], ◌∷◌, Option, Some, None, refl}
use Rattle.std.specs.Prelude.{◌==◌, if◌then◌else◌, filter}
use Rattle.cil_model.specs.declared.ty.Ty.{Ty}
use Rattle.cil_model.specs.declared.value.Value.{Obj}
use Rattle.cil_model.specs.declared.body.Region.{Region}
use Rattle.cil_model.specs.declared.contract.Contracts.{Contracts}
use Rattle.cil_model.specs.declared.contract.Group.{Group}
use Rattle.cil_model.specs.declared.contract.Group.TheVariants as group
use Rattle.cil_model.specs.declared.program.Program.{Program}
use Rattle.cil_semantics.specs.Words.{maybe}
use Rattle.cil_semantics.specs.Types.{same_ty}
use Rattle.cil_semantics.specs.declared.state.World.{World}
use Rattle.cil_semantics.specs.declared.state.Local.{Local}
use Rattle.cil_semantics.specs.declared.state.Statics.{Statics}
use Rattle.cil_semantics.specs.declared.state.Init.TheVariants.{Failed}
use Rattle.cil_semantics.specs.declared.state.ProgramPoint.{ProgramPoint}
use Rattle.cil_semantics.specs.declared.state.ProgramPoint.TheVariants.{LeadIn, InGroup, Rest}
use Rattle.cil_semantics.specs.declared.state.Cause.{Cause}
use Rattle.cil_semantics.specs.declared.state.Cause.TheVariants.{Caught, Unwinding, Leaving}
use Rattle.cil_semantics.specs.declared.state.Handling.{Handling}
use Rattle.cil_semantics.specs.declared.state.Frame.{Frame}
use Rattle.cil_semantics.specs.declared.state.Continuation.{Continuation}
use Rattle.cil_semantics.specs.State.{Next, with_stack, raised, lowered, next_object, with_object}
use Rattle.cil_semantics.specs.Contracted.{Piece, Plan, runs_at}
use Rattle.cil_semantics.specs.Unwind.{body_of, plan_at, piece_at, place_in, moved_to, in_handler, handled_at, goes_at, next_piece, begin_piece, begin_group, go_to_rest, begin_rest, begin_first, begin_entry, arrive_in, after_entry_piece, set_statics, find_statics, with_failed, initialization_failed, Found, NoHandler, CatchHandler, CleanupHandler, searched, hasnt_begun, ends_frame, drops, no_handler_left, land, throws_in, unwind, left_from, leave_through, leave, resume_cause, resume, innermost, caught_or}
use Rattle.splice_facts.specs.Exceptions.{IsObject, ObjectIf, FailureThere, CauseThere, CausesThere}
use Rattle.object_validity.specs.Known.{KnownCells, KnownLocal, KnownStatics, KnownWorld, KnownFrame, KnownFrames, KeepsReferences}
use Rattle.object_validity.specs.Steps.{UnwindsKnown}
use Rattle.object_validity.proofs.StoredLaws.{statics_fine}
use Rattle.object_validity.proofs.GrowthLaws.{grown_frames, object_added, new_known, restacked}

abbrev Keeps : Next → Type 0
Keeps x = KeepsReferences x

module _ (b : ℕ) where
  pub world_raised : (w : World) → KnownWorld b w → KnownWorld b (raised w)
  world_raised w h = record { count = h.count; heap = h.heap; statics = h.statics }

  pub world_lowered : (w : World) → KnownWorld b w → KnownWorld b (lowered w)
  world_lowered w h = record { count = h.count; heap = h.heap; statics = h.statics }

  causes_filtered : (test : Handling → Bool) (hs : List Handling) → CausesThere b hs → CausesThere b (filter test hs)
  causes_filtered test [] h = tt
  causes_filtered test (x ∷ hs) h = by_test (test x) (causes_filtered test hs h.1)
    where
      by_test : (c : Bool) → CausesThere b (filter test hs) → CausesThere b (if c then x ∷ filter test hs else filter test hs)
      by_test true more = (h.0, more)
      by_test false more = more

  causes_at : (rs : List Region) (at : ProgramPoint) (hs : List Handling) → CausesThere b hs → CausesThere b (handled_at rs at hs)
  causes_at rs (LeadIn q) hs h = causes_filtered (in_handler rs q) hs h
  causes_at rs (InGroup gr i q) hs h = tt
  causes_at rs (Rest q) hs h = causes_filtered (in_handler rs q) hs h

  -- ---- statics

  pub statics_set : (test : Ty → Bool) (s : Statics) (ss : List Statics) → KnownStatics b ss → FailureThere b s.init → KnownCells b s.cells → KnownStatics b (set_statics test s ss)
  statics_set test s [] h i c = (i, c, tt)
  statics_set test s (x ∷ xs) h i c = by_test (test x.owner) (statics_set test s xs h.2 i c)
    where
      by_test : (t : Bool) → KnownStatics b (set_statics test s xs) → KnownStatics b (if t then s ∷ xs else x ∷ set_statics test s xs)
      by_test true ih = (i, c, h.2)
      by_test false ih = (h.0, h.1, ih)

  failed_known : (t : Ty) (y : ℕ) (w : World) → IsObject b y → KnownWorld b w → KnownWorld b (with_failed t y w)
  failed_known t y w there h = by_found (find_statics t w.statics) (λ s e. statics_fine b t w.statics s h.statics e)
    where
      by_found : (o : Option Statics) → ((s : Statics) → o ≡ Some s → KnownCells b s.cells) → KnownWorld b (record w { statics = set_statics (same_ty t) (maybe (record { owner = t; init = Some (Failed y); cells = [] }) (λ (s : Statics). record s { init = Some (Failed y) }) o) w.statics })
      by_found None f = record { count = h.count; heap = h.heap; statics = statics_set (same_ty t) (record { owner = t; init = Some (Failed y); cells = [] }) w.statics h.statics there tt }
      by_found (Some s) f = record { count = h.count; heap = h.heap; statics = statics_set (same_ty t) (record s { init = Some (Failed y) }) w.statics h.statics there (f s refl) }

module _ (p : Program) where
  -- ---- arriving

  pub goes_known : (b : ℕ) (f : Frame) (at : ProgramPoint) (l : Local) (hs : List Handling) (fs : List Frame) (w : World) → KnownLocal b l → CausesThere b hs → KnownFrame b f → KnownFrames b fs → KnownWorld b w → Keeps (goes_at p f at l hs fs w)
  goes_known b f at l hs fs w kl kh kf ks kw = record { objects = b; frames = (record { local = kl; handling = causes_at b (body_of p f.method).regions at hs kh; thrown = kf.thrown; back = kf.back }, ks); world = kw }

  pub rest_known : (b : ℕ) (c : Plan) (f : Frame) (fs : List Frame) (w : World) → KnownFrame b f → KnownFrames b fs → KnownWorld b w → Keeps (begin_rest p c f fs w)
  rest_known b c f fs w kf ks kw =
      goes_known b (record f { local = with_stack f.local [] }) (Rest c.effective.rest_from) (with_stack f.local []) [] fs w (restacked b f.local [] kf.local tt) tt (record { local = restacked b f.local [] kf.local tt; handling = kf.handling; thrown = kf.thrown; back = kf.back }) ks kw

  pub piece_known : (b : ℕ) (gr : Group) (o : Option (ℕ × Piece)) (f : Frame) (fs : List Frame) (w : World) (over : Next) → KnownFrame b f → KnownFrames b fs → KnownWorld b w → Keeps over → Keeps (begin_piece p gr o f fs w over)
  piece_known b gr None f fs w over kf ks kw h = h
  piece_known b gr (Some x) f fs w over kf ks kw h = goes_known b f (InGroup gr x.0 x.1.from) (with_stack f.local []) [] fs w (restacked b f.local [] kf.local tt) tt kf ks kw

  pub group_known : (b : ℕ) (c : Plan) (gr : Group) (f : Frame) (fs : List Frame) (w : World) (over : Next) → KnownFrame b f → KnownFrames b fs → KnownWorld b w → Keeps over → Keeps (begin_group p c gr f fs w over)
  group_known b c gr f fs w over kf ks kw h = by_group (runs_at c gr w.depth)
    where
      by_group : (t : Bool) → Keeps (if t then begin_piece p gr (next_piece p c gr 0 f fs w) f fs (raised w) over else over)
      by_group true = piece_known b gr (next_piece p c gr 0 f fs w) f fs (raised w) over kf ks (world_raised b w kw) h
      by_group false = h

  to_rest : (b : ℕ) (c : Plan) (f : Frame) (fs : List Frame) (w : World) → KnownFrame b f → KnownFrames b fs → KnownWorld b w → Keeps (go_to_rest p c f fs w)
  to_rest b c f fs w kf ks kw = goes_known b f (Rest c.effective.rest_from) f.local [] fs w kf.local tt kf ks kw

  entry_known : (b : ℕ) (c : Plan) (f : Frame) (fs : List Frame) (w : World) → KnownFrame b f → KnownFrames b fs → KnownWorld b w → Keeps (begin_entry p c f fs w)
  entry_known b c f fs w kf ks kw = by_group (next_piece p c group.Entry 0 f fs w) (runs_at c group.Entry w.depth)
    where
      by_group : (o : Option (ℕ × Piece)) (t : Bool) → Keeps (if t then begin_first p c o f fs w else go_to_rest p c f fs w)
      by_group (Some x) true = goes_known b f (InGroup group.Entry x.0 x.1.from) f.local [] fs (raised w) kf.local tt kf ks (world_raised b w kw)
      by_group None true = to_rest b c f fs w kf ks kw
      by_group o false = to_rest b c f fs w kf ks kw

  pub arrives_known : (b : ℕ) (o : Option Plan) (f : Frame) (at : ProgramPoint) (l : Local) (hs : List Handling) (fs : List Frame) (w : World) → KnownLocal b l → CausesThere b hs → KnownFrame b f → KnownFrames b fs → KnownWorld b w → Keeps (arrive_in p o f at l hs fs w)
  arrives_known b None f at l hs fs w kl kh kf ks kw = goes_known b f at l hs fs w kl kh kf ks kw
  arrives_known b (Some c) f (InGroup gr i q) l hs fs w kl kh kf ks kw = goes_known b f (InGroup gr i q) l [] fs w kl tt kf ks kw
  arrives_known b (Some c) f (Rest q) l hs fs w kl kh kf ks kw = goes_known b f (Rest q) l hs fs w kl kh kf ks kw
  arrives_known b (Some c) f (LeadIn q) l hs fs w kl kh kf ks kw = by_end (q == c.effective.lead_end)
    where
      by_end : (t : Bool) → Keeps (if t then begin_entry p c (record f { local = l }) fs w else goes_at p f (LeadIn q) l hs fs w)
      by_end true = entry_known b c (record f { local = l }) fs w (record { local = kl; handling = kf.handling; thrown = kf.thrown; back = kf.back }) ks kw
      by_end false = goes_known b f (LeadIn q) l hs fs w kl kh kf ks kw

  entry_goes_on : (b : ℕ) (c : Plan) (i : ℕ) (f : Frame) (fs : List Frame) (w : World) → KnownFrame b f → KnownFrames b fs → KnownWorld b w → Keeps (after_entry_piece p c i f fs w)
  entry_goes_on b c i f fs w kf ks kw = piece_known b group.Entry (next_piece p c group.Entry (i + 1) f fs w) f fs w (begin_rest p c f fs (lowered w)) kf ks kw (rest_known b c f fs (lowered w) kf ks (world_lowered b w kw))

module _ (p : Program) (k : Contracts) where
  -- ---- exceptions

  abbrev GoesDown : List Frame → Type 0
  GoesDown fs = (b : ℕ) (skip : Bool) (w : World) (x : ℕ) → KnownFrames b fs → KnownWorld b w → IsObject b x → Keeps (unwind p k skip fs w x)

  pub ends_known : (b : ℕ) (o : Option Ty) (back : Continuation) (fs : List Frame) (w : World) (x : ℕ) → GoesDown fs → KnownFrames b fs → KnownWorld b w → IsObject b x → Keeps (ends_frame p o back w x (λ skip v y. unwind p k skip fs v y))
  ends_known b None back fs w x down ks kw there = down b (hasnt_begun back) w x ks kw there
  ends_known b (Some t) back fs w x down ks kw there =
      down (suc b) (hasnt_begun back) (with_failed t (next_object w) (with_object p initialization_failed w)) (next_object w) (grown_frames b fs ks)
      (failed_known (suc b) t (next_object w) (with_object p initialization_failed w) (new_known b w kw) (object_added b p initialization_failed w tt kw)) (new_known b w kw)

  given_up : (b : ℕ) (o : Option Plan) (f : Frame) (at : ProgramPoint) (fs : List Frame) (w : World) (x : ℕ) → GoesDown fs → KnownFrame b f → KnownFrames b fs → KnownWorld b w → IsObject b x → Keeps (no_handler_left p o f at fs w x (λ skip v y. unwind p k skip fs v y))
  given_up b None f at fs w x down kf ks kw there = ends_known b f.initializes f.continuation fs w x down ks kw there
  given_up b (Some c) f (LeadIn q) fs w x down kf ks kw there = ends_known b f.initializes f.continuation fs w x down ks kw there
  given_up b (Some c) f (Rest q) fs w x down kf ks kw there =
      group_known p b c group.Throw (record f { thrown = Some x }) fs w (ends_frame p f.initializes f.continuation w x (λ skip v y. unwind p k skip fs v y)) (record { local = kf.local; handling = kf.handling; thrown = there; back = kf.back }) ks kw (ends_known b f.initializes f.continuation fs w x down ks kw there)
  given_up b (Some c) f (InGroup gr i q) fs w x down kf ks kw there = by_drop (drops (piece_at (Some c) gr i))
    where
      by_drop : (d : Bool) → Keeps (if d then after_entry_piece p c i f fs w else ends_frame p f.initializes f.continuation (lowered w) x (λ skip v y. unwind p k skip fs v y))
      by_drop true = entry_goes_on p b c i f fs w kf ks kw
      by_drop false = ends_known b f.initializes f.continuation fs (lowered w) x down ks (world_lowered b w kw) there

  lands_known : (b : ℕ) (o : Found) (f : Frame) (hs : List Handling) (q : ℕ) (fs : List Frame) (w : World) (x : ℕ) → GoesDown fs → CausesThere b hs → KnownFrame b f → KnownFrames b fs → KnownWorld b w → IsObject b x → Keeps (land p k o f hs q fs w x (λ skip v y. unwind p k skip fs v y))
  lands_known b NoHandler f hs q fs w x down kh kf ks kw there = given_up b (plan_at k p f.method) f f.at fs w x down kf ks kw there
  lands_known b (CatchHandler i t) f hs q fs w x down kh kf ks kw there =
      goes_known p b f (moved_to t f.at) (with_stack f.local (Obj x ∷ [])) (record { handler = i; cause = Caught x; place = q; next = i + 1 } ∷ hs) fs w (restacked b f.local (Obj x ∷ []) kf.local (there, tt)) (there, kh) kf ks kw
  lands_known b (CleanupHandler i t) f hs q fs w x down kh kf ks kw there =
      goes_known p b f (moved_to t f.at) (with_stack f.local []) (record { handler = i; cause = Unwinding x; place = q; next = i + 1 } ∷ hs) fs w (restacked b f.local [] kf.local tt) (there, kh) kf ks kw

  throws_known : (b : ℕ) (f : Frame) (hs : List Handling) (skip q : ℕ) (fs : List Frame) (w : World) (x : ℕ) → GoesDown fs → CausesThere b hs → KnownFrame b f → KnownFrames b fs → KnownWorld b w → IsObject b x → Keeps (throws_in p k f hs skip q fs w x (λ s v y. unwind p k s fs v y))
  throws_known b f hs skip q fs w x down kh kf ks kw there = lands_known b (searched p f w x skip q f.at) f hs q fs w x down kh kf ks kw there

  pub unwinds_known : (fs : List Frame) → GoesDown fs
  unfolding unwind
  unwinds_known [] b skip w x ks kw there = tt
  unwinds_known (f ∷ fs) b true w x ks kw there = unwinds_known fs b false w x ks.1 kw there
  unwinds_known (f ∷ fs) b false w x ks kw there = throws_known b f f.handling 0 (place_in f.at) fs w x (unwinds_known fs) (ks.0).handling ks.0 ks.1 kw there

  -- ---- leave, endfinally, rethrow

  pub leaves_known : (b skip q t : ℕ) (f : Frame) (hs : List Handling) (fs : List Frame) (w : World) → CausesThere b hs → KnownFrame b f → KnownFrames b fs → KnownWorld b w → Keeps (leave p k skip q t f hs fs w)
  leaves_known b skip q t f hs fs w kh kf ks kw = by_left (left_from skip 0 q t (body_of p f.method).regions)
    where
      by_left : (o : Option (ℕ × Region)) → Keeps (leave_through p k o f hs q t fs w)
      by_left None = arrives_known p b (plan_at k p f.method) f (moved_to t f.at) (with_stack f.local []) hs fs w (restacked b f.local [] kf.local tt) kh kf ks kw
      by_left (Some x) = goes_known p b f (moved_to x.1.handler_from f.at) (with_stack f.local []) (record { handler = x.0; cause = Leaving t; place = q; next = x.0 + 1 } ∷ hs) fs w (restacked b f.local [] kf.local tt) (tt, kh) kf ks kw

  resumes_cause : (b : ℕ) (h : Handling) (c : Cause) (hs : List Handling) (f : Frame) (fs : List Frame) (w : World) → CauseThere b c → CausesThere b hs → KnownFrame b f → KnownFrames b fs → KnownWorld b w → Keeps (resume_cause p k h c hs f fs w)
  resumes_cause b h (Caught x) hs f fs w kc kh kf ks kw = tt
  resumes_cause b h (Unwinding x) hs f fs w kc kh kf ks kw = throws_known b f hs h.next h.place fs w x (unwinds_known fs) kh kf ks kw kc
  resumes_cause b h (Leaving t) hs f fs w kc kh kf ks kw = leaves_known b h.next h.place t f hs fs w kh kf ks kw

  pub resumes_known : (b : ℕ) (hs : List Handling) (f : Frame) (fs : List Frame) (w : World) → CausesThere b hs → KnownFrame b f → KnownFrames b fs → KnownWorld b w → Keeps (resume p k hs f fs w)
  resumes_known b [] f fs w kh kf ks kw = tt
  resumes_known b (h ∷ hs) f fs w kh kf ks kw = resumes_cause b h h.cause hs f fs w kh.0 kh.1 kf ks kw

pub innermost_there : (b : ℕ) (hs : List Handling) → CausesThere b hs → ObjectIf b (innermost hs)
innermost_there b [] h = tt
innermost_there b (x ∷ hs) h = by_cause x.cause h.0 (innermost_there b hs h.1)
  where
    by_cause : (c : Cause) → CauseThere b c → ObjectIf b (innermost hs) → ObjectIf b (caught_or c (innermost hs))
    by_cause (Caught y) there more = there
    by_cause (Unwinding y) there more = more
    by_cause (Leaving t) there more = more

pub exceptions_known : UnwindsKnown
exceptions_known p k b skip fs w x = unwinds_known p k fs b skip w x
