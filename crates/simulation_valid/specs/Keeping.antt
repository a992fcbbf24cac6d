-- What each step of the first run keeps, and what is known where a frame arrives at a place.
use Rattle.std.specs.Prelude.{◌≡◌, ℕ, suc, ◌+◌, ◌<◌, ◌≤◌, false, List, [], ◌∷◌, length, map, Some, IsTrue}
use Rattle.cil_model.specs.declared.ty.Ty.{Ty}
use Rattle.cil_model.specs.declared.contract.Contracts.{Contracts}
use Rattle.cil_model.specs.declared.program.Program.{Program}
use Rattle.cil_model.specs.declared.program.MethodDesc.{MethodDesc}
use Rattle.cil_semantics.specs.declared.state.Cell.{Cell}
use Rattle.cil_semantics.specs.declared.state.World.{World}
use Rattle.cil_semantics.specs.declared.state.Local.{Local}
use Rattle.cil_semantics.specs.declared.state.ProgramPoint.{ProgramPoint}
use Rattle.cil_semantics.specs.declared.state.ProgramPoint.TheVariants.{InGroup}
use Rattle.cil_model.specs.declared.contract.Group.TheVariants as group
use Rattle.cil_semantics.specs.declared.state.Handling.{Handling}
use Rattle.cil_semantics.specs.declared.state.Frame.{Frame}
use Rattle.cil_semantics.specs.State.{State, Next, Running, Ended}
use Rattle.cil_semantics.specs.declared.state.Continuation.{Continuation}
use Rattle.cil_semantics.specs.declared.state.Continuation.TheVariants.{PushStruct, BeginCallee}
use Rattle.cil_semantics.specs.Contracted.{Plan}
use Rattle.cil_semantics.specs.Unwind.{plan_at, here_of, next_place, hasnt_begun, unwind}
use Rattle.cil_semantics.specs.Frames.{captured_tys, first_place}
use Rattle.cil_semantics.specs.Returns.{returned}
use Rattle.cil_semantics.specs.Checks.{AddedNumbers}
use Rattle.machine_laws.specs.Answers.{is_below}
pub use Rattle.splice_facts.specs.WellFormed.{NoneVoid}
use Rattle.splice_facts.specs.WellFormed.{WellFormedLocal, WellFormedWorld, WellFormedContinuation}
use Rattle.splice_facts.specs.Input.{is_group, result_count, top_of, ReturnsAsNamed}
use Rattle.splice_facts.specs.Layout.{IsHere}
use Rattle.splice_facts.specs.Spliced.{FitsGroup, AreLow}
use Rattle.splice_facts.specs.Related.{HandlersLead, Rewritten, Valid, ValidFrames, HeightsBelow, FitsAt, bounds, written, in_group, count_groups}

-- a constructor of a struct has the struct behind its arguments
abbrev pub StructThere : Continuation → List Cell → Type 0
StructThere PushStruct [] = ⊥
StructThere _ cs = Unit {0}

-- a frame returns a value just where its method does, and a struct's constructor the struct; none of its type arguments is void
abbrev pub ReturnsFully : Program → Frame → Type 0
ReturnsFully p f = ReturnsAsNamed p f × StructThere f.continuation f.local.args × NoneVoid p f.type_args × NoneVoid p f.method_args

-- a frame has what it returns: so many values, and as another `ret` returns it
abbrev pub Returnable : Program → Frame → Type 0
Returnable p f = (length (top_of f.local.result) ≡ result_count p f.method) × (returned p f (top_of f.local.result) ≡ Some f.local.result)

-- where a value is checked at exit, the frame has what it returns
abbrev pub KeepsReturned : Program → Frame → ProgramPoint → Type 0
KeepsReturned p f (InGroup group.Exit j q) = Returnable p f
KeepsReturned p f (InGroup group.Invariant j q) = Returnable p f
KeepsReturned p f at = Unit {0}

-- what the frames return has the number of values that those below them wait for
abbrev pub AllReturn : Program → List Frame → Type 0
AllReturn p [] = Unit {0}
AllReturn p (f ∷ fs) = ReturnsFully p f × KeepsReturned p f f.at × AllReturn p fs

module _ (p : Program) (k : Contracts) (ms : List MethodDesc) (g : AddedNumbers) (r : Rewritten p k ms g) where
  -- what each step keeps
  pub record Sound (s : State) : Type 0 where
    pub valid : Valid p k ms g r s
    pub returning : AllReturn p s.frames

  -- a run that goes on is in such a state
  abbrev pub StaysValid : Next → Type 0
  StaysValid (Running s) = Sound s
  StaysValid (Ended o w) = Unit {0}

  -- what a frame has wherever it stands
  pub record ValidPlaces (f : Frame) (fs : List Frame) : Type 0 where
    pub old : f.method < r.methods
    pub wide : length f.local.locals ≡ (bounds p k ms g r).width f.method
    pub initializes : (t : Ty) → f.initializes ≡ Some t → IsTrue (is_below r.types t)
    pub captured : map (λ (c : Cell). c.ty) f.local.captured ≡ captured_tys p (here_of f fs) (plan_at k p f.method)
    pub fine : WellFormedLocal (bounds p k ms g r) f.local
    pub fine_back : WellFormedContinuation (bounds p k ms g r) f.continuation
    pub as_named : ReturnsFully p f

  -- the frames below one, and the world
  pub record ValidBelow (f : Frame) (fs : List Frame) (w : World) : Type 0 where
    pub others : ValidFrames p k ms g r fs
    pub returning : AllReturn p fs
    pub heights : HeightsBelow p k ms g r f fs
    pub world : WellFormedWorld (bounds p k ms g r) w

  -- A frame may come to a place with these locals and these handlers pending.
  pub record MayArrive (h : Frame) (at : ProgramPoint) (l : Local) (hs : List Handling) (fs : List Frame) (w : World) : Type 0 where
    pub places : ValidPlaces (record h { local = l }) fs
    pub below : ValidBelow h fs w
    pub fits : FitsAt (FitsGroup p k (written p k ms g r) g r.types r.depths) at h.thrown
    pub counted : KeepsReturned p (record h { local = l }) at
    pub low : is_group at ≡ false → AreLow p k (written p k ms g r) g r.types r.depths h.method hs × HandlersLead p k ms g r h.method at hs
    pub height : (plan : Plan) (old : h.method < r.methods) (e : plan_at k p h.method ≡ Some plan) → is_group at ≡ false → Some (length l.stack + 0) ≡ (r.heights h.method plan old e).height at
    pub count : w.depth ≡ in_group at + count_groups fs
    pub deep : w.depth ≤ suc k.settings.guard

  -- a frame arrives at a place, and at the end of the lead-in at the entry group or the rest
  abbrev pub ArrivesValid : Type 0
  ArrivesValid =
      (h : Frame) (at : ProgramPoint) (l : Local) (hs : List Handling) (fs : List Frame) (w : World) → MayArrive h at l hs fs w → StaysValid (Rattle.cil_semantics.specs.Unwind.arrive_in p (plan_at k p h.method) h at l hs fs w)

  -- where a frame stands below one that ends so: at its beginning, or at a place of its method
  abbrev pub PlacedAt : Continuation → Frame → Type 0
  PlacedAt BeginCallee f = (f.at ≡ first_place (plan_at k p f.method)) × (hasnt_begun f.continuation ≡ false)
  PlacedAt _ f = IsHere (plan_at k p f.method) f.at

  abbrev pub Placed : Continuation → List Frame → Type 0
  Placed b [] = Unit {0}
  Placed b (f ∷ fs) = PlacedAt b f × Placed f.continuation fs

  -- of frames that an exception goes down to, or that a value is given to
  abbrev pub TailHeights : List Frame → Type 0
  TailHeights [] = Unit {0}
  TailHeights (f ∷ fs) = HeightsBelow p k ms g r f fs

  pub record ValidTail (b : Continuation) (fs : List Frame) : Type 0 where
    pub placed : Placed b fs
    pub others : ValidFrames p k ms g r fs
    pub returning : AllReturn p fs
    pub heights : TailHeights fs

  -- An exception goes down the frames: what it comes to is valid.
  abbrev pub UnwindsValid : Type 0
  UnwindsValid =
      (b : Continuation) (fs : List Frame) → ValidTail b fs → (w : World) (x : ℕ) → WellFormedWorld (bounds p k ms g r) w → w.depth ≡ count_groups fs → w.depth ≤ suc k.settings.guard → StaysValid (unwind p k (hasnt_begun b) fs w x)
