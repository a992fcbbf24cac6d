-- States of a run in which each stack has the height of its frame's place (ECMA-335, III.1.7.4 and III.1.7.5).
use Rattle.std.specs.Prelude.{◌≡◌, ◌≤◌, ◌<◌, ℕ, ◌+◌, List, [], ◌∷◌, length, Option, Some, if◌then◌else◌}
use Rattle.cil_model.specs.declared.ty.Ty.{Ty}
use Rattle.cil_model.specs.declared.program.Program.{Program}
use Rattle.cil_semantics.specs.Places.{is_void, storage}
use Rattle.cil_semantics.specs.declared.state.Frame.{Frame}
use Rattle.cil_semantics.specs.declared.state.Handling.{Handling}
use Rattle.cil_semantics.specs.declared.state.Cause.{Cause}
use Rattle.cil_semantics.specs.declared.state.Cause.TheVariants.{Caught, Unwinding, Leaving}
use Rattle.cil_semantics.specs.declared.state.Continuation.{Continuation}
use Rattle.cil_semantics.specs.declared.state.Continuation.TheVariants.{Push, PushObject, PushStruct, ThrowObject, BeginCallee, UseField, TryNext}
use Rattle.cil_semantics.specs.State.{State, Next, Running, Ended}
use Rattle.cil_semantics.specs.Returns.{result_type}
use Rattle.cil_semantics.specs.Unwind.{body_of, place_in}
use Rattle.il_flow.specs.Counts.{pushed_by}

-- heights of the places of each method's body, by the method's number
abbrev pub HeightsOf : Type 0
HeightsOf = ℕ → ℕ → Option ℕ

-- how many values a place of the type takes on the stack
abbrev pub count_of : Program → Ty → ℕ
count_of p t = if is_void (storage p t) then 0 else 1

module _ (p : Program) (height : HeightsOf) where
  -- A place of a method's code, or its end, where so many values lie on the stack: as many as the place's height.
  pub record HasHeight (m q n : ℕ) : Type 0 where
    pub within : q ≤ length (body_of p m).instrs
    pub same : q < length (body_of p m).instrs → height m q ≡ Some n

  -- the frame's stack has the height of its place
  abbrev pub Stands : Frame → Type 0
  Stands f = HasHeight f.method (place_in f.at) (length f.local.stack)

  -- with so many values more the frame's stack has the height of the next place
  abbrev pub Waits : Frame → ℕ → Type 0
  Waits f n = HasHeight f.method (place_in f.at + 1) (length f.local.stack + n)

  -- What the frame below expects of one that returns so many values and has so many arguments. The struct that a constructor makes stands among its arguments.
  abbrev pub Expects : Continuation → (returned args : ℕ) → Frame → Type 0
  Expects Push returned args below = Waits below returned
  Expects (PushObject x) returned args below = Waits below 1
  Expects PushStruct returned args below = Waits below 1 × (0 < args)
  Expects (ThrowObject x) returned args below = Unit {0}
  Expects BeginCallee returned args below = Stands below
  Expects (UseField a) returned args below = Waits below (pushed_by a)
  Expects (TryNext exists target left) returned args below = Waits below 1

  -- where a leave goes on behind a handler, the stack is empty
  abbrev pub GoesOn : ℕ → Cause → Type 0
  GoesOn m (Caught x) = Unit {0}
  GoesOn m (Unwinding x) = Unit {0}
  GoesOn m (Leaving t) = HasHeight m t 0

  abbrev pub AllGoOn : ℕ → List Handling → Type 0
  AllGoOn m [] = Unit {0}
  AllGoOn m (h ∷ hs) = GoesOn m h.cause × AllGoOn m hs

  abbrev pub Over : Continuation → (returned args : ℕ) → List Frame → Type 0
  Over back returned args [] = Unit {0}
  Over back returned args (below ∷ fs) = Expects back returned args below

  -- Each frame expects of the one above it what that leaves.
  abbrev pub Lie : List Frame → Type 0
  Lie [] = Unit {0}
  Lie (f ∷ fs) = AllGoOn f.method f.handling × Over f.continuation (count_of p (result_type p f)) (length f.local.args) fs × Lie fs

  abbrev pub TopStands : List Frame → Type 0
  TopStands [] = Unit {0}
  TopStands (f ∷ fs) = Stands f

  -- The topmost frame's stack has the height of its place, and each other's will have it when it goes on.
  pub record InShape (s : State) : Type 0 where
    pub top : TopStands s.frames
    pub lie : Lie s.frames

  -- a state that a step leaves, if the run goes on
  abbrev pub NextInShape : Next → Type 0
  NextInShape (Running s) = InShape s
  NextInShape (Ended o w) = Unit {0}
