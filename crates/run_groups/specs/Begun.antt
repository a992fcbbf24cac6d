-- Where a frame goes on: at a place, at a piece of a group, or behind the group (own; the Code Contracts manual on the order of checks).
use Rattle.std.specs.Prelude.{ℕ, Bool, true, false, if◌then◌else◌, List, [], ◌∷◌, Option, None, option_map}
use Rattle.cil_model.specs.declared.contract.Group.{Group}
use Rattle.cil_model.specs.declared.contract.Group.TheVariants as group
use Rattle.cil_model.specs.declared.program.Program.{Program}
use Rattle.cil_semantics.specs.Contracted.{Piece, Plan, runs_at}
use Rattle.cil_semantics.specs.State.{Next, Running, with_stack}
use Rattle.cil_semantics.specs.Unwind.{next_piece}
use Rattle.cil_semantics.specs.declared.Frame.{Frame}
use Rattle.cil_semantics.specs.declared.ProgramPoint.{ProgramPoint}
use Rattle.cil_semantics.specs.declared.ProgramPoint.TheVariants.{InGroup}
use Rattle.cil_semantics.specs.declared.World.{World}

-- the topmost frame over others, and a world
abbrev pub standing : Frame → List Frame → World → Next
standing f fs w = Running (record { frames = f ∷ fs; world = w })

-- a piece has begun, or the group is over
abbrev pub begun_or : (begun : Bool) → Frame → List Frame → World → Next → Next
begun_or true f fs w over = standing f fs w
begun_or false f fs w over = over

-- where a piece of a group begins
abbrev pub place_of_piece : Group → ℕ × Piece → ProgramPoint
place_of_piece g x = InGroup g x.0 x.1.from

-- the frame at a place where no handler runs, with an empty stack
abbrev pub cleared_at : ProgramPoint → Frame → Frame
cleared_at at f = record f { local = with_stack f.local []; at = at; handling = [] }

-- the frame at a place where no handler runs
abbrev pub moved_at : ProgramPoint → Frame → Frame
moved_at at f = record f { at = at; handling = [] }

-- where the entry group begins, if it runs
abbrev pub place_of_entry : Program → Plan → Frame → List Frame → World → Option ProgramPoint
place_of_entry p k f fs w =
    if runs_at k group.Entry w.depth then option_map (place_of_piece group.Entry) (next_piece p k group.Entry 0 f fs w) else None
