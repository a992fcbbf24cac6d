-- What a store that may not be done leaves (own).
use Rattle.std.specs.Prelude.{Bool, true, false, List, Option, Some, None}
use Rattle.cil_semantics.specs.declared.Frame.{Frame}
use Rattle.cil_semantics.specs.declared.Local.{Local}
use Rattle.cil_semantics.specs.declared.Object.{Object}
use Rattle.cil_semantics.specs.declared.Statics.{Statics}
use Rattle.cil_semantics.specs.declared.World.{World}

-- the objects, if the store was done
abbrev pub heap_if : (done : Bool) → List Object → Option (List Object)
heap_if true it = Some it
heap_if false it = None

-- the statics, if the store was done
abbrev pub statics_if : (done : Bool) → List Statics → Option (List Statics)
statics_if true it = Some it
statics_if false it = None

-- the locals and arguments of a frame, if the store was done
abbrev pub local_if : (done : Bool) → Local → Option Local
local_if true l = Some l
local_if false l = None

-- the frames, if the store was done
abbrev pub frames_if : (done : Bool) → List Frame → Option (List Frame)
frames_if true fs = Some fs
frames_if false fs = None

-- the world, if the store was done
abbrev pub world_if : (done : Bool) → World → Option World
world_if true w = Some w
world_if false w = None

-- the frames and the world, if the store was done
abbrev pub state_if : (done : Bool) → List Frame → World → Option (List Frame × World)
state_if true fs w = Some (fs, w)
state_if false fs w = None
