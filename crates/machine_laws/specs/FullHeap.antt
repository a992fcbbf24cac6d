-- A heap that an instruction would fill: what a run answers, and from which counts (the limits of a run).
use Rattle.std.specs.Prelude.{◌≡◌, ℕ, suc, ◌+◌, ◌<◌, ◌≤◌, List, [], ◌∷◌, length, Some, pos}
use Rattle.cil_model.specs.declared.ty.Ty.{Ty}
use Rattle.cil_model.specs.declared.value.Value.{Value}
use Rattle.cil_model.specs.declared.body.Instr.{Instr}
use Rattle.cil_model.specs.declared.program.Program.{Program}
use Rattle.cil_model.specs.declared.program.Meaning.TheVariants.{OfType}
use Rattle.cil_model.specs.declared.contract.Contracts.{Contracts}
use Rattle.cil_model.specs.declared.run.RunResult.TheVariants as result
use Rattle.il_opcodes.specs.declared.class.Class.TheVariants as class
use Rattle.il_opcodes.specs.Opcodes.{class_of}
use Rattle.cil_semantics.specs.declared.state.Object.{Object}
use Rattle.cil_semantics.specs.declared.state.Frame.{Frame}
use Rattle.cil_semantics.specs.declared.state.World.{World}
use Rattle.cil_semantics.specs.declared.state.Local.{Local}
use Rattle.cil_semantics.specs.State.{State, Running, object_size, unrecorded, goes_after}
use Rattle.cil_semantics.specs.Tokens.{meaning_here}
use Rattle.cil_semantics.specs.Acts.{GoOn, numeric, index_number}
use Rattle.cil_semantics.specs.Instructions.{act}
use Rattle.cil_semantics.specs.Unwind.{here_of}
use Rattle.cil_semantics.specs.Checks.{AddedNumbers}
use Rattle.cil_semantics.specs.Machine.{step, run_plain}
use Rattle.cil_semantics.specs.Limits.{most_cells, most_frames, recorded_items, bounded}

-- how many cells objects take together
abbrev pub cells_taken : Program → List Object → ℕ
cells_taken p [] = 0
cells_taken p (o ∷ os) = object_size p o + cells_taken p os

module _ (p : Program) (k : Contracts) (g : AddedNumbers) (i : Instr) (f : Frame) (fs : List Frame) (w : World) where
  -- the state whose topmost frame this is
  abbrev pub here_now : State
  here_now = record { frames = f ∷ fs; world = w }

  -- The run goes on from here, and the topmost frame runs this instruction as an instruction: it is no call of a contract method there.
  pub record RunsNext : Type 0 where
    pub steps : step p k g here_now ≡ goes_after w.trace (run_plain p k g i f fs (unrecorded w))
    pub cells : w.cells < most_cells
    pub frames : length (f ∷ fs) < most_frames

  -- the run is over, and tells what it told before this instruction
  abbrev pub TellsFullHeap : Type 0
  TellsFullHeap = (left taken : ℕ) → bounded (step p k g) (suc left) taken (Running here_now) ≡ result.HeapFull (recorded_items w)

  -- an instruction that makes objects whose cells, counted, reach the limit
  abbrev pub MakesTooMuch : Type 0
  MakesTooMuch = (made : List Object) (l : Local) → act p (here_of f fs) i (unrecorded w) f.local ≡ GoOn made l → most_cells ≤ w.cells + cells_taken p made → TellsFullHeap

  -- For newarr the length alone decides: no item needs to be there.
  abbrev pub AsksTooMuch : Type 0
  AsksTooMuch =
      (t : Ty) (v : Value) (rest : List Value) (n : ℕ) → class_of i.op ≡ class.NewArray → meaning_here p (here_of f fs) i ≡ Some (OfType t) → f.local.stack ≡ v ∷ rest → index_number (numeric v) ≡ Some (pos n)
      → most_cells ≤ w.cells + (n + 1) → TellsFullHeap
