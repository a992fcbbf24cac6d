-- What the command `run` prints of a run, and the status that it ends with (own).
use Rattle.std.specs.Prelude.{ℕ, List, ◌++◌, codes}
use Rattle.std.specs.List.{flat_map}
use Rattle.cil_model.specs.declared.run.Outcome.{Outcome}
use Rattle.cil_model.specs.declared.run.Outcome.TheVariants.{Return, Thrown, Stuck}
use Rattle.cil_model.specs.declared.run.RunResult.{RunResult}
use Rattle.cil_model.specs.declared.run.RunResult.TheVariants.{Ended, OutOfSteps, HeapFull, FramesFull}
use Rattle.cil_model.specs.declared.run.TraceItem.{TraceItem}
use Rattle.run_texts.specs.Printed.{item_text, outcome_text}

-- the lines of the calls that left the program
abbrev pub trace_text : List TraceItem → List ℕ
trace_text trace = flat_map item_text trace

-- the calls that left the program, and how the run ended, or that it ran out of steps, of heap or of frames
abbrev pub result_text : RunResult → List ℕ
result_text (Ended outcome trace steps) = trace_text trace ++ outcome_text outcome
result_text (OutOfSteps trace) = trace_text trace ++ codes "steps\n"
result_text (HeapFull trace) = trace_text trace ++ codes "heap 16777216\n"
result_text (FramesFull trace) = trace_text trace ++ codes "frames 1048576\n"

abbrev pub outcome_status : Outcome → ℕ
outcome_status (Return v) = 0
outcome_status (Thrown object name) = 7
outcome_status Stuck = 8

abbrev pub result_status : RunResult → ℕ
result_status (Ended outcome trace steps) = outcome_status outcome
result_status (OutOfSteps trace) = 6
result_status (HeapFull trace) = 9
result_status (FramesFull trace) = 9
