-- What the written program of two methods is said to meet.
use Rattle.std.specs.Prelude.{◌≡◌, true, Some}
use Rattle.cil_model.specs.declared.contract.Group.TheVariants as group
use Rattle.cil_semantics.specs.Unwind.{plan_at}
use Rattle.splice_facts.specs.Layout.{Depths}
use Rattle.splice_facts.specs.Related.{Rewritten}
use Rattle.splice_facts.specs.Spliced.{Groups}
use Rattle.splice_laws.specs.HelperRuns.{HelpersRun}
use Rattle.splice_laws.specs.EntryCode.{GroupFrame}
use Rattle.splice_laws.specs.GroupSeams.{GroupSeams}
use Rattle.splice_laws.specs.ExitCode.{ExitSeams}
use Rattle.seam_laws.specs.CaptureCode.{CaptureSeams}
use Rattle.seam_laws.specs.RecallCode.{RecallSeams}
use Rattle.throw_laws.specs.ThrowCode.{ThrowSeams}
use Rattle.throw_laws.specs.WrapperCode.{WrapperSeams}
use Rattle.splice_program.specs.Program.{input, contracts, numbers, guard, next_plan, inc_plan}
use Rattle.splice_program.specs.Written.{output, written_methods, next_marks, inc_marks}

-- The plans are those of the methods, and each seam of their written bodies does what the facts ask of it.
pub record SeamsMeet : Type 0 where
  pub next_is : plan_at contracts input 0 ≡ Some next_plan
  pub inc_is : plan_at contracts input 1 ≡ Some inc_plan
  pub depths : Depths 2 numbers
  pub helpers : HelpersRun output numbers true depths.owner guard
  pub entry_frame : GroupFrame input output numbers true depths.owner guard helpers 0 next_plan next_marks group.Entry
  pub throw_frame : GroupFrame input output numbers true depths.owner guard helpers 0 next_plan next_marks group.Throw
  pub entry : GroupSeams input contracts output numbers 2 depths 0 next_plan next_marks group.Entry
  pub captures : CaptureSeams input contracts output numbers 2 depths helpers 0 next_plan next_marks entry_frame
  pub recalls : RecallSeams input contracts output numbers 2 depths 0 next_plan next_marks
  pub exit : GroupSeams input contracts output numbers 2 depths 0 next_plan next_marks group.Exit
  pub returns : ExitSeams input contracts output numbers 2 depths 0 next_plan next_marks
  pub throw_group : ThrowSeams input contracts output numbers 2 depths helpers 0 next_plan next_marks throw_frame
  pub wrapper : WrapperSeams input contracts output numbers 2 depths 0 next_plan next_marks
  pub invariant : GroupSeams input contracts output numbers 2 depths 0 next_plan next_marks group.Invariant
  pub next_groups : Groups input contracts output numbers 2 depths 0 next_plan next_marks
  pub inc_groups : Groups input contracts output numbers 2 depths 1 inc_plan inc_marks

-- The whole written program meets the facts, with two types and nine methods of the input.
pub record MeetsFacts : Type 0 where
  pub whole : Rewritten input contracts written_methods numbers
  pub types : whole.types ≡ 2
  pub methods : whole.methods ≡ 9
