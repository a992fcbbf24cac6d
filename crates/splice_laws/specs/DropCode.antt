-- Assert and Assume below the full level as instructions: their arguments are dropped (ECMA-335, III.3.54).
use Rattle.std.specs.Prelude.{◌≡◌, ℕ, ◌+◌, Bool, true, false, List, [], ◌∷◌, length, Some}
use Rattle.cil_model.specs.declared.body.Instr.{Instr}
use Rattle.cil_model.specs.declared.contract.ClauseKind.{ClauseKind}
use Rattle.cil_model.specs.declared.contract.Contracts.{Contracts}
use Rattle.cil_model.specs.declared.program.Program.{Program}
use Rattle.cil_semantics.specs.Core.{Name}
use Rattle.cil_semantics.specs.State.{with_stack}
use Rattle.cil_semantics.specs.declared.state.Cell.{Cell}
use Rattle.cil_semantics.specs.declared.state.World.{World}
use Rattle.cil_semantics.specs.declared.state.Statics.{Statics}
use Rattle.cil_semantics.specs.declared.state.ProgramPoint.{ProgramPoint}
use Rattle.cil_semantics.specs.declared.state.ProgramPoint.TheVariants.{Rest}
use Rattle.cil_semantics.specs.declared.state.Handling.{Handling}
use Rattle.cil_semantics.specs.declared.state.Frame.{Frame}
use Rattle.cil_semantics.specs.declared.state.Continuation.{Continuation}
use Rattle.cil_semantics.specs.Contracted.{Plan}
use Rattle.cil_semantics.specs.Unwind.{body_of, next_place, goes_at}
use Rattle.cil_semantics.specs.Frames.{if_there}
use Rattle.cil_semantics.specs.ContractCalls.{has_message}
use Rattle.cil_semantics.specs.Checks.{AddedNumbers, dropped}
use Rattle.splice_facts.specs.Comes.{Goes}
use Rattle.splice_facts.specs.Grown.{grow, beside}
use Rattle.splice_facts.specs.Layout.{Depths, Marks, IsHere}
use Rattle.splice_facts.specs.Spliced.{Paired, IsInline, twin, from_here, cost, Current}
use Rattle.splice_laws.specs.Straight.{pop, StandAt}
use Rattle.splice_laws.specs.PendingHandlers.{HoldsAs}

-- the condition, and above it the message
abbrev pub drop_code : (message : Bool) → List Instr
drop_code true = pop ∷ pop ∷ []
drop_code false = pop ∷ []

module _ (p : Program) (k : Contracts) (p' : Program) (g : AddedNumbers) (n : ℕ) (depths : Depths n g) (me : ℕ) (plan : Plan) (m : Marks) where
  -- behind it stands the next place, and the place between is held by the handlers that hold the call
  pub record DropAt (at : ProgramPoint) (i : Instr) : Type 0 where
    pub code : StandAt (body_of p' me).instrs (m.places at) (drop_code (has_message p i))
    pub next : m.places (next_place at) ≡ m.places at + length (drop_code (has_message p i))
    pub between : HoldsAs p k p' g n depths me at (m.places at + 1)

  abbrev pub DropCode : Type 0
  DropCode =
      (f : Frame) (fs : List Frame) (i : Instr) (kd : ClauseKind) (home : ℕ) (label : Name) → f.method ≡ me → IsHere (Some plan) f.at → IsInline p k p' g n depths plan me f fs f.at i kd home label → DropAt f.at i

  -- what is asked of an Assert or Assume that isn't checked
  abbrev pub DropsArguments : Type 0
  DropsArguments =
      (f : Frame) (fs fs' : List Frame) (w : World) (ex : List Cell) (ss : List Statics) (b : Continuation) (hs : List Handling) (i : Instr) (kd : ClauseKind) (label : Name) (home : ℕ) → f.method ≡ me → IsHere (Some plan) f.at → IsInline p k p' g n depths plan me f fs f.at i kd home label → Paired p k p' g n depths m f fs fs' w ex ss → Current p k p' g n depths me f.at hs
      → Goes p' (cost k p) (from_here p k p' g n depths m f ex b fs' w ss hs)
      (if_there (dropped (has_message p i) f.local.stack) (beside ss w) (λ rest. goes_at p' (twin p k p' g n depths f (with_stack f.local rest) ex (m.places (next_place f.at)) hs b) (Rest (m.places (next_place f.at))) (grow ex (with_stack f.local rest)) hs fs' (beside ss w)))
