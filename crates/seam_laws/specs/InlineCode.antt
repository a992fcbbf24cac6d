-- Assert and Assume that are checked where they stand, as instructions (Code Contracts User Manual, sections 2.4 and 2.5).
use Rattle.std.specs.Prelude.{◌≡◌, ℕ, ◌+◌, ◌<◌, ◌≤◌, List, length, Some, None, IsTrue}
use Rattle.cil_base.specs.declared.token.Token.{Token}
use Rattle.cil_model.specs.declared.body.Instr.{Instr}
use Rattle.cil_model.specs.declared.contract.ClauseKind.{ClauseKind}
use Rattle.cil_model.specs.declared.contract.Contracts.{Contracts}
use Rattle.cil_model.specs.declared.program.Program.{Program}
use Rattle.cil_model.specs.declared.program.Meaning.TheVariants.{OfText}
use Rattle.cil_model.specs.Texts.{text_units}
use Rattle.cil_semantics.specs.Core.{Name}
use Rattle.cil_semantics.specs.declared.state.Cell.{Cell}
use Rattle.cil_semantics.specs.declared.state.World.{World}
use Rattle.cil_semantics.specs.declared.state.Statics.{Statics}
use Rattle.cil_semantics.specs.declared.state.ProgramPoint.{ProgramPoint}
use Rattle.cil_semantics.specs.declared.state.Handling.{Handling}
use Rattle.cil_semantics.specs.declared.state.Frame.{Frame}
use Rattle.cil_semantics.specs.declared.state.Continuation.{Continuation}
use Rattle.cil_semantics.specs.Tokens.{meaning_of}
use Rattle.cil_semantics.specs.Contracted.{Plan}
use Rattle.cil_semantics.specs.Unwind.{body_of, next_place}
use Rattle.cil_semantics.specs.Frames.{stuck}
use Rattle.cil_semantics.specs.ContractCalls.{has_message}
use Rattle.cil_semantics.specs.Checks.{AddedNumbers, Condition, condition_in, kind_number}
use Rattle.splice_facts.specs.Comes.{Comes}
use Rattle.splice_facts.specs.Grown.{beside}
use Rattle.splice_facts.specs.Layout.{Depths, Marks, IsHere}
use Rattle.splice_facts.specs.Spliced.{Paired, Checked, IsInline, from_here, cost, Current}
use Rattle.splice_laws.specs.Straight.{StandAt}
use Rattle.splice_laws.specs.HelperRuns.{HelpersRun}
use Rattle.splice_laws.specs.EntryCode.{Reporting, check_code}
use Rattle.splice_laws.specs.PendingHandlers.{HoldsAs}

module _ (p : Program) (k : Contracts) (p' : Program) (g : AddedNumbers) (n : ℕ) (depths : Depths n g) (r : HelpersRun p' g k.settings.throwing depths.owner k.settings.guard) (me : ℕ) (plan : Plan) (m : Marks) where
  -- in place of the call stands the check, and behind it the next place; what is between belongs to the call and is held as it is
  pub record CheckedAt (e : Reporting p' r.assembly depths.owner r.fail me m) (at : ProgramPoint) (i : Instr) (kd : ClauseKind) (label : Name) : Type 0 where
    pub token : Token
    pub labelled : meaning_of p' r.assembly token ≡ Some (OfText (text_units label))
    pub code : StandAt (body_of p' me).instrs (m.places at) (check_code (has_message p i) r.assembly e.tools (kind_number kd) token (m.places (next_place at)))
    pub next : m.places (next_place at) ≡ m.places at + length (check_code (has_message p i) r.assembly e.tools (kind_number kd) token (m.places (next_place at)))
    pub belongs : (q : ℕ) → m.places at ≤ q → q < m.places (next_place at) → IsTrue (m.belongs at q)
    pub between : (q : ℕ) → m.places at < q → q < m.places (next_place at) → HoldsAs p k p' g n depths me at q

  pub record InlineCode : Type 0 where
    pub reporting : Reporting p' r.assembly depths.owner r.fail me m
    pub checks : (f : Frame) (fs : List Frame) (i : Instr) (kd : ClauseKind) (home : ℕ) (label : Name) → f.method ≡ me → IsHere (Some plan) f.at → IsInline p k p' g n depths plan me f fs f.at i kd home label → CheckedAt reporting f.at i kd label

  -- what is asked of an Assert or Assume that is checked
  pub record ChecksInPlace : Type 0 where
    pub asserts : (f : Frame) (fs fs' : List Frame) (w : World) (ex : List Cell) (ss : List Statics) (b : Continuation) (hs : List Handling) (i : Instr) (kd : ClauseKind) (c : Condition) (label : Name) (home : ℕ) → f.method ≡ me → IsHere (Some plan) f.at → IsInline p k p' g n depths plan me f fs f.at i kd home label → Paired p k p' g n depths m f fs fs' w ex ss → Current p k p' g n depths me f.at hs
        → condition_in (has_message p i) f.local.stack ≡ Some c → Checked p k p' g n depths m f fs fs' w ex ss b hs (record { kind = kd; exception = None; home = home; user = c.user; label = label }) c.holds c.rest (m.places (next_place f.at))
    pub asserts_stuck : (f : Frame) (fs fs' : List Frame) (w : World) (ex : List Cell) (ss : List Statics) (b : Continuation) (hs : List Handling) (i : Instr) (kd : ClauseKind) (label : Name) (home : ℕ) → f.method ≡ me → IsHere (Some plan) f.at → IsInline p k p' g n depths plan me f fs f.at i kd home label → Paired p k p' g n depths m f fs fs' w ex ss → Current p k p' g n depths me f.at hs
        → condition_in (has_message p i) f.local.stack ≡ None → Comes p' (cost k p) (from_here p k p' g n depths m f ex b fs' w ss hs) (stuck (beside ss w))
