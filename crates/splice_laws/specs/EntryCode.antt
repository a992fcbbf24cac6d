-- A group as instructions, but for captures and Requires<E>: what stands where in a written body.
use Rattle.std.specs.Prelude.{◌≡◌, ◌≢◌, ℕ, ◌+◌, ◌<◌, ◌≤◌, Bool, true, false, List, [], ◌∷◌, ◌++◌, length, slice_get, Option, Some, None, IsTrue, pos}
use Rattle.cil_base.specs.declared.token.Token.{Token}
use Rattle.cil_model.specs.declared.ty.Ty.{Ty, Known, Prim}
use Rattle.cil_model.specs.declared.body.Instr.{Instr}
use Rattle.cil_model.specs.declared.body.Region.{Region}
use Rattle.cil_model.specs.declared.body.RegionKind.TheVariants as region
use Rattle.cil_model.specs.declared.contract.ClauseKind.{ClauseKind}
use Rattle.cil_model.specs.declared.contract.Group.{Group}
use Rattle.cil_model.specs.declared.contract.Group.TheVariants as group
use Rattle.cil_model.specs.declared.program.Program.{Program}
use Rattle.cil_model.specs.declared.program.Meaning.TheVariants.{OfMethod, OfText}
use Rattle.cil_model.specs.Texts.{text_units}
use Rattle.cil_semantics.specs.Core.{string_ty}
use Rattle.cil_semantics.specs.declared.state.ProgramPoint.TheVariants.{InGroup}
use Rattle.cil_semantics.specs.Tokens.{Here, meaning_of}
use Rattle.cil_semantics.specs.Contracted.{Piece, Plan}
use Rattle.cil_semantics.specs.Unwind.{body_of, piece_at}
use Rattle.cil_semantics.specs.ContractCalls.{contract_call, has_message}
use Rattle.cil_semantics.specs.declared.contract_call.ContractCall.TheVariants.{EndsClause}
use Rattle.cil_semantics.specs.Checks.{AddedNumbers, kind_number}
use Rattle.splice_facts.specs.Layout.{Marks, IsHere}
use Rattle.splice_laws.specs.Straight.{ldc, ldloc, stloc, ldnull, ldstr, brtrue, brfalse, leave, endfinally, call, StandAt, Misses, LeavesFreely}
use Rattle.splice_laws.specs.HelperRuns.{HelpersRun, enter_of}
use Rattle.splice_laws.specs.Fails.{NotMade}

-- the tokens that the seams of a body name, and the locals that they use
pub record Tools : Type 0 where
  pub enter : Token
  pub leave : Token
  pub fail : Token
  pub condition : ℕ
  pub message : ℕ

-- a place of kind bool, one of kind string
abbrev pub bool_ty : Ty
bool_ty = Prim 0x02

-- in place of the call that ends a clause: the message and the condition are stored, and where it doesn't hold the failure is reported
abbrev pub reports : ℕ → Tools → (kind : ℕ) → Instr → Token → (on : ℕ) → List Instr
reports a t n user label on = stloc t.condition ∷ ldloc t.condition ∷ brtrue on ∷ ldc (pos n) ∷ user ∷ ldstr a label ∷ call a t.fail ∷ []

abbrev pub check_code : Bool → ℕ → Tools → (kind : ℕ) → Token → (on : ℕ) → List Instr
check_code true a t n label on = stloc t.message ∷ reports a t n (ldloc t.message) label on
check_code false a t n label on = reports a t n ldnull label on

-- the message and the condition are stored
abbrev pub stores : Bool → Tools → List Instr
stores true t = stloc t.message ∷ stloc t.condition ∷ []
stores false t = stloc t.condition ∷ []

-- The seams of a body that report a failure: the token of `fail`, and two locals behind the captured values, which keep the condition and the message.
pub record Reporting (p' : Program) (assembly owner fail me : ℕ) (m : Marks) : Type 0 where
  pub tools : Tools
  pub fail_token : meaning_of p' assembly tools.fail ≡ Some (OfMethod (Known owner) fail [])
  pub condition_at : ℕ
  pub message_at : ℕ
  pub condition_is : tools.condition ≡ m.old_locals + m.olds + condition_at
  pub message_is : tools.message ≡ m.old_locals + m.olds + message_at
  pub condition_ty : (here : Here) → here.method ≡ me → slice_get (m.extra here) condition_at ≡ Some bool_ty
  pub message_ty : (here : Here) → here.method ≡ me → slice_get (m.extra here) message_at ≡ Some string_ty
  pub apart_too : ((condition_at ≢ m.result_at) × (condition_at ≢ m.thrown_at)) × ((message_at ≢ m.result_at) × (message_at ≢ m.thrown_at)) × (message_at ≢ condition_at)

module _ (p : Program) (p' : Program) (g : AddedNumbers) (throwing : Bool) (owner guard : ℕ) (r : HelpersRun p' g throwing owner guard) (me : ℕ) (plan : Plan) (m : Marks) where
  abbrev pub code : List Instr
  code = (body_of p' me).instrs

  module _ (gr : Group) where
    abbrev pub door : ℕ
    door = m.door gr

    abbrev pub out : ℕ
    out = m.out gr

    abbrev pub piece : ℕ → Option Piece
    piece j = piece_at (Some plan) gr j

    -- try { clauses } finally { leave(); endfinally }: what a group has, however it begins
    pub record GroupFrame : Type 0 where
      pub reporting : Reporting p' r.assembly owner r.fail me m
      pub enter_token : meaning_of p' r.assembly reporting.tools.enter ≡ Some (OfMethod (Known owner) (enter_of r gr) [])
      pub leave_token : meaning_of p' r.assembly reporting.tools.leave ≡ Some (OfMethod (Known owner) r.leave [])
      -- where the clauses begin, and the handler behind them
      pub body : ℕ
      pub handler : ℕ
      pub lowers : StandAt code handler (call r.assembly reporting.tools.leave ∷ endfinally ∷ [])
      -- regions: that of the group stands behind the old ones and those of captures, and before what comes round the rest; no other holds a place of the group, but for captures their own
      pub before : List Region
      pub round : List Region
      pub regions : (body_of p' me).regions ≡ before ++ record { kind = region.Finally; try_from = body; try_to = handler; handler_from = handler; handler_to = handler + 2 } ∷ round
      pub apart : (q : ℕ) → body ≤ q → q < handler + 2 → LeavesFreely q before × Misses q round
      pub kept_out : (j q q' : ℕ) (x : Piece) → piece j ≡ Some x → x.captures ≡ None → IsTrue (m.belongs (InGroup gr j q) q') → Misses q' before
      pub room : (body ≤ handler) × (handler + 2 ≤ out)
      pub belongs_in : (j q q' : ℕ) → IsTrue (m.belongs (InGroup gr j q) q') → (body ≤ q') × (q' < handler)
      pub behind_in : (j : ℕ) (x : Piece) → piece j ≡ Some x → (body ≤ m.behind gr j) × (m.behind gr j < handler)
      pub begins_in : (j : ℕ) (x : Piece) → piece j ≡ Some x → (body ≤ m.places (InGroup gr j x.from)) × (m.places (InGroup gr j x.from) < handler)
      -- the ends of the clauses, but for those of Requires<E>
      pub label : Piece → Token
      pub labelled : (j : ℕ) (x : Piece) → piece j ≡ Some x → meaning_of p' r.assembly (label x) ≡ Some (OfText (text_units x.clause.label))
      pub checks : (j q : ℕ) (x : Piece) (i : Instr) (kd : ClauseKind) → IsHere (Some plan) (InGroup gr j q) → piece j ≡ Some x → NotMade x.clause.kind → slice_get x.clause.instrs q ≡ Some i → contract_call p i ≡ EndsClause kd
          → StandAt code (m.places (InGroup gr j q)) (check_code (has_message p i) r.assembly reporting.tools (kind_number x.clause.kind) (label x) (m.behind gr j))
          × (m.behind gr j ≡ m.places (InGroup gr j q) + length (check_code (has_message p i) r.assembly reporting.tools (kind_number x.clause.kind) (label x) (m.behind gr j)))
      pub seam_belongs : (j q : ℕ) (x : Piece) (i : Instr) (kd : ClauseKind) → IsHere (Some plan) (InGroup gr j q) → piece j ≡ Some x → NotMade x.clause.kind → slice_get x.clause.instrs q ≡ Some i → contract_call p i ≡ EndsClause kd → (q' : ℕ) → m.places (InGroup gr j q) ≤ q' → q' < m.behind gr j → IsTrue (m.belongs (InGroup gr j q) q')

    -- enter; brfalse out; try { clauses; leave out }: where each piece takes part
    pub record GroupDoor (e : GroupFrame) : Type 0 where
      -- the guard is asked
      pub starts : e.body ≡ door + 2
      pub opens : StandAt code door (call r.assembly e.reporting.tools.enter ∷ brfalse out ∷ [])
      -- there is a first piece, and it stands behind the door
      pub first : Piece
      pub there : piece 0 ≡ Some first
      pub first_here : m.places (InGroup gr 0 first.from) ≡ door + 2
      -- behind each piece: leave to the next one, or out through the finally
      pub on : (j : ℕ) (x y : Piece) → piece j ≡ Some x → piece (j + 1) ≡ Some y → slice_get code (m.behind gr j) ≡ Some (leave (m.places (InGroup gr (j + 1) y.from)))
      pub over : (j : ℕ) (x : Piece) → piece j ≡ Some x → piece (j + 1) ≡ None → slice_get code (m.behind gr j) ≡ Some (leave out)

    pub record GroupCode : Type 0 where
      pub frame : GroupFrame
      pub door_code : GroupDoor frame

  abbrev pub EntryCode : Type 0
  EntryCode = GroupCode group.Entry
