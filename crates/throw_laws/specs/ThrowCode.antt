-- The group of EnsuresOnThrow as instructions: it is asked of each clause whether the exception is of its type (Code Contracts User Manual, section 2.2; ECMA-335, III.4.6).
use Rattle.std.specs.Prelude.{◌≡◌, ℕ, ◌+◌, ◌*◌, ◌<◌, ◌≤◌, false, List, [], ◌∷◌, ◌++◌, length, drop, slice_get, Some, None, IsTrue, option_and_then}
use Rattle.cil_base.specs.declared.token.Token.{Token}
use Rattle.cil_model.specs.declared.ty.Ty.{Ty}
use Rattle.cil_model.specs.declared.body.Instr.{Instr}
use Rattle.cil_model.specs.declared.body.Operand.TheVariants.{Tok}
use Rattle.cil_model.specs.declared.contract.ClauseKind.{ClauseKind}
use Rattle.cil_model.specs.declared.contract.Contracts.{Contracts}
use Rattle.cil_model.specs.declared.contract.Group.TheVariants as group
use Rattle.cil_model.specs.declared.program.Program.{Program}
use Rattle.cil_model.specs.declared.program.Meaning.TheVariants.{OfType}
use Rattle.cil_model.specs.NoContracts.{no_contracts}
use Rattle.cil_semantics.specs.Lookups.{is_sub}
use Rattle.cil_semantics.specs.State as state
use Rattle.cil_semantics.specs.declared.state.Cell.{Cell}
use Rattle.cil_semantics.specs.declared.state.World.{World}
use Rattle.cil_semantics.specs.declared.state.Statics.{Statics}
use Rattle.cil_semantics.specs.declared.state.ProgramPoint.TheVariants.{InGroup}
use Rattle.cil_semantics.specs.declared.state.Frame.{Frame}
use Rattle.cil_semantics.specs.declared.state.Continuation.{Continuation}
use Rattle.cil_semantics.specs.Tokens.{Here, ref_type, meaning_here}
use Rattle.cil_semantics.specs.Contracted.{Piece, Plan, pieces, runs_at}
use Rattle.cil_semantics.specs.Unwind.{body_of, piece_at, next_piece, unwind, drops}
use Rattle.cil_semantics.specs.Frames.{stuck}
use Rattle.cil_semantics.specs.ContractCalls.{contract_call, has_message}
use Rattle.cil_semantics.specs.declared.contract_call.ContractCall.TheVariants.{EndsClause}
use Rattle.cil_semantics.specs.Checks.{AddedNumbers, Condition, condition_in}
use Rattle.splice_facts.specs.Comes.{Comes}
use Rattle.splice_facts.specs.Exceptions.{IsException}
use Rattle.splice_facts.specs.Grown.{beside}
use Rattle.splice_facts.specs.Layout.{Depths, Marks, IsHere}
use Rattle.splice_facts.specs.Spliced.{Beside, Paired, OpensAt, ContinuesAt, Checked, twin, stands, from_here, leaves_with, clause_failure, cost, opening_cost}
use Rattle.splice_laws.specs.Straight.{ins, ldloc, br, brtrue, brfalse, call, leave, StandAt}
use Rattle.splice_laws.specs.HelperRuns.{HelpersRun}
use Rattle.splice_laws.specs.Fails.{NotMade}
use Rattle.splice_laws.specs.EntryCode.{GroupFrame}

abbrev pub isinst : ℕ → Token → Instr
isinst a t = ins 0x75 (Tok a t)

module _ (p : Program) (k : Contracts) (p' : Program) (g : AddedNumbers) (n : ℕ) (depths : Depths n g) (r : HelpersRun p' g k.settings.throwing depths.owner k.settings.guard) (me : ℕ) (plan : Plan) (m : Marks) (e : GroupFrame p p' g k.settings.throwing depths.owner k.settings.guard r me plan m group.Throw) where
  abbrev pub code : List Instr
  code = (body_of p' me).instrs

  abbrev pub clauses : List Piece
  clauses = pieces plan group.Throw

  abbrev pub begins : ℕ → Piece → ℕ
  begins j x = m.places (InGroup group.Throw j x.from)

  abbrev pub door : ℕ
  door = m.door group.Throw

  abbrev pub out : ℕ
  out = m.out group.Throw

  -- the token names the type of the clause's exception
  abbrev pub NamesType : Token → Piece → Type 0
  NamesType t x = (here : Here) → here.method ≡ me → (u : Ty) × (option_and_then (ref_type p here) x.clause.exception ≡ Some u) × (meaning_here p' here (isinst r.assembly t) ≡ Some (OfType u))

  module _ (thrown : ℕ) (token : Piece → Token) where
    -- for each clause in turn: where the exception is of its type the run goes on there
    abbrev pub TestsAt : (ℕ → Piece → ℕ) → ℕ → List Piece → ℕ → Type 0
    TestsAt to i [] q = Unit {0}
    TestsAt to i (x ∷ xs) q = StandAt code q (ldloc thrown ∷ isinst r.assembly (token x) ∷ brtrue (to i x) ∷ []) × NamesType (token x) x × TestsAt to (i + 1) xs (q + 3)

  -- behind a clause: leave to where the ones behind it are asked, and out through the finally where none fits
  pub record AgainAt (thrown : ℕ) (token : Piece → Token) (j : ℕ) : Type 0 where
    pub place : ℕ
    pub leaves : slice_get code (m.behind group.Throw j) ≡ Some (leave place)
    pub tests : TestsAt thrown token begins (j + 1) (drop (j + 1) clauses) place
    pub over : slice_get code (place + 3 * length (drop (j + 1) clauses)) ≡ Some (leave out)
    pub within : (e.body ≤ place) × (place + 3 * length (drop (j + 1) clauses) < e.handler)

  pub record ThrowCode : Type 0 where
    pub thrown : ℕ
    pub thrown_is : thrown ≡ m.old_locals + m.olds + m.thrown_at
    pub token : Piece → Token
    -- at the door: where one fits the guard is asked, else the group is passed over
    pub enters : ℕ
    pub tests : TestsAt thrown token (λ i x. enters) 0 clauses door
    pub passes : slice_get code (door + 3 * length clauses) ≡ Some (br out)
    pub asks : StandAt code enters (call r.assembly e.reporting.tools.enter ∷ brfalse out ∷ [])
    pub starts : e.body ≡ enters + 2
    -- within the try it is asked again which one fits, the last one by elimination
    pub firsts : List Piece
    pub last : Piece
    pub split : clauses ≡ firsts ++ last ∷ []
    pub picks : TestsAt thrown token begins 0 firsts e.body
    pub picks_last : slice_get code (e.body + 3 * length firsts) ≡ Some (br (begins (length firsts) last))
    pub again : (j : ℕ) (x : Piece) → piece_at (Some plan) group.Throw j ≡ Some x → AgainAt thrown token j
    -- types are under each other alike in both programs
    pub same_sub : (u t : Ty) → is_sub p' u t ≡ is_sub p u t

  -- what is asked of the group, where what was thrown is an object
  pub record ThrowSeams : Type 0 where
    pub opens : (f : Frame) (fs fs' : List Frame) (w : World) (ex : List Cell) (ss : List Statics) (b : Continuation) (y : ℕ) → f.local.stack ≡ [] → f.method ≡ me → f.thrown ≡ Some y → IsException p w y → Paired p k p' g n depths m f fs fs' w ex ss
        → OpensAt p k p' g n depths m plan group.Throw (opening_cost k p group.Throw) (stands p k p' g n depths f f.local ex door b fs' w ss) f fs f.local b fs' w (next_piece p plan group.Throw 0 f fs w) (runs_at plan group.Throw w.depth)
    pub continues : (j : ℕ) (x : Piece) (f : Frame) (fs fs' : List Frame) (w : World) (ex : List Cell) (ss : List Statics) (b : Continuation) (y : ℕ) → piece_at (Some plan) group.Throw j ≡ Some x → f.method ≡ me → f.thrown ≡ Some y → IsException p w y → 0 < w.depth → Paired p k p' g n depths m f fs fs' w ex ss
        → ContinuesAt p k p' g n depths m plan group.Throw (cost k p) (stands p k p' g n depths f f.local ex (m.behind group.Throw j) b fs' w ss) f fs f.local b fs' w (next_piece p plan group.Throw (j + 1) f fs w)
    pub breaks : (j q q' : ℕ) (f : Frame) (fs fs' : List Frame) (w : World) (ex : List Cell) (ss : List Statics) (b : Continuation) (x : ℕ) → f.at ≡ InGroup group.Throw j q → IsHere (Some plan) f.at → IsTrue (m.belongs f.at q') → f.method ≡ me → 0 < w.depth → Paired p k p' g n depths m f fs fs' w ex ss → drops (piece_at (Some plan) group.Throw j) ≡ false
        → (ss2 : List Statics) × Beside p k p' g n depths (state.lowered w) ss2 × Comes p' (cost k p) (unwind p' no_contracts false (twin p k p' g n depths f f.local ex q' [] b ∷ fs') (beside ss w) x) (leaves_with p k p' g n depths f b fs' (state.lowered w) ss2 x)
    pub checks : (j q : ℕ) (x : Piece) (i : Instr) (kd : ClauseKind) (c : Condition) (f : Frame) (fs fs' : List Frame) (w : World) (ex : List Cell) (ss : List Statics) (b : Continuation) → f.method ≡ me → f.at ≡ InGroup group.Throw j q → IsHere (Some plan) f.at → piece_at (Some plan) group.Throw j ≡ Some x → NotMade x.clause.kind → slice_get x.clause.instrs q ≡ Some i → contract_call p i ≡ EndsClause kd → Paired p k p' g n depths m f fs fs' w ex ss
        → condition_in (has_message p i) f.local.stack ≡ Some c → Checked p k p' g n depths m f fs fs' w ex ss b [] (clause_failure p k p' g n depths f fs x c.user) c.holds c.rest (m.behind group.Throw j)
    pub checks_stuck : (j q : ℕ) (x : Piece) (i : Instr) (kd : ClauseKind) (f : Frame) (fs fs' : List Frame) (w : World) (ex : List Cell) (ss : List Statics) (b : Continuation) → f.method ≡ me → f.at ≡ InGroup group.Throw j q → IsHere (Some plan) f.at → piece_at (Some plan) group.Throw j ≡ Some x → NotMade x.clause.kind → slice_get x.clause.instrs q ≡ Some i → contract_call p i ≡ EndsClause kd → Paired p k p' g n depths m f fs fs' w ex ss
        → condition_in (has_message p i) f.local.stack ≡ None → Comes p' (cost k p) (from_here p k p' g n depths m f ex b fs' w ss []) (stuck (beside ss w))
