-- The end of a Requires<E> clause as instructions, where E is an exception of the core classes: what fails makes E and throws it (Code Contracts User Manual, section 2.1).
use Rattle.std.specs.Prelude.{◌≡◌, ℕ, ◌+◌, ◌<◌, ◌≤◌, Bool, true, false, List, [], ◌∷◌, length, slice_get, Some, None, IsTrue, option_and_then, pos}
use Rattle.cil_base.specs.declared.token.Token.{Token}
use Rattle.cil_model.specs.declared.ty.Ty.{Ty, out-Ty, Known}
use Rattle.cil_model.specs.declared.body.Instr.{Instr}
use Rattle.cil_model.specs.declared.contract.ClauseKind.{ClauseKind}
use Rattle.cil_model.specs.declared.contract.ClauseKind.TheVariants as kind
use Rattle.cil_model.specs.declared.contract.Contracts.{Contracts}
use Rattle.cil_model.specs.declared.contract.Group.{Group}
use Rattle.cil_model.specs.declared.program.Program.{Program}
use Rattle.cil_model.specs.declared.program.Meaning.TheVariants.{OfMethod}
use Rattle.cil_semantics.specs.Lookups.{in_set}
use Rattle.cil_semantics.specs.declared.state.Cell.{Cell}
use Rattle.cil_semantics.specs.declared.state.World.{World}
use Rattle.cil_semantics.specs.declared.state.Statics.{Statics}
use Rattle.cil_semantics.specs.declared.state.ProgramPoint.TheVariants.{InGroup}
use Rattle.cil_semantics.specs.declared.state.Frame.{Frame}
use Rattle.cil_semantics.specs.declared.state.Continuation.{Continuation}
use Rattle.cil_semantics.specs.Tokens.{Here, ref_type, meaning_of, meaning_here, nests_little}
use Rattle.cil_semantics.specs.Acts.{arity}
use Rattle.cil_semantics.specs.Contracted.{Piece, Plan}
use Rattle.cil_semantics.specs.Unwind.{body_of, piece_at}
use Rattle.cil_semantics.specs.Frames.{stuck}
use Rattle.cil_semantics.specs.Calls.{core_of, Constructor, is_core_exception}
use Rattle.cil_semantics.specs.ContractCalls.{contract_call, has_message}
use Rattle.cil_semantics.specs.declared.contract_call.ContractCall.TheVariants.{EndsClause}
use Rattle.cil_semantics.specs.Checks.{AddedNumbers, Condition, condition_in, kind_number}
use Rattle.splice_facts.specs.Comes.{Comes}
use Rattle.splice_facts.specs.Grown.{beside}
use Rattle.splice_facts.specs.Layout.{Depths, Marks, IsHere}
use Rattle.splice_facts.specs.Spliced.{Paired, from_here, clause_failure, cost, Checked}
use Rattle.splice_laws.specs.Straight.{ldc, ldloc, stloc, ldnull, ldstr, dup, pop, brtrue, brfalse, call, newobj, throw, StandAt}
use Rattle.splice_laws.specs.HelperRuns.{HelpersRun}
use Rattle.splice_laws.specs.EntryCode.{Tools, GroupFrame}
use Rattle.requires_laws.specs.ReportCode.{ReportRuns}

-- in place of the call: what fails is reported, null goes on, and with any other reply E is made and thrown
abbrev pub makes_code : ℕ → Tools → (kind : ℕ) → Instr → (label report ctor : Token) → (pops on : ℕ) → List Instr
makes_code a t n user label report ctor pops on =
    stloc t.condition ∷ ldloc t.condition ∷ brtrue on
    ∷ ldc (pos n) ∷ user ∷ ldstr a label ∷ call a report
    ∷ dup ∷ brfalse pops ∷ newobj a ctor ∷ throw ∷ pop ∷ []

abbrev pub made_code : Bool → ℕ → Tools → (kind : ℕ) → (label report ctor : Token) → (pops on : ℕ) → List Instr
made_code true a t n label report ctor pops on = stloc t.message ∷ makes_code a t n (ldloc t.message) label report ctor pops on
made_code false a t n label report ctor pops on = makes_code a t n ldnull label report ctor pops on

module _ (p : Program) (k : Contracts) (p' : Program) (g : AddedNumbers) (n : ℕ) (depths : Depths n g) (r : HelpersRun p' g k.settings.throwing depths.owner k.settings.guard) (me : ℕ) (plan : Plan) (m : Marks) (gr : Group) (e : GroupFrame p p' g k.settings.throwing depths.owner k.settings.guard r me plan m gr) where
  -- the end of one clause, with the constructor of its E that takes a text
  pub record MadeAt (report : Token) (j q : ℕ) (x : Piece) (i : Instr) : Type 0 where
    pub ty : Ty
    pub exception : (here : Here) → here.method ≡ me → option_and_then (ref_type p here) x.clause.exception ≡ Some ty
    pub little : nests_little ty ≡ true
    pub outside : in_set (out-Ty ty) ≡ None
    pub core : is_core_exception p' ty ≡ true
    pub ctor : Token
    pub method : ℕ
    pub ctor_token : (here : Here) → here.method ≡ me → meaning_here p' here (newobj r.assembly ctor) ≡ Some (OfMethod ty method [])
    pub ctor_core : core_of p' ty method ≡ Constructor
    pub takes : arity p' method ≡ 1
    pub pops : ℕ
    pub code : StandAt (body_of p' me).instrs (m.places (InGroup gr j q)) (made_code (has_message p i) r.assembly e.reporting.tools (kind_number x.clause.kind) (e.label x) report ctor pops (m.behind gr j))
    pub next : m.behind gr j ≡ m.places (InGroup gr j q) + length (made_code (has_message p i) r.assembly e.reporting.tools (kind_number x.clause.kind) (e.label x) report ctor pops (m.behind gr j))
    pub last : m.behind gr j ≡ pops + 1
    pub belongs : (q' : ℕ) → m.places (InGroup gr j q) ≤ q' → q' < m.behind gr j → IsTrue (m.belongs (InGroup gr j q) q')

  pub record MadeCode : Type 0 where
    pub report : ℕ
    pub report_token : Token
    pub report_is : meaning_of p' r.assembly report_token ≡ Some (OfMethod (Known depths.owner) report [])
    pub runs : ReportRuns p' g depths.owner report
    pub ends : (j q : ℕ) (x : Piece) (i : Instr) (kd : ClauseKind) → IsHere (Some plan) (InGroup gr j q) → piece_at (Some plan) gr j ≡ Some x → x.clause.kind ≡ kind.RequiresOf → slice_get x.clause.instrs q ≡ Some i → contract_call p i ≡ EndsClause kd → MadeAt report_token j q x i

  -- what is asked of the end of such a clause
  pub record MadeSeams : Type 0 where
    pub made : (j q : ℕ) (x : Piece) (i : Instr) (kd : ClauseKind) (c : Condition) (f : Frame) (fs fs' : List Frame) (w : World) (ex : List Cell) (ss : List Statics) (b : Continuation) → f.method ≡ me → f.at ≡ InGroup gr j q → IsHere (Some plan) f.at → piece_at (Some plan) gr j ≡ Some x → x.clause.kind ≡ kind.RequiresOf → slice_get x.clause.instrs q ≡ Some i → contract_call p i ≡ EndsClause kd → Paired p k p' g n depths m f fs fs' w ex ss
        → condition_in (has_message p i) f.local.stack ≡ Some c → Checked p k p' g n depths m f fs fs' w ex ss b [] (clause_failure p k p' g n depths f fs x c.user) c.holds c.rest (m.behind gr j)
    pub made_stuck : (j q : ℕ) (x : Piece) (i : Instr) (kd : ClauseKind) (f : Frame) (fs fs' : List Frame) (w : World) (ex : List Cell) (ss : List Statics) (b : Continuation) → f.method ≡ me → f.at ≡ InGroup gr j q → IsHere (Some plan) f.at → piece_at (Some plan) gr j ≡ Some x → x.clause.kind ≡ kind.RequiresOf → slice_get x.clause.instrs q ≡ Some i → contract_call p i ≡ EndsClause kd → Paired p k p' g n depths m f fs fs' w ex ss
        → condition_in (has_message p i) f.local.stack ≡ None → Comes p' (cost k p) (from_here p k p' g n depths m f ex b fs' w ss []) (stuck (beside ss w))
