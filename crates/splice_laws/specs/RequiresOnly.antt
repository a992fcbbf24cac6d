-- A body whose kept clauses are all Requires, and without Assert, Assume, Result and OldValue: what its splice has besides the entry group.
use Rattle.std.specs.Prelude.{◌≡◌, ◌≢◌, ℕ, ◌<◌, false, List, [], length, slice_get, Some, None}
use Rattle.cil_model.specs.declared.body.Instr.{Instr}
use Rattle.cil_model.specs.declared.contract.Contracts.{Contracts}
use Rattle.cil_model.specs.declared.contract.Old.{Old}
use Rattle.cil_model.specs.declared.contract.ClauseKind.{ClauseKind}
use Rattle.cil_model.specs.declared.contract.Group.{Group}
use Rattle.cil_model.specs.declared.contract.Group.TheVariants as group
use Rattle.cil_model.specs.declared.program.Program.{Program}
use Rattle.cil_semantics.specs.Core.{Name}
use Rattle.cil_semantics.specs.declared.state.ProgramPoint.{ProgramPoint}
use Rattle.cil_semantics.specs.declared.state.ProgramPoint.TheVariants.{LeadIn, Rest}
use Rattle.cil_semantics.specs.declared.state.Handling.{Handling}
use Rattle.cil_semantics.specs.declared.state.Frame.{Frame}
use Rattle.cil_semantics.specs.Contracted.{Piece, Plan, pieces}
use Rattle.cil_semantics.specs.Unwind.{body_of, piece_at, in_handler}
use Rattle.cil_semantics.specs.ContractCalls.{contract_call}
use Rattle.cil_semantics.specs.declared.contract_call.ContractCall.TheVariants.{GivesResult}
use Rattle.cil_semantics.specs.Checks.{AddedNumbers, recalled}
use Rattle.splice_facts.specs.Layout.{Depths, Marks}
use Rattle.splice_facts.specs.Spliced.{IsInline}
use Rattle.splice_laws.specs.Fails.{NotMade}
use Rattle.splice_laws.specs.LoadCode.{LoadCode}

module _ (p : Program) (k : Contracts) (p' : Program) (g : AddedNumbers) (n : ℕ) (depths : Depths n g) (me : ℕ) (plan : Plan) (m : Marks) where
  -- what the input and the marks give besides
  pub record RequiresOnly : Type 0 where
    pub only : (gr : Group) → gr ≢ group.Entry → pieces plan gr ≡ []
    pub plain : (j : ℕ) (x : Piece) → piece_at (Some plan) group.Entry j ≡ Some x → NotMade x.clause.kind × (x.captures ≡ None)
    pub doors : (gr : Group) → gr ≢ group.Entry → m.door gr ≡ m.out gr
    pub entry_door : m.door group.Entry ≡ m.places (LeadIn plan.effective.lead_end)
    pub entry_out : m.out group.Entry ≡ m.places (Rest plan.effective.rest_from)
    pub then_invariants : m.out group.Exit ≡ m.door group.Invariant
    pub bare_doors : (gr : Group) (h : Handling) → h.handler < length (body_of p me).regions → in_handler (body_of p' me).regions (m.door gr) h ≡ false
    pub no_inline : (f : Frame) (fs : List Frame) (at : ProgramPoint) (i : Instr) (kd : ClauseKind) (home : ℕ) (label : Name) → IsInline p k p' g n depths plan me f fs at i kd home label → ⊥
    pub no_old : (gr : Group) (j q : ℕ) (x : Piece) (o : ℕ × Old) → piece_at (Some plan) gr j ≡ Some x → recalled x q ≡ Some o → ⊥
    pub no_result : (gr : Group) (j q : ℕ) (x : Piece) (i : Instr) → piece_at (Some plan) gr j ≡ Some x → slice_get x.clause.instrs q ≡ Some i → contract_call p i ≡ GivesResult → ⊥
    pub loads : LoadCode p p' me plan m
