-- Old values and Result in clauses, as instructions: the local that keeps the value is loaded (Code Contracts User Manual, section 2.2; ECMA-335, III.3.43).
use Rattle.std.specs.Prelude.{◌≡◌, ℕ, ◌+◌, List, [], slice_get, Some}
use Rattle.cil_model.specs.declared.value.Value.{Value}
use Rattle.cil_model.specs.declared.body.Instr.{Instr}
use Rattle.cil_model.specs.declared.contract.Contracts.{Contracts}
use Rattle.cil_model.specs.declared.contract.Group.{Group}
use Rattle.cil_model.specs.declared.contract.Old.{Old}
use Rattle.cil_model.specs.declared.program.Program.{Program}
use Rattle.cil_semantics.specs.declared.state.Cell.{Cell}
use Rattle.cil_semantics.specs.declared.state.World.{World}
use Rattle.cil_semantics.specs.declared.state.Statics.{Statics}
use Rattle.cil_semantics.specs.declared.state.ProgramPoint.TheVariants.{InGroup}
use Rattle.cil_semantics.specs.declared.state.Frame.{Frame}
use Rattle.cil_semantics.specs.declared.state.Continuation.{Continuation}
use Rattle.cil_semantics.specs.State.{pushed}
use Rattle.cil_semantics.specs.Contracted.{Piece, Plan}
use Rattle.cil_semantics.specs.Unwind.{body_of, piece_at, moved_to, next_place}
use Rattle.cil_semantics.specs.ContractCalls.{contract_call}
use Rattle.cil_semantics.specs.declared.contract_call.ContractCall.TheVariants.{GivesResult}
use Rattle.cil_semantics.specs.Checks.{AddedNumbers, recalled}
use Rattle.splice_facts.specs.Comes.{Goes}
use Rattle.splice_facts.specs.Layout.{Depths, Marks, IsHere, CanArrive}
use Rattle.splice_facts.specs.Spliced.{Paired, stands, from_here, cost}
use Rattle.splice_laws.specs.Straight.{ldloc}

module _ (p : Program) (k : Contracts) (p' : Program) (g : AddedNumbers) (n : ℕ) (depths : Depths n g) (me : ℕ) (plan : Plan) (m : Marks) where
  -- in place of an old range stands the load of its captured value, and behind it the place behind the range
  pub record RecallAt (gr : Group) (j q : ℕ) (x : Piece) (o : ℕ × Old) : Type 0 where
    pub code : slice_get (body_of p' me).instrs (m.places (InGroup gr j q)) ≡ Some (ldloc (m.old_locals + (x.first_captured + o.0)))
    pub next : m.places (InGroup gr j (o.1.to + 1)) ≡ m.places (InGroup gr j q) + 1
    pub there : CanArrive (Some plan) (InGroup gr j (o.1.to + 1))

  -- in place of Result stands the load of what is returned
  pub record ResultAt (gr : Group) (j q : ℕ) : Type 0 where
    pub code : slice_get (body_of p' me).instrs (m.places (InGroup gr j q)) ≡ Some (ldloc (m.old_locals + m.olds + m.result_at))
    pub next : m.places (InGroup gr j (q + 1)) ≡ m.places (InGroup gr j q) + 1

  pub record RecallCode : Type 0 where
    pub recalls : (gr : Group) (j q : ℕ) (x : Piece) (o : ℕ × Old) → IsHere (Some plan) (InGroup gr j q) → piece_at (Some plan) gr j ≡ Some x → recalled x q ≡ Some o → RecallAt gr j q x o
    pub results : (gr : Group) (j q : ℕ) (x : Piece) (i : Instr) → IsHere (Some plan) (InGroup gr j q) → piece_at (Some plan) gr j ≡ Some x → slice_get x.clause.instrs q ≡ Some i → contract_call p i ≡ GivesResult → ResultAt gr j q

  -- what is asked of them
  pub record RecallSeams : Type 0 where
    pub recalls : (gr : Group) (j q : ℕ) (x : Piece) (o : ℕ × Old) (c : Cell) (f : Frame) (fs fs' : List Frame) (w : World) (ex : List Cell) (ss : List Statics) (b : Continuation) → f.method ≡ me → f.at ≡ InGroup gr j q → IsHere (Some plan) f.at → piece_at (Some plan) gr j ≡ Some x → recalled x q ≡ Some o → slice_get f.local.captured (x.first_captured + o.0) ≡ Some c → Paired p k p' g n depths m f fs fs' w ex ss
        → CanArrive (Some plan) (moved_to (o.1.to + 1) f.at) × Goes p' (cost k p) (from_here p k p' g n depths m f ex b fs' w ss []) (stands p k p' g n depths f (pushed c.value f.local) ex (m.places (moved_to (o.1.to + 1) f.at)) b fs' w ss)
    pub results : (gr : Group) (j q : ℕ) (x : Piece) (i : Instr) (v : Value) (f : Frame) (fs fs' : List Frame) (w : World) (ex : List Cell) (ss : List Statics) (b : Continuation) → f.method ≡ me → f.at ≡ InGroup gr j q → IsHere (Some plan) f.at → piece_at (Some plan) gr j ≡ Some x → slice_get x.clause.instrs q ≡ Some i → contract_call p i ≡ GivesResult → f.local.result ≡ Some v → Paired p k p' g n depths m f fs fs' w ex ss
        → Goes p' (cost k p) (from_here p k p' g n depths m f ex b fs' w ss []) (stands p k p' g n depths f (pushed v f.local) ex (m.places (next_place f.at)) b fs' w ss)
