-- The exit of a body as instructions: `ret` lifted to where postconditions and invariants are checked, and the `ret` behind them (ECMA-335, III.3.57).
use Rattle.std.specs.Prelude.{◌≡◌, ◌≢◌, ℕ, ◌+◌, ◌≤◌, Bool, true, false, List, [], ◌∷◌, length, slice_get, Option, Some, None}
use Rattle.cil_model.specs.declared.ty.Ty.{Ty}
use Rattle.cil_model.specs.declared.value.Value.{Value}
use Rattle.cil_model.specs.declared.body.Instr.{Instr}
use Rattle.cil_model.specs.declared.contract.Contracts.{Contracts}
use Rattle.cil_model.specs.declared.contract.Group.TheVariants as group
use Rattle.cil_model.specs.declared.program.Program.{Program}
use Rattle.cil_model.specs.NoContracts.{no_contracts}
use Rattle.il_opcodes.specs.declared.class.Class.TheVariants as class
use Rattle.il_opcodes.specs.Opcodes.{class_of}
use Rattle.cil_semantics.specs.Lookups.{method_of}
use Rattle.cil_semantics.specs.Places.{storage, is_void, stored_in}
use Rattle.cil_semantics.specs.State.{with_stack}
use Rattle.cil_semantics.specs.declared.state.Cell.{Cell}
use Rattle.cil_semantics.specs.declared.state.World.{World}
use Rattle.cil_semantics.specs.declared.state.Statics.{Statics}
use Rattle.cil_semantics.specs.declared.state.ProgramPoint.TheVariants.{Rest}
use Rattle.cil_semantics.specs.declared.state.Handling.{Handling}
use Rattle.cil_semantics.specs.declared.state.Frame.{Frame}
use Rattle.cil_semantics.specs.declared.state.Continuation.{Continuation}
use Rattle.cil_semantics.specs.Tokens.{Here}
use Rattle.cil_semantics.specs.Types.{under}
use Rattle.cil_semantics.specs.Contracted.{Plan}
use Rattle.cil_semantics.specs.Unwind.{body_of, in_handler, left_from}
use Rattle.cil_semantics.specs.Frames.{stuck}
use Rattle.cil_semantics.specs.Returns.{returned, return_with}
use Rattle.cil_semantics.specs.Checks.{AddedNumbers}
use Rattle.splice_facts.specs.Comes.{Comes}
use Rattle.splice_facts.specs.Grown.{beside}
use Rattle.splice_facts.specs.Input.{top_of, ReturnsAsNamed}
use Rattle.splice_facts.specs.Layout.{Depths, Marks, IsHere, fetch}
use Rattle.splice_facts.specs.Spliced.{Paired, Current, Stays, Departs, stands, from_here, cost}
use Rattle.splice_laws.specs.Straight.{ldloc, stloc, ret, br, leave, StandAt}

-- to the exit: within a wrapper by `leave`
abbrev pub goes_to : (wrapped : Bool) → ℕ → Instr
goes_to true t = leave t
goes_to false t = br t

-- in place of a `ret`: what is returned is stored, if there is anything
abbrev pub lifted_code : (void wrapped : Bool) → (result exit : ℕ) → List Instr
lifted_code true wrapped result exit = goes_to wrapped exit ∷ []
lifted_code false wrapped result exit = stloc result ∷ goes_to wrapped exit ∷ []

-- behind the groups: it is returned
abbrev pub exit_code : (void : Bool) → (result : ℕ) → List Instr
exit_code true result = ret ∷ []
exit_code false result = ldloc result ∷ ret ∷ []

module _ (p : Program) (k : Contracts) (p' : Program) (g : AddedNumbers) (n : ℕ) (depths : Depths n g) (me : ℕ) (plan : Plan) (m : Marks) where
  -- one `ret` of the rest: it stands in no handler, and its way to the exit passes no finally (ECMA-335, III.3.57)
  pub record LiftedAt (void wrapped : Bool) (result q : ℕ) : Type 0 where
    pub code : StandAt (body_of p' me).instrs (m.places (Rest q)) (lifted_code void wrapped result (m.door group.Exit))
    pub unhandled : (h : Handling) → in_handler (body_of p me).regions q h ≡ false
    pub passes : (at : ℕ) → m.places (Rest q) ≤ at → at ≤ m.places (Rest q) + 1 → left_from 0 0 at (m.door group.Exit) (body_of p' me).regions ≡ None

  -- the code of the exit
  pub record ExitCode : Type 0 where
    pub void : Bool
    pub void_is : void ≡ is_void (storage p (method_of p me).result)
    pub wrapped : Bool
    pub result : ℕ
    pub result_is : result ≡ m.old_locals + m.olds + m.result_at
    pub result_ty : void ≡ false → (here : Here) → here.method ≡ me → slice_get (m.extra here) m.result_at ≡ Some (under here.type_args here.method_args (method_of p me).result)
    pub apart : m.result_at ≢ m.thrown_at
    pub lifted : (q : ℕ) (i : Instr) → IsHere (Some plan) (Rest q) → fetch p k g (Some plan) me (Rest q) ≡ Some i → class_of i.op ≡ class.Return → LiftedAt void wrapped result q
    pub exits : StandAt (body_of p' me).instrs (m.out group.Invariant) (exit_code void result)
    -- between the two programs values are stored alike, and the method returns the same
    pub same_stored : (t : Ty) (v : Value) → stored_in p' t v ≡ stored_in p t v
    pub same_result : (f : Frame) (s : List Value) → f.method ≡ me → returned p' f s ≡ returned p f s

  -- what is asked of the exit
  pub record ExitSeams : Type 0 where
    pub returns : (f : Frame) (fs fs' : List Frame) (w : World) (ex : List Cell) (ss : List Statics) (b : Continuation) → f.method ≡ me → ReturnsAsNamed p f → Stays p k p' g n depths plan f f.local.result → Paired p k p' g n depths m f fs fs' w ex ss
        → Comes p' (cost k p) (stands p k p' g n depths f f.local ex (m.out group.Invariant) b fs' w ss) (return_with p' no_contracts b f.local.args f.local.result fs' (beside ss w))
    pub lifts : (f : Frame) (fs fs' : List Frame) (w : World) (ex : List Cell) (ss : List Statics) (b : Continuation) (hs : List Handling) (q : ℕ) (i : Instr) (v : Option Value) → f.method ≡ me → ReturnsAsNamed p f → f.at ≡ Rest q → IsHere (Some plan) f.at → fetch p k g (Some plan) me f.at ≡ Some i → class_of i.op ≡ class.Return → Paired p k p' g n depths m f fs fs' w ex ss → Current p k p' g n depths me f.at hs
        → returned p f f.local.stack ≡ Some v → length f.local.stack ≡ length (top_of v) → Departs p k p' g n depths m (cost k p) (from_here p k p' g n depths m f ex b fs' w ss hs) f fs (with_stack (record f.local { result = v }) []) (m.door group.Exit) b fs' w
    pub lifts_stuck : (f : Frame) (fs fs' : List Frame) (w : World) (ex : List Cell) (ss : List Statics) (b : Continuation) (hs : List Handling) (q : ℕ) (i : Instr) → f.method ≡ me → ReturnsAsNamed p f → f.at ≡ Rest q → IsHere (Some plan) f.at → fetch p k g (Some plan) me f.at ≡ Some i → class_of i.op ≡ class.Return → Paired p k p' g n depths m f fs fs' w ex ss → Current p k p' g n depths me f.at hs
        → returned p f f.local.stack ≡ None → Comes p' (cost k p) (from_here p k p' g n depths m f ex b fs' w ss hs) (stuck (beside ss w))
