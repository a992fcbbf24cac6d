-- What the rules give of a body of the input alone: the splice takes these facts and doesn't make them.
use Rattle.std.specs.Prelude.{◌≡◌, ℕ, ◌+◌, ◌<◌, Bool, true, false, if◌then◌else◌, List, [], ◌∷◌, ◌++◌, length, slice_get, Option, Some, None, IsTrue, is_some}
use Rattle.cil_base.specs.declared.token.Token.{Token}
use Rattle.cil_model.specs.declared.ty.Ty.{Prim}
use Rattle.cil_model.specs.declared.value.Value.{Value}
use Rattle.cil_model.specs.declared.body.Instr.{Instr}
use Rattle.cil_model.specs.declared.body.Region.{Region}
use Rattle.cil_model.specs.declared.program.Program.{Program}
use Rattle.cil_model.specs.declared.contract.Contracts.{Contracts}
use Rattle.cil_model.specs.declared.contract.ClauseKind.{ClauseKind}
use Rattle.cil_model.specs.declared.contract.Group.{Group}
use Rattle.cil_model.specs.declared.contract.Group.TheVariants as group
use Rattle.cil_semantics.specs.declared.state.Local.{Local as LocalState}
use Rattle.cil_semantics.specs.declared.state.World.{World}
use Rattle.cil_semantics.specs.declared.state.ProgramPoint.{ProgramPoint}
use Rattle.cil_semantics.specs.declared.state.ProgramPoint.TheVariants.{LeadIn, InGroup, Rest}
use Rattle.cil_semantics.specs.declared.state.Frame.{Frame}
use Rattle.il_opcodes.specs.declared.class.Class.TheVariants as class
use Rattle.il_opcodes.specs.declared.class.Class.{Class}
use Rattle.il_opcodes.specs.Opcodes.{class_of}
use Rattle.cil_semantics.specs.Tokens.{Here, local_tys}
use Rattle.cil_semantics.specs.Contracted.{Piece, Plan, olds_of}
use Rattle.cil_model.specs.declared.contract.Old.{Old}
use Rattle.cil_semantics.specs.Unwind.{body_of, piece_at, moved_to, next_place, Found, NoHandler, CatchHandler, CleanupHandler, search_from, left_from}
use Rattle.cil_semantics.specs.Frames.{clause_tys, first_place}
use Rattle.cil_semantics.specs.Returns.{result_type, returned}
use Rattle.cil_semantics.specs.ContractCalls.{contract_call, has_message}
use Rattle.cil_semantics.specs.declared.contract_call.ContractCall.{ContractCall}
use Rattle.cil_semantics.specs.declared.contract_call.ContractCall.TheVariants.{GivesResult, ReadsArgument, TakesOld, ChecksHere}
use Rattle.cil_semantics.specs.Checks.{AddedNumbers, dropped, recalled}
use Rattle.splice_facts.specs.Grown.{NamesLocals}
use Rattle.splice_facts.specs.Layout.{fetch, stands_in, IsHere, CanArrive, LeadsOn}
use Rattle.cil_model.specs.declared.body.RegionKind.{RegionKind}
use Rattle.cil_model.specs.declared.body.RegionKind.TheVariants as region
use Rattle.std.specs.Prelude.{Contains}
use Rattle.cil_semantics.specs.declared.state.Access.{Access}
use Rattle.cil_semantics.specs.declared.state.Access.TheVariants.{Write}
use Rattle.cil_semantics.specs.Lookups.{method_of}
use Rattle.cil_semantics.specs.Places.{storage, is_void}
use Rattle.cil_model.specs.declared.program.Meaning.{Meaning}
use Rattle.cil_model.specs.declared.program.Meaning.TheVariants.{OfMethod}
use Rattle.cil_semantics.specs.Calls.{CoreMember, Constructor, NotCore, core_of}
use Rattle.cil_semantics.specs.Instructions.{act}
use Rattle.cil_semantics.specs.Acts.{Act, GoOn, Jump, Leave, Load, Store, Copy, UseStatic, CallMember, CallVirtual, NewObject, LoadVirtualFunction}

-- a value, if there is one
abbrev pub top_of : Option Value → List Value
top_of None = []
top_of (Some v) = v ∷ []

abbrev pub IsFound : Found → Type 0
IsFound NoHandler = ⊥
IsFound _ = Unit {0}

-- a handler begins at a place of the same part
abbrev pub LandsAt : Option Plan → ProgramPoint → ℕ → Found → Type 0
LandsAt plan at rows NoHandler = Unit {0}
LandsAt plan at rows (CatchHandler i t) = IsHere plan (moved_to t at) × (i < rows)
LandsAt plan at rows (CleanupHandler i t) = IsHere plan (moved_to t at) × (i < rows)

abbrev pub is_group : ProgramPoint → Bool
is_group (LeadIn q) = false
is_group (InGroup gr i q) = true
is_group (Rest q) = false

-- a clause holds none of these
abbrev pub never_in_clause : Class → Bool
never_in_clause class.Return = true
never_in_clause class.Leave = true
never_in_clause class.EndFinally = true
never_in_clause class.Rethrow = true
never_in_clause _ = false

-- a contract call behind which its clause goes on: it ends neither a clause nor an old value
abbrev pub is_followed : ContractCall → Bool
is_followed GivesResult = true
is_followed ReadsArgument = true
is_followed (ChecksHere kd) = true
is_followed _ = false

module _ (p : Program) (k : Contracts) (g : AddedNumbers) where
  -- Of the pieces of a plan: each begins in its clause and holds no instruction that leaves it; Result stands where a value is returned; a call of a clause that isn't its last instruction has a place behind it.
  pub record PieceFacts (me : ℕ) (plan : Plan) : Type 0 where
    pub begins_in : (gr : Group) (j : ℕ) (x : Piece) → piece_at (Some plan) gr j ≡ Some x → (x.from < length x.clause.instrs) × IsTrue (stands_in x x.from)
    pub no_such : (gr : Group) (j q : ℕ) (i : Instr) → IsHere (Some plan) (InGroup gr j q) → fetch p k g (Some plan) me (InGroup gr j q) ≡ Some i → never_in_clause (class_of i.op) ≡ false
    pub has_result : (gr : Group) (j q : ℕ) (x : Piece) (i : Instr) (f : Frame) (fs : List Frame) → f.method ≡ me → f.at ≡ InGroup gr j q → IsHere (Some plan) (InGroup gr j q) → piece_at (Some plan) gr j ≡ Some x → slice_get x.clause.instrs q ≡ Some i → contract_call p i ≡ GivesResult → (gr ≡ group.Exit) × (returned p f [] ≡ None)
    pub goes_on : (gr : Group) (j q : ℕ) (x : Piece) (i : Instr) → IsHere (Some plan) (InGroup gr j q) → piece_at (Some plan) gr j ≡ Some x → recalled x q ≡ None → slice_get x.clause.instrs q ≡ Some i → is_followed (contract_call p i) ≡ true → IsHere (Some plan) (InGroup gr j (q + 1))
    -- an old value is taken in the piece that captures it alone, and what a clause recalls is captured
    pub takes : (gr : Group) (j q : ℕ) (x : Piece) (i : Instr) → IsHere (Some plan) (InGroup gr j q) → piece_at (Some plan) gr j ≡ Some x → recalled x q ≡ None → slice_get x.clause.instrs q ≡ Some i → contract_call p i ≡ TakesOld → IsTrue (is_some x.captures)
    pub olds : (gr : Group) (j q : ℕ) (x : Piece) (o : ℕ × Old) → IsHere (Some plan) (InGroup gr j q) → piece_at (Some plan) gr j ≡ Some x → recalled x q ≡ Some o → x.first_captured + o.0 < length (olds_of plan.clauses)

  abbrev pub PiecesIf : ℕ → Option Plan → Type 0
  PiecesIf me None = Unit {0}
  PiecesIf me (Some plan) = PieceFacts me plan

  -- Of a body: where it begins and jumps, which locals it names, and where its handlers begin.
  pub record InputFacts (me : ℕ) (plan : Option Plan) : Type 0 where
    pub starts : CanArrive plan (first_place plan)
    pub jumps : (at : ProgramPoint) (i : Instr) → IsHere plan at → fetch p k g plan me at ≡ Some i → LeadsOn plan at i.operand
    pub names : (at : ProgramPoint) (i : Instr) → IsHere plan at → fetch p k g plan me at ≡ Some i → (here : Here) → here.method ≡ me → NamesLocals (length (local_tys p here (body_of p me).locals ++ clause_tys p here plan)) (class_of i.op) i.operand
    pub lands : (at : ProgramPoint) (q skip : ℕ) (fits : Token → Bool) → IsHere plan at → IsHere plan (moved_to q at) → LandsAt plan at (length (body_of p me).regions) (search_from fits skip 0 q (body_of p me).regions)
    pub left_lands : (at : ProgramPoint) (q skip t : ℕ) (x : ℕ × Region) → IsHere plan at → is_group at ≡ false → IsHere plan (moved_to q at) → left_from skip 0 q t (body_of p me).regions ≡ Some x → IsHere plan (moved_to x.1.handler_from at) × (x.0 < length (body_of p me).regions)
    pub pieces : PiecesIf me plan

-- ---- heights of the stack (ECMA-335, III.1.7.4)

-- how many values a call of a method pushes
abbrev pub result_count : Program → ℕ → ℕ
result_count p m = if is_void (storage p (method_of p m).result) then 0 else 1

-- a core member is described with the result that it has: a constructor with none, each other one with a value (ECMA-335, Partition IV)
abbrev pub GivesAsDescribed : CoreMember → ℕ → Type 0
GivesAsDescribed Constructor n = n ≡ 0
GivesAsDescribed NotCore n = Unit {0}
GivesAsDescribed c n = n ≡ 1

-- call and callvirt (ECMA-335, III.3.19 and III.4.2)
abbrev pub CallsMember : Class → Type 0
CallsMember class.Call = Unit {0}
CallsMember class.CallVirtual = Unit {0}
CallsMember c = ⊥

abbrev pub NamesGiving : Program → Option Meaning → Type 0
NamesGiving p (Some (OfMethod owner m args)) = GivesAsDescribed (core_of p owner m) (result_count p m)
NamesGiving p m = Unit {0}

-- With its type arguments a frame's method returns a value just where it does without: no type argument is void (ECMA-335, II.23.2.14).
abbrev pub ReturnsAsNamed : Program → Frame → Type 0
ReturnsAsNamed p f = is_void (storage p (result_type p f)) ≡ is_void (storage p (method_of p f.method).result)

abbrev pub access_count : Access → ℕ
access_count (Write q v) = 0
access_count _ = 1

-- an act leaves the height of the place that it leads to; a call leaves what lies under its value
abbrev pub LeavesHeight : Program → (ProgramPoint → Option ℕ) → ProgramPoint → Act → Type 0
LeavesHeight p height at (GoOn made l) = Some (length l.stack) ≡ height (next_place at)
LeavesHeight p height at (Jump t l) = Some (length l.stack) ≡ height (moved_to t at)
LeavesHeight p height at (Leave t) = height (moved_to t at) ≡ Some 0
LeavesHeight p height at (Load q h l) = Some (length l.stack + 1) ≡ height (next_place at)
LeavesHeight p height at (Store q v l) = Some (length l.stack) ≡ height (next_place at)
LeavesHeight p height at (Copy q r h l) = Some (length l.stack) ≡ height (next_place at)
LeavesHeight p height at (UseStatic t a l) = Some (length l.stack + access_count a) ≡ height (next_place at)
LeavesHeight p height at (CallMember c l) = Some (length l.stack + result_count p c.method) ≡ height (next_place at)
LeavesHeight p height at (CallVirtual c l) = Some (length l.stack + result_count p c.method) ≡ height (next_place at)
LeavesHeight p height at (NewObject c l) = Some (length l.stack + 1) ≡ height (next_place at)
LeavesHeight p height at (LoadVirtualFunction c l) = Some (length l.stack + 1) ≡ height (next_place at)
LeavesHeight p height at _ = Unit {0}

-- the height where a handler begins
abbrev pub handler_height : RegionKind → ℕ
handler_height (region.Catch token) = 1
handler_height (region.Filter place) = 1
handler_height region.Finally = 0
handler_height region.Fault = 0

-- The heights of the places of a body outside its clauses that a path leads to: 0 at its boundaries, kept by each act, and at `ret` just the value that is returned. A place without one is never reached.
pub record StackHeights (p : Program) (k : Contracts) (g : AddedNumbers) (me : ℕ) (plan : Plan) : Type 0 where
  pub height : ProgramPoint → Option ℕ
  pub begins : height (first_place (Some plan)) ≡ Some 0
  pub entry : (n : ℕ) → Some n ≡ height (LeadIn plan.effective.lead_end) → n ≡ 0
  pub rest : height (Rest plan.effective.rest_from) ≡ Some 0
  pub keeps : (at : ProgramPoint) (i : Instr) (here : Here) (w : World) (l : LocalState) → here.method ≡ me → IsHere (Some plan) at → is_group at ≡ false → fetch p k g (Some plan) me at ≡ Some i → Some (length l.stack) ≡ height at → LeavesHeight p height at (act p here i w l)
  pub checks : (at : ProgramPoint) (i : Instr) (kd : ClauseKind) (s rest : List Value) → IsHere (Some plan) at → is_group at ≡ false → fetch p k g (Some plan) me at ≡ Some i → contract_call p i ≡ ChecksHere kd → Some (length s) ≡ height at → dropped (has_message p i) s ≡ Some rest → Some (length rest) ≡ height (next_place at)
  pub handlers : (at : ProgramPoint) (r : Region) → Contains (body_of p me).regions r → is_group at ≡ false → IsHere (Some plan) (moved_to r.handler_from at) → height (moved_to r.handler_from at) ≡ Some (handler_height r.kind)
  pub returns : (f : Frame) (i : Instr) (v : Option Value) → f.method ≡ me → ReturnsAsNamed p f → IsHere (Some plan) f.at → is_group f.at ≡ false → fetch p k g (Some plan) me f.at ≡ Some i → class_of i.op ≡ class.Return → returned p f f.local.stack ≡ Some v → Some (length f.local.stack) ≡ height f.at → length f.local.stack ≡ length (top_of v)
