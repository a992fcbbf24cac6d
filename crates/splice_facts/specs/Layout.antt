-- Where the places of a method stand in its written body, and what its frames have besides.
use Rattle.std.specs.Prelude.{◌≡◌, ◌≢◌, ℕ, ◌+◌, ◌-◌, ◌&&◌, nat_le, nat_lt, ◌<◌, ◌≤◌, Bool, true, false, not, if◌then◌else◌, List, [], ◌∷◌, length, map, slice_get, Option, Some, None, option_map, option_and_then, IsTrue, pos, is_some}
use Rattle.cil_model.specs.declared.ty.Ty.{Ty, Prim}
use Rattle.cil_model.specs.declared.value.Value.{Value, I4, Obj}
use Rattle.cil_model.specs.declared.body.Instr.{Instr}
use Rattle.cil_model.specs.declared.body.Operand.{Operand}
use Rattle.cil_model.specs.declared.body.Operand.TheVariants.{Target, Targets}
use Rattle.cil_model.specs.declared.program.Program.{Program}
use Rattle.cil_model.specs.declared.contract.Contracts.{Contracts}
use Rattle.cil_model.specs.declared.contract.Old.{Old}
use Rattle.cil_model.specs.declared.contract.Group.{Group}
use Rattle.cil_semantics.specs.Words.{maybe, any}
use Rattle.cil_semantics.specs.declared.state.Cell.{Cell}
use Rattle.cil_semantics.specs.declared.state.Local.{Local as LocalState}
use Rattle.cil_semantics.specs.declared.state.Statics.{Statics}
use Rattle.cil_semantics.specs.declared.state.ProgramPoint.{ProgramPoint}
use Rattle.cil_semantics.specs.declared.state.ProgramPoint.TheVariants.{LeadIn, InGroup, Rest}
use Rattle.il_opcodes.specs.declared.class.Class.TheVariants as class
use Rattle.il_opcodes.specs.declared.class.Class.{Class}
use Rattle.cil_semantics.specs.Tokens.{Here}
use Rattle.cil_semantics.specs.Contracted.{Piece, Plan}
use Rattle.cil_semantics.specs.Unwind.{body_of, piece_at, moved_to}
use Rattle.cil_semantics.specs.Checks.{AddedNumbers}
use Rattle.cil_semantics.specs.Machine.{relocated_instr}

-- ---- places

-- the instruction that stands at a place of the old method; a clause's own locals stand behind others
abbrev pub fetch : Program → Contracts → AddedNumbers → Option Plan → ℕ → ProgramPoint → Option Instr
fetch p k g plan m (LeadIn q) = slice_get (body_of p m).instrs q
fetch p k g plan m (Rest q) = slice_get (body_of p m).instrs q
fetch p k g plan m (InGroup gr n q) = option_and_then (λ (x : Piece). option_map (relocated_instr x.first_local) (slice_get x.clause.instrs q)) (piece_at plan gr n)

-- the old range whose value a piece captures
abbrev pub captured_range : Piece → Option Old
captured_range x = option_and_then (λ c. slice_get x.clause.olds (c - x.first_captured)) x.captures

abbrev pub in_range : ℕ → Old → Bool
in_range q o = nat_le o.from q && nat_le q o.to

-- behind the beginning of an old range, which a clause passes over in one step
abbrev pub is_inside : ℕ → Old → Bool
is_inside q o = nat_lt o.from q && nat_le q o.to

-- A piece that captures has the places of its range; a clause has those that are inside no old range.
abbrev pub stands_in : Piece → ℕ → Bool
stands_in x q = if is_some x.captures then maybe false (in_range q) (captured_range x) else not (any (is_inside q) x.clause.olds)

-- a place at which a frame may stand
abbrev pub IsHere : Option Plan → ProgramPoint → Type 0
IsHere None (LeadIn q) = ⊥
IsHere None (InGroup gr n q) = ⊥
IsHere None (Rest q) = Unit {0}
IsHere (Some plan) (LeadIn q) = q < plan.effective.lead_end
IsHere (Some plan) (InGroup gr n q) = (x : Piece) × (piece_at (Some plan) gr n ≡ Some x) × (q < length x.clause.instrs) × IsTrue (stands_in x q)
IsHere (Some plan) (Rest q) = plan.effective.rest_from ≤ q

-- a place at which a frame may arrive
abbrev pub CanArrive : Option Plan → ProgramPoint → Type 0
CanArrive (Some plan) (LeadIn q) = q ≤ plan.effective.lead_end
CanArrive plan at = IsHere plan at

pub record Onward (plan : Option Plan) (places : ProgramPoint → ℕ) (at to : ProgramPoint) : Type 0 where
  pub there : CanArrive plan to
  pub placed : places to ≡ places at + 1

-- a run that stands there goes on behind the instruction, unless it is one of these
abbrev pub never_falls : Class → Bool
never_falls class.Jump = true
never_falls class.Throw = true
never_falls class.Rethrow = true
never_falls class.Leave = true
never_falls class.EndFinally = true
never_falls class.Return = true
never_falls class.Unsupported = true
never_falls _ = false

abbrev pub AllCan : Option Plan → ProgramPoint → List ℕ → Type 0
AllCan plan at [] = Unit {0}
AllCan plan at (t ∷ ts) = CanArrive plan (moved_to t at) × AllCan plan at ts

abbrev pub LeadsOn : Option Plan → ProgramPoint → Operand → Type 0
LeadsOn plan at (Target t) = CanArrive plan (moved_to t at)
LeadsOn plan at (Targets ts) = AllCan plan at ts
LeadsOn plan at _ = Unit {0}

-- ---- the depth, which the written program keeps in a static of its own class

-- the number of that class; it and the class of the exceptions of failures stand behind the n types of the input
pub record Depths (n : ℕ) (g : AddedNumbers) : Type 0 where
  pub owner : ℕ
  pub appended : n ≤ owner
  pub exception : n ≤ g.exception
  pub apart : owner ≢ g.exception

abbrev pub depth_cell : ℕ → Cell
depth_cell d = record { ty = Prim 0x08; value = I4 (pos d) }

-- The statics of the class hold a depth: one int32, which is 0 at first, and no initializer ran.
abbrev pub HasDepth : ℕ → Option Statics → Type 0
HasDepth d None = d ≡ 0
HasDepth d (Some s) = (s.init ≡ None) × (s.cells ≡ depth_cell d ∷ [])

-- ---- what the splice chose for one method

pub record Marks : Type 0 where
  -- where each old place stands; which further places belong to the instruction of an old one
  pub places : ProgramPoint → ℕ
  pub belongs : ProgramPoint → ℕ → Bool
  -- where each group begins, and where the run is when it is over or passed over
  pub door : Group → ℕ
  pub out : Group → ℕ
  -- behind a piece whose last call is done
  pub behind : Group → ℕ → ℕ
  -- how many locals the method and its clauses have, and how many captured values
  pub old_locals : ℕ
  pub olds : ℕ
  -- of the locals behind the captured values: their types, and the two that keep what is returned and what was thrown
  pub extra : Here → List Ty
  pub result_at : ℕ
  pub thrown_at : ℕ

-- the locals behind the captured values have their types, and two of them keep what a group looks at
pub record Keeps (m : Marks) (here : Here) (exception : Option ℕ) (l : LocalState) (ex : List Cell) : Type 0 where
  pub wide : length l.locals ≡ m.old_locals
  pub caps : length l.captured ≡ m.olds
  pub typed : map (λ (c : Cell). c.ty) ex ≡ m.extra here
  pub result : (v : Value) → l.result ≡ Some v → option_map (λ (c : Cell). c.value) (slice_get ex m.result_at) ≡ Some v
  pub thrown : (x : ℕ) → exception ≡ Some x → option_map (λ (c : Cell). c.value) (slice_get ex m.thrown_at) ≡ Some (Obj x)
