-- Same behaviour: the plain run of a program does what the run of another with its contracts does.
use Rattle.std.specs.Prelude.{◌≡◌, Some, ◌==◌, ℕ, suc, ◌+◌, ◌*◌, ◌<◌, ◌≤◌, max, Bool, true, nat_lt, List, [], ◌∷◌, length, filter, codes, IsTrue, IsFalse, IsSome}
use Rattle.cil_model.specs.declared.ty.Ty.{Ty, out-Ty, Prim}
use Rattle.cil_model.specs.declared.value.Value.{Value}
use Rattle.cil_model.specs.declared.contract.Contracts.{Contracts}
use Rattle.cil_model.specs.declared.contract.Effective.{Effective}
use Rattle.cil_model.specs.declared.program.Program.{Program}
use Rattle.cil_model.specs.declared.program.TypeDesc.{TypeDesc}
use Rattle.cil_model.specs.declared.program.FieldDesc.{FieldDesc}
use Rattle.cil_model.specs.declared.program.MethodDesc.{MethodDesc}
use Rattle.cil_model.specs.declared.run.Reply.{Reply}
use Rattle.cil_model.specs.declared.run.Outcome.{Outcome}
use Rattle.cil_model.specs.NoContracts.{no_contracts}
use Rattle.cil_semantics.specs.Words.{maybe}
use Rattle.cil_semantics.specs.Core.{Name, string_ty, helper_name, kind_ty, exception_ty, event_params}
use Rattle.cil_semantics.specs.Lookups.{type_of, field_of, method_of, in_set}
use Rattle.cil_semantics.specs.declared.state.World.{World}
use Rattle.cil_semantics.specs.declared.state.Statics.{Statics}
use Rattle.cil_semantics.specs.State.{State, Next, Running, Ended}
use Rattle.cil_semantics.specs.Contracted.{effective_of}
use Rattle.cil_semantics.specs.Frames.{param_types, owner_type}
use Rattle.cil_semantics.specs.Outside.{all_fit, fits}
use Rattle.cil_semantics.specs.Checks.{AddedNumbers}
use Rattle.cil_semantics.specs.Machine.{start, step, runs, run, plain_run, empty_world, unused_numbers}
use Rattle.machine_laws.specs.Simulation.{IsPrefix, trace_of, EndsAlike, Match, weight}

-- ---- identity (ECMA-335, II.6.2): a row of an assembly, or outside the set a name

pub record SameType (a b : TypeDesc) : Type 0 where
  pub assembly : a.assembly ≡ b.assembly
  pub row : a.row ≡ b.row
  pub name : a.name ≡ b.name
  pub outside : a.outside ≡ b.outside

pub record SameField (a b : FieldDesc) : Type 0 where
  pub owner : a.owner ≡ b.owner
  pub name : a.name ≡ b.name
  pub ty : a.ty ≡ b.ty
  pub is_static : a.is_static ≡ b.is_static

pub record SameMember (a b : MethodDesc) : Type 0 where
  pub assembly : a.assembly ≡ b.assembly
  pub row : a.row ≡ b.row
  pub owner : a.owner ≡ b.owner
  pub name : a.name ≡ b.name
  pub params : a.params ≡ b.params
  pub result : a.result ≡ b.result
  pub is_static : a.is_static ≡ b.is_static
  pub outside : a.outside ≡ b.outside

-- each number of the first program names in the second what it names in the first
pub record KeepsIdentities (p p' : Program) : Type 0 where
  pub types : (k : ℕ) → k < length p.types → SameType (type_of p k) (type_of p' k)
  pub fields : (k : ℕ) → k < length p.fields → SameField (field_of p k) (field_of p' k)
  pub methods : (k : ℕ) → k < length p.methods → SameMember (method_of p k) (method_of p' k)
  pub signatures : (j k : ℕ) → j < length p.methods → k < length p.methods → ((method_of p' j).sig == (method_of p' k).sig) ≡ ((method_of p j).sig == (method_of p k).sig)

-- a static member outside of this type, name and signature
pub record IsHelper (p : Program) (m : ℕ) (called : Name) (takes : List Ty) (gives : Ty) : Type 0 where
  pub outside : IsTrue (method_of p m).outside
  pub static : IsTrue (method_of p m).is_static
  pub owner : (type_of p (method_of p m).owner).name ≡ helper_name
  pub name : (method_of p m).name ≡ called
  pub params : (method_of p m).params ≡ takes
  pub result : (method_of p m).result ≡ gives

-- the constructor of a text of an outside type
pub record IsConstructor (p : Program) (m : ℕ) (of : Name) : Type 0 where
  pub outside : IsTrue (method_of p m).outside
  pub instance : IsFalse (method_of p m).is_static
  pub owner : (type_of p (method_of p m).owner).name ≡ of
  pub name : (method_of p m).name ≡ codes ".ctor"
  pub params : (method_of p m).params ≡ string_ty ∷ []
  pub result : (method_of p m).result ≡ Prim 0x01

-- the class of the exceptions that failures make, of an assembly of the set
pub record IsFailureClass (p : Program) (t target : ℕ) : Type 0 where
  pub name : (type_of p t).name ≡ codes "__ContractsRuntime/ContractException"
  pub assembly : (type_of p t).assembly ≡ target
  pub inside : IsFalse (type_of p t).outside
  pub base : (type_of p t).base ≡ Some exception_ty

-- What the numbers of a run with contracts name in the second program, where it has them.
pub record NamesAdded (p p' : Program) (target : ℕ) (g : AddedNumbers) : Type 0 where
  pub unused : length p.types ≤ g.exception
  pub exception : g.exception < length p'.types → IsFailureClass p' g.exception target
  pub constructor : (name : Name) → g.constructor name < length p'.methods → IsConstructor p' (g.constructor name) name
  pub event : g.event < length p'.methods → IsHelper p' g.event (codes "RaiseContractFailedEvent") event_params string_ty
  pub trigger : g.trigger < length p'.methods → IsHelper p' g.trigger (codes "TriggerFailure") (kind_ty ∷ string_ty ∷ string_ty ∷ string_ty ∷ exception_ty ∷ []) (Prim 0x01)

-- ---- worlds

-- a type that isn't of the set, or whose number is one of the first n
abbrev pub is_input_type : ℕ → Ty → Bool
is_input_type n t = maybe true (λ (d : ℕ × List Ty). nat_lt d.0 n) (in_set (out-Ty t))

-- The statics but those of what was appended: `__ContractsRuntime` alone has any. It counts how many types the input has, since the programs between the two have the output's tables.
abbrev pub input_statics : ℕ → World → List Statics
input_statics n w = filter (λ (s : Statics). is_input_type n s.owner) w.statics

-- worlds that are alike where runs are over, n the number of the input's types
pub record SameWorld (n : ℕ) (w w' : World) : Type 0 where
  pub heap : w.heap ≡ w'.heap
  pub statics : input_statics n w ≡ input_statics n w'
  pub trace : w.trace ≡ w'.trace

-- ---- entries

-- A method of the set with a body, of no contract reference assembly and without type parameters, and arguments that fit.
pub record IsEntry (p : Program) (m : ℕ) (args : List Value) : Type 0 where
  pub there : m < length p.methods
  pub body : IsSome (method_of p m).body
  pub inside : IsFalse (method_of p m).outside
  pub owned : IsFalse (type_of p (method_of p m).owner).reference
  pub closed : ((method_of p m).generics ≡ 0) × ((type_of p (method_of p m).owner).generics ≡ 0)
  pub fitting : IsTrue (all_fit (fits p (empty_world [])) (param_types p (owner_type p m []) m []) args)

-- ---- how many steps one step may take

abbrev pub count_clauses : Effective → ℕ
count_clauses e = length e.clauses + (length e.invariants + length e.asserts)

-- the most clauses, invariants and asserts of one of the methods from a number on
abbrev pub most_clauses : Contracts → Program → ℕ → List MethodDesc → ℕ
most_clauses k p m [] = 0
most_clauses k p m (d ∷ ds) = max (maybe 0 count_clauses (effective_of k p m)) (most_clauses k p (suc m) ds)

abbrev pub bound_of : Contracts → Program → ℕ
bound_of k p = 64 * (1 + most_clauses k p 0 p.methods)

-- ---- same behaviour

-- For every entry, replies and number of steps the runs end together and tell the same.
pub record Same (p : Program) (k : Contracts) (p' : Program) : Type 0 where
  pub numbers : AddedNumbers
  pub identities : KeepsIdentities p p'
  pub added : NamesAdded p p' k.target numbers
  pub ends_only : (m : ℕ) (args : List Value) (rs : List Reply) (n : ℕ) (o : Outcome) (w' : World) → IsEntry p m args → plain_run p' m args rs n ≡ Ended o w' → EndsAlike (λ w. SameWorld (length p.types) w w') (run p k numbers m args rs n) o
  pub ends_too : (m : ℕ) (args : List Value) (rs : List Reply) (n : ℕ) (o : Outcome) (w : World) → IsEntry p m args → run p k numbers m args rs n ≡ Ended o w → EndsAlike (SameWorld (length p.types) w) (plain_run p' m args rs (bound_of k p * (n + 1))) o
  pub writes_no_more : (m : ℕ) (args : List Value) (rs : List Reply) (n : ℕ) → IsEntry p m args → IsPrefix (trace_of (plain_run p' m args rs n)) (trace_of (run p k numbers m args rs n))
  pub writes_no_less : (m : ℕ) (args : List Value) (rs : List Reply) (n : ℕ) → IsEntry p m args → IsPrefix (trace_of (run p k numbers m args rs n)) (trace_of (plain_run p' m args rs (bound_of k p * (n + 1))))

-- ---- same behaviour from steps

abbrev pub plain_step : Program → State → Next
plain_step p s = step p no_contracts (unused_numbers p) s

-- the plain run comes from a state to one that goes with the first in few steps
pub record Meets (p : Program) (k : Contracts) (p' : Program) (R : State → State → Type 0) (f : State → ℕ) (first second : State) : Type 0 where
  pub met : State
  pub steps : ℕ
  pub meets : runs (plain_step p') steps second ≡ Running met
  pub related : R first met
  pub within : steps + f first ≤ bound_of k p

-- both runs begin, or both are over at once in the same way
abbrev pub BeginsAlike : (p : Program) (k : Contracts) (p' : Program) (R : State → State → Type 0) (f : State → ℕ) → Next → Next → Type 0
BeginsAlike p k p' R f (Running s) (Running s') = Meets p k p' R f s s'
BeginsAlike p k p' R f (Ended o w) (Ended o' w') = (o ≡ o') × SameWorld (length p.types) w w'
BeginsAlike p k p' R f (Running s) (Ended o' w') = ⊥
BeginsAlike p k p' R f (Ended o w) (Running s') = ⊥

-- From each entry on the plain run of the second program answers each step of the first program's run with contracts; long answers are paid by what a state has laid by.
pub record AnswersSteps (p : Program) (k : Contracts) (p' : Program) (g : AddedNumbers) (R : State → State → Type 0) (f : State → ℕ) : Type 0 where
  pub identities : KeepsIdentities p p'
  pub added : NamesAdded p p' k.target g
  pub entry : (m : ℕ) (args : List Value) (rs : List Reply) → IsEntry p m args → BeginsAlike p k p' R f (start p k m args rs) (start p' no_contracts m args rs)
  pub same_trace : (s s' : State) → R s s' → s.world.trace ≡ s'.world.trace
  pub answer : (s s' : State) → R s s' → (j : ℕ) × (suc j + weight f (step p k g s) ≤ bound_of k p + f s) × Match (SameWorld (length p.types)) R (step p k g s) (runs (plain_step p') (suc j) s')
