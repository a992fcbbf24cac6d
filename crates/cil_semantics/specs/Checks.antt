-- Contract calls in a call with contracts: conditions, old values, results, and failures (Code Contracts User Manual, sections 2 and 7).
use Rattle.std.specs.Prelude.{ℕ, ◌+◌, ◌-◌, ◌%◌, Bool, true, false, ◌&&◌, ◌||◌, ◌==◌, bytes_eq, if◌then◌else◌, List, [], ◌∷◌, ◌++◌, length, take, drop, find, slice_get, slice_set, Option, Some, None, option_map, option_and_then, pos, codes}
use Rattle.cil_model.specs.declared.ty.Ty.{Ty, out-Ty, Prim, Known}
use Rattle.cil_model.specs.declared.ty.Ty.TheOpen.{Ty-F}
use Rattle.cil_model.specs.declared.value.Value.{Value, out-Value, I4, Null, Text, Obj}
use Rattle.cil_model.specs.declared.value.Value.TheOpen.{Value-F}
use Rattle.cil_model.specs.declared.body.Instr.{Instr}
use Rattle.cil_model.specs.declared.program.Program.{Program}
use Rattle.cil_model.specs.declared.contract.Clause.{Clause}
use Rattle.cil_model.specs.declared.contract.Old.{Old}
use Rattle.cil_model.specs.declared.contract.Contracts.{Contracts}
use Rattle.cil_model.specs.declared.contract.Group.{Group}
use Rattle.cil_model.specs.declared.contract.ClauseKind.{ClauseKind}
use Rattle.cil_model.specs.declared.contract.ClauseKind.TheVariants as kind
use Rattle.cil_model.specs.Texts.{text_units}
use Rattle.cil_semantics.specs.Words.{maybe, or_else}
use Rattle.cil_semantics.specs.Types.{Layer, same_tys}
use Rattle.cil_semantics.specs.Core.{Name, string_ty, helper_name, event_name, event_params, kind_ty, exception_ty}
use Rattle.cil_semantics.specs.Lookups.{method_of, in_set}
use Rattle.cil_semantics.specs.Dispatch.{methods_of, is_public}
use Rattle.cil_semantics.specs.Numbers.{B8}
use Rattle.cil_semantics.specs.Places.{Truncated, Reference, stored, set_cell}
use Rattle.cil_semantics.specs.State as state
use Rattle.cil_semantics.specs.State.{Object, World, ProgramPoint, LeadIn, InGroup, Rest, Frame, Next, ThrowObject, Continuation, pushed, with_stack, next_object, with_object}
use Rattle.cil_semantics.specs.Tokens.{nests_little, ref_type}
use Rattle.cil_semantics.specs.ContractCalls.{has_message, count_checks}
use Rattle.cil_semantics.specs.Acts.{ty_name, isnt_zero}
use Rattle.cil_semantics.specs.Contracted.{Piece, Plan, rank}
use Rattle.cil_semantics.specs.Unwind.{here_of, unwind}
use Rattle.cil_semantics.specs.Frames.{stuck, if_there, go_on}
use Rattle.cil_semantics.specs.Outside.{Answer, Returned, Threw, Unfit, Member, ask, ask_new}
use Rattle.cil_semantics.specs.Returns.{piece_over}
use Rattle.cil_semantics.specs.Calls.{Use, make, is_core_exception}

-- The numbers that a program gives what a rewriting appends: the exception class, the two members of ContractHelper, and of an outside type its constructor of a text.
pub record AddedNumbers : Type 0 where
  pub exception : ℕ
  pub event : ℕ
  pub trigger : ℕ
  pub constructor : Name → ℕ

-- ---- a condition

-- What a clause failed of: its kind, exception type, home method, message and label.
pub record Failure : Type 0 where
  pub kind : ClauseKind
  pub exception : Option Ty
  pub home : ℕ
  pub user : Value
  pub label : Name

-- the condition and the message that a contract call takes, each stored as an argument is, and the rest of the stack
pub record Condition : Type 0 where
  pub holds : Bool
  pub user : Value
  pub rest : List Value

abbrev pub bool_in : Value-F Value → Bool
bool_in (Value-F.I4 z) = isnt_zero z
bool_in _ = false

abbrev pub condition_from : Value → List Value → Option Condition
condition_from user [] = None
condition_from user (v ∷ rest) = option_map (λ x. record { holds = bool_in (out-Value x); user = user; rest = rest }) (stored (Truncated B8 false) v)

abbrev pub condition_in : (message : Bool) → List Value → Option Condition
condition_in true [] = None
condition_in true (v ∷ stack) = option_and_then (λ user. condition_from user stack) (stored Reference v)
condition_in false stack = condition_from Null stack

-- the arguments dropped
abbrev pub dropped : (message : Bool) → List Value → Option (List Value)
dropped true (v ∷ c ∷ rest) = Some rest
dropped true _ = None
dropped false (c ∷ rest) = Some rest
dropped false [] = None

-- ---- failure

abbrev pub kind_number : ClauseKind → ℕ
kind_number kind.Requires = 0
kind_number kind.RequiresOf = 0
kind_number kind.Ensures = 1
kind_number kind.Throws = 2
kind_number kind.Invariant = 3
kind_number kind.Assert = 4
kind_number kind.Assume = 5

-- the member that a failure is reported to; by default it replies the label
abbrev pub event_member : AddedNumbers → Value → Member
event_member g label =
    record { number = g.event; name = helper_name ++ (codes "::" ++ event_name); params = event_params; result = string_ty; default = Some label }

abbrev pub trigger_member : AddedNumbers → Member
trigger_member g =
    record { number = g.trigger; name = helper_name ++ codes "::TriggerFailure"; params = kind_ty ∷ string_ty ∷ string_ty ∷ string_ty ∷ exception_ty ∷ []; result = Prim 0x01; default = None }

abbrev pub label_text : Failure → Value
label_text x = Text (text_units x.label)

abbrev pub number_value : Failure → Value
number_value x = I4 (pos (kind_number x.kind))

-- the exception of a failed clause, of a class that no program of the input has
abbrev pub contract_failure : AddedNumbers → Failure → Object
contract_failure g x =
    record { ty = Known g.exception; cells = record { ty = Prim 0x08; value = number_value x } ∷ record { ty = string_ty; value = x.user } ∷ record { ty = string_ty; value = label_text x } ∷ [] }

-- a public constructor, or one that its assembly sees, for a clause of the same assembly
abbrev pub is_accessible : Program → ℕ → ℕ → Bool
is_accessible p home m =
    is_public (method_of p m)
    || ((((method_of p m).flags % 8 == 3) || ((method_of p m).flags % 8 == 5)) && ((method_of p home).assembly == (method_of p m).assembly))

abbrev pub constructor_with : Program → Ty → ℕ → List Ty → Option ℕ
constructor_with p t home ts =
    find (λ m. bytes_eq (method_of p m).name (codes ".ctor") && (same_tys (method_of p m).params ts && is_accessible p home m)) (methods_of p t)

-- the constructor of an exception type of the set, with the values that it is given
abbrev pub own_constructor : Program → Ty → ℕ → Value → Option (ℕ × List Value)
own_constructor p t home text =
    or_else (option_map (λ m. (m, text ∷ [])) (constructor_with p t home (string_ty ∷ []))) (option_map (λ m. (m, [])) (constructor_with p t home []))

abbrev pub constructor_member : Program → AddedNumbers → Ty → Member
constructor_member p g t =
    record { number = g.constructor (ty_name p t); name = ty_name p t ++ codes "::.ctor"; params = string_ty ∷ []; result = Prim 0x01; default = None }

-- the type of which a failure makes an exception, unless it nests over 1,000 deep, as at newobj
abbrev pub made_type : Failure → Option Ty
made_type x = option_and_then (λ t. if nests_little t then Some t else None) x.exception

-- an exception's type has a constructor to call: it is of the set, or outside and named
abbrev pub is_named_type : Layer → Bool
is_named_type (Ty-F.Known k) = true
is_named_type (Ty-F.Inst k args) = true
is_named_type (Ty-F.Outside name value) = true
is_named_type (Ty-F.Prim b) = (b == 0x0E) || (b == 0x1C)
is_named_type _ = false

-- How a run goes on after a failure: past the clause, with an exception's object, by a constructor of the set, or not at all.
pub record Sequel : Type 0 where
  pub passes : World → Next
  pub throws : World → ℕ → Next
  pub makes : World → (exception : Ty) → (constructor : ℕ) → List Value → Next
  pub stops : World → Next

-- What follows a failure, by what is done then. Failures throw, or are told of only.
module _ (p : Program) (g : AddedNumbers) (throwing : Bool) (x : Failure) (sequel : Sequel) where
  abbrev pub throw_made : World → Value-F Value → Next
  throw_made w (Value-F.Obj y) = sequel.throws w y
  throw_made w _ = sequel.stops w

  abbrev pub after_new : Answer → Next
  after_new (Returned v fs w) = maybe (sequel.stops w) (λ y. throw_made w (out-Value y)) v
  after_new (Threw y fs w) = sequel.throws w y
  after_new (Unfit w) = sequel.stops w

  -- a new E that is outside: a core exception at once, another one by a call outside
  abbrev pub throw_outside : Ty → Value → List Frame → World → Next
  throw_outside t text fs w =
      if is_core_exception p t then sequel.throws (with_object p (record { ty = t; cells = [] }) w) (next_object w)
      else if is_named_type (out-Ty t) then after_new (ask_new p t (constructor_member p g t) (text ∷ []) fs w)
      else sequel.stops w

  -- Requires<E> throws a new E: of the set by its constructor, or outside.
  abbrev pub throw_exception : Ty → Value → List Frame → World → Next
  throw_exception t text fs w =
      maybe (throw_outside t text fs w) (λ (d : ℕ × List Ty). maybe (sequel.stops w) (λ (c : ℕ × List Value). sequel.makes w t c.0 c.1) (own_constructor p t x.home text)) (in_set (out-Ty t))

  -- after TriggerFailure the run goes on, unless an exception is its reply
  abbrev pub triggered : Answer → Next
  triggered (Returned v fs w) = sequel.passes w
  triggered (Threw y fs w) = sequel.throws w y
  triggered (Unfit w) = sequel.stops w

  abbrev pub fail_with : ClauseKind → Value → List Frame → World → Next
  fail_with kind.RequiresOf text fs w = maybe (sequel.stops w) (λ t. throw_exception t text fs w) (made_type x)
  fail_with _ text fs w =
      if throwing then sequel.throws (with_object p (contract_failure g x) w) (next_object w)
      else triggered (ask p (trigger_member g) (number_value x ∷ text ∷ x.user ∷ label_text x ∷ Null ∷ []) fs w)

  -- A null reply goes on. A text throws, and so does an object of a class under System.String.
  abbrev pub replied : Value-F Value → List Frame → World → Next
  replied Value-F.Null fs w = sequel.passes w
  replied (Value-F.Text units) fs w = fail_with x.kind (Text units) fs w
  replied (Value-F.Obj y) fs w = fail_with x.kind (Obj y) fs w
  replied _ fs w = sequel.stops w

  abbrev pub reported : List Frame → Answer → Next
  reported fs (Returned v gs w) = maybe (sequel.stops w) (λ y. replied (out-Value y) fs w) v
  reported fs (Threw y gs w) = sequel.throws w y
  reported fs (Unfit w) = sequel.stops w

  -- A failure is reported outside. A null reply goes on, a text throws, an exception is thrown.
  unfoldable pub failing : List Frame → World → Next
  failing fs w = reported fs (ask p (event_member g (label_text x)) (number_value x ∷ x.user ∷ label_text x ∷ Null ∷ []) fs w)

-- ---- failure in a call with contracts

abbrev pub number_of_object : Value-F Value → Option ℕ
number_of_object (Value-F.Obj x) = Some x
number_of_object _ = None

module _ (p : Program) (k : Contracts) where
  -- a new exception is thrown where its constructor was called
  abbrev pub throws_new : Use
  throws_new =
      record {
        now = λ v fs w. if_there (number_of_object (out-Value v)) w (λ x. unwind p k false fs w x);
        later = λ v. maybe Continuation.Push ThrowObject (number_of_object (out-Value v));
      }

  -- the frames go on where the clause passes
  abbrev pub goes_on_from : List Frame → (World → Next) → Sequel
  goes_on_from fs passes =
      record {
        passes = passes;
        throws = λ w y. unwind p k false fs w y;
        makes = λ w t m values. make p k (throws_new) t m values fs w;
        stops = stuck;
      }

  abbrev pub fail : AddedNumbers → Failure → List Frame → World → (World → Next) → Next
  fail g x fs w passes = failing p g k.settings.throwing x (goes_on_from fs passes) fs w

-- ---- contract calls where they stand

module _ (p : Program) (k : Contracts) where
  abbrev pub check : AddedNumbers → Failure → Bool → List Frame → World → (World → Next) → Next
  check g x b fs w passes = if b then passes w else fail p k g x fs w passes

  -- an Assert or Assume: checked at the full level, else its arguments are dropped
  abbrev pub check_inline : AddedNumbers → Plan → ClauseKind → ℕ → Name → Instr → Frame → List Frame → World → Next
  check_inline g plan c home label i f fs w =
      let message : Bool = has_message p i in
      if rank plan.settings.level == 4
      then if_there (condition_in message f.local.stack) w (λ (x : Condition).
      let l : state.Local = with_stack f.local x.rest in
      check g (record { kind = c; exception = None; home = home; user = x.user; label = label }) x.holds (record f { local = l } ∷ fs) w (λ v. go_on p k f l fs v))
      else if_there (dropped message f.local.stack) w (λ rest. go_on p k f (with_stack f.local rest) fs w)

  -- the call that ends a clause
  abbrev pub end_clause : AddedNumbers → Plan → Group → ℕ → Piece → Instr → Frame → List Frame → World → Next
  end_clause g plan gr n x i f fs w =
      if_there (condition_in (has_message p i) f.local.stack) w (λ (c : Condition).
      let l : state.Local = with_stack f.local c.rest in
      check g
      (record { kind = x.clause.kind; exception = option_and_then (ref_type p (here_of f fs)) x.clause.exception; home = x.clause.home; user = c.user; label = x.clause.label })
      c.holds (record f { local = l } ∷ fs) w (λ v. piece_over p k plan gr n (record f { local = l }) fs v))

  -- an old value is captured as its type keeps it, and the piece is over
  abbrev pub capture : Plan → Group → ℕ → ℕ → Frame → List Value → List Frame → World → Next
  capture plan gr n c f [] fs w = stuck w
  capture plan gr n c f (v ∷ rest) fs w =
      if_there (option_and_then (set_cell p v) (slice_get f.local.captured c)) w
      (λ x. piece_over p k plan gr n (record f { local = record f.local { captured = slice_set f.local.captured c x; stack = rest } }) fs w)

-- the old range that begins at a place, with its number
abbrev pub old_at : ℕ → ℕ → List Old → Option (ℕ × Old)
old_at q n [] = None
old_at q n (o ∷ os) = if o.from == q then Some (n, o) else old_at q (n + 1) os

-- where an old range begins in a clause that runs, not in the capture of its value
abbrev pub recalled : Piece → ℕ → Option (ℕ × Old)
recalled x q = maybe (old_at q 0 x.clause.olds) (λ c. None) x.captures

-- the label of the n-th Assert or Assume of the method
abbrev pub inline_label : List Clause → ℕ → Name
inline_label cs n = maybe [] (λ (c : Clause). c.label) (slice_get cs n)

-- Which Assert or Assume stands at a place: in the lead-in they are counted from the front. Behind it calls of abbreviators may hold further ones, so in the rest they are counted from the end.
abbrev pub inline_number : Program → List Clause → List Instr → ProgramPoint → ℕ
inline_number p cs is (Rest q) = length cs - count_checks p (drop q is)
inline_number p cs is (LeadIn q) = count_checks p (take q is)
inline_number p cs is (InGroup gr n q) = 0
