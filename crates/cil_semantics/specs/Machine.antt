-- One step of a run, and runs of so many steps. The same machine serves the plain run and the run with contracts.
use Rattle.std.specs.Prelude.{ℕ, zero, suc, ◌+◌, false, List, [], ◌∷◌, length, take, slice_get, Option, Some, None}
use Rattle.cil_model.specs.declared.value.Value.{Value, out-Value}
use Rattle.cil_model.specs.declared.body.Instr.{Instr}
use Rattle.cil_model.specs.declared.body.Operand.{Operand}
use Rattle.cil_model.specs.declared.body.Operand.TheVariants.{Index}
use Rattle.cil_model.specs.declared.program.Program.{Program}
use Rattle.cil_model.specs.declared.contract.Contracts.{Contracts}
use Rattle.cil_model.specs.declared.contract.Group.{Group}
use Rattle.cil_model.specs.declared.contract.Old.{Old}
use Rattle.cil_model.specs.declared.run.Reply.{Reply}
use Rattle.cil_model.specs.NoContracts.{no_contracts}
use Rattle.cil_semantics.specs.Words.{maybe}
use Rattle.cil_model.specs.declared.program.Meaning.{Meaning}
use Rattle.cil_model.specs.declared.program.Meaning.TheVariants.{OfMethod}
use Rattle.cil_semantics.specs.Places.{Cell, storage}
use Rattle.cil_semantics.specs.Tokens.{meaning_here}
use Rattle.cil_semantics.specs.State.{World, ProgramPoint, LeadIn, InGroup, Rest, Frame, State, Next, Running, Ended, Push, pushed, with_stack, with_objects, unrecorded, goes_after}
use Rattle.il_opcodes.specs.declared.class.Class.{Class}
use Rattle.il_opcodes.specs.declared.class.Class.TheVariants.{LoadLocal, StoreLocal, LocalAddress}
use Rattle.il_opcodes.specs.Opcodes.{class_of}
use Rattle.cil_semantics.specs.Acts.{Act, Stuck, GoOn, Jump, Raise, Throw, Rethrow, Leave, EndHandler, Return, Load, Store, Copy, UseStatic, CallMember, CallVirtual, NewObject, LoadVirtualFunction}
use Rattle.cil_semantics.specs.Instructions.{act}
use Rattle.cil_semantics.specs.Contracted.{Piece, Plan}
use Rattle.cil_semantics.specs.Unwind.{body_of, plan_at, piece_at, here_of, place_in, moved_to, arrive, unwind, raise, leave, resume, innermost}
use Rattle.cil_semantics.specs.Frames.{stuck, if_there, go_on, load, store, copy, use_behind, initializer, enter, owner_type}
use Rattle.cil_semantics.specs.Returns.{returns}
use Rattle.cil_semantics.specs.Calls.{call_member, call_virtual, find_virtual_on, make, pushes_new, pointed}
use Rattle.cil_semantics.specs.ContractCalls.{ContractCall, EndsClause, EndsBlock, Abbreviates, GivesResult, ReadsArgument, TakesOld, ChecksHere, NoContractCall, contract_call, count_checks}
use Rattle.cil_semantics.specs.Checks.{AddedNumbers, check_inline, end_clause, capture, recalled, inline_label, inline_number}

-- a clause names its own locals, which stand behind others in the frame
abbrev pub relocated : ℕ → Class → Operand → Operand
relocated n LoadLocal (Index i) = Index (n + i)
relocated n StoreLocal (Index i) = Index (n + i)
relocated n LocalAddress (Index i) = Index (n + i)
relocated n c o = o

abbrev pub relocated_instr : ℕ → Instr → Instr
relocated_instr n i = record i { operand = relocated n (class_of i.op) i.operand }

module _ (p : Program) (k : Contracts) (g : AddedNumbers) where
  -- an act is performed by the topmost frame, over the others
  abbrev pub perform : Act → Frame → List Frame → World → Next
  perform Stuck f fs w = stuck w
  perform (GoOn made l) f fs w = go_on p k f l fs (with_objects p made w)
  perform (Jump t l) f fs w = arrive p k f (moved_to t f.at) l fs w
  perform (Raise name) f fs w = raise p k name (f ∷ fs) w
  perform (Throw x) f fs w = unwind p k false (f ∷ fs) w x
  perform Rethrow f fs w = if_there (innermost f.handling) w (λ x. unwind p k false (f ∷ fs) w x)
  perform (Leave t) f fs w = leave p k 0 (place_in f.at) t f f.handling fs w
  perform EndHandler f fs w = resume p k f.handling f fs w
  perform Return f fs w = returns p k f fs w
  perform (Load q h l) f fs w = load p k q h f l fs w
  perform (Store q v l) f fs w = store p k q v f l fs w
  perform (Copy to from h l) f fs w = copy p k to from h f l fs w
  perform (UseStatic t a l) f fs w = use_behind p k (initializer p w t) t a f l fs w
  perform (CallMember c l) f fs w = call_member p k c.owner c.method c.method_args c.values (record f { local = l } ∷ fs) w
  perform (CallVirtual c l) f fs w = call_virtual p k c (record f { local = l } ∷ fs) w
  perform (NewObject c l) f fs w = make p k (pushes_new p k) c.owner c.method c.values (record f { local = l } ∷ fs) w
  perform (LoadVirtualFunction c l) f fs w = find_virtual_on p k c c.values (record f { local = l } ∷ fs) w

  -- an instruction that is no contract call
  abbrev pub run_plain : Instr → Frame → List Frame → World → Next
  run_plain i f fs w = perform (act p (here_of f fs) i w f.local) f fs w

  -- in the lead-in and the rest, Assert and Assume are checked where they stand
  abbrev pub run_in_body : Plan → ContractCall → Instr → Frame → List Frame → World → Next
  run_in_body plan (ChecksHere c) i f fs w =
      check_inline p k g plan c f.method (inline_label plan.effective.asserts (inline_number p plan.effective.asserts (body_of p f.method).instrs f.at)) i f fs w
  run_in_body plan _ i f fs w = run_plain i f fs w

  -- ValueAtReturn<T> loads what a place of T holds through its argument, as ldobj does.
  abbrev pub read_argument : Option Meaning → List Value → Frame → List Frame → World → Next
  read_argument (Some (OfMethod owner m (t ∷ ts))) (v ∷ rest) f fs w = if_there (pointed (out-Value v)) w (λ q. load p k q (storage p t) f (with_stack f.local rest) fs w)
  read_argument _ stack f fs w = stuck w

  -- In a clause: the result, a by-reference argument at return, an old value that is captured, an Assert or Assume, or the end.
  abbrev pub run_in_piece : Plan → Group → (number : ℕ) → Piece → ContractCall → (place : ℕ) → Instr → Frame → List Frame → World → Next
  run_in_piece plan gr n x (EndsClause c) q i f fs w = end_clause p k g plan gr n x i f fs w
  run_in_piece plan gr n x GivesResult q i f fs w = if_there f.local.result w (λ v. go_on p k f (pushed v f.local) fs w)
  run_in_piece plan gr n x ReadsArgument q i f fs w = read_argument (meaning_here p (here_of f fs) i) f.local.stack f fs w
  run_in_piece plan gr n x TakesOld q i f fs w = if_there x.captures w (λ c. capture p k plan gr n c f f.local.stack fs w)
  run_in_piece plan gr n x (ChecksHere c) q i f fs w =
      check_inline p k g plan c x.clause.home (maybe [] (λ name. name) (slice_get x.clause.inline (count_checks p (take q x.clause.instrs)))) i f fs w
  run_in_piece plan gr n x EndsBlock q i f fs w = run_plain (relocated_instr x.first_local i) f fs w
  run_in_piece plan gr n x Abbreviates q i f fs w = run_plain (relocated_instr x.first_local i) f fs w
  run_in_piece plan gr n x NoContractCall q i f fs w = run_plain (relocated_instr x.first_local i) f fs w

  -- an old range with its OldValue call pushes the captured value in one step
  abbrev pub recall : Piece → ℕ × Old → Frame → List Frame → World → Next
  recall x o f fs w =
      if_there (slice_get f.local.captured (x.first_captured + o.0)) w (λ (c : Cell). arrive p k f (moved_to (o.1.to + 1) f.at) (pushed c.value f.local) fs w)

  abbrev pub step_piece : Plan → Group → ℕ → Piece → ℕ → Option (ℕ × Old) → Frame → List Frame → World → Next
  step_piece plan gr n x q (Some o) f fs w = recall x o f fs w
  step_piece plan gr n x q None f fs w =
      if_there (slice_get x.clause.instrs q) w (λ i. run_in_piece plan gr n x (contract_call p i) q i f fs w)

  abbrev pub step_body : Plan → ℕ → Frame → List Frame → World → Next
  step_body plan q f fs w =
      if_there (slice_get (body_of p f.method).instrs q) w (λ i. run_in_body plan (contract_call p i) i f fs w)

  -- one instruction with its prefixes, where the frame stands; behind the code's end it is stuck
  abbrev pub step_at : Option Plan → ProgramPoint → Frame → List Frame → World → Next
  step_at None at f fs w = if_there (slice_get (body_of p f.method).instrs (place_in at)) w (λ i. run_plain i f fs w)
  step_at (Some plan) (LeadIn q) f fs w = step_body plan q f fs w
  step_at (Some plan) (Rest q) f fs w = step_body plan q f fs w
  step_at (Some plan) (InGroup gr n q) f fs w =
      if_there (piece_at (Some plan) gr n) w (λ x. step_piece plan gr n x q (recalled x q) f fs w)

  abbrev pub step_frames : List Frame → World → Next
  step_frames [] w = stuck w
  step_frames (f ∷ fs) w = step_at (plan_at k p f.method) f.at f fs w

  -- Nothing reads what was recorded: a step begins with an empty trace, and what it records comes behind.
  unfoldable pub step : State → Next
  step s = goes_after s.world.trace (step_frames s.frames (unrecorded s.world))

-- ---- runs

abbrev pub and_then : Next → (State → Next) → Next
and_then (Running s) go = go s
and_then (Ended o w) go = Ended o w

-- at most so many steps
abbrev pub runs : (State → Next) → ℕ → State → Next
runs go zero s = Running s
runs go (suc n) s = and_then (go s) (runs go n)

abbrev pub empty_world : List Reply → World
empty_world replies = record { heap = []; cells = 0; statics = []; depth = 0; replies = replies; trace = [] }

-- the first state of a run of one method: it may be over at once
abbrev pub start : Program → Contracts → ℕ → List Value → List Reply → Next
start p k m args replies = enter p k (owner_type p m []) m [] args Push [] (empty_world replies)

-- a run of a method on arguments and replies, of at most so many steps
unfoldable pub run : Program → Contracts → AddedNumbers → ℕ → List Value → List Reply → ℕ → Next
run p k g m args replies n = and_then (start p k m args replies) (runs (step p k g) n)

-- the numbers that no program has: one past its types, and those past its methods
abbrev pub unused_numbers : Program → AddedNumbers
unused_numbers p = record { exception = length p.types; event = length p.methods; trigger = length p.methods + 1; constructor = λ name. length p.methods + 2 }

-- the run without contracts
abbrev pub plain_run : Program → ℕ → List Value → List Reply → ℕ → Next
plain_run p m args replies n = run p no_contracts (unused_numbers p) m args replies n
