-- The end of a frame that returns, and of a piece of a group (ECMA-335, III.3.57; the Code Contracts manual on the order of checks).
use Rattle.std.specs.Prelude.{ℕ, ◌+◌, Bool, true, false, not, if◌then◌else◌, List, [], ◌∷◌, reverse, Option, Some, None, option_map, option_and_then}
use Rattle.cil_model.specs.declared.ty.Ty.{Ty}
use Rattle.cil_model.specs.declared.value.Value.{Value, out-Value}
use Rattle.cil_model.specs.declared.contract.Contracts.{Contracts}
use Rattle.cil_model.specs.declared.contract.Group.{Group}
use Rattle.cil_model.specs.declared.contract.Group.TheVariants as group
use Rattle.cil_model.specs.declared.program.Program.{Program}
use Rattle.cil_model.specs.declared.run.Outcome.TheVariants as outcome
use Rattle.cil_semantics.specs.Words.{maybe, same_bool}
use Rattle.cil_semantics.specs.Types.{under}
use Rattle.cil_semantics.specs.Lookups.{method_of}
use Rattle.cil_semantics.specs.Places.{Storage, Cell, Void, storage, stored_in}
use Rattle.cil_semantics.specs.State.{World, with_local, ProgramPoint, LeadIn, InGroup, Rest, Frame, Next, Ended, Continuation, Push, PushObject, PushStruct, ThrowObject, BeginCallee, UseField, TryNext, Remaining, pushed, lowered}
use Rattle.cil_semantics.specs.Acts.{flag, truth}
use Rattle.cil_semantics.specs.Contracted.{Plan}
use Rattle.cil_semantics.specs.Unwind.{plan_at, begin_group, begin_piece, begin_rest, next_piece, ends_frame, unwind}
use Rattle.cil_semantics.specs.Frames.{stuck, if_there, go_on, begin, use_static, enter_delegate, next_try}

-- the value is pushed in the frame below, which goes on
abbrev pub push_below : Program → Contracts → Option Value → List Frame → World → Next
push_below p k v [] w = Ended (outcome.Return v) w
push_below p k v (f ∷ fs) w = go_on p k f (maybe f.local (λ x. pushed x f.local) v) fs w

-- the struct that a constructor made stands behind its arguments
abbrev pub last_cell : List Cell → Option Value
last_cell cs = first_of (reverse cs)
  where
    first_of : List Cell → Option Value
    first_of [] = None
    first_of (c ∷ rest) = Some c.value

module _ (p : Program) (k : Contracts) where
  -- ForAll and Exists try what is left, and stop at the first false or true answer
  abbrev pub try_next : (exists : Bool) → Value → Option (Value × Remaining) → List Frame → World → Next
  try_next exists target None fs w = push_below p k (Some (flag (not exists))) fs w
  try_next exists target (Some x) fs w = enter_delegate p k true (out-Value target) (x.0 ∷ []) (TryNext exists target x.1) fs w

  abbrev pub tried : (exists : Bool) → Value → Remaining → Option Bool → List Frame → World → Next
  tried exists target left None fs w = stuck w
  tried exists target left (Some b) fs w =
      if same_bool exists b then push_below p k (Some (flag exists)) fs w else try_next exists target (next_try w left) fs w

  abbrev pub begin_below : List Frame → World → Next
  begin_below [] w = stuck w
  begin_below (f ∷ fs) w = begin p k f fs w

  -- A frame returns a value or none to the frame below.
  abbrev pub return_with : Continuation → List Cell → Option Value → List Frame → World → Next
  return_with Push args v fs w = push_below p k v fs w
  return_with (PushObject x) args v fs w = push_below p k (Some x) fs w
  return_with PushStruct args v fs w = push_below p k (last_cell args) fs w
  return_with (ThrowObject x) args v fs w = unwind p k false fs w x
  return_with BeginCallee args v fs w = begin_below fs w
  return_with (UseField a) args v [] w = stuck w
  return_with (UseField a) args v (f ∷ fs) w = use_static p k a f f.local fs w
  return_with (TryNext exists target left) args v fs w = tried exists target left (option_and_then truth v) fs w

  unfoldable pub return_to : Frame → List Frame → World → Next
  return_to f fs w = return_with f.continuation f.local.args f.local.result fs w

  abbrev pub begin_invariants : Plan → Frame → List Frame → World → Next
  begin_invariants plan f fs w = begin_group p plan group.Invariant f fs w (return_to f fs w)

  -- The group is over. After the postconditions come the invariants, after those the value goes down; after EnsuresOnThrow the exception does.
  abbrev pub group_over : Plan → Group → Frame → List Frame → World → Next
  group_over plan group.Entry f fs w = begin_rest p plan f fs w
  group_over plan group.Exit f fs w = begin_invariants plan f fs w
  group_over plan group.Invariant f fs w = return_to f fs w
  group_over plan group.Throw f fs w =
      maybe (stuck w) (λ x. ends_frame p f.initializes f.continuation w x (λ skip v y. unwind p k skip fs v y)) f.thrown
  group_over plan group.Inline f fs w = stuck w

  -- a piece of a group is over: the next one begins
  abbrev pub piece_over : Plan → Group → ℕ → Frame → List Frame → World → Next
  piece_over plan g i f fs w =
      begin_piece p g (next_piece p plan g (i + 1) f fs w) f fs w (group_over plan g f fs (lowered w))

-- ---- ret

-- what a place keeps of the value on top, or nothing where it has none
abbrev pub kept_as : Program → Ty → Storage → List Value → Option (Option Value)
kept_as p t Void s = Some None
kept_as p t h [] = None
kept_as p t h (v ∷ s) = option_map Some (stored_in p t v)

-- the closed type that a frame's method returns
abbrev pub result_type : Program → Frame → Ty
result_type p f = under f.type_args f.method_args (method_of p f.method).result

-- what is returned: nothing, or the value on top as a place of the result's type keeps it
abbrev pub returned : Program → Frame → List Value → Option (Option Value)
returned p f stack = kept_as p (result_type p f) (storage p (result_type p f)) stack

module _ (p : Program) (k : Contracts) where
  abbrev pub return_from : Option Plan → ProgramPoint → Frame → List Frame → World → Next
  return_from None at f fs w = return_to p k f fs w
  return_from (Some plan) (LeadIn q) f fs w = return_to p k f fs w
  return_from (Some plan) (InGroup g i q) f fs w = stuck w
  return_from (Some plan) (Rest q) f fs w = begin_group p plan group.Exit f fs w (begin_invariants p k plan f fs w)

  -- In the lead-in, as without contracts, ret ends the call at once; in the rest the groups come first.
  abbrev pub returns : Frame → List Frame → World → Next
  returns f fs w =
      if_there (returned p f f.local.stack) w (λ v. return_from (plan_at k p f.method) f.at (with_local (record f.local { result = v }) f) fs w)
