-- What leave, endfinally and rethrow come to (ECMA-335, III.3.35, III.3.46 and III.4.24).
use Rattle.std.specs.Prelude.{ℕ, false, List, [], ◌∷◌, Option, option_map}
use Rattle.cil_model.specs.declared.contract.Contracts.{Contracts}
use Rattle.cil_model.specs.declared.body.Region.{Region}
use Rattle.cil_model.specs.declared.program.Program.{Program}
use Rattle.cil_model.specs.declared.run.Outcome.TheVariants as outcome
use Rattle.cil_semantics.specs.Frames.{if_there}
use Rattle.cil_semantics.specs.State.{Next, Ended, with_stack}
use Rattle.cil_semantics.specs.Unwind.{arrive_in, body_of, innermost, left_from, moved_to, plan_at, unwind}
use Rattle.cil_semantics.specs.declared.Frame.{Frame}
use Rattle.cil_semantics.specs.declared.World.{World}
use Rattle.run_leaving.specs.declared.resuming.Resumed.{Resumed}
use Rattle.run_leaving.specs.declared.resuming.Resumed.TheVariants as resumed
use Rattle.run_unwind.specs.Unwound.{unwound_to}

abbrev pub resumed_to : Program → Resumed → List Frame → World → Next
resumed_to p resumed.Stuck fs w = Ended outcome.Stuck w
resumed_to p (resumed.Goes it) fs w = unwound_to p it fs w

-- the frame comes to the target of a leave, with an empty stack
abbrev pub arrives_empty : Program → Contracts → ℕ → Frame → List Frame → World → Next
arrives_empty p k t f fs w = arrive_in p (plan_at k p f.method) f (moved_to t f.at) (with_stack f.local []) f.handling fs w

-- the first finally that is left, with the place where its handler begins
abbrev pub left_to : Program → ℕ → (skip q t : ℕ) → Option (ℕ × ℕ)
left_to p m skip q t = option_map (λ (x : ℕ × Region). (x.0, x.1.handler_from)) (left_from skip 0 q t (body_of p m).regions)

-- the exception of the innermost catch is thrown again
abbrev pub rethrown : Program → Contracts → Frame → List Frame → World → Next
rethrown p k f fs w = if_there (innermost f.handling) w (λ x. unwind p k false (f ∷ fs) w x)
