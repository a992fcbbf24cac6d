-- Where an exception's way ends (own; ECMA-335, I.12.4.2.5 and II.10.5.3.1).
use Rattle.std.specs.Prelude.{ℕ, ◌<◌, false, List, [], Some}
use Rattle.cil_model.specs.declared.contract.Contracts.{Contracts}
use Rattle.cil_model.specs.declared.program.Program.{Program}
use Rattle.cil_model.specs.declared.run.Outcome.TheVariants as outcome
use Rattle.cil_model.specs.declared.ty.Ty.{Ty}
use Rattle.cil_semantics.specs.State.{Next, Running, Ended}
use Rattle.cil_semantics.specs.Types.{same_ty}
use Rattle.cil_semantics.specs.Unwind.{find_statics, set_statics, thrown_name, unwind}
use Rattle.cil_semantics.specs.Words.{maybe}
use Rattle.cil_semantics.specs.declared.Frame.{Frame}
use Rattle.cil_semantics.specs.declared.Init.TheVariants.{Failed}
use Rattle.cil_semantics.specs.declared.Statics.{Statics}
use Rattle.cil_semantics.specs.declared.World.{World}
use Rattle.run_unwind.specs.declared.unwinding.Unwound.{Unwound}
use Rattle.run_unwind.specs.declared.unwinding.Unwound.TheVariants as unwound
use Rattle.run_unwind.specs.declared.unwinding.Way.{Way}
use Rattle.run_unwind.specs.declared.unwinding.Way.TheVariants as way

-- no frame caught it
abbrev pub ends_thrown : Program → World → ℕ → Next
ends_thrown p w x = Ended (outcome.Thrown x (thrown_name p w x)) w

abbrev pub unwound_to : Program → Unwound → List Frame → World → Next
unwound_to p unwound.Handled fs w = Running (record { frames = fs; world = w })
unwound_to p (unwound.Uncaught x) fs w = ends_thrown p w x

-- in one frame; it may go on in the one below
abbrev pub way_to : Program → Contracts → Way → List Frame → World → Next
way_to p k way.Handled fs w = Running (record { frames = fs; world = w })
way_to p k (way.Uncaught x) fs w = ends_thrown p w x
way_to p k (way.Down x) fs w = unwind p k false fs w x

-- there are fewer frames below where it goes on
abbrev pub IsLower : Way → ℕ → ℕ → Type 0
IsLower way.Handled m n = Unit {0}
IsLower (way.Uncaught x) m n = Unit {0}
IsLower (way.Down x) m n = m < n

-- the statics of all types, where the initializer of one has failed
abbrev pub failed_statics : Ty → ℕ → List Statics → List Statics
failed_statics t y ss =
    set_statics (same_ty t) (maybe (record { owner = t; init = Some (Failed y); cells = [] }) (λ (s : Statics). record s { init = Some (Failed y) }) (find_statics t ss)) ss
