-- A leave goes through the next finally, or to its target.
use Rattle.std.proofs.Common.{◌≡◌, ap, refl, ℕ, List, [], ◌∷◌, ◌+◌, Option, Some, None}
use Rattle.std.specs.Prelude.{option_map}
use Rattle.cil_model.specs.declared.body.Region.{Region}
use Rattle.cil_model.specs.declared.contract.Contracts.{Contracts}
use Rattle.cil_model.specs.declared.program.Program.{Program}
use Rattle.cil_semantics.specs.Contracted.{Plan}
use Rattle.cil_semantics.specs.State.{Next, with_stack}
use Rattle.cil_semantics.specs.Unwind.{arrive_in, body_of, goes_at, leave, leave_through, left_from, moved_to}
use Rattle.cil_semantics.specs.declared.Cause.TheVariants.{Leaving}
use Rattle.cil_semantics.specs.declared.Frame.{Frame}
use Rattle.cil_semantics.specs.declared.Handling.{Handling}
use Rattle.cil_semantics.specs.declared.Local.{Local}
use Rattle.cil_semantics.specs.declared.ProgramPoint.{ProgramPoint}
use Rattle.cil_semantics.specs.declared.ProgramPoint.TheVariants.{LeadIn, InGroup, Rest}
use Rattle.cil_semantics.specs.declared.World.{World}
use Rattle.run_leaving.specs.Resumed.{arrives_empty, left_to}

-- the locals of the frame aren't looked at where they are given beside it
pub local_same : (p : Program) (plan : Option Plan) (f : Frame) (at : ProgramPoint) (l : Local) (hs : List Handling) (fs : List Frame) (w : World) → arrive_in p plan (record f { local = l }) at l hs fs w ≡ arrive_in p plan f at l hs fs w
local_same p None f at l hs fs w = refl
local_same p (Some k) f (LeadIn q) l hs fs w = refl
local_same p (Some k) f (InGroup g i q) l hs fs w = refl
local_same p (Some k) f (Rest q) l hs fs w = refl

module _ (p : Program) (k : Contracts) (q t : ℕ) (f : Frame) (fs : List Frame) (w : World) where
  abbrev begins : ℕ × ℕ → Next
  begins x = goes_at p f (moved_to x.1 f.at) (with_stack f.local []) (record { handler = x.0; cause = Leaving t; place = q; next = x.0 + 1 } ∷ f.handling) fs w

  abbrev handler_of : ℕ × Region → ℕ × ℕ
  handler_of x = (x.0, x.1.handler_from)

  none_through : (o : Option (ℕ × Region)) → None ≡ option_map handler_of o → arrives_empty p k t f fs w ≡ leave_through p k o f f.handling q t fs w
  none_through None e = refl
  none_through (Some x) e = cc

  some_through : (o : Option (ℕ × Region)) (x : ℕ × ℕ) → Some x ≡ option_map handler_of o → begins x ≡ leave_through p k o f f.handling q t fs w
  some_through None x e = cc
  some_through (Some y) x e = let same : x ≡ handler_of y = cc in ap begins same

  pub left_all : (skip : ℕ) → None ≡ left_to p f.method skip q t → arrives_empty p k t f fs w ≡ leave p k skip q t f f.handling fs w
  left_all skip e = none_through (left_from skip 0 q t (body_of p f.method).regions) e

  pub left_one : (skip : ℕ) (x : ℕ × ℕ) → Some x ≡ left_to p f.method skip q t → goes_at p f (moved_to x.1 f.at) (with_stack f.local []) (record { handler = x.0; cause = Leaving t; place = q; next = x.0 + 1 } ∷ f.handling) fs w ≡ leave p k skip q t f f.handling fs w
  left_one skip x e = some_through (left_from skip 0 q t (body_of p f.method).regions) x e
