-- The refusals of a method's body.
use Rattle.std.specs.Prelude.{◌≡◌, ℕ, slice_index, Ok, Err}
use Rattle.cil_base.specs.declared.rule.Rule.TheVariants.{I4}
use Rattle.cil_base.specs.declared.refusal.Place.{Place}
use Rattle.cil_base.specs.declared.refusal.Refusal.{Refusal}
use Rattle.cil_base.specs.Refusals.{refusal, NoneBroken}
use Rattle.cil_model.specs.declared.body.Body.{Body}
use Rattle.cil_model.specs.declared.body.Instr.{Instr}
use Rattle.cil_model.specs.declared.program.Program.{Program}
use Rattle.cil_model.specs.declared.program.MethodDesc.{MethodDesc}
use Rattle.il_flow.specs.declared.effect.Effect.{Effect}
use Rattle.il_flow.specs.Effects.{effect_of}
use Rattle.il_flow.specs.declared.answer.Heights.{Heights}
use Rattle.il_flow.specs.Heights.{HeightsAnswer, IsTold}
use Rattle.il_flow.specs.Meanings.{BreaksMeaning}

-- the row of a method (II.22.26)
abbrev pub place_of : MethodDesc → Place
place_of d = record { assembly = d.assembly; table = 0x06; row = d.row }

-- I4 is broken with this refusal, at the instruction where the search first finds it broken.
abbrev pub BreaksHeights : (Instr → Effect) → Place → Body → Refusal → Type 0
BreaksHeights effect place b r = (q : ℕ) × HeightsAnswer effect b (Err q) × (r ≡ refusal I4 place (slice_index b.offsets q))

-- Each token and index of the body means what it has to, these are the heights that the search leaves, and these the places that a path leads to.
pub record HasHeights (p : Program) (own : MethodDesc) (place : Place) (b : Body) (found : Heights) : Type 0 where
  pub meant : NoneBroken (BreaksMeaning p own place b)
  pub heights : HeightsAnswer (effect_of p own) b (Ok found)
  pub told : IsTold b found
