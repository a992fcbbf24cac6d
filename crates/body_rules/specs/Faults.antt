-- What the body of a method breaks first (ECMA-335, II.25.4 and III.1.7).
use Rattle.std.specs.Prelude.{◌≡◌, ℕ, List, Option, Some, None, MatchOption, IfSome}
use Rattle.cil_base.specs.declared.refusal.Place.{Place}
use Rattle.cil_base.specs.declared.refusal.Refusal.{Refusal}
use Rattle.cil_base.specs.Refusals.{First, InTurn, NoneBroken}
use Rattle.cil_model.specs.declared.body.Body.{Body}
use Rattle.cil_model.specs.declared.program.Program.{Program}
use Rattle.cil_model.specs.declared.program.MethodDesc.{MethodDesc}
use Rattle.cil_model.specs.BodyLayout.{locals_of, locals_number}
use Rattle.il_flow.specs.Effects.{effect_of}
use Rattle.il_flow.specs.Meanings.{BreaksMeaning}
use Rattle.il_flow.specs.Methods.{BreaksHeights}
use Rattle.region_tree.specs.Rules.{BreaksControl}
use Rattle.method_bodies.specs.Bodies.{FaultAt, IsBodyAt}
use Rattle.method_bodies.specs.Plain.{IsPlain}

-- The body at an RVA as it is read. A locals token of 0 says that there are none, II.25.4.3.
pub record IsReadAt (image : List ℕ) (a rva : ℕ) (b : Body) : Type 0 where
  pub stands : IsBodyAt image a rva (Some b)
  pub locals : IsPlain b

-- The body of a method with an RVA as it is read; none where the RVA is 0.
abbrev pub IsRead : List ℕ → ℕ → ℕ → Option Body → Type 0
IsRead image a rva None = rva ≡ 0
IsRead image a rva (Some b) = IsReadAt image a rva b

-- the same body, where a locals token of 0 says that there are none
abbrev pub plain : Body → Body
plain b = record b { locals = locals_of (locals_number b.locals) }

-- What the code of a body breaks first: I6, where none of it is broken I4, and where that isn't broken either X1 to X4.
abbrev pub CodeFault : Program → MethodDesc → Place → Body → Refusal → Type 0
CodeFault p own place b = InTurn (BreaksMeaning p own place b) (InTurn (BreaksHeights (effect_of p own) place b) (First (BreaksControl place b)))

-- What the body of a method with an RVA breaks first: I5, I1 and I2, I3, and where none of these is broken a rule of its code.
abbrev pub MethodFault : List ℕ → Place → ℕ → Program → MethodDesc → Refusal → Type 0
MethodFault image place rva p own = InTurn (FaultAt image place rva) (λ r. (b : Body) × IsReadAt image place.assembly rva b × CodeFault p own place b r)

-- The code of a body that may be missing breaks none of these rules.
abbrev pub IsSound : Program → MethodDesc → Place → Option Body → Type 0
IsSound p own place body = IfSome body (λ b. NoneBroken (CodeFault p own place b))

-- The code breaks neither I6 nor I4, or this is the first.
abbrev pub TellsFlow : Program → MethodDesc → Place → Body → Option Refusal → Type 0
TellsFlow p own place b o =
    MatchOption o (NoneBroken (BreaksMeaning p own place b) × NoneBroken (BreaksHeights (effect_of p own) place b))
    (InTurn (BreaksMeaning p own place b) (First (BreaksHeights (effect_of p own) place b)))

-- The code breaks none of these rules, or this is the first.
abbrev pub TellsFault : Program → MethodDesc → Place → Body → Option Refusal → Type 0
TellsFault p own place b o = MatchOption o (NoneBroken (CodeFault p own place b)) (CodeFault p own place b)

-- the same of a body that may be missing
abbrev pub TellsFaultOf : Program → MethodDesc → Place → Option Body → Option Refusal → Type 0
TellsFaultOf p own place body o = MatchOption body (o ≡ None) (λ b. TellsFault p own place b o)
