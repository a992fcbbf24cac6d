-- What `body` makes of the bytes of one body, and when it refuses them.
use Rattle.std.specs.Prelude.{◌≡◌, ℕ, List, [], ◌∷◌, length}
use Rattle.cil_base.specs.declared.refusal.Place.{Place}
use Rattle.cil_base.specs.declared.refusal.Refusal.{Refusal}
use Rattle.cil_base.specs.Refusals.{First, InLayers, NoneOf}
use Rattle.cil_model.specs.declared.body.Body.{Body}
use Rattle.cil_model.specs.SmallMeaning.{SameBody}
use Rattle.cil_model.specs.SmallBody.{IsSmallBody, HeaderBreaks, CodeBreaks}
use Rattle.cil_model.specs.BodyOf.{StandsFor}
use Rattle.il_body.specs.BodyEncoding.{body_bytes}
use Rattle.body_splice.specs.Splice.{CallBreaks, KeepsHeader, clause_count, first_call, rewritten}

-- where a body file's body stands
abbrev pub body_place : Place
body_place = record { assembly = 0; table = 0; row = 0 }

-- The new bytes are those of a body that does what the old bytes' body does, with its calls of Requires made checks: the same number of
-- stack slots, initialization and locals, and the old instructions with the check in place of the call.
pub record IsRewriting (old new : List ℕ) (clauses : ℕ) : Type 0 where
  pub before : Body
  pub after : Body
  pub reads : IsSmallBody 0 old before
  pub writes : StandsFor 0 new after (length new)
  pub bytes : new ≡ body_bytes after
  pub instrs : after.instrs ≡ rewritten 0 before.instrs
  pub header : KeepsHeader before after
  pub same : SameBody before after
  pub count : clauses ≡ clause_count (first_call before.instrs)

-- the calls of Requires in the body that the bytes stand for
abbrev pub ContractBreaks : List ℕ → Refusal → Type 0
ContractBreaks bytes r = (body : Body) × IsSmallBody 0 bytes body × CallBreaks body_place body r

-- ---- the layers of rules

-- I5 on the header; I1 and I2 on the code; C1 and C2 on the calls of Requires
pub data Layer : Type 0 where
  Header : Layer
  Code : Layer
  Calls : Layer

-- in the order in which they are tried
abbrev pub layers : List Layer
layers = Header ∷ Code ∷ Calls ∷ []

-- a rule that the bytes of a body break, and where
abbrev pub Breaks : List ℕ → Layer → Refusal → Type 0
Breaks bytes Header = HeaderBreaks body_place bytes
Breaks bytes Code = CodeBreaks body_place bytes
Breaks bytes Calls = ContractBreaks bytes

-- the first of a layer
abbrev pub Names : List ℕ → Layer → Refusal → Type 0
Names bytes layer = First (Breaks bytes layer)

-- the first broken rule of the bytes
abbrev pub IsBodyRefusal : List ℕ → Refusal → Type 0
IsBodyRefusal bytes = InLayers (Breaks bytes) (Names bytes) layers

-- No rule is broken.
abbrev pub KeepsBodyRules : List ℕ → Type 0
KeepsBodyRules bytes = NoneOf (Breaks bytes) layers
