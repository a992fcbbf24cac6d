-- Bodies of methods at their RVAs in an image (ECMA-335, II.22.26 and II.25.4), and what a body there breaks.
use Rattle.std.specs.Prelude.{◌≡◌, ◌⊎◌, ◌<◌, ℕ, ◌+◌, Bool, true, false, ◌&&◌, nat_lt, List, Option, Some, None}
use Rattle.cil_base.specs.declared.rule.Rule.TheVariants.{I5}
use Rattle.cil_base.specs.declared.refusal.Place.{Place}
use Rattle.cil_base.specs.declared.refusal.Refusal.{Refusal}
use Rattle.cil_base.specs.Refusals.{refusal}
use Rattle.cil_model.specs.declared.body.Body.{Body}
use Rattle.cil_model.specs.declared.layout.Layout.{Layout}
use Rattle.cil_model.specs.BodyLayout.{layout_of, code_of}
use Rattle.cil_model.specs.BodyOf.{StandsFor, IsFault}
use Rattle.pe_image.specs.Sections.{tail_at}
use Rattle.pe_image.specs.Cli.{cli_of}

-- One of the bytes from an RVA on, of which there are so many, is one of the 72 bytes of the CLI header, II.25.3.3.
abbrev pub has_header_byte : List ℕ → ℕ → ℕ → Bool
has_header_byte image rva len = nat_lt rva ((cli_of image).header_rva + 72) && nat_lt (cli_of image).header_rva (rva + len)

-- The bytes at the RVA begin with a body of the assembly a, none of whose bytes is one of the CLI header.
pub record StandsAt (image : List ℕ) (a rva : ℕ) (body : Body) : Type 0 where
  pub bytes : List ℕ
  pub len : ℕ
  pub there : tail_at image rva ≡ Some bytes
  pub stands : StandsFor a bytes body len
  pub apart : has_header_byte image rva len ≡ false

-- The body of a method with an RVA. The RVA 0 says that there is none, II.22.26.
abbrev pub IsBodyAt : List ℕ → ℕ → ℕ → Option Body → Type 0
IsBodyAt image a rva None = rva ≡ 0
IsBodyAt image a rva (Some body) = (0 < rva) × StandsAt image a rva body

-- ---- what is broken

-- Rule I5, where the RVA isn't 0: no section has its bytes; or the header, the code or a section isn't whole or has other bits; or
-- a byte of the body is one of the CLI header.
pub data BreaksI5 (image : List ℕ) (rva : ℕ) : Type 0 where
  nowhere : tail_at image rva ≡ None → BreaksI5 image rva
  not_whole : (bytes : List ℕ) → tail_at image rva ≡ Some bytes → layout_of bytes ≡ None → BreaksI5 image rva
  in_header : (bytes : List ℕ) (layout : Layout) → tail_at image rva ≡ Some bytes → layout_of bytes ≡ Some layout → has_header_byte image rva layout.len ≡ true → BreaksI5 image rva

-- the first fault of the code, where I5 isn't broken: I1 or I2, else I3
pub record CodeFaultAt (image : List ℕ) (place : Place) (rva : ℕ) (r : Refusal) : Type 0 where
  pub bytes : List ℕ
  pub layout : Layout
  pub there : tail_at image rva ≡ Some bytes
  pub laid : layout_of bytes ≡ Some layout
  pub apart : has_header_byte image rva layout.len ≡ false
  pub fault : IsFault place layout (code_of bytes layout.header) r

-- what the body of a method with an RVA breaks first
abbrev pub FaultAt : List ℕ → Place → ℕ → Refusal → Type 0
FaultAt image place rva r = (0 < rva) × ((BreaksI5 image rva × (r ≡ refusal I5 place 0)) ⊎ CodeFaultAt image place rva r)
