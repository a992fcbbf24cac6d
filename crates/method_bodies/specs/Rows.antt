-- The bodies of the MethodDef rows of an assembly (ECMA-335, II.22.26).
use Rattle.std.specs.Prelude.{◌≡◌, ◌<◌, ◌≤◌, ℕ, ◌-◌, List, length, get_or, Option, Some, None, IfSome}
use Rattle.cil_base.specs.declared.tables.TheConstants.{METHOD_DEF}
use Rattle.cil_base.specs.declared.refusal.Place.{Place}
use Rattle.cil_base.specs.declared.refusal.Refusal.{Refusal}
use Rattle.cil_model.specs.declared.body.Body.{Body}
use Rattle.cil_model.specs.BodyOf.{StandsFor}
use Rattle.cil_model.specs.ValidBody.{IsValid}
use Rattle.pe_image.specs.Sections.{tail_at}
use Rattle.set_rows.specs.Sets.{Assembly, Assemblies, assembly_at, count_in, cell}
use Rattle.method_bodies.specs.Bodies.{IsBodyAt, FaultAt}

abbrev pub method_place : ℕ → ℕ → Place
method_place a row = record { assembly = a; table = METHOD_DEF; row = row }

-- the RVA in a MethodDef row
abbrev pub rva_of : Assembly → ℕ → ℕ
rva_of x row = cell x METHOD_DEF row 0

-- The body of each MethodDef row of assembly number a, or that it has none. Each can be written.
pub record AreBodies (x : Assembly) (image : List ℕ) (a : ℕ) (bodies : List (Option Body)) : Type 0 where
  pub count : length bodies ≡ count_in x METHOD_DEF
  pub rows : (row : ℕ) → 1 ≤ row → row ≤ count_in x METHOD_DEF → IsBodyAt image a (rva_of x row) (get_or bodies (row - 1) None)
  pub valid : (row : ℕ) → 1 ≤ row → row ≤ count_in x METHOD_DEF → IfSome (get_or bodies (row - 1) None) (IsValid a)

-- what the body of one of the rows breaks first
pub record RowFault (x : Assembly) (image : List ℕ) (a : ℕ) (r : Refusal) : Type 0 where
  pub row : ℕ
  pub low : 1 ≤ row
  pub high : row ≤ count_in x METHOD_DEF
  pub fault : FaultAt image (method_place a row) (rva_of x row) r

-- ---- as the program of a set has them

-- the bytes of an assembly of a set from an RVA on
abbrev pub code_in : Assemblies → ℕ → ℕ → Option (List ℕ)
code_in s a rva = tail_at (assembly_at s a).bytes rva

-- The body of a method with an RVA, by the bytes from there on; none where the RVA is 0.
abbrev pub HasCode : (ℕ → Option (List ℕ)) → ℕ → ℕ → Option Body → Type 0
HasCode code a rva None = rva ≡ 0
HasCode code a rva (Some body) = (0 < rva) × ((bytes : List ℕ) × (len : ℕ) × (code rva ≡ Some bytes) × StandsFor a bytes body len)
