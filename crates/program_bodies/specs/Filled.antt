-- The bodies of the MethodDef rows of a set, put into the methods of its program (ECMA-335, II.22.26).
use Rattle.std.specs.Prelude.{◌≡◌, ℕ, ◌-◌, ◌<◌, ◌==◌, if◌then◌else◌, List, [], ◌∷◌, map, length, get_or, slice_get, false, Option, Some, None}
use Rattle.cil_model.specs.declared.body.Body.{Body}
use Rattle.cil_model.specs.declared.program.MethodDesc.{MethodDesc}
use Rattle.cil_model.specs.declared.program.Program.{Program}
use Rattle.cil_model.specs.MethodLists.{with_body_at}
use Rattle.set_rows.specs.Sets.{Assemblies, assembly_at}
use Rattle.set_program.specs.Numbering.{Cell}
use Rattle.member_table.specs.declared.named.MemberId.{MemberId}
use Rattle.member_table.specs.declared.named.MemberId.TheVariants as id
use Rattle.member_table.specs.Numbers.{member_ids}
use Rattle.method_bodies.specs.Rows.{AreBodies}

-- of each assembly the bodies of its rows, by row from 0
pub record AreSetBodies (s : Assemblies) (bodies : List (List (Option Body))) : Type 0 where
  pub count : length bodies ≡ length s
  pub each : (a : ℕ) → a < length s → AreBodies (assembly_at s a) (assembly_at s a).bytes a (get_or bodies a [])

-- ---- a method's body by its assembly and row

abbrev pub body_of_row : List (Option Body) → ℕ → Option Body
body_of_row bodies row = if row == 0 then None else get_or bodies (row - 1) None

abbrev pub body_of_cell : List (List (Option Body)) → Option Cell → Option Body
body_of_cell bodies None = None
body_of_cell bodies (Some c) = body_of_row (get_or bodies c.0 []) c.1

-- the body that the lists have of a member
abbrev pub body_of_id : List (List (Option Body)) → MemberId → Option Body
body_of_id bodies (id.Row a row) = body_of_row (get_or bodies a []) row
body_of_id bodies (id.Outside m) = None

-- Each method of the program of a set has the body that the lists have of it.
abbrev pub HoldsBodies : Assemblies → List (List (Option Body)) → Program → Type 0
HoldsBodies s bodies p =
    (k : ℕ) (m : MemberId) (d : MethodDesc) → slice_get (member_ids s false) k ≡ Some m → slice_get p.methods k ≡ Some d → d.body ≡ body_of_id bodies m

-- the assembly and row of a method, if it isn't outside
abbrev pub row_of : MethodDesc → Option Cell
row_of d = if d.outside then None else Some (d.assembly, d.row)

-- a method with a body, where there is one
abbrev pub given : MethodDesc → Option Body → MethodDesc
given d None = d
given d (Some body) = record d { body = Some body }

abbrev pub given_at : List MethodDesc → ℕ → Option Body → List MethodDesc
given_at ds m None = ds
given_at ds m (Some body) = with_body_at ds m body

-- methods with the bodies of their rows
abbrev pub filled : List (List (Option Body)) → List MethodDesc → List MethodDesc
filled bodies ds = map (λ d. given d (body_of_cell bodies (row_of d))) ds

-- ---- no row stands twice

abbrev pub Apart : Option Cell → Option Cell → Type 0
Apart None d = Unit {0}
Apart (Some c) d = d ≡ Some c → ⊥

abbrev pub IsMissing : Option Cell → List (Option Cell) → Type 0
IsMissing c [] = Unit {0}
IsMissing c (d ∷ ds) = Apart c d × IsMissing c ds

abbrev pub EachOnce : List (Option Cell) → Type 0
EachOnce [] = Unit {0}
EachOnce (c ∷ cs) = IsMissing c cs × EachOnce cs
