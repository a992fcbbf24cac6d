-- A program of a set that holds the body of each method that has one (ECMA-335, II.22.26, II.25.4).
use Rattle.std.specs.Prelude.{◌≡◌, ℕ, ◌<◌, false, List, map, slice_get, Option, Some, None}
use Rattle.cil_base.specs.declared.tables.TheConstants.{METHOD_DEF}
use Rattle.cil_model.specs.declared.body.Body.{Body}
use Rattle.cil_model.specs.declared.program.Program.{Program}
use Rattle.cil_model.specs.declared.program.MethodDesc.{MethodDesc}
use Rattle.cil_model.specs.BodyOf.{StandsFor}
use Rattle.set_rows.specs.Sets.{Assemblies, assembly_at, cell}
use Rattle.member_table.specs.declared.named.MemberId.{MemberId}
use Rattle.member_table.specs.declared.named.MemberId.TheVariants as id
use Rattle.member_table.specs.Numbers.{member_ids}
use Rattle.descriptions.specs.Programs.{program_of}

abbrev pub without_body : MethodDesc → MethodDesc
without_body d = record d { body = None }

abbrev pub without_bodies : Program → Program
without_bodies p = record p { methods = map without_body p.methods }

-- The body of a method: none where its RVA is 0 or it is outside, else one that the bytes at the RVA stand for.
abbrev pub BodyAt : (ℕ → ℕ → Option (List ℕ)) → Assemblies → MemberId → Option Body → Type 0
BodyAt code s (id.Outside m) body = body ≡ None
BodyAt code s (id.Row a row) None = cell (assembly_at s a) METHOD_DEF row 0 ≡ 0
BodyAt code s (id.Row a row) (Some body) =
    (0 < cell (assembly_at s a) METHOD_DEF row 0) × ((bytes : List ℕ) × (len : ℕ) × (code a (cell (assembly_at s a) METHOD_DEF row 0) ≡ Some bytes) × StandsFor a bytes body len)

-- code: the bytes of an assembly from an RVA on
pub record IsProgramOf (code : ℕ → ℕ → Option (List ℕ)) (s : Assemblies) (p : Program) : Type 0 where
  pub program : without_bodies p ≡ program_of s
  pub bodies : (k : ℕ) (m : MemberId) (d : MethodDesc) → slice_get (member_ids s false) k ≡ Some m → slice_get p.methods k ≡ Some d → BodyAt code s m d.body
