-- What the bodies of a set of assemblies break (ECMA-335, II.22.26).
use Rattle.std.specs.Prelude.{◌≡◌, ◌<◌, ◌≤◌, ◌-◌, ℕ, List, length, get_or, slice_get, Option, Some, None, IfSome, Vec}
use Rattle.std.specs.declared.alloc.Global.{Global}
use Rattle.cil_base.specs.declared.tables.TheConstants.{METHOD_DEF}
use Rattle.cil_base.specs.declared.refusal.Refusal.{Refusal}
use Rattle.cil_model.specs.declared.body.Body.{Body}
use Rattle.set_rows.specs.Sets.{Assemblies, assembly_at, count_in}
use Rattle.member_table.specs.declared.named.MemberId.TheVariants as id
use Rattle.descriptions.specs.Descriptions.{method_desc}
use Rattle.descriptions.specs.Programs.{program_of}
use Rattle.method_bodies.specs.Plain.{IsPlain}
use Rattle.method_bodies.specs.Rows.{AreBodies, method_place, rva_of}
use Rattle.body_rules.specs.Faults.{IsSound, MethodFault}

-- what the body of the method of a row breaks first
abbrev pub FaultInRow : Assemblies → ℕ → ℕ → Refusal → Type 0
FaultInRow s a row = MethodFault (assembly_at s a).bytes (method_place a row) (rva_of (assembly_at s a) row) (program_of s) (method_desc s (id.Row a row))

-- It is what the body of a method of the set breaks first.
pub record BreaksBodies (s : Assemblies) (r : Refusal) : Type 0 where
  pub assembly_there : r.assembly < length s
  pub table : r.table ≡ METHOD_DEF
  pub low : 1 ≤ r.row
  pub high : r.row ≤ count_in (assembly_at s r.assembly) METHOD_DEF
  pub fault : FaultInRow s r.assembly r.row r

-- what is broken in one assembly, and in one row of it
abbrev pub InAssembly : Assemblies → ℕ → Refusal → Type 0
InAssembly s a r = BreaksBodies s r × (r.assembly ≡ a)

abbrev pub InRow : Assemblies → ℕ → ℕ → Refusal → Type 0
InRow s a row r = InAssembly s a r × (r.row ≡ row)

-- The code of the body of a row breaks no rule.
abbrev pub IsSoundAt : Assemblies → ℕ → ℕ → Option Body → Type 0
IsSoundAt s a row body = IsSound (program_of s) (method_desc s (id.Row a row)) (method_place a row) body

-- The bodies of the rows of an assembly as they are read, none of which breaks a rule.
pub record AreReadBodies (s : Assemblies) (a : ℕ) (bodies : List (Option Body)) : Type 0 where
  pub are : AreBodies (assembly_at s a) (assembly_at s a).bytes a bodies
  pub plain : (row : ℕ) → 1 ≤ row → row ≤ count_in (assembly_at s a) METHOD_DEF → IfSome (get_or bodies (row - 1) None) IsPlain
  pub sound : (row : ℕ) → 1 ≤ row → row ≤ count_in (assembly_at s a) METHOD_DEF → IsSoundAt s a row (get_or bodies (row - 1) None)

-- The bodies of each assembly.
pub record AreAllBodies (s : Assemblies) (all : List (Vec (Option Body) Global)) : Type 0 where
  pub count : length all ≡ length s
  pub each : (a : ℕ) (bodies : Vec (Option Body) Global) → slice_get all a ≡ Some bodies → AreReadBodies s a bodies.items
