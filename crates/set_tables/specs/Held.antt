-- What a set's tables are held to be.
use Rattle.std.specs.Prelude.{◌≡◌, ℕ, ◌<◌, ◌^◌, List, length, slice_get, Some}
use Rattle.set_rows.specs.Sets.{Assemblies}
use Rattle.set_types.specs.declared.coded.CodedTypes.{CodedTypes}
use Rattle.set_types.specs.CodedTypes.{coded_of}
use Rattle.set_program.specs.Environment.{coded_in}
use Rattle.members.specs.declared.assembly_members.AssemblyMembers.{AssemblyMembers}
use Rattle.members.specs.declared.set_type.SetType.{SetType}
use Rattle.member_table.specs.Environments.{AreOf}

-- the coded types of each assembly
pub record AreCoded (s : Assemblies) (coded : List CodedTypes) : Type 0 where
  pub many : length coded ≡ length s
  pub leads : (a : ℕ) (c : CodedTypes) → slice_get coded a ≡ Some c → coded_of c ≡ coded_in s a

-- types and numbers: the sets whose types and members are numbered
pub record AreHeld (s types numbers : Assemblies) (assemblies : List AssemblyMembers) (all : List SetType) : Type 0 where
  pub some : 0 < length s
  pub short : length s < 2 ^ 32
  pub typed : types ≡ s
  pub numbered : numbers ≡ s
  pub members : AreOf s assemblies all
