-- What the numbers of a set's members ask besides its rows (ECMA-335, II.22.25, II.22.32).
use Rattle.std.specs.Prelude.{◌≡◌, ℕ, ◌≤◌, Bool, true, is_some, slice_get, Some}
use Rattle.cil_base.specs.declared.tables.TheConstants.{MEMBER_REF, TYPE_DEF}
use Rattle.set_rows.specs.Sets.{Assemblies, assembly_at, count_in}
use Rattle.set_program.specs.TypeNames.{enclosing}
use Rattle.members.specs.declared.outside_member.OutsideMember.{OutsideMember}
use Rattle.member_table.specs.declared.named.Found.{Found}
use Rattle.member_table.specs.declared.named.Named.TheVariants as named
use Rattle.member_table.specs.declared.named.MemberId.TheVariants as id
use Rattle.member_table.specs.Members.{member}
use Rattle.member_table.specs.Numbers.{outside_members, member_number}
use Rattle.program_growth.specs.Rules.{IsOutside}

-- NestedClass rows nest types in types that are there (M5)
abbrev pub NestsInTypes : Assemblies → Type 0
NestsInTypes s = (a row k : ℕ) → enclosing (assembly_at s a) row ≡ Some k → k ≤ count_in (assembly_at s a) TYPE_DEF

-- members outside are such as MemberRef rows name, and members that are found are rows
pub record HasReferences (s : Assemblies) : Type 0 where
  pub ids : (is_field : Bool) (k : ℕ) (m : OutsideMember) → slice_get (outside_members s is_field) k ≡ Some m → IsOutside s is_field m
  pub found : (a row : ℕ) (f : Found) → 1 ≤ row → row ≤ count_in (assembly_at s a) MEMBER_REF → member s a row ≡ named.InSet f → is_some (member_number s f.is_field (id.Row f.assembly f.row)) ≡ true
