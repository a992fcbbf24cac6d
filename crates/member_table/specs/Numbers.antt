-- The fields and the methods of a program in order, and their numbers (own): rows of the other assemblies, TARGET's before its runtime class, members outside, the rest of TARGET's.
use Rattle.std.specs.Prelude.{ℕ, ◌==◌, ◌&&◌, Bool, true, false, if◌then◌else◌, List, [], ◌∷◌, ◌++◌, map, flat_map, find, Option, Some, None}
use Rattle.std.specs.List.{position_from}
use Rattle.cil_base.specs.declared.tables.TheConstants.{MEMBER_REF}
use Rattle.set_rows.specs.Sets.{Assemblies, rows_in}
use Rattle.set_signatures.specs.Shapes.{same_bool}
use Rattle.set_program.specs.Numbering.{Cell, order, old_rows, new_rows}
use Rattle.members.specs.MemberRows.{member_table}
use Rattle.members.specs.OutsideMembers.{added_member, same_member}
use Rattle.members.specs.declared.outside_member.OutsideMember.{OutsideMember}
use Rattle.member_table.specs.declared.named.Named.{Named}
use Rattle.member_table.specs.declared.named.Named.TheVariants as named
use Rattle.member_table.specs.declared.named.MemberId.{MemberId}
use Rattle.member_table.specs.declared.named.MemberId.TheVariants as id
use Rattle.member_table.specs.Environments.{Environment, environment}
use Rattle.member_table.specs.Members.{member_in}

-- ---- members outside

abbrev pub if_kind : Bool → OutsideMember → Option OutsideMember
if_kind is_field m = if same_bool is_field m.shape.is_field then Some m else None

-- the outside field, or method
abbrev pub outside_of : Bool → Named → Option OutsideMember
outside_of is_field (named.Outside m) = if_kind is_field m
outside_of is_field (named.InSet f) = None
outside_of is_field named.Missing = None

abbrev pub outside_in : Environment → Bool → Cell → Option OutsideMember
outside_in e is_field c = outside_of is_field (member_in e c.0 c.1)

abbrev pub added_if : List OutsideMember → Option OutsideMember → List OutsideMember
added_if found None = found
added_if found (Some m) = added_member found m

-- what rows name, where it isn't among what was found before
abbrev pub all_noted : (Cell → Option OutsideMember) → List OutsideMember → List Cell → List OutsideMember
all_noted at found [] = found
all_noted at found (c ∷ cs) = all_noted at (added_if found (at c)) cs

abbrev pub references_in : Environment → ℕ → List Cell
references_in e a = map (λ row. (a, row)) (rows_in (e.assembly a) MEMBER_REF)

-- the MemberRef rows of all assemblies, TARGET's last
unfoldable pub reference_rows : Assemblies → List Cell
reference_rows s = flat_map (references_in (environment s)) (order s)

-- the outside fields, or methods, that MemberRef rows name, each once
unfoldable pub outside_members : Assemblies → Bool → List OutsideMember
outside_members s is_field = all_noted (outside_in (environment s) is_field) [] (reference_rows s)

abbrev pub names_member : OutsideMember → Option OutsideMember → Bool
names_member m None = false
names_member m (Some n) = same_member m n

-- the first MemberRef row that names an outside member, whose signature says its types
unfoldable pub outside_row : Assemblies → OutsideMember → Option Cell
outside_row s m = find (λ c. names_member m (outside_in (environment s) m.shape.is_field c)) (reference_rows s)

-- ---- numbers

abbrev pub of_row : Cell → MemberId
of_row c = id.Row c.0 c.1

-- the fields, or the methods, of a program in order
unfoldable pub member_ids : Assemblies → Bool → List MemberId
member_ids s is_field =
    map of_row (old_rows s (member_table is_field)) ++ (map id.Outside (outside_members s is_field) ++ map of_row (new_rows s (member_table is_field)))

abbrev pub same_id : MemberId → MemberId → Bool
same_id (id.Row a row) (id.Row b other) = (a == b) && (row == other)
same_id (id.Row a row) (id.Outside n) = false
same_id (id.Outside m) (id.Row b other) = false
same_id (id.Outside m) (id.Outside n) = same_member m n

-- the place of a field, or a method, in this order
abbrev pub member_number : Assemblies → Bool → MemberId → Option ℕ
member_number s is_field member = position_from (same_id member) 0 (member_ids s is_field)
