-- What is kept of the outside members that rows name: each once, with the first row that names it.
use Rattle.std.specs.Prelude.{◌≡◌, is_some, if◌then◌else◌, List, [], ◌∷◌, ◌++◌, map, find, Option, Some, None}
use Rattle.set_program.specs.Numbering.{Cell}
use Rattle.members.specs.OutsideMembers.{member_place}
use Rattle.members.specs.declared.outside_member.OutsideMember.{OutsideMember}
use Rattle.member_table.specs.Numbers.{all_noted, names_member}

-- the first of these rows that names a member
abbrev pub first_row : (Cell → Option OutsideMember) → List Cell → OutsideMember → Option Cell
first_row at cells m = find (λ c. names_member m (at c)) cells

-- at: what a row names; cells: the rows
pub record AreNoted (at : Cell → Option OutsideMember) (cells : List Cell) (outside : List OutsideMember) (rows : List Cell) : Type 0 where
  pub outside_are : outside ≡ all_noted at [] cells
  pub rows_are : map Some rows ≡ map (first_row at cells) outside

-- with a row that names a member
abbrev pub added_row : List OutsideMember → OutsideMember → List Cell → Cell → List Cell
added_row outside m rows c = if is_some (member_place outside m) then rows else rows ++ c ∷ []

abbrev pub row_if : List OutsideMember → Option OutsideMember → List Cell → Cell → List Cell
row_if outside None rows c = rows
row_if outside (Some m) rows c = added_row outside m rows c
