-- What is kept of the numbers of fields, or methods, beside a set.
use Rattle.std.specs.Prelude.{◌≡◌, ℕ, ◌+◌, ◌-◌, ◌<◌, ◌^◌, Bool, List, length, map, flat_map, Some}
use Rattle.std.specs.List.{range_with_len}
use Rattle.set_rows.specs.Sets.{Assemblies, assembly_at, count_in}
use Rattle.set_program.specs.Numbering.{Cell, rows_between, cut}
use Rattle.members.specs.MemberRows.{member_table}
use Rattle.members.specs.declared.outside_member.OutsideMember.{OutsideMember}
use Rattle.member_table.specs.Numbers.{outside_members, outside_row}

-- How many rows of a table stand before those of an assembly other than TARGET. TARGET's stand behind those of all others, as if it were one past the last.
unfoldable pub rows_before : Assemblies → ℕ → ℕ → ℕ
rows_before s table a = length (flat_map (λ b. rows_between b 1 (count_in (assembly_at s b) table + 1)) (range_with_len 1 (a - 1)))

-- starts: by assembly from the first other one, and TARGET's last; old: how many of TARGET's rows stand before its runtime class; all: how many members there are; rows: of each outside member the first row that names it
pub record IsNumbered (s : Assemblies) (is_field : Bool) (starts : List ℕ) (old all : ℕ) (outside : List OutsideMember) (rows : List Cell) : Type 0 where
  pub some : 0 < length s
  pub starts_are : starts ≡ map (rows_before s (member_table is_field)) (range_with_len 1 (length s))
  pub old_is : old ≡ cut (assembly_at s 0) (member_table is_field) - 1
  pub outside_are : outside ≡ outside_members s is_field
  pub rows_are : map Some rows ≡ map (outside_row s) (outside_members s is_field)
  pub fits : all < 2 ^ 32
  pub all_is : all ≡ rows_before s (member_table is_field) (length s) + old + length outside + (count_in (assembly_at s 0) (member_table is_field) - old)
