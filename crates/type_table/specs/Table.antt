-- What is kept of the numbers of types beside a set.
use Rattle.std.specs.Prelude.{◌≡◌, ℕ, ◌+◌, ◌-◌, ◌<◌, ◌^◌, List, length, map, flat_map}
use Rattle.std.specs.List.{range_with_len}
use Rattle.cil_base.specs.declared.tables.TheConstants.{TYPE_DEF}
use Rattle.set_names.specs.Names.{Name}
use Rattle.set_rows.specs.Sets.{Assemblies, assembly_at, count_in}
use Rattle.set_program.specs.Numbering.{rows_between, type_cut, outside_names}
use Rattle.set_program.specs.Attributes.{attribute_outside}

-- How many types stand before those of an assembly other than TARGET. TARGET's stand behind those of all others, as if it were one past the last.
unfoldable pub types_before : Assemblies → ℕ → ℕ
types_before s a = length (flat_map (λ b. rows_between b 1 (count_in (assembly_at s b) TYPE_DEF + 1)) (range_with_len 1 (a - 1)))

-- starts: by assembly from the first other one, and TARGET's last; old: how many of TARGET's types stand before its runtime class; all: how many types there are
pub record IsNumbered (s : Assemblies) (starts : List ℕ) (old all : ℕ) (names : List Name) : Type 0 where
  pub some : 0 < length s
  pub starts_are : starts ≡ map (types_before s) (range_with_len 1 (length s))
  pub old_is : old ≡ type_cut (assembly_at s 0) - 1
  pub names_are : names ≡ outside_names s (attribute_outside s)
  pub fits : all < 2 ^ 32
  pub all_is : all ≡ types_before s (length s) + count_in (assembly_at s 0) TYPE_DEF + length names
