-- The rules on the names of a set of assemblies, over all its rows (the rules of a row: `type_tests` and `member_tests`; order and places: own).
use Rattle.std.specs.Prelude.{◌≡◌, ℕ, ◌<◌, ◌==◌, ◌&&◌, ◌||◌, nat_lt, Bool, true, false, is_some, if◌then◌else◌, List, [], ◌∷◌, ◌++◌, length, flat_map, Option, Some, None, codes}
use Rattle.cil_base.specs.declared.tables.TheConstants.{ASSEMBLY, TYPE_DEF}
use Rattle.cil_base.specs.declared.refusal.Refusal.{Refusal}
use Rattle.cil_base.specs.declared.rule.Rule.TheVariants.{N5}
use Rattle.cil_base.specs.Refusals.{Test, Fails}
use Rattle.set_names.specs.Names.{Name}
use Rattle.set_names.specs.Cycles.{any}
use Rattle.set_rows.specs.Sets.{Assemblies, assembly_at, assembly_named, is_row, rows_in}
use Rattle.set_program.specs.Numbering.{runtime_name}
use Rattle.set_program.specs.TypeNames.{type_named}
use Rattle.set_program.specs.Attributes.{has_attribute, on_assembly, reference_attribute}
use Rattle.set_program.specs.Environment.{signature_tables}
use Rattle.set_program.specs.TypeRules.{test, type_tests}
use Rattle.member_table.specs.MemberRules.{member_tests}

-- ---- N5: what can't be rewritten (Code Contracts manual, "Contract reference assemblies")

-- the names of the library of core types
abbrev pub core_names : List Name
core_names = codes "mscorlib" ∷ codes "System.Runtime" ∷ codes "netstandard" ∷ codes "System.Private.CoreLib" ∷ []

-- each of these is the name of an assembly of the set
abbrev pub all_there : Assemblies → List Name → Bool
all_there s [] = true
all_there s (name ∷ names) = is_some (assembly_named s name) && all_there s names

-- The row of a table of TARGET at which a rewrite of it is refused: its class `__ContractsRuntime`, or its Assembly row where it is a contract reference assembly or each core name is taken.
abbrev pub refused_row : Assemblies → ℕ → Option ℕ
refused_row s table =
    if table == TYPE_DEF then type_named (assembly_at s 0) runtime_name
    else if table == ASSEMBLY then (if has_attribute s 0 reference_attribute on_assembly || all_there s core_names then Some 1 else None)
    else None

abbrev pub is_at : ℕ → Option ℕ → Bool
is_at row None = false
is_at row (Some other) = row == other

abbrev pub rewrite_tests : Assemblies → Bool → ℕ → ℕ → ℕ → List Test
rewrite_tests s writes a table row = test N5 a table row (writes && ((a == 0) && is_at row (refused_row s table))) ∷ []

-- ---- all rules on names

-- the tests of a row
abbrev pub name_tests : Assemblies → Bool → ℕ → ℕ → ℕ → List Test
name_tests s writes a table row = type_tests s a table row ++ (member_tests s a table row ++ rewrite_tests s writes a table row)

-- a rule on names is broken there
pub record BreaksNames (s : Assemblies) (writes : Bool) (r : Refusal) : Type 0 where
  pub assembly_there : r.assembly < length s
  pub row_there : is_row (assembly_at s r.assembly) r.table r.row ≡ true
  pub fails : Fails (name_tests s writes r.assembly r.table r.row) r

-- what is broken in one assembly, in one of its tables
abbrev pub InAssembly : Assemblies → Bool → ℕ → Refusal → Type 0
InAssembly s writes a r = BreaksNames s writes r × (r.assembly ≡ a)

abbrev pub InTable : Assemblies → Bool → ℕ → ℕ → Refusal → Type 0
InTable s writes a table r = InAssembly s writes a r × (r.table ≡ table)

-- ---- the rows of one table

abbrev pub holds_signature : ℕ → Bool
holds_signature table = any (λ t. table == t) signature_tables

abbrev pub rewrite_table_tests : Assemblies → Bool → ℕ → ℕ → List Test
rewrite_table_tests s writes a table = flat_map (rewrite_tests s writes a table) (rows_in (assembly_at s a) table)

-- that of the earlier row, and the first where they are of one row
abbrev pub by_row : Option Refusal → Option Refusal → Option Refusal
by_row None other = other
by_row (Some first) None = Some first
by_row (Some first) (Some second) = if nat_lt second.row first.row then Some second else Some first
