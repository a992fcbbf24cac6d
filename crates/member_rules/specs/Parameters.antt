-- How many parameters the types and the methods of a set have, as data (ECMA-335, II.22.20).
use Rattle.std.specs.Prelude.{◌≡◌, ℕ, ◌*◌, List, [], length, map, get_or, Option, Some, None, option_and_then}
use Rattle.std.specs.List.{range_with_len}
use Rattle.set_rows.specs.Sets.{Assembly, Assemblies, assembly_at}
use Rattle.set_program.specs.declared.identity.TypeId.{TypeId}
use Rattle.set_program.specs.declared.identity.TypeId.TheVariants as id
use Rattle.set_program.specs.Kinds.{generics}
use Rattle.signature_rules.specs.declared.parameter_counts.ParameterCounts.{ParameterCounts}
use Rattle.signature_rules.specs.ParameterCounts.{count_of}
use Rattle.member_table.specs.MemberRules.{parameters_of}

-- by TypeOrMethodDef index from 0, as many as there are
abbrev pub AreGenerics : Assembly → List ℕ → Type 0
AreGenerics x counts = counts ≡ map (generics x) (range_with_len 0 (length counts))

-- of each assembly
abbrev pub AreSetGenerics : Assemblies → List (List ℕ) → Type 0
AreSetGenerics s counts = (b : ℕ) → AreGenerics (assembly_at s b) (get_or counts b [])

-- of a type of the set
abbrev pub type_generics : Assemblies → TypeId → Option ℕ
type_generics s (id.Row b row) = Some (generics (assembly_at s b) (row * 2))
type_generics s (id.Outside name) = None

abbrev pub reference_generics : Assemblies → Option TypeId → Option ℕ
reference_generics s id = option_and_then (type_generics s) id

-- of the types that the coded types of an assembly name
abbrev pub AreParameters : Assemblies → ℕ → ParameterCounts → Type 0
AreParameters s a p = (coded : ℕ) → count_of p coded ≡ parameters_of s a coded
