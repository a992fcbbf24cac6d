-- A list over the rows of a set in the order of the numbers: rows of the other assemblies, TARGET's before its runtime class, what is outside, the rest of TARGET's (own).
use Rattle.std.specs.Prelude.{ℕ, ◌+◌, ◌-◌, true, false, List, ◌++◌, map, flat_map, length, Option}
use Rattle.std.specs.List.{range_with_len}
use Rattle.set_rows.specs.Sets.{Assemblies, assembly_at, count_in, rows_in}
use Rattle.set_program.specs.Numbering.{cut}
use Rattle.cil_model.specs.declared.program.FieldDesc.{FieldDesc}
use Rattle.cil_model.specs.declared.program.MethodDesc.{MethodDesc}
use Rattle.member_table.specs.declared.named.MemberId.TheVariants as id
use Rattle.member_table.specs.Numbers.{outside_members}
use Rattle.descriptions.specs.Descriptions.{field_desc, method_desc, id_signature}

-- of one assembly
abbrev pub of_assembly : {X : Type 0} → Assemblies → ℕ → (ℕ → ℕ → X) → ℕ → List X
of_assembly s table item a = map (item a) (rows_in (assembly_at s a) table)

-- of the assemblies from 1 on, so many
abbrev pub of_others : {X : Type 0} → Assemblies → ℕ → (ℕ → ℕ → X) → ℕ → List X
of_others s table item n = flat_map (of_assembly s table item) (range_with_len 1 n)

abbrev pub before_class : {X : Type 0} → Assemblies → ℕ → (ℕ → ℕ → X) → List X
before_class s table item = map (item 0) (range_with_len 1 (cut (assembly_at s 0) table - 1))

abbrev pub from_class : {X : Type 0} → Assemblies → ℕ → (ℕ → ℕ → X) → List X
from_class s table item = map (item 0) (range_with_len (cut (assembly_at s 0) table) (count_in (assembly_at s 0) table + 1 - cut (assembly_at s 0) table))

abbrev pub in_order : {X : Type 0} → Assemblies → ℕ → (ℕ → ℕ → X) → List X → List X
in_order s table item outside = (of_others s table item (length s - 1) ++ before_class s table item) ++ (outside ++ from_class s table item)

-- ---- fields, methods and signatures by row, and those outside

abbrev pub field_at_row : Assemblies → ℕ → ℕ → FieldDesc
field_at_row s a row = field_desc s (id.Row a row)

abbrev pub outside_fields : Assemblies → List FieldDesc
outside_fields s = map (λ m. field_desc s (id.Outside m)) (outside_members s true)

abbrev pub method_at_row : Assemblies → ℕ → ℕ → MethodDesc
method_at_row s a row = method_desc s (id.Row a row)

abbrev pub outside_methods : Assemblies → List MethodDesc
outside_methods s = map (λ m. method_desc s (id.Outside m)) (outside_members s false)

abbrev pub signature_at : Assemblies → ℕ → ℕ → Option (List ℕ)
signature_at s a row = id_signature s (id.Row a row)

abbrev pub outside_signatures : Assemblies → List (Option (List ℕ))
outside_signatures s = map (λ m. id_signature s (id.Outside m)) (outside_members s false)
