-- A program by its parts.
use Rattle.std.proofs.Common.{◌≡◌, length, [], true, false}
use Rattle.std.specs.Prelude.{map, flat_map}
use Rattle.std.specs.List.{range_with_len}
use Rattle.cil_model.specs.declared.program.Program.{Program}
use Rattle.set_rows.specs.Sets.{Assemblies}
use Rattle.set_program.specs.Environment.{types_of}
use Rattle.member_table.specs.Numbers.{member_ids}
use Rattle.row_descriptions.specs.TokenTables.{all_noted}
use Rattle.descriptions.specs.Descriptions.{type_desc, field_desc, method_desc}
use Rattle.descriptions.specs.Programs.{assembly_tokens, program_of}

pub program_is : (s : Assemblies) (p : Program) → p.types ≡ map (type_desc s) (types_of s) → p.fields ≡ map (field_desc s) (member_ids s true) → p.methods ≡ map (method_desc s) (member_ids s false)
    → p.tokens ≡ all_noted [] (flat_map (assembly_tokens s) (range_with_len 0 (length s))) → p ≡ program_of s
unfolding program_of
program_is s p types fields methods tokens = λ i. record { types = types i; fields = fields i; methods = methods i; tokens = tokens i }
