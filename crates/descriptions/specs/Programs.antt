-- The program of a set: its types, fields and methods in the order of their numbers, and what each token means (ECMA-335, II.22; own).
use Rattle.std.specs.Prelude.{ℕ, ◌+◌, ◌*◌, ◌==◌, Bool, true, false, if◌then◌else◌, List, [], ◌∷◌, ◌++◌, map, length, filter_map, flat_map, Option, Some, None, option_map}
use Rattle.std.specs.List.{range_with_len}
use Rattle.cil_base.specs.declared.tables.TheConstants.{FIELD, MEMBER_REF, METHOD_DEF, METHOD_SPEC, STAND_ALONE_SIG, TYPE_DEF, TYPE_REF, TYPE_SPEC}
use Rattle.cli_heaps.specs.Root.{user_strings}
use Rattle.cil_model.specs.declared.ty.Ty.{Ty}
use Rattle.cil_model.specs.declared.program.Program.{Program}
use Rattle.cil_model.specs.declared.program.TokenRow.{TokenRow}
use Rattle.cil_model.specs.declared.program.Meaning.{Meaning}
use Rattle.cil_model.specs.declared.program.Meaning.TheVariants.{OfType, OfField, OfMethod, OfLocals}
use Rattle.cli_sigs.specs.declared.types.SigTy.{SigTy}
use Rattle.set_rows.specs.Sets.{Assemblies, assembly_at, rows_in, blob, cell}
use Rattle.set_types.specs.SignatureTypes.{Coded, ty_of}
use Rattle.set_signatures.specs.Blobs.{local_sigs, instance_sigs, first_byte, is_field_blob}
use Rattle.set_program.specs.Environment.{types_of, coded_in, ty_at, types_or_none}
use Rattle.member_table.specs.Numbers.{member_ids}
use Rattle.descriptions.specs.declared.facts.NamedMember.{NamedMember}
use Rattle.descriptions.specs.Descriptions.{type_desc, field_desc, method_desc, field_at, method_of_row, method_at, reference_at}
use Rattle.row_descriptions.specs.UserTexts.{token_row, user_texts}
use Rattle.row_descriptions.specs.TokenTables.{all_noted}

-- ---- tokens

abbrev pub of_field : Option NamedMember → Option Meaning
of_field m = option_map (λ (n : NamedMember). OfField n.owner n.number) m

abbrev pub of_method : List Ty → Option NamedMember → Option Meaning
of_method args m = option_map (λ (n : NamedMember). OfMethod n.owner n.number args) m

-- a reference to a field, or to a method
abbrev pub of_member : Bool → Option NamedMember → Option Meaning
of_member true m = of_field m
of_member false m = of_method [] m

-- types in a signature as a program has them
abbrev pub tys_in : Coded → Option (List SigTy) → List Ty
tys_in c ts = map (ty_of c) (types_or_none (λ l. l) ts)

abbrev pub of_locals : Coded → List ℕ → Option Meaning
of_locals c bytes = if first_byte bytes == 0x07 then Some (OfLocals (tys_in c (local_sigs bytes))) else None

-- what a token of an assembly means, by table and row; entries of #US apart
unfoldable pub row_meaning : Assemblies → ℕ → ℕ → ℕ → Option Meaning
row_meaning s a table row =
    let x = assembly_at s a in
    if table == TYPE_REF then option_map OfType (ty_at s a (row * 4 + 1))
    else if table == TYPE_DEF then option_map OfType (ty_at s a (row * 4))
    else if table == FIELD then of_field (field_at s a row)
    else if table == METHOD_DEF then of_method [] (method_of_row s a row)
    else if table == MEMBER_REF then of_member (is_field_blob (blob x MEMBER_REF row 2)) (reference_at s a row)
    else if table == STAND_ALONE_SIG then of_locals (coded_in s a) (blob x STAND_ALONE_SIG row 0)
    else if table == TYPE_SPEC then option_map OfType (ty_at s a (row * 4 + 2))
    else if table == METHOD_SPEC then of_method (tys_in (coded_in s a) (instance_sigs (blob x METHOD_SPEC row 1))) (method_at s a (cell x METHOD_SPEC row 0))
    else None

abbrev pub table_tokens : Assemblies → ℕ → ℕ → List TokenRow
table_tokens s a table = filter_map (λ row. option_map (token_row a table row) (row_meaning s a table row)) (rows_in (assembly_at s a) table)

-- the tables whose rows tokens of instructions name (III.1.9)
abbrev pub token_tables : List ℕ
token_tables = TYPE_REF ∷ TYPE_DEF ∷ FIELD ∷ METHOD_DEF ∷ MEMBER_REF ∷ STAND_ALONE_SIG ∷ TYPE_SPEC ∷ METHOD_SPEC ∷ []

-- Tokens rise by assembly, table and row.
abbrev pub assembly_tokens : Assemblies → ℕ → List TokenRow
assembly_tokens s a = flat_map (table_tokens s a) token_tables ++ user_texts a (user_strings (assembly_at s a).meta)

unfoldable pub program_of : Assemblies → Program
program_of s = record {
  types = map (type_desc s) (types_of s);
  fields = map (field_desc s) (member_ids s true);
  methods = map (method_desc s) (member_ids s false);
  tokens = all_noted [] (flat_map (assembly_tokens s) (range_with_len 0 (length s)));
}
