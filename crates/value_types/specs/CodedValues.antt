-- The coded types behind VALUETYPE in the signatures of an assembly's rows (ECMA-335, II.23.1.16), table by table.
use Rattle.std.specs.Prelude.{ℕ, ◌==◌, if◌then◌else◌, List, [], ◌++◌, flat_map, Option, Some, None}
use Rattle.cil_base.specs.declared.tables.TheConstants.{FIELD, MEMBER_REF, METHOD_DEF, METHOD_SPEC, PROPERTY, STAND_ALONE_SIG, TYPE_SPEC}
use Rattle.cli_sigs.specs.declared.types.SigTy.{SigTy}
use Rattle.set_names.specs.Names.{Name}
use Rattle.set_rows.specs.Sets.{Assembly, rows_in, blob}
use Rattle.set_types.specs.CodedIndexes.{tag, row_of}
use Rattle.set_types.specs.SignatureRules.{values_within}
use Rattle.signature_rules.specs.declared.blobs.BlobKind.{BlobKind}
use Rattle.signature_rules.specs.BlobKinds.{blob_kind, kind_types}
use Rattle.set_program.specs.declared.identity.TypeId.{TypeId}
use Rattle.set_program.specs.Numbering.{outside_name}
use Rattle.type_table.specs.Names.{reference_in}

-- the types in a blob of this grammar; none where no signature is read there
abbrev pub types_by : Option BlobKind → List ℕ → List SigTy
types_by None bytes = []
types_by (Some kind) bytes = kind_types kind bytes

-- those in the blob of a row, which stands in this column
abbrev pub row_values : Assembly → ℕ → ℕ → ℕ → List ℕ
row_values x table column row = flat_map (values_within 1000) (types_by (blob_kind table (blob x table row column)) (blob x table row column))

abbrev pub table_values : Assembly → ℕ → ℕ → List ℕ
table_values x table column = flat_map (row_values x table column) (rows_in x table)

unfoldable pub coded_values : Assembly → List ℕ
coded_values x =
    table_values x FIELD 2 ++ table_values x METHOD_DEF 4 ++ table_values x MEMBER_REF 2 ++ table_values x STAND_ALONE_SIG 0 ++ table_values x PROPERTY 2
    ++ table_values x TYPE_SPEC 0 ++ table_values x METHOD_SPEC 1

-- the name of the type that an index names, where it is outside
abbrev pub coded_outside : List (Option TypeId) → ℕ → Option Name
coded_outside references coded = if tag coded == 1 then outside_name (reference_in references (row_of coded)) else None
