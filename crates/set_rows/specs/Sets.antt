-- A set of assemblies as its tables and heaps (ECMA-335, II.6.1, II.22), TARGET first.
use Rattle.std.specs.Prelude.{ℕ, Bool, ◌&&◌, nat_lt, nat_le, bytes_eq, List, [], length, get_or, Option, Some, None, find}
use Rattle.std.specs.List.{range_with_len}
use Rattle.pe_image.specs.Cli.{metadata_of}
use Rattle.cli_heaps.specs.Root.{strings, blobs}
use Rattle.cli_heaps.specs.Entries.{string_at, blob_at}
use Rattle.cli_tables.specs.Tables.{rows_of, cell_of}
use Rattle.assembly.specs.Assemblies.{tables_of}

abbrev pub Name : Type 0
Name = List ℕ

-- one assembly: its bytes, the metadata in them, in which its heaps stand, and its tables as their columns
pub record Assembly : Type 0 where
  pub bytes : List ℕ
  pub meta : List ℕ
  pub tables : List (List (List ℕ))

unfoldable pub assembly_of : List ℕ → Assembly
assembly_of bytes = record { bytes = bytes; meta = metadata_of bytes; tables = tables_of bytes }

abbrev pub Assemblies : Type 0
Assemblies = List Assembly

unfoldable pub no_assembly : Assembly
no_assembly = record { bytes = []; meta = []; tables = [] }

abbrev pub assembly_at : Assemblies → ℕ → Assembly
assembly_at s a = get_or s a no_assembly

-- how many rows a table of an assembly has
abbrev pub count_in : Assembly → ℕ → ℕ
count_in x table = rows_of x.tables table

-- whether there is such a row
abbrev pub is_row : Assembly → ℕ → ℕ → Bool
is_row x table row = nat_lt 0 row && nat_le row (count_in x table)

-- the rows of a table, from 1 on
abbrev pub rows_in : Assembly → ℕ → List ℕ
rows_in x table = range_with_len 1 (count_in x table)

abbrev pub or_zero : Option ℕ → ℕ
or_zero None = 0
or_zero (Some n) = n

-- the number in a cell; 0 where there is no such cell
abbrev pub cell : Assembly → ℕ → ℕ → ℕ → ℕ
cell x table row column = or_zero (cell_of x.tables table row column)

abbrev pub or_empty : Option (List ℕ) → List ℕ
or_empty None = []
or_empty (Some bytes) = bytes

-- the string that a cell names
abbrev pub text : Assembly → ℕ → ℕ → ℕ → Name
text x table row column = or_empty (string_at (strings x.meta) (cell x table row column))

-- the blob that a cell names
abbrev pub blob : Assembly → ℕ → ℕ → ℕ → List ℕ
blob x table row column = or_empty (blob_at (blobs x.meta) (cell x table row column))

-- ---- names of assemblies

abbrev pub assembly_name : Assembly → Name
assembly_name x = text x 0x20 1 7

-- the first assembly of this simple name
abbrev pub assembly_named : Assemblies → Name → Option ℕ
assembly_named s name = find (λ a. bytes_eq name (assembly_name (assembly_at s a))) (range_with_len 0 (length s))
